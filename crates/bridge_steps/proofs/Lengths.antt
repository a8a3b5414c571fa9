-- Lengths in seconds.
use Rattle.std.proofs.Common.{◌≡◌, ℕ, ◌/◌, ◌^◌, List, [], ◌∷◌, ◌++◌, ◌∙◌, ap, append_assoc}
use Rattle.std.specs.Prelude.{decimal}
use Rattle.iso_time.specs.Digits.{padded_digits}
use Rattle.hls_writer.specs.Lines.{seconds_bytes}

-- whole seconds and then decimals
pub seconds_pushed : (old first last : List ℕ) (whole digits units : ℕ) → first ≡ old ++ (decimal whole ++ 46 ∷ [])
    → last ≡ first ++ padded_digits digits units
    → whole ≡ units / 10 ^ digits → last ≡ old ++ seconds_bytes digits units
seconds_pushed old first last whole digits units is_first is_last is =
    is_last ∙ ap (λ t. t ++ padded_digits digits units) is_first ∙ append_assoc old (decimal whole ++ 46 ∷ []) (padded_digits digits units)
    ∙ ap (λ t. old ++ t) (append_assoc (decimal whole) (46 ∷ []) (padded_digits digits units) ∙ ap
    (λ n. decimal n ++ 46 ∷ padded_digits digits units) is)
