-- Lengths in seconds behind words.
use Rattle.std.proofs.Common.{◌≡◌, ℕ, List, ◌++◌, ◌∙◌, refl, append_assoc}
use Rattle.std.specs.Prelude.{codes}
use Rattle.hls_writer.specs.Lines.{seconds_bytes}
use Rattle.bridge_core.specs.Make.{lengths_line}

-- two lengths, each behind its words, and the line's end
pub lengths_pushed : (old a b c d e : List ℕ) (digits video audio : ℕ) → a ≡ old ++ codes "made tracks=6 segments=120000 video="
    → b ≡ a ++ seconds_bytes digits video
    → c ≡ b ++ codes " audio=" → d ≡ c ++ seconds_bytes digits audio → e ≡ d ++ codes "\n" → e ≡ old ++ lengths_line digits video audio
unfolding lengths_line
lengths_pushed old a b c d e digits video audio is_a is_b is_c is_d is_e = is_e ∙ rw (is_d, is_c, is_b, is_a) (simp append_assoc refl)
