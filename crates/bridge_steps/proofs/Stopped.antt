-- Why a frame isn't accepted.
use Rattle.bridge_report.specs.declared.refusal.Stop.TheVariants as halt
use Rattle.std.proofs.Common.{◌≡◌, List, ℕ, Option, None, Some, IfSome, subst}
use Rattle.bridge_report.specs.{FrameStops.stop_text, Refusals.{refusal_text, refused_in}, declared.refusal.Stop.Stop}

-- what holds of the text of what is refused holds of the text that is told
pub stopped_so : (stop : Stop) (text : Option (List ℕ)) (P : List ℕ → Type 0) → IfSome text (λ t. stop_text stop ≡ Some t)
    → IfSome (refused_in stop) (λ refusal. P (refusal_text refusal)) → IfSome text P
stopped_so stop None P told is = tt
stopped_so (halt.Refused refusal) (Some text) P told is = let same : refusal_text refusal ≡ text = cc in subst P same is
stopped_so halt.Memory (Some text) P told is = absurd (cc)
