use Rattle.mpd_presentation.proofs.checks.check.Goals as goal
use Rattle.std.proofs.Common.{◌∙◌, sym, subst}
use Rattle.bridge_io.specs.Answer.{Gives}
use Rattle.presentation.specs.Counting.{refusal, unless_any}
use Rattle.mpd_presentation.proofs.Before.{none_told}

pub returns : goal.returns
returns c =
    subst (λ faults. Gives (λ done. done) refusal c.check_tracks.result (unless_any faults tt))
    (sym (none_told _ _ _ _ _ (sym c.needs_now.ensures ∙ c.if-needs_now.false) (sym c.is_over.ensures ∙ c.if-is_over.false)))
    (rw c.periods.ensures.periods at c.check_tracks.ensures)
