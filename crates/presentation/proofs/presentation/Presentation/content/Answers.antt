use Rattle.std.proofs.Common.{ℕ, ℤ, subst, sym, ap, get_or, length, ◌<◌, ◌∙◌}
use Rattle.timeline.specs.Listed.{IsWindowOf}
use Rattle.presentation.specs.Presented.{looked_at, window_from, window_of}
use Rattle.presentation.proofs.Windows.{kept_fits, kept_fits_from}
use Rattle.presentation.proofs.presentation.Presentation.content.Goals as goal

pub returns-clause-fits : goal.returns-clause-fits
returns-clause-fits c = let content = c.index-as_slice-place_in.result in
    subst (λ p. IsWindowOf content.runs (window_of p c.args.section)) c.self.view_is
    (kept_fits c.self.inside c.place_in.result content c.self.invariant
    (subst (λ p. c.place_in.result < length p.contents) (sym c.self.view_is) c.place_in.ensures.within)
    (c.index-as_slice-place_in.is ∙ ap (λ xs. get_or xs c.place_in.result content) c.as_slice.ensures) c.args.section)

pub returns-clause-fits_from : goal.returns-clause-fits_from
returns-clause-fits_from c = let content = c.index-as_slice-place_in.result in
    subst (λ p. (now : ℤ) (start : ℕ) → IsWindowOf content.runs (window_from (looked_at now p) start)) c.self.view_is
    (kept_fits_from c.self.inside c.place_in.result content c.self.invariant
    (subst (λ p. c.place_in.result < length p.contents) (sym c.self.view_is) c.place_in.ensures.within)
    (c.index-as_slice-place_in.is ∙ ap (λ xs. get_or xs c.place_in.result content) c.as_slice.ensures))
