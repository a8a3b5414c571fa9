use Rattle.mpd_rules.proofs.passes.rules.Goals as goal
use Rattle.std.proofs.{Common.{◌≡◌, true, Ok, refl, sym, subst}, lemmas.Result.err_from_is_err_and}
use Rattle.bridge_io.specs.{Answer.Gives, Firsts.first_fault}
use Rattle.mpd_tree.specs.{Nodes.root_of, Trees.Element}
use Rattle.mpd_profile.specs.{declared.listed.Addressing.TheVariants.Segments, Heads.is_dynamic, Refusals.{refusal, refusals_of}}
use Rattle.mpd_levels.specs.Segments.{segments_of}
use Rattle.mpd_rules.specs.{Fits.FitsMpd, Laws.HasIdsOnce}
use Rattle.mpd_rules.specs.Rules.{all_refusals, dash_values, segments_refused, refusals_behind, typed_mpd_of, unless_refused}
use Rattle.mpd_rules.specs.{Typed.values_with, Views.segments_mpd}
use Rattle.mpd_rules.proofs.{Fitting.mpd_fits, Ids.ids_once, Refusing.{first_of_more, none_first, unless_first}}

meaning_is : (root : Element) → first_fault (refusals_of Segments root) ≡ Ok tt
    → unless_refused (refusals_behind true segments_refused segments_of root) (values_with segments_of root) ≡ typed_mpd_of root
unfolding typed_mpd_of all_refusals dash_values
meaning_is root none = rw (none_first (refusals_of Segments root) none) refl

pub returns-in_err-check : goal.returns-in_err-check
unfolding typed_mpd_of all_refusals
returns-in_err-check c =
    let p = err_from_is_err_and c.from_residual.result c.from_residual.ensures.1 in
    let root = root_of c.args.tree.now in
    rw (p.1, p.2) (unless_first c.in_err-check.field-0.0 (all_refusals root) (dash_values root)
    (first_of_more c.in_err-check.field-0.0 (refusals_of Segments root) (refusals_behind true segments_refused segments_of root)
    (all_refusals root) refl c.in_err-check.ensures.refused))

pub values-requires-clause-fits : goal.values-requires-clause-fits
values-requires-clause-fits c = subst FitsMpd (sym c.root.ensures) (mpd_fits Segments (is_dynamic (root_of c.args.tree.now).head)
    (root_of c.args.tree.now) c.in_ok-check.ensures.sound)

pub values-requires-clause-ids : goal.values-requires-clause-ids
values-requires-clause-ids c = subst HasIdsOnce (sym c.root.ensures) (ids_once Segments (root_of c.args.tree.now)
    (none_first (refusals_of Segments (root_of c.args.tree.now)) c.in_ok-check.ensures.refused))

pub returns : goal.returns
returns c = subst (λ meaning. Gives segments_mpd refusal c.values.result meaning)
    (meaning_is (root_of c.args.tree.now) c.in_ok-check.ensures.refused) (rw c.root.ensures at c.values.ensures)
