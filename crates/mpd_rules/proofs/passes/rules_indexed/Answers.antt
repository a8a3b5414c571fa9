use Rattle.mpd_rules.proofs.passes.rules_indexed.Goals as goal
use Rattle.std.proofs.{Common.{◌≡◌, false, Ok, refl, sym, subst}, lemmas.Result.err_from_is_err_and}
use Rattle.bridge_io.specs.{Answer.Gives, Firsts.first_fault}
use Rattle.mpd_tree.specs.{Nodes.root_of, Trees.Element}
use Rattle.mpd_profile.specs.{declared.listed.Addressing.TheVariants.Index, Heads.is_dynamic, Refusals.{refusal, refusals_of}}
use Rattle.mpd_levels.specs.Indexed.{index_of}
use Rattle.mpd_rules.specs.{Fits.FitsMpd, Laws.HasIdsOnce}
use Rattle.mpd_rules.specs.Rules.{all_index_refusals, index_values, index_refused, refusals_behind, indexed_mpd_of, unless_refused}
use Rattle.mpd_rules.specs.{Typed.values_with, Views.index_mpd}
use Rattle.mpd_rules.proofs.{Fitting.mpd_fits, Ids.ids_once, Refusing.{first_of_more, none_first, unless_first}}

meaning_is : (root : Element) → first_fault (refusals_of Index root) ≡ Ok tt
    → unless_refused (refusals_behind false index_refused index_of root) (values_with index_of root) ≡ indexed_mpd_of root
unfolding indexed_mpd_of all_index_refusals index_values
meaning_is root none = rw (none_first (refusals_of Index root) none) refl

pub returns-in_err-check : goal.returns-in_err-check
unfolding indexed_mpd_of all_index_refusals
returns-in_err-check c =
    let p = err_from_is_err_and c.from_residual.result c.from_residual.ensures.1 in
    let root = root_of c.args.tree.now in
    rw (p.1, p.2) (unless_first c.in_err-check.field-0.0 (all_index_refusals root) (index_values root)
    (first_of_more c.in_err-check.field-0.0 (refusals_of Index root) (refusals_behind false index_refused index_of root)
    (all_index_refusals root) refl c.in_err-check.ensures.refused))

pub values-requires-clause-fits : goal.values-requires-clause-fits
values-requires-clause-fits c = subst FitsMpd (sym c.root.ensures) (mpd_fits Index (is_dynamic (root_of c.args.tree.now).head)
    (root_of c.args.tree.now) c.in_ok-check.ensures.sound)

pub values-requires-clause-ids : goal.values-requires-clause-ids
values-requires-clause-ids c = subst HasIdsOnce (sym c.root.ensures) (ids_once Index (root_of c.args.tree.now)
    (none_first (refusals_of Index (root_of c.args.tree.now)) c.in_ok-check.ensures.refused))

pub returns : goal.returns
returns c = subst (λ meaning. Gives index_mpd refusal c.values.result meaning)
    (meaning_is (root_of c.args.tree.now) c.in_ok-check.ensures.refused) (rw c.root.ensures at c.values.ensures)
