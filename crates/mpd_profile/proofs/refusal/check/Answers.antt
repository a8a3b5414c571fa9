use Rattle.mpd_profile.proofs.refusal.check.Goals as goal
use Rattle.std.proofs.{Common.{◌≡◌, ◌++◌, Result, Ok, Err, refl, sym}, lemmas.Result.err_from_is_err_and}
use Rattle.std.specs.Prelude.{OnOk}
use Rattle.bridge_io.specs.Firsts.{first_fault}
use Rattle.mpd_tree.specs.{Nodes.root_of, Trees.Element}
use Rattle.mpd_profile.specs.{declared.fault.RuleFault.RuleFault, declared.listed.Addressing.Addressing}
use Rattle.mpd_profile.specs.{declared.listed.Listed.TheVariants.Mpd, declared.visit.Pass.TheVariants.{Features, Values}, Heads.is_dynamic}
use Rattle.mpd_profile.specs.{Passes.{refused_in, told_by}, Refusals.{feature_refusals, refusals_of, root_refusals, value_refusals}}
use Rattle.mpd_profile.specs.Sound.{IsSound}
use Rattle.mpd_profile.proofs.{Passing.{Tells, is_told, told_before, told_behind}, Sound.sound_checked}

features_are : (root : Element) → refused_in Features root ≡ feature_refusals root
unfolding refused_in feature_refusals told_by
features_are root = refl

values_are : (addressing : Addressing) (root : Element) → refused_in (Values addressing) root ≡ value_refusals addressing root
unfolding refused_in value_refusals told_by
values_are addressing root = refl

module _ (addressing : Addressing) (root : Element) where
  root_stops : (fault : RuleFault) → Err fault ≡ first_fault (root_refusals root) → Tells (Err fault) (refusals_of addressing root)
  unfolding refusals_of
  root_stops fault told =
      told_before (root_refusals root ++ feature_refusals root) (value_refusals addressing root) fault
      (told_before (root_refusals root) (feature_refusals root) fault (is_told (first_fault (root_refusals root)) fault (sym told)))

  feature_stops : (fault : RuleFault) → Ok tt ≡ first_fault (root_refusals root) → Tells (Err fault) (refused_in Features root)
      → Tells (Err fault) (refusals_of addressing root)
  unfolding refusals_of
  feature_stops fault none told =
      told_before (root_refusals root ++ feature_refusals root) (value_refusals addressing root) fault
      (told_behind (root_refusals root) (feature_refusals root) (Err fault) (sym none) (rw (features_are root) at told))

  values_tell : (result : Result (Unit {0}) RuleFault) → Ok tt ≡ first_fault (root_refusals root)
      → Tells (Ok tt) (refused_in Features root) → Tells result (refused_in (Values addressing) root)
      → Tells result (refusals_of addressing root)
  unfolding refusals_of
  values_tell result none untold told =
      told_behind (root_refusals root ++ feature_refusals root) (value_refusals addressing root) result
      (told_behind (root_refusals root) (feature_refusals root) (Ok tt) (sym none) (rw (features_are root) at untold))
      (rw (values_are addressing root) at told)

  sound_if : (result : Result (Unit {0}) RuleFault) → Tells result (refusals_of addressing root)
      → OnOk result (IsSound addressing (is_dynamic root.head) Mpd root)
  sound_if (Ok u) none = sound_checked addressing root none
  sound_if (Err fault) told = tt

pub returns-then-is_untold-clause-refused : goal.returns-then-is_untold-clause-refused
returns-then-is_untold-clause-refused c =
    let untold = rw c.root-root.ensures at c.if-is_untold.ensures refl in
    values_tell c.args.addressing (root_of c.args.tree.now) (Ok tt) (rw c.root-root.ensures at c.in_ok-check_root.ensures) untold.0 untold.1

pub returns-then-is_untold-clause-sound : goal.returns-then-is_untold-clause-sound
returns-then-is_untold-clause-sound c =
    sound_if c.args.addressing (root_of c.args.tree.now) (Ok tt) (returns-then-is_untold-clause-refused c)

pub returns-in_err-check_root-clause-refused : goal.returns-in_err-check_root-clause-refused
returns-in_err-check_root-clause-refused c =
    let p = err_from_is_err_and c.from_residual.result c.from_residual.ensures.1 in
    rw (p.1, p.2) (root_stops c.args.addressing (root_of c.args.tree.now) _ (rw c.root-root.ensures at c.in_err-check_root.ensures))

pub returns-in_err-check_all-clause-refused : goal.returns-in_err-check_all-clause-refused
returns-in_err-check_all-clause-refused c =
    let p = err_from_is_err_and c.from_residual-in_err-check_all.result c.from_residual-in_err-check_all.ensures.1 in
    rw (p.1, p.2)
    (feature_stops c.args.addressing (root_of c.args.tree.now) _ (rw c.root-root.ensures at c.in_ok-check_root.ensures)
    (rw c.root-root.ensures at c.in_err-check_all.ensures))

pub returns-clause-refused : goal.returns-clause-refused
returns-clause-refused c =
    values_tell c.args.addressing (root_of c.args.tree.now) _ (rw c.root-root.ensures at c.in_ok-check_root.ensures)
    (rw c.root-root.ensures at c.in_ok-check_all.ensures)
    (rw c.root-root.ensures at c.check_all-2.ensures)

pub returns-clause-sound : goal.returns-clause-sound
returns-clause-sound c = sound_if c.args.addressing (root_of c.args.tree.now) _ (returns-clause-refused c)
