use Rattle.mpd_presentation.proofs.told.Setting.all_told.Given as goal
use Rattle.mpd_rules.specs.Views.{periods_left}
use Rattle.mpd_presentation.specs.{Rows.all_left, Shared.AreOfAll, Told.all_told}
use Rattle.mpd_presentation.proofs.Parting.{AreSoFar}

abbrev pub invariant-loop-period : goal.invariant-loop-period
invariant-loop-period l = record {
  can_next : (goal.iterator-loop-period).can_next l.period-iterator;
  finite : (goal.iterator-loop-period).is_finite l.period-iterator;
  shared : AreOfAll l.fn.self.shared.now (periods_left l.period-iterator);
  told : AreSoFar l.parted (all_told l.fn.self.base.now l.fn.self.live (all_left l.period-iterator))
      (all_told l.fn.self.base.now l.fn.self.live (all_left l.fn.periods));
}
