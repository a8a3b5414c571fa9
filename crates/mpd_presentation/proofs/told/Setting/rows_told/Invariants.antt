use Rattle.mpd_presentation.proofs.told.Setting.rows_told.Given as goal
use Rattle.std.proofs.Common.{◌≡◌}
use Rattle.mpd_rules.specs.Views.{tracks_left}
use Rattle.mpd_presentation.specs.{Rows.rows_left, Shared.AreOf, Told.one_told}
use Rattle.bridge_io.specs.Answer.{gathered}
use Rattle.presentation.proofs.Gathering.{behind}

abbrev pub invariant-loop-row : goal.invariant-loop-row
invariant-loop-row l = record {
  can_next : (goal.iterator-loop-row).can_next l.row-iterator;
  finite : (goal.iterator-loop-row).is_finite l.row-iterator;
  shared : AreOf l.fn.self.shared.now (tracks_left l.row-iterator);
  told : behind l.tolds.items (gathered (one_told l.fn.self.base.now l.fn.self.live l.fn.end) (rows_left l.row-iterator))
      ≡ gathered (one_told l.fn.self.base.now l.fn.self.live l.fn.end) (rows_left l.fn.rows);
}
