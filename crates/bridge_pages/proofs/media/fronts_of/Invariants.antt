-- the fronts so far, with those of the Representations that are left behind them, are all
use Rattle.std.proofs.Common.{◌≡◌}
use Rattle.index_parts.specs.Rows.{rows_left}
use Rattle.bridge_pages.specs.Needs.{fronts_behind, no_fronts}
use Rattle.bridge_pages.proofs.media.fronts_of.Given as goal

abbrev pub invariant-loop-view : goal.invariant-loop-view
invariant-loop-view l = record {
  can_next : (goal.iterator-loop-view).can_next l.view-iterator;
  finite : (goal.iterator-loop-view).is_finite l.view-iterator;
  told : fronts_behind l.place l.fronts (rows_left l.view-iterator) ≡ fronts_behind l.place no_fronts (rows_left l.fn.walk);
}
