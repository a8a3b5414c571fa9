use Rattle.mpd_presentation.proofs.lineup.add_kind.Given as goal
use Rattle.std.proofs.Common.{◌≡◌, ◌++◌, map, filter}
use Rattle.mpd_rules.specs.Views.{track_in, tracks_left}
use Rattle.presentation.specs.Order.{is_of}

abbrev pub invariant-loop-view : goal.invariant-loop-view
invariant-loop-view g l = record {
  can_next : (goal.iterator-loop-view g).can_next l.view-iterator;
  finite : (goal.iterator-loop-view g).is_finite l.view-iterator;
  so_far : map track_in l.views.items ++ filter (λ row. is_of l.kind row.description.kind) (tracks_left l.view-iterator)
      ≡ map track_in l.fn.views.items ++ filter (λ row. is_of l.kind row.description.kind) (tracks_left l.fn.walk);
}
