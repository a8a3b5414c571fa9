use Rattle.live_session.proofs.kept.push_all.Given as goal
use Rattle.std.{proofs.Common.{◌≡◌, length}, specs.Vec.Iter.into_iter_items}
use Rattle.live_judge.specs.Shown.{track_shown}
use Rattle.live_session.{specs.Kept.{AreSideBySide, HasRoom, with_all}, specs.Made.all_made}

abbrev pub invariant-loop-next : goal.invariant-loop-next
invariant-loop-next l = record {
  paired : AreSideBySide l.track;
  room : HasRoom (length (into_iter_items l.next-iterator)) l.track;
  shown : with_all (track_shown l.track) (all_made (into_iter_items l.next-iterator))
      ≡ with_all (track_shown l.fn.track) (all_made l.fn.made.items);
}
