use Rattle.live_session.proofs.growth.grow_all.Given as goal
use Rattle.std.{proofs.Common.{◌≡◌, ◌+◌, All, length, drop}, specs.Vec.Iter.into_iter_items}
use Rattle.live_session.{specs.Kept.AreSideBySide, proofs.Growing.{AreChanged, IsGrown}}

abbrev pub invariant-loop-made : goal.invariant-loop-made
invariant-loop-made l = record {
  place : l.track + length (into_iter_items l.made-iterator) ≡ length l.fn.made.items;
  left : into_iter_items l.made-iterator ≡ drop l.track l.fn.made.items;
  grown : AreChanged (IsGrown l.fn.made.items) l.fn.tracks.items l.tracks.items l.track;
  paired : All AreSideBySide l.tracks.items;
}
