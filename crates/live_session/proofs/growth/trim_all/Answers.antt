use Rattle.live_session.proofs.growth.trim_all.Goals as goal
use Rattle.std.proofs.{Common.{map, subst, sym, arith}, lemmas.List.Elements.All-set}
use Rattle.presentation.proofs.Grids.{All-at}
use Rattle.live_judge.specs.Shown.{track_shown}
use Rattle.live_session.specs.{Growth.{IsTrimmable, trimmed}, Kept.AreSideBySide}
use Rattle.live_session.proofs.Growing.{all_changed, changed_next, mapped_at, still_at}

pub trim-requires-clause-paired : goal.trim-requires-clause-paired
trim-requires-clause-paired c = let l = c.loop-track in
    subst AreSideBySide (sym c.index_mut.ensures.value)
    (l.invariant.paired l.track c.index_mut.result.now (omega (arith, l.invariant.trimmed.many)))

pub trim-requires-clause-can : goal.trim-requires-clause-can
trim-requires-clause-can c = let l = c.loop-track in let old = c.index_mut.result.now in
    All-at IsTrimmable (map track_shown c.args.tracks.now.items) l.track (track_shown old) c.requires.can
    (mapped_at track_shown c.args.tracks.now.items l.track old
    (still_at l.invariant.trimmed old (omega (arith, l.invariant.trimmed.many)) c.index_mut.ensures.value))

pub loop-track-preserved : goal.loop-track-preserved
loop-track-preserved c = let l = c.loop-track in record {
  trimmed = changed_next l.invariant.trimmed c.index_mut.result.now c.trim.new.track (omega (arith, l.invariant.trimmed.many))
      c.index_mut.ensures.value c.trim.ensures.shown;
  paired = All-set AreSideBySide l.tracks.items l.track c.trim.new.track c.trim.ensures.paired l.invariant.paired;
}

pub returns-clause-shown : goal.returns-clause-shown
returns-clause-shown c =
    all_changed c.loop-track.invariant.trimmed track_shown (trimmed c.args.standing.now) (λ i x y is. is) (omega arith)
