use Rattle.live_session.proofs.growth.grow_all.Goals as goal
use Rattle.std.proofs.{Common.{◌≡◌, ◌∷◌, ◌∙◌, ◌<◌, ap, sym, arith, length}, lemmas.List.Elements.All-set, lemmas.Option.same_Some}
use Rattle.std.specs.Vec.Iter.{into_iter_items}
use Rattle.live_judge.specs.Shown.{track_shown}
use Rattle.live_session.specs.{declared.made.MadeTrack.MadeTrack, Kept.{AreSideBySide, with_all}, Made.all_made}
use Rattle.live_session.proofs.Growing.{changed_next, drop_next, still_at}

pub push_all-requires-clause-room : goal.push_all-requires-clause-room
push_all-requires-clause-room c =
    let l = c.loop-made in let inv = l.invariant in let old = c.index_mut.result.now in
    let is : into_iter_items l.made-iterator ≡ c.in-Some.made ∷ into_iter_items c.next.new.self = c.in-Some.ensures.steps.0 in
    let within : l.track < length l.tracks.items = omega (arith, inv.place, inv.grown.many, c.requires.tracks, ap (λ xs. length xs) is) in
    c.requires.room l.track old c.in-Some.made (still_at inv.grown old within c.index_mut.ensures.value)
    (drop_next l.track c.args.made.items (into_iter_items c.next.new.self) c.in-Some.made (sym is ∙ inv.left)).1

pub loop-made-preserved : goal.loop-made-preserved
loop-made-preserved c =
    let l = c.loop-made in let inv = l.invariant in let rest = into_iter_items c.next.new.self in let old = c.index_mut.result.now in
    let is : into_iter_items l.made-iterator ≡ c.in-Some.made ∷ rest = c.in-Some.ensures.steps.0 in
    let next = drop_next l.track c.args.made.items rest c.in-Some.made (sym is ∙ inv.left) in
    record {
      place = omega (arith, inv.place, ap (λ xs. length xs) is);
      left = next.0;
      grown = changed_next inv.grown old c.push_all.new.track
          (omega (arith, inv.place, inv.grown.many, c.requires.tracks, ap (λ xs. length xs) is)) c.index_mut.ensures.value
          (λ m at. c.push_all.ensures.shown ∙ ap (λ (x : MadeTrack). with_all (track_shown old) (all_made x.segments.items))
          (same_Some c.in-Some.made m (sym next.1 ∙ at)));
      paired = All-set AreSideBySide l.tracks.items l.track c.push_all.new.track c.push_all.ensures.paired inv.paired;
    }
