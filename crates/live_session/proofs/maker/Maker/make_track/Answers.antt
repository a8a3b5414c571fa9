use Rattle.std.proofs.Common.{ap, arith, length}
use Rattle.live_session.specs.{Made.all_made, New.{IsBegun, track_at}}
use Rattle.live_session.proofs.TrackMaking.{none_yet, section_made, section_makeable, section_refused, track_made}
use Rattle.live_session.proofs.maker.Maker.make_track.Goals as goal

pub loop-section-init : goal.loop-section-init
loop-section-init g c = record {
  so_far = rw (c.first_section-section.ensures, c.new-made.ensures.items)
      (none_yet c.args.self.now c.args.track c.last_kept-last.result c.args.steps.now);
  least = omega (arith, c.first_section-section.ensures);
}

pub make_section-requires-clause-stands : goal.make_section-requires-clause-stands
make_section-requires-clause-stands g c =
    let m = c.args.self.now in let t = c.args.track in let last = c.last_kept-last in let l = c.loop-section in
    let same = ap (λ xs. length xs) c.sections.ensures in
    let begun : IsBegun m.resets (track_at last.result) =
    rw (last.ensures.last, last.ensures.place) (record {
      begun = c.requires.kept.begun.begun;
      numbered = c.requires.kept.begun.numbered;
    }) in
    section_makeable m t last.result l.invariant.so_far (omega arith) l.invariant.least begun
    (rw (last.ensures.last, last.ensures.place) c.requires.kept.near)

pub returns-in-Err : goal.returns-in-Err
returns-in-Err g c =
    let last = c.last_kept-last in
    let same = ap (λ xs. length xs) c.sections.ensures in
    rw (← last.ensures.last, ← last.ensures.place)
    (section_refused _ _ last.result c.loop-section.invariant.so_far (omega arith) c.in-Err.fault _ c.in-Err.ensures)

pub loop-section-preserved : goal.loop-section-preserved
loop-section-preserved g c =
    let m = c.args.self.now in let last = c.last_kept-last in let l = c.loop-section in
    let same = ap (λ xs. length xs) c.sections.ensures in
    let begun : IsBegun m.resets (track_at last.result) =
    rw (last.ensures.last, last.ensures.place) (record {
      begun = c.requires.kept.begun.begun;
      numbered = c.requires.kept.begun.numbered;
    }) in
    record {
      so_far = section_made m c.args.track last.result l.invariant.so_far (omega arith) l.invariant.least begun
          (all_made c.make_section.new.made.items) c.make_section.new.steps c.in-Ok.ensures;
      least = let least = l.invariant.least in omega arith;
    }

pub returns : goal.returns
returns g c =
    let last = c.last_kept-last in
    let same = ap (λ xs. length xs) c.sections.ensures in
    rw (← last.ensures.last, ← last.ensures.place)
    (track_made c.args.self.now c.args.track last.result c.loop-section.invariant.so_far (omega arith))
