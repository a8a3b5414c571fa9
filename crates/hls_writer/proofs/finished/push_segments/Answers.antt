use Rattle.hls_writer.proofs.finished.push_segments.Goals as goal
use Rattle.std.proofs.Common.{◌++◌, ◌∙◌, [], refl, sym}
use Rattle.presentation.specs.Printing.{IsPassed}
use Rattle.timeline.specs.{Listed.timing_of, Written.part_with}
use Rattle.hls_writer.specs.{Finished.item_of, Lines.lines_text, Playlists.item_lines, Spelled.spelled_part}
use Rattle.bridge_io.proofs.Adding.{adds_none, adds_same, adds_then, adds_stop_at, adds_wanting}
use Rattle.hls_writer.proofs.Sections.{first_addressed, next_spelled, one_more, still_addressed}

pub loop-span-init : goal.loop-span-init
loop-span-init g c = record { timeline = c.in_ok-addresses.ensures.timeline; spelling = c.in_ok-addresses.ensures.place; addressed = c.requires; done = ([], refl, adds_none _); last = refl }

pub returns-in_err-addresses-clause-adds : goal.returns-in_err-addresses-clause-adds
returns-in_err-addresses-clause-adds g c = adds_wanting {done = []} _ _ c.from_residual.result refl c.from_residual.ensures.1
    (adds_none _)

pub write_address-requires-clause-has : goal.write_address-requires-clause-has
write_address-requires-clause-has g c = let l = c.loop-span in let place = c.args.place.now in
    rw l.invariant.timeline (first_addressed place.map.now place.section l.segments c.pass.new.self
    (timing_of c.in-Some.span) c.in-Some.duration c.in-Some.ensures.segment l.invariant.addressed)

pub returns-in_err-range-clause-adds : goal.returns-in_err-range-clause-adds
returns-in_err-range-clause-adds g c =
    let so_far = c.loop-span.invariant.done in
    adds_wanting _ _ c.from_residual-in_err-range.result so_far.1
    (rw c.in_err-range.ensures.part at c.from_residual-in_err-range.ensures.1) so_far.2

pub returns-in_err-push_segment-clause-adds : goal.returns-in_err-push_segment-clause-adds
returns-in_err-push_segment-clause-adds g c =
    let l = c.loop-span in
    let place = c.args.place.now in
    let part = part_with c.write_address.new.addresses.text c.in_ok-range.range in
    let item = next_spelled place.map.now place.section l.segments c.pass.new.self place.spelling.now
    (timing_of c.in-Some.span) c.in-Some.duration part c.in-Some.ensures.segment
    (rw (l.invariant.timeline, l.invariant.spelling) at c.in_ok-range.ensures.part) in
    let goes = one_more place.digits l.former
    (item_of part (spelled_part place.spelling.now place.map.now) place.section c.in-Some.duration) _ l.invariant.done.0 _
    (rw item at l.invariant.done.1) in
    adds_same goes (adds_stop_at _ c.from_residual-in_err-push_segment.result c.from_residual-in_err-push_segment.ensures.1
    (adds_then _ l.invariant.done.2 c.in_err-push_segment.ensures))

pub loop-span-preserved : goal.loop-span-preserved
loop-span-preserved g c =
    let l = c.loop-span in
    let place = c.args.place.now in
    let part = part_with c.write_address.new.addresses.text c.in_ok-range.range in
    let next : IsPassed l.segments (timing_of c.in-Some.span) c.in-Some.duration c.pass.new.self = c.in-Some.ensures.segment in
    let item = next_spelled place.map.now place.section l.segments c.pass.new.self place.spelling.now
    (timing_of c.in-Some.span) c.in-Some.duration part next
    (rw (l.invariant.timeline, l.invariant.spelling) at c.in_ok-range.ensures.part) in
    let here = item_of part (spelled_part place.spelling.now place.map.now) place.section c.in-Some.duration in
    record {
      timeline = c.in_ok-range.ensures.timeline ∙ l.invariant.timeline ∙ sym next.timeline;
      spelling = c.in_ok-range.ensures.place ∙ l.invariant.spelling;
      addressed = still_addressed place.map.now place.section l.segments c.pass.new.self
          (timing_of c.in-Some.span) c.in-Some.duration next l.invariant.addressed;
      done = (
        l.invariant.done.0 ++ lines_text (item_lines place.digits l.former here),
        one_more place.digits l.former here _ l.invariant.done.0 _ (rw item at l.invariant.done.1),
        adds_then _ l.invariant.done.2 c.in_ok-push_segment.ensures,
      );
      last = rw item at l.invariant.last;
    }
