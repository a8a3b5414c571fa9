use Rattle.dash_writer.proofs.live.push_run.Goals as goal
use Rattle.std.proofs.Common.{ℕ, List, map, ap, ◌∙◌}
use Rattle.bridge_io.proofs.Adding.{adds_same}
use Rattle.dash_writer.specs.{declared.live.LiveSegment.LiveSegment, Forms.segments_with, Live.{first_time, part_of}, Written.element_text}

pub returns : goal.returns
returns g c = let run = c.args.run.now in let part = run.initialization in let segments = c.as_slice-segments.result.now in
    let told = λ (scale : ℕ). segments_with c.args.form scale run.offset in
    let durations = λ (segments : List LiveSegment). map (λ (segment : LiveSegment). segment.duration) segments in
    adds_same
    (ap (λ scale. element_text (told scale c.first_time.result part (durations segments) (map part_of segments))) c.from.ensures
    ∙ ap (λ n. element_text (told run.scale n part (durations segments) (map part_of segments))) c.first_time.ensures
    ∙ ap (λ segments. element_text (told run.scale (first_time segments) part (durations segments) (map part_of segments)))
    c.as_slice-segments.ensures) c.push_segments.ensures
