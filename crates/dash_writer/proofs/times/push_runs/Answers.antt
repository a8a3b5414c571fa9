use Rattle.dash_writer.proofs.times.push_runs.Goals as goal
use Rattle.std.proofs.Common.{◌≡◌, [], length, codes, Err, refl, sym, ap, ◌∙◌}
use Rattle.bridge_io.proofs.Adding.{adds_same}
use Rattle.dash_writer.specs.{SegmentRuns.{gone_on, runs_left}, Written.elements_text}
use Rattle.dash_writer.proofs.{Nodes.{adds_node, stops_at_children, stops_at_start}, Progress.{ends, fails, further, nothing_yet}}
use Rattle.dash_writer.proofs.RunLemmas.{more_runs, room_left, run_ends, some_runs, still_alone}

pub returns-in_err-push_start : goal.returns-in_err-push_start
returns-in_err-push_start g c = let durations = g.D.Durations.durations c.args.durations.now in
    stops_at_start (codes "SegmentTimeline") [] (runs_left c.args.joined c.args.first durations) (some_runs c.args.joined c.args.first durations)
    c.from_residual.result c.from_residual.ensures.1 c.in_err-push_start.ensures

pub loop-duration-init : goal.loop-duration-init
loop-duration-init g c = record { room = c.requires.few; alone = c.requires.alone; so_far = nothing_yet _ _ }

pub returns-in_err-run : goal.returns-in_err-run
returns-in_err-run g c = let durations = g.D.Durations.durations in let l = c.loop-duration in
    let left = durations c.next_duration.new.self in
    stops_at_children (codes "SegmentTimeline") [] (runs_left c.args.joined c.args.first (durations c.args.durations.now)) (some_runs c.args.joined c.args.first
    (durations c.args.durations.now))
    c.in_ok-push_start.ensures c.from_residual-in_err-run.result c.from_residual-in_err-run.ensures.1
    (fails l.invariant.so_far _ (elements_text (runs_left c.args.joined (gone_on c.args.joined l.run c.in-Some.duration) left))
    (ap (λ xs. elements_text (runs_left c.args.joined l.run xs)) c.in-Some.ensures
    ∙ more_runs c.args.joined l.run c.in-Some.duration left l.invariant.alone) (Err _) refl c.in_err-run.ensures.adds)

pub loop-duration-preserved : goal.loop-duration-preserved
loop-duration-preserved g c = let durations = g.D.Durations.durations in let l = c.loop-duration in
    let left = durations c.next_duration.new.self in
    let next : c.in_ok-run.run' ≡ gone_on c.args.joined l.run c.in-Some.duration = c.in_ok-run.ensures.run in record {
      room = rw next (room_left c.args.joined l.run c.in-Some.duration (length left) (rw c.in-Some.ensures at l.invariant.room));
      alone = rw next (still_alone c.args.joined l.run c.in-Some.duration);
      so_far = rw next (further l.invariant.so_far _ (elements_text (runs_left c.args.joined (gone_on c.args.joined l.run c.in-Some.duration) left))
          (ap (λ xs. elements_text (runs_left c.args.joined l.run xs)) c.in-Some.ensures
          ∙ more_runs c.args.joined l.run c.in-Some.duration left l.invariant.alone) c.in_ok-run.ensures.adds);
    }

pub returns-in_err-push_to : goal.returns-in_err-push_to
returns-in_err-push_to g c = let durations = g.D.Durations.durations in let l = c.loop-duration in
    stops_at_children (codes "SegmentTimeline") [] (runs_left c.args.joined c.args.first (durations c.args.durations.now)) (some_runs c.args.joined c.args.first
    (durations c.args.durations.now))
    c.in_ok-push_start.ensures c.from_residual-in_err-push_to.result c.from_residual-in_err-push_to.ensures.1
    (ends l.invariant.so_far (adds_same (ap elements_text (sym (run_ends c.args.joined l.run l.invariant.alone))
    ∙ ap (λ xs. elements_text (runs_left c.args.joined l.run xs)) (sym c.in_default.ensures)) c.in_err-push_to.ensures))

pub returns : goal.returns
returns g c = let durations = g.D.Durations.durations in let l = c.loop-duration in
    adds_node (codes "SegmentTimeline") [] (runs_left c.args.joined c.args.first (durations c.args.durations.now)) (some_runs c.args.joined c.args.first
    (durations c.args.durations.now))
    c.in_ok-push_start.ensures
    (ends l.invariant.so_far (adds_same (ap elements_text (sym (run_ends c.args.joined l.run l.invariant.alone))
    ∙ ap (λ xs. elements_text (runs_left c.args.joined l.run xs)) (sym c.in_default.ensures)) c.in_ok-push_to.ensures))
    c.push_end.ensures
