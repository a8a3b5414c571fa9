use Rattle.timeline.proofs.shared_timeline.SharedTimeline.of.Goals as goal
use Rattle.std.proofs.{Common.{◌≡◌, length, ◌∙◌, rules}, lemmas.List.take_rest}
use Rattle.timeline.specs.MediaTimelines.{rest_of}
use Rattle.timeline.proofs.Reached.{laid_timeline, lays_out}

pub invariant_of-result : goal.invariant_of-result
invariant_of-result c =
    let m = c.in_ok-media.media in
    let kept : c.as_slice.result.now ≡ m.runs.items = search rules in
    let rest : c.extend.new.self ≡ rest_of c.args.entries.now m =
    c.in_ok-extend.ensures.ok ∙ (rw (c.new-rest.ensures, kept) (take_rest c.args.entries.now (length m.runs.items))) in
    rw c.in_ok-laid.ensures.ok (laid_timeline c.args.entries.now _ c.in_ok-media.ensures rest c.have_no_time-no_time.ensures)

pub returns : goal.returns
returns c =
    let m = c.in_ok-media.media in
    let kept : c.as_slice.result.now ≡ m.runs.items = search rules in
    let rest : c.extend.new.self ≡ rest_of c.args.entries.now m =
    c.in_ok-extend.ensures.ok ∙ (rw (c.new-rest.ensures, kept) (take_rest c.args.entries.now (length m.runs.items))) in
    rw c.in_ok-laid.ensures.ok (lays_out c.args.entries.now _ c.in_ok-media.ensures rest c.have_no_time-no_time.ensures)
