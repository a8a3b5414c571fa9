use Rattle.std.proofs.Common.{◌∙◌}
use Rattle.timeline.specs.Listed.{IsDone, IsMade}
use Rattle.dash_writer.specs.Written.{elements_text}
use Rattle.dash_writer.proofs.Progress.{all_added, fails, further, nothing_yet, wants}
use Rattle.dash_writer.proofs.Urls.{next_url, no_url, still_addressed, urls_left}
use Rattle.dash_writer.proofs.listed.ListingFilesSteps.push_urls.Goals as goal

pub loop-segment-init : goal.loop-segment-init
loop-segment-init g c = record { addressed = c.requires; so_far = nothing_yet _ _ }

pub returns-in_err-segment : goal.returns-in_err-segment
returns-in_err-segment g c = wants c.loop-segment.invariant.so_far c.from_residual.result
    (rw c.in_err-segment.ensures at c.from_residual.ensures.1)

pub returns-in_err-push_url : goal.returns-in_err-push_url
returns-in_err-push_url g c = let l = c.loop-segment in let new = c.next_segment.new.listing in
    let next : IsMade l.self c.in-Some.segment new = rw c.in-Some.is at c.in_ok-segment.ensures in
    fails l.invariant.so_far _ (elements_text (urls_left new)) (next_url l.self new c.in-Some.segment next)
    c.from_residual-in_err-push_url.result c.from_residual-in_err-push_url.ensures.1
    (rw (c.as_str.ensures.text ∙ c.address.ensures, c.range.ensures) at c.in_err-push_url.ensures)

pub loop-segment-preserved : goal.loop-segment-preserved
loop-segment-preserved g c = let l = c.loop-segment in let new = c.next_segment.new.listing in
    let next : IsMade l.self c.in-Some.segment new = rw c.in-Some.is at c.in_ok-segment.ensures in record {
      addressed = still_addressed l.self new c.in-Some.segment next l.invariant.addressed;
      so_far = further l.invariant.so_far _ (elements_text (urls_left new)) (next_url l.self new c.in-Some.segment next)
          (rw (c.as_str.ensures.text ∙ c.address.ensures, c.range.ensures) at c.in_ok-push_url.ensures);
    }

pub returns : goal.returns
returns g c = let l = c.loop-segment in let new = c.next_segment.new.listing in
    let done : IsDone l.self new = rw c.in_default.is at c.in_ok-segment.ensures in
    all_added l.invariant.so_far (no_url l.self new done)
