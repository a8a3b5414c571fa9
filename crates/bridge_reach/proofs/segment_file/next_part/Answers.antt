use Rattle.std.proofs.Common.{refl}
use Rattle.timeline.specs.Listed.{IsDone, IsMade}
use Rattle.fragment_times.proofs.Listed.{next_part, no_part}
use Rattle.bridge_reach.proofs.segment_file.next_part.Goals as goal

pub returns-in-Ok-Some : goal.returns-in-Ok-Some
returns-in-Ok-Some g c =
    let old = c.args.listing.now in let new = c.next.new.self in
    let next : IsMade old c.in-Ok-Some.segment new = rw c.in-Ok-Some.field-0-is at c.in-Ok-Some.ensures.segment in
    rw (c.into_part.ensures, next_part old new c.in-Ok-Some.segment next) refl

pub returns-in-Ok-None : goal.returns-in-Ok-None
returns-in-Ok-None g c =
    let old = c.args.listing.now in let new = c.next.new.self in
    let done : IsDone old new = rw c.in-Ok-None.field-0-is at c.in-Ok-None.ensures.segment in
    rw (no_part old new done) refl
