use Rattle.std.proofs.Common.{◌∙◌}
use Rattle.timeline.specs.Listed.{timing_of}
use Rattle.fragment_times.proofs.Lengths.{is_floor}
use Rattle.fragment_times.proofs.lasting.floor_in.Goals as goal

pub returns : goal.returns
returns c =
    let floor = is_floor (timing_of c.args.span.now) c.requires.limits c.elapsed.result c.elapsed.ensures.exact c.args.unit in
    c.floor.ensures ∙ rw (c.from.ensures, c.from-2.ensures) floor
