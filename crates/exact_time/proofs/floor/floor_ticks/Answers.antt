use Rattle.exact_time.proofs.floor.floor_ticks.Goals as goal
use Rattle.std.proofs.{Common.{◌≡◌, ◌+ℤ◌, ◌≤ℤ◌, pos, arith}, lemmas.Int.ints}
use Rattle.exact_time.specs.{Time.difference, Floor.IsFloorIn, Tick.time_of}
use Rattle.exact_time.proofs.{Times.ticks_at_most, Floors.{IsFloorIn-ticks, floor_of-difference}}

is_floor : (c : goal.After-quotient) → IsFloorIn c.args.unit (difference (time_of c.args.end) (time_of c.args.first)) c.quotient.result
is_floor c =
    let ordered : c.args.first.n ≤ℤ c.args.end.n =
    ticks_at_most (time_of c.args.first) (time_of c.args.end) c.args.first.positive c.requires.one_scale c.requires.not_before in
    let later : c.args.end.n ≡ c.args.first.n +ℤ pos c.abs_diff.result = omega (arith, ints, c.abs_diff.ensures) in
    rw (c.quotient.ensures, c.from.ensures, ← c.requires.one_scale)
    (IsFloorIn-ticks c.args.unit c.args.end.scale c.abs_diff.result c.args.end.n c.args.first.n c.args.end.positive later)

pub returns-clause-floor : goal.returns-clause-floor
returns-clause-floor c = is_floor c

pub returns-clause-value : goal.returns-clause-value
returns-clause-value c =
    floor_of-difference (time_of c.args.end) (time_of c.args.first) c.args.end.positive c.args.first.positive c.requires.not_before
    (is_floor c)
