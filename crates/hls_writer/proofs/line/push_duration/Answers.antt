use Rattle.std.proofs.Common.{◌≡◌, ◌-◌, ◌++◌, codes, take, drop, arith, append_assoc, append-nil}
use Rattle.iso_time.specs.Digits.{padded_digits}
use Rattle.hls_writer.specs.Lines.{line_bytes}
use Rattle.hls_writer.proofs.Decimals.{last_ended}
use Rattle.hls_writer.proofs.line.push_duration.Goals as goal

pub returns : goal.returns
unfolding line_bytes
returns g c =
    let before = 9 - c.from-before.result in
    let shown : take (11 - before) (drop before c.nine_decimals-decimals.result) ≡ padded_digits c.args.digits c.args.units ++ codes ",\n" =
    rw c.nine_decimals-decimals.ensures (last_ended c.args.digits before c.args.units (codes ",\n") (omega arith)) in
    simp append_assoc
    (rw (c.from.ensures, c.unit.ensures.value, shown, append-nil (padded_digits c.args.digits c.args.units ++ codes ",\n"))
    at c.push_pieces.ensures)
