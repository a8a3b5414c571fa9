use Rattle.iso_time.proofs.duration.write_duration.Goals as goal
use Rattle.std.proofs.{Common.{length, ap, arith}, lemmas.Str.encode_ascii}
use Rattle.iso_time.proofs.PlaceLemmas.{seconds_short}

pub push_fraction-requires-clause-room : goal.push_fraction-requires-clause-room
push_fraction-requires-clause-room c =
    omega (arith, seconds_short _ c.value.invariant, ap length c.new-text.ensures, ap length c.format.ensures.text)

pub push-requires : goal.push-requires
push-requires c = (
  omega arith,
  omega (
    arith,
    seconds_short _ c.value.invariant,
    ap length c.new-text.ensures,
    ap length c.format.ensures.text,
    ap length (encode_ascii 83 (omega arith)),
  ),
)
