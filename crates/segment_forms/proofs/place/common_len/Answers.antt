use Rattle.segment_forms.proofs.place.common_len.Goals as goal
use Rattle.std.proofs.{Common.{arith, drop, length-drop}, lemmas.List.Sums.common_prefix_len-le}
use Rattle.std.specs.Prelude.{ℕ, nat_eq}

pub returns-else-len-second : goal.returns-else-len-second
returns-else-len-second c =
    omega (
      arith,
      length-drop {A = ℕ},
      common_prefix_len-le nat_eq (drop c.loop-len.len c.args.first.now) (drop c.loop-len.len c.args.second.now),
    )
