use Rattle.dash_writer.proofs.attribute.push_rate.Goals as goal
use Rattle.std.proofs.{Common.{◌/◌, ◌%◌, ◌==◌, refl, inl, inr}, lemmas.Bool.{cases_Bool, eqb-true}}
use Rattle.bridge_io.proofs.Adding.{adds_same}
use Rattle.dash_writer.proofs.Escaping.{alone_stays, numbers_stay}

pub returns-then-ratio-eq0 : goal.returns-then-ratio-eq0
returns-then-ratio-eq0 g c = let ratio = c.args.ratio in
    rw c.if-ratio-eq0.true (adds_same (alone_stays (ratio.n / ratio.m)) (rw c.from-whole.ensures at c.push_pieces.ensures))

pub returns : goal.returns
returns g c = let ratio = c.args.ratio in elim (cases_Bool (ratio.n % ratio.m == 0)) [
  | inl is ↦ absurd (c.if-ratio-eq0.false (eqb-true (ratio.n % ratio.m) 0 is))
  | inr isnt ↦ rw isnt (adds_same (numbers_stay ratio.n 47 ratio.m refl) (rw (c.from.ensures, c.from-2.ensures) at c.push_pieces-2.ensures))
]
