use Rattle.hls_follow.proofs.round.first_start.Goals as goal
use Rattle.std.proofs.{Common.arith, lemmas.Int.ints}
use Rattle.hls_follow.proofs.Rounding.{millis_near}

pub invariant_of-result : goal.invariant_of-result
invariant_of-result c =
    let is = c.div_euclid-start.ensures in (
      omega (arith, ints, c.requires.now, c.requires.near, is, millis_near),
      omega (arith, ints, c.requires.now, c.requires.near, is, millis_near),
    )

pub returns-clause-writable : goal.returns-clause-writable
returns-clause-writable c =
    let is = c.div_euclid-start.ensures in (
      omega (arith, ints, c.requires.now, c.requires.near, is, millis_near, c.if-start-ltminus12212553600000000000.false),
      omega (arith, ints, c.requires.now, c.requires.near, is, millis_near),
    )
