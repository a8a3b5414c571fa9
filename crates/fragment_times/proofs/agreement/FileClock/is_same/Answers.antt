use Rattle.fragment_times.proofs.agreement.FileClock.is_same.Goals as goal
use Rattle.std.proofs.{Common.{◌∙◌, arith}, lemmas.Int.ints}
use Rattle.fragment_times.proofs.Apart.{same_before, same_from}

pub returns-then-start-lt0 : goal.returns-then-start-lt0
returns-then-start-lt0 c =
    let told = c.args.self in
    let same = same_before c.args.time c.args.start.scale told.offset.scale told.scale c.args.start.n told.offset.n
    (omega (arith, ints)) c.requires in
    let sum = rw (
      c.magnitude.ensures.value,
      c.magnitude-2.ensures.value,
      c.from.ensures,
      c.from-starts.ensures,
      c.from-offsets.ensures,
      c.from-scale.ensures,
    ) at c.is_sum.ensures in
    sum ∙ same

pub returns-else-start-lt0 : goal.returns-else-start-lt0
returns-else-start-lt0 c =
    let told = c.args.self in
    let same = same_from c.args.time c.args.start.scale told.offset.scale told.scale c.args.start.n told.offset.n
    (omega (arith, ints)) c.requires in
    let sum = rw (
      c.magnitude.ensures.value,
      c.magnitude-2.ensures.value,
      c.from.ensures,
      c.from-starts.ensures,
      c.from-offsets.ensures,
      c.from-scale.ensures,
    ) at c.is_sum-else-start-lt0.ensures in
    sum ∙ same
