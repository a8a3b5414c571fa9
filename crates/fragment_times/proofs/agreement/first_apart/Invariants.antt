use Rattle.std.proofs.Common.{◌≡◌, length, map}
use Rattle.bridge_io.specs.Firsts.{first_some}
use Rattle.presentation.proofs.Counts.{from_on}
use Rattle.fragment_times.specs.Agreeing.{apart_in, first_apart}
use Rattle.fragment_times.proofs.agreement.first_apart.Given as goal

-- nothing is apart in the sections before this one
abbrev pub invariant-loop-section : goal.invariant-loop-section
invariant-loop-section l =
    let p = l.fn.presentation in
    let times = l.fn.times in
    first_apart p times ≡ first_some (map (apart_in p times) (from_on l.section (length p.sections)))
