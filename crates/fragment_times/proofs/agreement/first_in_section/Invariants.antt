use Rattle.std.proofs.Common.{◌≡◌, length, map}
use Rattle.bridge_io.specs.Firsts.{first_some}
use Rattle.presentation.proofs.Counts.{from_on}
use Rattle.fragment_times.specs.Agreeing.{apart_at, apart_in}
use Rattle.fragment_times.proofs.agreement.first_in_section.Given as goal

-- nothing is apart of the tracks before this one
abbrev pub invariant-loop-track : goal.invariant-loop-track
invariant-loop-track l =
    let p = l.fn.presentation in
    let times = l.fn.times in
    apart_in p times l.section ≡ first_some (map (apart_at p times l.section) (from_on l.track (length p.tracks)))
