use Rattle.std.proofs.Common.{◌≡◌, ◌+◌, ◌-◌, ◌^◌, ◌++◌, [], length, flat_map, map, sum_by}
use Rattle.std.specs.List.{range_with_len}
use Rattle.presentation.specs.Counting.{tracks_of, count_faults, count_of_track, count_of_all}
use Rattle.presentation.specs.Verifying as spec
use Rattle.presentation.proofs.presentation.Presentation.verify.Given as goal

-- the segments of the tracks before this one have addresses
abbrev pub invariant-loop-track : goal.invariant-loop-track
invariant-loop-track g l = let p = l.self in
    let later = range_with_len l.track (length p.tracks - l.track) in
    record {
      number : length l.durations ≡ l.track;
      counted : count_faults p ≡ [];
      faults : spec.url_faults p ≡ flat_map (spec.url_faults_of p) later;
      longest : l.durations ++ map (spec.longest_of p (10 ^ l.digits)) later ≡ map (spec.longest_of p (10 ^ l.digits)) (tracks_of p);
      made : l.steps + sum_by (count_of_track p) later ≡ l.fn.steps + count_of_all p;
    }
