use Rattle.std.proofs.Common.{◌≡◌, ◌+◌, ◌-◌, ◌^◌, max, length, flat_map, map, sum_by}
use Rattle.std.specs.List.{range_with_len}
use Rattle.presentation.specs.Counting.{sections_of, listed_count, count_of_track}
use Rattle.presentation.specs.Verifying as spec
use Rattle.presentation.proofs.presentation.Presentation.verify_track.Given as goal

-- the segments of the sections before this one have addresses
abbrev pub invariant-loop-section : goal.invariant-loop-section
invariant-loop-section g l = let p = l.self in let t = l.track in let unit = 10 ^ l.digits in
    let later = range_with_len l.section (length p.sections - l.section) in
    record {
      faults : flat_map (spec.url_faults_at p t) (sections_of p) ≡ flat_map (spec.url_faults_at p t) later;
      longest : spec.longest_of p unit t ≡ max l.longest (spec.greatest (map (spec.longest_at p unit t) later));
      made : l.steps + sum_by (listed_count p t) later ≡ l.fn.steps + count_of_track p t;
    }
