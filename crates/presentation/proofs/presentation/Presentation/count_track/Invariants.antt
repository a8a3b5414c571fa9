use Rattle.std.proofs.Common.{◌≡◌, ◌+◌, ◌-◌, ◌^◌, ◌<◌, length, flat_map, sum_by}
use Rattle.std.specs.List.{range_with_len}
use Rattle.presentation.specs.Counting as spec
use Rattle.presentation.proofs.presentation.Presentation.count_track.Given as goal

-- the sections before this one have no fault, and their segments are counted
abbrev pub invariant-loop-section : goal.invariant-loop-section
invariant-loop-section l =
    let later = range_with_len l.section (length l.self.sections - l.section) in
    record {
      small : l.total < 2 ^ 64;
      faults : flat_map (spec.section_faults l.self l.track) (spec.sections_of l.self)
          ≡ flat_map (spec.section_faults l.self l.track) later;
      total : spec.capped (l.total + sum_by (spec.listed_count l.self l.track) later) ≡ spec.capped (spec.count_of_track l.self l.track);
    }
