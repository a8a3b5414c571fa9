use Rattle.std.proofs.Common.{◌≡◌, ◌+◌, ◌-◌, ◌^◌, ◌<◌, ◌||◌, length, flat_map, sum_by}
use Rattle.std.specs.List.{range_with_len, list_any}
use Rattle.presentation.specs.Counting as spec
use Rattle.presentation.proofs.presentation.Presentation.count.Given as goal

-- the tracks before this one have no fault, and their segments are counted
abbrev pub invariant-loop-track : goal.invariant-loop-track
invariant-loop-track l =
    let later = range_with_len l.track (length l.self.tracks - l.track) in
    record {
      small : l.tally.total < 2 ^ 64;
      faults : flat_map (spec.track_faults l.self) (spec.tracks_of l.self) ≡ flat_map (spec.track_faults l.self) later;
      total : spec.capped (l.tally.total + sum_by (spec.count_of_track l.self) later) ≡ spec.capped (spec.count_of_all l.self);
      over : (l.tally.is_over || list_any (spec.is_long l.self) later) ≡ list_any (spec.is_long l.self) (spec.tracks_of l.self);
    }
