-- Two times of segments at one place.
use Rattle.std.specs.Prelude.{◌^◌, Bool}
use Rattle.exact_time.specs.Time.{before}
use Rattle.presentation.specs.Counting.{capped}
use Rattle.differences.specs.{declared.apart.Gap.Gap, declared.deviation.Apart.Apart, declared.times.Times.Times}
use Rattle.differences.specs.{declared.times.Tolerance.Tolerance}
use Rattle.comparison.specs.Elapsed.{stretch_of}
use Rattle.differences.specs.Sizes.{is_alike, size_of}

abbrev pub gap_of : Times → Gap
gap_of times = record {
  later = before (stretch_of times.mine) (stretch_of times.theirs);
  size = size_of (stretch_of times.mine) (stretch_of times.theirs);
}

abbrev pub are_alike : Tolerance → Times → Bool
are_alike tolerance times = is_alike tolerance.within (10 ^ tolerance.digits) (stretch_of times.mine) (stretch_of times.theirs)

abbrev pub capped_apart : Gap → Apart
capped_apart gap = record { later = gap.later; nanoseconds = capped gap.size }
