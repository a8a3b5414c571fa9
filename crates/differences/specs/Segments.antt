-- What differs of the segments of a track in a section, added to what was found before.
use Rattle.meaning.specs.declared.difference.Aspect.TheVariants as aspect
use Rattle.std.specs.Prelude.{◌^◌, List, Option}
use Rattle.exact_time.specs.{declared.tick.Tick.Tick, Tick.time_of, Time.difference}
use Rattle.meaning.specs.{Differences.in_entry, Meanings.{Entry, Segment}}
use Rattle.comparison.specs.declared.spot.Spot.{Spot}
use Rattle.differences.specs.declared.{collected.Collected.Collected, segments.Begins.Begins}
use Rattle.differences.specs.declared.{times.Times.Times, times.Tolerance.Tolerance}
use Rattle.differences.specs.Collecting.{noted}
use Rattle.differences.specs.Deviating.{deviation, end_apart, entry_deviations, entry_greatest, segment_deviations, segments_deviations}
use Rattle.differences.specs.{Deviating.{segments_greatest, times_apart, unless}, Sizes.is_alike}

abbrev pub times_since : Begins → (mine theirs : Tick) → Times
times_since begins mine theirs = record {
  mine = record { begin = begins.mine; end = mine };
  theirs = record { begin = begins.theirs; end = theirs };
}

module _ (begins : Begins) (at : Spot) (c : Collected) where
  abbrev pub time_noted : (a b : Segment) → Collected
  time_noted a b = noted c (unless (is_alike begins.tolerance.within (10 ^ begins.tolerance.digits)
      (difference a.end (time_of begins.mine)) (difference b.end (time_of begins.theirs)))
      (deviation (in_entry at.track at.section at.segment aspect.Time) (times_apart (time_of begins.mine) (time_of begins.theirs) a b)))
      (end_apart (time_of begins.mine) (time_of begins.theirs) a b)

  abbrev pub segment_noted : (a b : Segment) → Collected
  segment_noted a b = noted c (segment_deviations begins.tolerance.within (10 ^ begins.tolerance.digits)
      (in_entry at.track at.section at.segment) (time_of begins.mine) (time_of begins.theirs) a b)
      (end_apart (time_of begins.mine) (time_of begins.theirs) a b)

  abbrev pub noted_from : (xs ys : List Segment) → Collected
  noted_from xs ys = noted c (segments_deviations begins.tolerance.within (10 ^ begins.tolerance.digits) at.track at.section at.segment
      (time_of begins.mine) (time_of begins.theirs) xs ys) (segments_greatest (time_of begins.mine) (time_of begins.theirs) xs ys)

abbrev pub entry_noted : Tolerance → Spot → Collected → (a b : Option Entry) → Collected
entry_noted tolerance spot c a b = noted c (entry_deviations tolerance.within (10 ^ tolerance.digits) spot.track spot.section a b)
    (entry_greatest a b)
