-- Segments that were made.
use Rattle.std.specs.Prelude.{ℕ, ◌+◌, ℤ, pos, ◌+ℤ◌, List, map}
use Rattle.exact_time.specs.Time.{Time}
use Rattle.url_parts.specs.declared.address.Part.{Part}
use Rattle.timeline.specs.Listed.{Made as Listed}
use Rattle.live_meaning.specs.Segments.{Kept, Numbering, whole_nanos}
use Rattle.live_session.specs.declared.made.Made.{Made}
use Rattle.live_judge.specs.Shown.{kept_of}

abbrev pub made_kept : Made → Kept
made_kept m = kept_of m.item m.fact

abbrev pub all_made : List Made → List Kept
all_made made = map made_kept made

-- the date of a segment: by availabilityStartTime, the start of its Period, and its start in that
abbrev pub date_of : (availability_start : ℤ) → (period_start : ℕ) → Time → ℤ
date_of availability_start period_start start = (availability_start +ℤ pos period_start) +ℤ whole_nanos start

-- a segment that was made, with its printed duration, in the Period with an index
abbrev pub kept_as : Numbering → (place period_start : ℕ) → (map : Part) → Listed → (duration : ℕ) → Kept
kept_as n place period_start map made duration = record {
  segment = record {
    value = record {
      place = place;
      period_start = period_start;
      part = made.part;
      map = map;
      number = made.times.number;
      date = date_of n.availability_start period_start made.times.start;
    };
    section = place + n.resets;
    start = made.times.start;
    end = made.times.end;
  };
  duration = duration;
}
