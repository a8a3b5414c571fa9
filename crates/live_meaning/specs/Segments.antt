-- The segments that a followed presentation lists.
use Rattle.std.specs.Prelude.{ℕ, ◌+◌, ℤ, pos, ◌+ℤ◌, ◌*ℤ◌, ◌==◌, ◌&&◌, ◌||◌, nat_lt, Bool, List, [], ◌∷◌, length, map, filter, flat_map}
use Rattle.std.specs.{Prelude.{slice_get, bytes_eq, Option, Some, None, unwrap_or}, List.position, Int.int_div_euclid, Option.option_map_or}
use Rattle.exact_time.specs.Time.{Time, before}
use Rattle.url_parts.specs.declared.address.Part.{Part}
use Rattle.timeline.specs.Expansions.{Timing}
use Rattle.presentation.specs.{declared.parts.Content.Content, Presented.{Presented, content_at, listed_at, start_of}, Counting.sections_of}
use Rattle.presentation.specs.Meanings.{part_meant}
use Rattle.followed.specs.Durations.{Last, Listed, Told}

-- what a listed segment has besides its section and times, as it was listed first
pub record Seen : Type 0 where
  -- its Period's index: that of the Period's id in the order in which ids were first seen
  pub place : ℕ
  -- when its Period begins, in nanoseconds from the presentation's start
  pub period_start : ℕ
  pub part : Part
  -- its init segment
  pub map : Part
  pub number : ℕ
  -- when it begins: nanoseconds since 1970-01-01T00:00:00Z, rounded down
  pub date : ℤ

-- Its section is its Period's index, plus one for each reset up to the update that listed it first. Its times are relative
-- to the Period's start.
abbrev pub Segment : Type 0
Segment = Listed Seen

-- with its printed duration
abbrev pub Kept : Type 0
Kept = Told Seen

abbrev pub timing_of : Segment → Timing
timing_of x = record { start = x.start; end = x.end; number = x.value.number }

abbrev pub times_of : List Segment → List Timing
times_of xs = map timing_of xs

abbrev pub segments_of : List Kept → List Segment
segments_of ts = map (λ t. t.segment) ts

-- a time in whole nanoseconds, rounded down, also a negative one
abbrev pub whole_nanos : Time → ℤ
whole_nanos x = int_div_euclid (x.ticks *ℤ pos 1000000000) (pos x.scale)

-- how the segments of an update are numbered and dated
pub record Numbering : Type 0 where
  -- all ids that were seen, in the order in which they were first seen
  pub ids : List (List ℕ)
  pub resets : ℕ
  pub availability_start : ℤ

abbrev pub place_of : (ids : List (List ℕ)) → (id : List ℕ) → ℕ
place_of ids id = unwrap_or (position (bytes_eq id) ids) (length ids)

abbrev pub id_at : Presented → (section : ℕ) → List ℕ
id_at p s = option_map_or (λ section. section.id) (slice_get p.sections s) []

abbrev pub seen_with : Numbering → (place period_start : ℕ) → Content → Timing → Seen
seen_with n place period_start content x = record {
  place = place;
  period_start = period_start;
  part = part_meant content.runs x;
  map = content.initialization;
  number = x.number;
  date = (n.availability_start +ℤ pos period_start) +ℤ whole_nanos x.start;
}

abbrev pub segment_with : Numbering → (place period_start : ℕ) → Content → Timing → Segment
segment_with n place period_start content x =
    record { value = seen_with n place period_start content x; section = place + n.resets; start = x.start; end = x.end }

-- the listed segments of a track in a Period, and in all Periods
abbrev pub listed_in_period : Numbering → Presented → (track section : ℕ) → List Segment
listed_in_period n p t s =
    option_map_or (λ content. map (segment_with n (place_of n.ids (id_at p s)) (start_of p s) content) (listed_at p s t))
    (content_at p s t) []

abbrev pub listed_of : Numbering → Presented → (track : ℕ) → List Segment
listed_of n p t = flat_map (listed_in_period n p t) (sections_of p)

-- the Period's index of the last one; the argument where there is none
abbrev pub place_behind : (place : ℕ) → List Segment → ℕ
place_behind place [] = place
place_behind place (x ∷ xs) = place_behind x.value.place xs

-- in a later Period than the last one's, or in the same one with a later end
abbrev pub is_later : Last → (last_place place : ℕ) → (end : Time) → Bool
is_later last last_place place end = nat_lt last_place place || last_place == place && before last.end end

-- those after the last one that was listed before, which has this Period's index; all where there was none
abbrev pub behind : (last : Option Last) → (place : ℕ) → List Segment → List Segment
behind None place xs = xs
behind (Some last) place xs = filter (λ x. is_later last place x.value.place x.end) xs
