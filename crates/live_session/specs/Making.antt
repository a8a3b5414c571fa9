-- What holds for segments as they are made one by one.
use Rattle.std.specs.Prelude.{◌≡◌, ◌⊎◌, ℕ, ◌+◌, ◌-◌, ◌^◌, ◌<◌, ◌≤◌, pos, neg_ℤ, ◌==◌, All, List, [], ◌∷◌, ◌++◌, length, map, slice_get, sum}
use Rattle.std.specs.Prelude.{option_map, Option, Some, None, IfSome, Result, Ok, Err, MatchOption, MatchResult, IsSome, if◌then◌else◌}
use Rattle.bridge_io.specs.Firsts.{first_of}
use Rattle.exact_time.specs.{Time.{IsAtMost, IsTime, Time, seconds}, declared.tick.Tick.Tick}
use Rattle.iso_time.specs.Instant.{IsWritable}
use Rattle.url_parts.specs.declared.address.Part.{Part}
use Rattle.timeline.specs.{declared.fault.ListFault.ListFault, Listed.part_of_timing, Names.list_refusal, Expansions.Timing}
use Rattle.followed.specs.Durations.{Last, last_behind, told_behind}
use Rattle.presentation.specs.{declared.fault.PresentationFault.PresentationFault, declared.segments.Behind.Behind, Counting.refusal}
use Rattle.presentation.specs.{Presented.{content_at, listed_at, start_of}, Printing.{GoesOn, IsAtEnd, PrintedRest}}
use Rattle.live_meaning.specs.{Segments.{Kept, Segment, id_at, place_of, segments_of}, Known.ids_of, Histories.Common}
use Rattle.live_meaning.specs.{Histories.availability_start_of, States.{Track, new_count}, Refusals.urls_told}
use Rattle.live_judge.specs.{declared.fault.RefreshFault.RefreshFault, declared.track.LastKept.LastKept, declared.track.LiveTrack.LiveTrack}
use Rattle.live_judge.specs.{Faults.told, Shown.track_shown}
use Rattle.live_session.specs.{declared.made.Made.Made, declared.made.MadeTrack.MadeTrack, declared.maker.Maker.Maker}
use Rattle.live_session.specs.{declared.maker.Section.Section, Growth.{grown, tracks_grown}, Kept.AreSideBySide, Written.IsDated}
use Rattle.live_session.specs.{Made.{all_made, kept_as, made_kept}, New.{IsBegun, joins, later_listed, left_to_make, new_all, new_in}}
use Rattle.live_session.specs.{New.{numbers_of, shown_by, track_at}, Sessions.CountsRefused}

-- ---- where a section begins

abbrev pub first_section : (k : ℕ) → Option LastKept → ℕ
first_section k None = 0
first_section k (Some l) = l.place - k

abbrev pub end_in : (place : ℕ) → Option LastKept → Option Tick
end_in place None = None
end_in place (Some l) = if l.place == place then Some l.end else None

abbrev pub behind_in : (number : ℕ) → Option LastKept → Option Behind
behind_in number None = None
behind_in number (Some l) = if l.section == number then Some (record { first = l.begin; former = l.end }) else None

-- a start from which a date can be computed: at most 1,000,000 s before its Period's start, and at most 10^11 s after it
pub record IsNear (start : Time) : Type 0 where
  pub is : IsTime start
  pub low : IsAtMost (record { ticks = neg_ℤ (pos 1000000); scale = 1 }) start
  pub high : IsAtMost start (seconds 100000000000)

abbrev pub number_of : Maker → (section : ℕ) → ℕ
number_of m s = m.place + s + m.resets

-- the durations of a section's new segments continue after the last one, where it is in that section
abbrev pub GoesOnIn : Maker → (section track : ℕ) → Option LastKept → Type 0
GoesOnIn m s t last = IfSome (behind_in (number_of m s) last) (λ b.
    (end_in (m.place + s) last ≡ Some b.former) × GoesOn (listed_at (shown_by m) s t) b)

pub record IsSection (m : Maker) (s t : ℕ) (last : Option LastKept) (section : Section) : Type 0 where
  pub runs : option_map (λ content. content.runs) (content_at (shown_by m) s t) ≡ Some section.segments.timeline
  pub left : section.segments
      ≡ left_to_make (behind_in (number_of m s) last) (10 ^ m.digits) section.segments.timeline
      (later_listed (end_in (m.place + s) last) (listed_at (shown_by m) s t))
  pub count : section.count ≡ length (later_listed (end_in (m.place + s) last) (listed_at (shown_by m) s t))
  pub before : section.before ≡ length (listed_at (shown_by m) s t) - section.count

-- ---- one segment

-- the next segment was made
pub record IsKeptNext (m : Maker) (s : ℕ) (map : Part) (old new : PrintedRest) (before after : ℕ) (made : Made) : Type 0 where
  pub times : Timing
  pub duration : ℕ
  pub part : Part
  pub next : old.left ≡ record { times = times; duration = duration } ∷ new.left
  pub has : part_of_timing old.timeline times ≡ Ok part
  pub kept : made_kept made
      ≡ kept_as (numbers_of m) (m.place + s) (start_of (shown_by m) s) map (record { part = part; times = times }) duration
  pub writable : IsWritable made.item.date
  pub timeline : new.timeline ≡ old.timeline
  pub counted : after ≡ before + 1

-- no segment was left
pub record IsDone (old new : PrintedRest) (before after : ℕ) : Type 0 where
  pub end : IsAtEnd old new
  pub counted : after ≡ before

-- it has no URL, or memory ran out
pub record IsRefused (old : PrintedRest) (before after : ℕ) (fault : ListFault) : Type 0 where
  pub refused : IfSome (list_refusal fault)
      (λ f. IsSome (slice_get old.left 0) × IfSome (slice_get old.left 0) (λ x. part_of_timing old.timeline x.times ≡ Err f))
  pub counted : after ≡ before

abbrev pub IsNextMade : Maker → (s : ℕ) → Part → (old new : PrintedRest) → (before after : ℕ) → Result (Option Made) ListFault → Type 0
IsNextMade m s map old new before after result =
    MatchResult result (λ next. MatchOption next (IsDone old new before after) (IsKeptNext m s map old new before after))
    (IsRefused old before after)

-- ---- those of a section, and of a track

-- New segments were made after others, each with the duration that it has after them. Each has a URL, and its date can be
-- written.
pub record IsMadeBehind (unit : ℕ) (last : Option Last) (new : List Segment) (faults : List PresentationFault) (old made : List Kept)
    (before after : ℕ) : Type 0 where
  pub made_is : made ≡ old ++ told_behind unit (last_behind last (segments_of old)) new
  pub none : faults ≡ []
  pub dates : All IsDated old → All IsDated made
  pub counted : after ≡ before + length new

-- the first fault is returned, unless memory runs out, and at most `most` were made
pub record IsNotMade (faults : List PresentationFault) (most : ℕ) (fault : PresentationFault) (before after : ℕ) : Type 0 where
  pub refused : IfSome (refusal fault) (λ f. slice_get faults 0 ≡ Some f)
  pub least : before ≤ after
  pub most_made : after ≤ before + most

-- a last segment is in a section before that of a number
abbrev pub IsBelow : Option Last → (number : ℕ) → Type 0
IsBelow last number = IfSome last (λ l. l.section < number)

-- The last one so far is the track's, in or before the section, or both are in sections before it.
abbrev pub StandsBefore : (track last : Option Last) → (number : ℕ) → Type 0
StandsBefore track last number = (last ≡ track) ⊎ (IsBelow last number × IsBelow track number)

pub record IsSectionMakeable (m : Maker) (s t : ℕ) (last : Option LastKept) (made : List Kept) : Type 0 where
  pub reached : IfSome last (λ l. l.place ≤ m.place + s)
  pub begun : IsBegun m.resets (track_at last)
  pub near : joins (track_at last).last (new_in (numbers_of m) (shown_by m) m.place (track_at last) t s)
  pub stands : StandsBefore (track_at last).last (last_behind (track_at last).last (segments_of made)) (number_of m s)

pub record IsMakeable (m : Maker) (t : ℕ) (track : LiveTrack) : Type 0 where
  pub paired : AreSideBySide track
  pub begun : IsBegun m.resets (track_shown track)
  pub near : joins (track_shown track).last (new_all (numbers_of m) (shown_by m) m.place (track_shown track) t)

abbrev pub AreMakeable : Maker → List LiveTrack → Type 0
AreMakeable m tracks = (t : ℕ) (track : LiveTrack) → slice_get tracks t ≡ Some track → IsMakeable m t track

-- ---- those of all tracks

abbrev pub all_kept : List MadeTrack → List (List Kept)
all_kept made = map (λ (track : MadeTrack). all_made track.segments.items) made

-- it makes what is new of a presentation in force, whose Periods have the indices from `place` on
pub record IsMakerFor (c : Common) (m : Maker) : Type 0 where
  pub force : shown_by m ≡ c.force
  pub digits : m.digits ≡ c.terms.digits
  pub resets : m.resets ≡ c.resets
  pub start : m.availability_start ≡ availability_start_of c.opened
  pub places : (s : ℕ) → s < length c.force.sections → place_of (ids_of c.known) (id_at c.force s) ≡ m.place + s

-- The new segments of tracks were made, and each has a URL.
pub record AreMade (c : Common) (tracks : List Track) (made : List MadeTrack) (before after : ℕ) : Type 0 where
  pub grown_is : grown tracks (all_kept made) ≡ tracks_grown c 0 tracks
  pub urls : urls_told c c.force 0 tracks ≡ []
  pub numbered : sum (map length (all_kept made)) ≡ new_count c 0 tracks
  pub dates : All (All IsDated) (all_kept made)
  pub counted : after ≡ before + new_count c 0 tracks

-- The first segment without a URL is reported, unless memory runs out.
pub record AreUnmade (c : Common) (tracks : List Track) (fault : RefreshFault) (before after : ℕ) : Type 0 where
  pub refused : IfSome (told fault) (λ refusal. first_of (urls_told c c.force 0 tracks) ≡ Some refusal)
  pub counted : CountsRefused (new_count c 0 tracks) before after fault
