-- Worked examples: one track, whose segments continue to an open end from the start of its one Period.
use Rattle.std.specs.Prelude.{◌≡◌, ℕ, ◌*◌, ◌^◌, ℤ, pos, neg_ℤ, List, [], ◌∷◌, ◌++◌, map, true, false, Option, Some, None}
use Rattle.bridge_io.specs.declared.media.Kind.TheVariants.{Video}
use Rattle.exact_time.specs.{Time.Time}
use Rattle.timeline.specs.{declared.names.Names.TheVariants.Addresses, Expansions.{Closed, Endless, Extent, Member}}
use Rattle.timeline.specs.Expansions.{Timing, repeated}
use Rattle.url_parts.specs.declared.address.Part.{Part}
use Rattle.presentation.specs.{declared.parts.Content.Content, declared.track.Section.Section, declared.track.Track.Track as Described}
use Rattle.presentation.specs.Presented.{Following, Presented}
use Rattle.live_meaning.specs.{Updates.{Refresh, Reset, Terms, Tick, Values}, Histories.{begun_common, begun_with, common_with}}
use Rattle.live_meaning.specs.{States.{State, shown, state_with}, Segments.whole_nanos, Known.goes_on, Removal.target_of}
use Rattle.live_meaning.specs.Refusals.{ClockBack, Ended, LongSegment, Moved, NotOpen, Older, Rewritten, Step, Window, long_told}
use Rattle.live_meaning.specs.Refusals.{moved_told, older_than, refusal_behind, refusal_of, rewritten_told, steps_told, window_told}
use Rattle.followed.specs.Places.{last_place}
use Rattle.hls_writer.specs.Finished.{rounded}

abbrev pub second : ℕ → ℤ
second n = pos (n * 10 ^ 9)

abbrev pub at : ℕ → Time
at n = record { ticks = pos n; scale = 1 }

abbrev pub timing : (start end number : ℕ) → Timing
timing start end number = record { start = at start; end = at end; number = number }

abbrev pub part : Part
part = record { address = []; range = None }

abbrev pub lasting : ℕ → Extent
lasting n = record { start = at 0; end = at n }

abbrev pub content : List Member → Content
content members = record {
  initialization = part;
  runs = record { members = members; ticks = 1; origin = 0; offset = 0; first_number = 1; names = Addresses [] };
}

abbrev pub video : Described
video = record { kind = Video; set = 0; language = None; codecs = None; bandwidth = 1000; size = None; frame_rate = None }

abbrev pub period : (start : ℕ) → Section
period start = record { id = 112 ∷ []; start = start; length = None }

abbrev pub presented : (start : ℕ) → List Member → Option Following → Presented
presented start members following = record {
  tracks = video ∷ [];
  sections = period start ∷ [];
  contents = content members ∷ [];
  left_out = 0;
  following = following;
  places = [];
}

-- with segments as long as the first one and a depth, at a time
abbrev pub live_by : Extent → (depth now : ℕ) → Presented
live_by x depth now =
    presented 0 (Endless x ∷ []) (Some (record { instant = second now; availability_start = pos 0; depth = Some (depth * 10 ^ 9) }))

abbrev pub live : (lasts depth now : ℕ) → Presented
live lasts depth now = live_by (lasting lasts) depth now

-- thirteen segments of 2 s that never change
abbrev pub finished : Presented
finished = presented 0 (map Closed (repeated 13 (lasting 2))) None

abbrev pub mpd : Values
mpd = record {
  facts = record { live = true; availability_start = Some (pos 0); publish_time = None; depth = None; max_segment = None };
  left_out = 0;
  periods = [];
}

-- the first MPD, and each update with the presentation that is then in force
abbrev pub first_by : (digits : ℕ) → Presented → (now : ℕ) → State
first_by digits p now = shown (begun_with (begun_common (record { url = []; digits = digits }) mpd (second now) p))

abbrev pub first : (depth now : ℕ) → State
first depth now = first_by 6 (live 2 depth now) now

abbrev pub tick : (depth now : ℕ) → State → State
tick depth now s = state_with s (Tick (second now)) (live 2 depth now)

abbrev pub reset : (depth now : ℕ) → State → State
reset depth now s = state_with s (Reset mpd (second now)) (live 2 depth now)

-- for each track the first kept segment's index, and the sections and numbers of the kept ones
abbrev pub kept : State → List (ℕ × List (ℕ × ℕ))
kept s = map (λ track. (track.first, map (λ k. (k.segment.section, k.segment.value.number)) track.kept)) s.tracks

-- when the kept ones begin
abbrev pub dates : State → List (List ℤ)
dates s = map (λ track. map (λ k. k.segment.value.date) track.kept) s.tracks

-- segments of one section with these numbers
abbrev pub of : (section : ℕ) → List ℕ → List (ℕ × ℕ)
of section numbers = map (λ n. (section, n)) numbers

abbrev pub old : State
old = first 12 20

-- a target of three seconds, of which nine are the last five of eight; known ids from an index on, and new ones after them; a time that
-- is rounded down; a track that would keep too many; 4.5 s above a target of 4 s, and a microsecond less that isn't
abbrev pub SmallValues : Type 0
SmallValues =
    (target_of 1000000 2000000 None ≡ 3)
    × (last_place 9000000 (2000000 ∷ 2000000 ∷ 2000000 ∷ 2000000 ∷ 2000000 ∷ 2000000 ∷ 2000000 ∷ 2000000 ∷ []) ≡ 3)
    × (goes_on ((1 ∷ []) ∷ (2 ∷ []) ∷ []) ((2 ∷ []) ∷ (3 ∷ []) ∷ []) ≡ true)
    × (goes_on ((1 ∷ []) ∷ (2 ∷ []) ∷ []) ((3 ∷ []) ∷ []) ≡ true)
    × (goes_on ((1 ∷ []) ∷ (2 ∷ []) ∷ []) ((1 ∷ []) ∷ (3 ∷ []) ∷ []) ≡ false)
    × (whole_nanos (record { ticks = pos 1; scale = 3 }) ≡ pos 333333333)
    × (whole_nanos (record { ticks = neg_ℤ (pos 1); scale = 3 }) ≡ neg_ℤ (pos 333333334))
    × (window_told (20001 ∷ []) ≡ Window 0 20001 ∷ [])
    × (rounded 1000000 4500000 ≡ 5)
    × (rounded 1000000 4499999 ≡ 4)

-- neither a tick nor a reset may come first; an update that is rejected for what it changes makes no segment
abbrev pub NotFirst : Type 0
NotFirst = (terms : Terms) (now : ℤ) → (refusal_behind terms None (Tick now) ≡ Some NotOpen)
    × (refusal_behind terms None (Reset mpd now) ≡ Some NotOpen)

-- 12 s of depth, at 20 s and 24 s
abbrev pub Slides : Type 0
Slides =
    (old.common.target ≡ 3)
    × (kept old ≡ (0, of 0 (5 ∷ 6 ∷ 7 ∷ 8 ∷ 9 ∷ 10 ∷ [])) ∷ [])
    × (kept (tick 12 24 old) ≡ (2, of 0 (7 ∷ 8 ∷ 9 ∷ 10 ∷ 11 ∷ 12 ∷ [])) ∷ [])
    × (dates (tick 12 24 old) ≡ map second (12 ∷ 14 ∷ 16 ∷ 18 ∷ 20 ∷ 22 ∷ []) ∷ [])

-- 4 s of depth, at 20 s, 24 s and 28 s: three target durations are kept
abbrev pub Stays : Type 0
Stays =
    (kept (tick 4 24 (first 4 20)) ≡ (0, of 0 (9 ∷ 10 ∷ 11 ∷ 12 ∷ [])) ∷ [])
    × (kept (tick 4 28 (tick 4 24 (first 4 20))) ≡ (1, of 0 (10 ∷ 11 ∷ 12 ∷ 13 ∷ 14 ∷ [])) ∷ [])

-- Segments of five thirds of a second, in tenths. The third one is the first one at 22 s, and is printed as it was when two were
-- before it.
abbrev pub thirds : Extent
thirds = record { start = record { ticks = pos 0; scale = 3 }; end = record { ticks = pos 5; scale = 3 } }

abbrev pub printed : State → List (List ℕ)
printed s = map (λ track. map (λ k. k.duration) track.kept) s.tracks

abbrev pub ThirdsGoOn : Type 0
ThirdsGoOn =
    let begun = first_by 1 (live_by thirds 12 20) 20 in
    (printed begun ≡ (16 ∷ 17 ∷ 17 ∷ 16 ∷ 17 ∷ 17 ∷ 16 ∷ 17 ∷ []) ∷ [])
    × (printed (state_with begun (Tick (second 22)) (live_by thirds 12 22)) ≡ (17 ∷ 16 ∷ 17 ∷ 17 ∷ 16 ∷ 17 ∷ 17 ∷ []) ∷ [])

-- a change to segments of 3 s, of which the one from 15 s to 18 s differs from the kept one from 18 s to 20 s; segments of 5 s
-- above a target of 3 s; an MPD a minute later, whose segments begin at 48 s
abbrev pub Refused : Type 0
Refused =
    (refusal_of old (Tick (second 19)) ≡ Some (ClockBack (second 20) (second 19)))
    × (rewritten_told old.common (live 3 12 24) 0 old.tracks ≡ Rewritten 0 (Some (timing 18 20 10)) (timing 15 18 6) ∷ [])
    × (long_told (common_with old.common (Refresh mpd (second 25)) (live 5 12 25)) 0 old.tracks ≡ LongSegment 3 5000000 ∷ [])
    × (older_than (Some (second 5)) (Some (second 4)) ≡ Older (second 5) (second 4) ∷ [])
    × (moved_told old.common (presented 1 (Endless (lasting 2) ∷ []) None) ≡ Moved 0 ∷ [])
    × (steps_told (common_with old.common (Refresh mpd (second 60)) (live 2 12 60)) 0 old.tracks ≡ Step 0 (at 20) (at 48) ∷ [])

-- a static MPD at 28 s ends it
abbrev pub last : State
last = state_with (tick 12 24 old) (Refresh mpd (second 28)) finished

abbrev pub Ends : Type 0
Ends =
    (kept last ≡ (2, of 0 (7 ∷ 8 ∷ 9 ∷ 10 ∷ 11 ∷ 12 ∷ 13 ∷ [])) ∷ [])
    × (refusal_of last (Tick (second 30)) ≡ Some Ended)

-- Resets a minute later and at 30 s begin a section. One at 60 s counts once, so that an MPD at 62 s continues in its
-- section.
abbrev pub BeginsAnew : Type 0
BeginsAnew =
    (kept (reset 12 60 old) ≡ (6, of 1 (25 ∷ 26 ∷ 27 ∷ 28 ∷ 29 ∷ 30 ∷ [])) ∷ [])
    × (dates (reset 12 60 old) ≡ map second (48 ∷ 50 ∷ 52 ∷ 54 ∷ 56 ∷ 58 ∷ []) ∷ [])
    × (kept (reset 12 30 old) ≡ (5, (0, 10) ∷ of 1 (11 ∷ 12 ∷ 13 ∷ 14 ∷ 15 ∷ [])) ∷ [])
    × (kept (state_with (reset 4 60 (first 4 20)) (Refresh mpd (second 62)) (live 2 4 62))
    ≡ (0, of 0 (9 ∷ 10 ∷ []) ++ of 1 (29 ∷ 30 ∷ 31 ∷ [])) ∷ [])
