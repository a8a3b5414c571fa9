-- Why an update is rejected after a history: the rules in order.
use Rattle.std.specs.Prelude.{ℕ, ◌+◌, ◌-◌, ℤ, Bool, true, false, ◌==◌, ◌&&◌, ◌||◌, not, nat_lt, int_lt, is_some, List, [], ◌∷◌, ◌++◌}
use Rattle.std.specs.Prelude.{length, map, filter, flat_map, reverse, sum, Option, Some, None, option_to_list, if◌then◌else◌, Result, Ok}
use Rattle.std.specs.{Prelude.Err, List.{list_any, last_or}, Option.option_map_or}
use Rattle.bridge_io.specs.Firsts.{first_of}
use Rattle.exact_time.specs.Time.{Time, at_most}
use Rattle.mpd_rules.specs.Laws.{are_once}
use Rattle.timeline.specs.{Expansions.{Extent, Timing}, Faults.is_apart, Listed.expansion}
use Rattle.presentation.specs.{declared.fault.PresentationFault.PresentationFault, declared.fault.PresentationFault.TheVariants.Url}
use Rattle.presentation.specs.{declared.track.Track.Track as Described, Counting.{count_faults, range_faults, sections_of, tracks_of}}
use Rattle.presentation.specs.{Presented.{Presented, content_at, is_finished, listed_at, start_of, window_of}, Order.{is_of, same_language}}
use Rattle.presentation.specs.Verifying.{part_faults, url_faults}
use Rattle.mpd_presentation.specs.Told.{presented_of}
use Rattle.hls_writer.specs.Finished.{rounded}
use Rattle.live_meaning.specs.Updates.{Values, Update, Refresh, Reset, Tick, is_reset, mpd_of, now_of, Terms, unit_of}
use Rattle.live_meaning.specs.Segments.{Kept, Segment, id_at, is_later, place_of, segments_of, times_of}
use Rattle.live_meaning.specs.Known.{Known, all_same, attributes_at, goes_on, ids_of, known_by}
use Rattle.live_meaning.specs.Histories.{Common, availability_start_of, begun_common, begun_with, common_with, force_by}
use Rattle.live_meaning.specs.States.{State, Track, kept_and_new, new_count, new_durations, new_of, removed_from, shown, state_of}
use Rattle.live_meaning.specs.States.{state_with}
use Rattle.followed.specs.Durations.{Last, is_in}

pub data Refusal : Type 0 where
  -- the time of the last update, and the earlier one of this update
  ClockBack : ℤ → ℤ → Refusal
  -- when the MPD in force was published, and when the new one was
  Older : ℤ → ℤ → Refusal
  Changed : Refusal
  -- the index of the Period
  Moved : ℕ → Refusal
  -- the track, the kept segment unless the kept ones ran out, and the new one
  Rewritten : ℕ → Option Timing → Timing → Refusal
  -- the track, where its last segment ends, and where the new one begins
  Step : ℕ → Time → Time → Refusal
  -- the target duration in seconds, and the printed duration in units
  LongSegment : ℕ → ℕ → Refusal
  NotDynamic : Refusal
  Ended : Refusal
  -- the track, and how many segments it would keep; or the track at which all tracks exceed their limit, and their number
  -- of segments so far
  Window : ℕ → ℕ → Refusal
  Presentation : PresentationFault → Refusal
  -- the track, the Period's index of the first track's last segment, and that of its own
  Uneven : ℕ → ℕ → ℕ → Refusal
  -- a tick or a reset before the first MPD
  NotOpen : Refusal

abbrev pub told_if : Bool → Refusal → List Refusal
told_if true refusal = refusal ∷ []
told_if false refusal = []

-- ---- 1, 2: after the end, and back in time

abbrev pub ended_told : Common → List Refusal
ended_told c = told_if (is_finished c.force) Ended

abbrev pub clock_told : Common → (now : ℤ) → List Refusal
clock_told c now = told_if (int_lt now c.instant) (ClockBack c.instant now)

-- ---- 4: an earlier version

abbrev pub older_than : Option ℤ → Option ℤ → List Refusal
older_than None new = []
older_than (Some former) None = []
older_than (Some former) (Some new) = told_if (int_lt new former) (Older former new)

-- ---- 5: what may not change

-- a static MPD need not have availabilityStartTime
abbrev pub starts_otherwise : Common → Values → Bool
starts_otherwise c mpd =
    option_map_or (λ start. int_lt start (availability_start_of c.opened) || int_lt (availability_start_of c.opened) start)
    mpd.facts.availability_start mpd.facts.live

abbrev pub lack_ids : Values → Bool
lack_ids mpd = list_any (λ period. not (is_some period.id)) mpd.periods

abbrev pub ids_in : Presented → List (List ℕ)
ids_in p = map (λ section. section.id) p.sections

abbrev pub is_alike : Described → Described → Bool
is_alike a b = is_of a.kind b.kind && same_language a.language b.language

abbrev pub are_alike : List Described → List Described → Bool
are_alike [] [] = true
are_alike [] (b ∷ bs) = false
are_alike (a ∷ later) [] = false
are_alike (a ∷ later) (b ∷ bs) = is_alike a b && are_alike later bs

-- a known Period with other attributes
abbrev pub differs_at : Common → Presented → (section : ℕ) → Bool
differs_at c p s = option_map_or (λ k. not (all_same k.attributes (attributes_at p s))) (known_by c.known (id_at p s)) false

abbrev pub is_changed : Common → Values → Presented → Bool
is_changed c mpd p =
    starts_otherwise c mpd
    || lack_ids mpd || not (are_once (ids_in p))
    || not (goes_on (ids_of c.known) (ids_in p))
    || not (are_alike c.opened.tracks p.tracks)
    || list_any (differs_at c p) (sections_of p)

-- ---- 6: a known Period that begins at another time

abbrev pub moved_by : Common → Presented → (section : ℕ) → Option Known → List Refusal
moved_by c p s None = []
moved_by c p s (Some k) = told_if (not (k.start == start_of p s)) (Moved (place_of (ids_of c.known) k.id))

abbrev pub moved_told : Common → Presented → List Refusal
moved_told c p = flat_map (λ s. moved_by c p s (known_by c.known (id_at p s))) (sections_of p)

-- ---- 7: kept segments that have other times

-- of the kept segments of a Period those that have the greatest section number
abbrev pub latest_of : (last : Option Segment) → List Segment → List Segment
latest_of None xs = []
latest_of (Some last) xs = filter (is_in last.section) xs

abbrev pub latest_in : (place : ℕ) → List Kept → List Segment
latest_in place kept = let xs = filter (λ x. x.value.place == place) (segments_of kept) in latest_of (last_or None xs) xs

abbrev pub is_same_time : Time → Time → Bool
is_same_time x y = at_most x y && at_most y x

abbrev pub is_same_timing : Timing → Timing → Bool
is_same_timing a b = is_same_time a.start b.start && is_same_time a.end b.end

-- the first pair of kept and new segments that differs, both from the end; there are no more new ones than kept ones
abbrev pub first_other : List Timing → List Timing → Option (Option Timing × Timing)
first_other kept [] = None
first_other [] (new ∷ news) = Some (None, new)
first_other (old ∷ olds) (new ∷ news) = if is_same_timing old new then first_other olds news else Some (Some old, new)

abbrev pub ends_within : Time → Time → Timing → Bool
ends_within first last x = at_most first x.end && at_most x.end last

-- the whole expansion between the first and the last kept end
abbrev pub rewritten_by : (kept : List Timing) → (expansion : List Timing) → Option (Option Timing × Timing)
rewritten_by [] xs = None
rewritten_by (old ∷ olds) xs =
    option_map_or (λ last. first_other (reverse (old ∷ olds)) (reverse (filter (ends_within old.end last.end) xs)))
    (last_or None (old ∷ olds)) None

abbrev pub expansion_at : Presented → (track section : ℕ) → List Timing
expansion_at p t s = option_map_or (λ content. expansion content.runs (window_of p s)) (content_at p s t) []

abbrev pub rewritten_in : Common → Presented → (t : ℕ) → Track → (s : ℕ) → List Refusal
rewritten_in c p t track s =
    map (λ pair. Rewritten t pair.0 pair.1)
    (option_to_list (rewritten_by (times_of (latest_in (place_of (ids_of c.known) (id_at p s)) track.kept)) (expansion_at p t s)))

abbrev pub rewritten_told : Common → Presented → (t : ℕ) → List Track → List Refusal
rewritten_told c p t [] = []
rewritten_told c p t (track ∷ tracks) = flat_map (rewritten_in c p t track) (sections_of p) ++ rewritten_told c p (t + 1) tracks

-- ---- 8: a gap or an overlap after the last segment; before a reset, tracks that are in different Periods

abbrev pub extent_of : Segment → Extent
extent_of x = record { start = x.start; end = x.end }

abbrev pub step_behind : (t : ℕ) → Option Last → List Segment → List Refusal
step_behind t None xs = []
step_behind t (Some last) [] = []
step_behind t (Some last) (x ∷ xs) = told_if (x.section == last.section && is_apart (Some last.end) (extent_of x)) (Step t last.end x.start)

abbrev pub steps_told : Common → (t : ℕ) → List Track → List Refusal
steps_told c t [] = []
steps_told c t (track ∷ tracks) = step_behind t track.last (new_of c t track) ++ steps_told c (t + 1) tracks

abbrev pub uneven_from : (place t : ℕ) → List Track → List Refusal
uneven_from place t [] = []
uneven_from place t (track ∷ tracks) = told_if (not (place == track.place)) (Uneven t place track.place) ++ uneven_from place (t + 1) tracks

abbrev pub uneven_told : List Track → List Refusal
uneven_told [] = []
uneven_told (track ∷ tracks) = uneven_from track.place 1 tracks

abbrev pub joint_told : (is_reset : Bool) → Common → List Track → List Refusal
joint_told true c tracks = uneven_told tracks
joint_told false c tracks = steps_told c 0 tracks

-- ---- 9: segments that are longer than the target duration

abbrev pub long_told : Common → (t : ℕ) → List Track → List Refusal
long_told c t [] = []
long_told c t (track ∷ tracks) =
    map (LongSegment c.target) (filter (λ d. nat_lt c.target (rounded (unit_of c.terms) d)) (new_durations c t track))
    ++ long_told c (t + 1) tracks

-- ---- 10: more segments than may be kept

abbrev pub count_kept : Common → List Kept → ℕ
count_kept c xs = length xs - removed_from c xs

abbrev pub counts_kept : Common → (t : ℕ) → List Track → List ℕ
counts_kept c t [] = []
counts_kept c t (track ∷ tracks) = count_kept c (kept_and_new c t track) ∷ counts_kept c (t + 1) tracks

abbrev pub over_in_track : (t : ℕ) → List ℕ → List Refusal
over_in_track t [] = []
over_in_track t (n ∷ ns) = told_if (nat_lt 20000 n) (Window t n) ++ over_in_track (t + 1) ns

abbrev pub over_in_all : (t total : ℕ) → List ℕ → List Refusal
over_in_all t total [] = []
over_in_all t total (n ∷ ns) = told_if (nat_lt 500000 (total + n)) (Window t (total + n)) ++ over_in_all (t + 1) (total + n) ns

abbrev pub window_told : List ℕ → List Refusal
window_told counts = over_in_track 0 counts ++ over_in_all 0 0 counts

-- ---- 11: a new segment without a URL

abbrev pub is_new_at : Common → Presented → Track → (s : ℕ) → Timing → Bool
is_new_at c p track s x = option_map_or (λ last. is_later last track.place (place_of (ids_of c.known) (id_at p s)) x.end) track.last true

abbrev pub new_at : Common → Presented → Track → (t s : ℕ) → List Timing
new_at c p track t s = filter (is_new_at c p track s) (listed_at p s t)

-- its index is that among the listed segments
abbrev pub urls_in : Common → Presented → (t : ℕ) → Track → (s : ℕ) → List PresentationFault
urls_in c p t track s = let new = new_at c p track t s in
    option_map_or (λ content. part_faults content.runs s t (length (listed_at p s t) - length new) new) (content_at p s t) []

abbrev pub urls_told : Common → Presented → (t : ℕ) → List Track → List Refusal
urls_told c p t [] = []
urls_told c p t (track ∷ tracks) = map Presentation (flat_map (urls_in c p t track) (sections_of p)) ++ urls_told c p (t + 1) tracks

-- ---- all of them

-- those that an MPD itself breaks, by what was accepted before
abbrev pub mpd_told : State → Option Values → Presented → List Refusal
mpd_told s None p = []
mpd_told s (Some mpd) p =
    older_than s.common.published mpd.facts.publish_time
    ++ told_if (is_changed s.common mpd p) Changed
    ++ moved_told s.common p
    ++ rewritten_told s.common p 0 s.tracks

-- those that the result of the update breaks
abbrev pub segments_told : (is_reset : Bool) → Common → List Track → List Refusal
segments_told is_reset c tracks =
    joint_told is_reset c tracks
    ++ long_told c 0 tracks
    ++ window_told (counts_kept c 0 tracks)
    ++ urls_told c c.force 0 tracks

abbrev pub told_with : State → Update → Presented → List Refusal
told_with s u p =
    map Presentation (range_faults p)
    ++ mpd_told s (mpd_of u) p
    ++ segments_told (is_reset u) (common_with s.common u p) s.tracks

abbrev pub told_by : State → Update → Result Presented PresentationFault → List Refusal
told_by s u (Err fault) = Presentation fault ∷ []
told_by s u (Ok p) = told_with s u p

-- all errors of an update of a state
abbrev pub refusals_of : State → Update → List Refusal
refusals_of s u = ended_told s.common ++ clock_told s.common (now_of u) ++ told_by s u (force_by s.common.terms s.common.force u)

-- the first update
abbrev pub counts_listed : Presented → List ℕ
counts_listed p = map (λ t. length (flat_map (λ s. listed_at p s t) (sections_of p))) (tracks_of p)

abbrev pub first_told_with : Values → Presented → List Refusal
first_told_with mpd p =
    map Presentation (count_faults p)
    ++ told_if (not mpd.facts.live) NotDynamic
    ++ window_told (counts_listed p)
    ++ map Presentation (url_faults p)

abbrev pub first_told_by : Values → Result Presented PresentationFault → List Refusal
first_told_by mpd (Err fault) = Presentation fault ∷ []
first_told_by mpd (Ok p) = first_told_with mpd p

abbrev pub first_refusals_of : Terms → Values → (now : ℤ) → List Refusal
first_refusals_of terms mpd now = first_told_by mpd (presented_of mpd terms.url (Some now))

-- why a state rejects an update
unfoldable pub refusal_of : State → Update → Option Refusal
refusal_of s u = first_of (refusals_of s u)

unfoldable pub first_refusal_of : Terms → Values → (now : ℤ) → Option Refusal
first_refusal_of terms mpd now = first_of (first_refusals_of terms mpd now)

-- ---- the state after an update, or why it is rejected

abbrev pub next_with : State → Update → Option Refusal → Result Presented PresentationFault → Result State Refusal
next_with s u (Some refusal) force = Err refusal
next_with s u None (Ok p) = Ok (state_with s u p)
next_with s u None (Err fault) = Err (Presentation fault)

unfoldable pub next_of : State → Update → Result State Refusal
next_of s u = next_with s u (refusal_of s u) (force_by s.common.terms s.common.force u)

abbrev pub begun_by : Terms → Values → (now : ℤ) → Option Refusal → Result Presented PresentationFault → Result State Refusal
begun_by terms mpd now (Some refusal) first = Err refusal
begun_by terms mpd now None (Ok p) = Ok (shown (begun_with (begun_common terms mpd now p)))
begun_by terms mpd now None (Err fault) = Err (Presentation fault)

-- the state after the first MPD
unfoldable pub begun_of : Terms → Values → (now : ℤ) → Result State Refusal
begun_of terms mpd now = begun_by terms mpd now (first_refusal_of terms mpd now) (presented_of mpd terms.url (Some now))

-- ---- how many segments an update appends

-- Segments are made where nothing is rejected, or only the URL of one of them.
abbrev pub is_of_address : PresentationFault → Bool
is_of_address (Url fault spot) = true
is_of_address fault = false

abbrev pub makes_segments : Option Refusal → Bool
makes_segments None = true
makes_segments (Some (Presentation fault)) = is_of_address fault
makes_segments (Some refusal) = false

abbrev pub appended_with : State → Update → Option Refusal → Result Presented PresentationFault → ℕ
appended_with s u refusal (Ok p) = if makes_segments refusal then new_count (common_with s.common u p) 0 s.tracks else 0
appended_with s u refusal (Err fault) = 0

-- those that an accepted update appends, or that an update rejected for a URL was to append; 0 for every other error
unfoldable pub appended_by : State → Update → ℕ
appended_by s u = appended_with s u (refusal_of s u) (force_by s.common.terms s.common.force u)

abbrev pub first_appended_with : Option Refusal → Result Presented PresentationFault → ℕ
first_appended_with refusal (Ok p) = if makes_segments refusal then sum (counts_listed p) else 0
first_appended_with refusal (Err fault) = 0

-- the same for the first MPD
unfoldable pub first_appended_by : Terms → Values → (now : ℤ) → ℕ
first_appended_by terms mpd now = first_appended_with (first_refusal_of terms mpd now) (presented_of mpd terms.url (Some now))

-- ---- a history

-- Why an update is rejected after a history of accepted ones. Only an MPD may come first.
abbrev pub refusal_behind : Terms → Option State → Update → Option Refusal
refusal_behind terms (Some s) u = refusal_of s u
refusal_behind terms None (Refresh mpd now) = first_refusal_of terms mpd now
refusal_behind terms None (Reset mpd now) = Some NotOpen
refusal_behind terms None (Tick now) = Some NotOpen

abbrev pub update_refusal : Terms → (history : List Update) → Update → Option Refusal
update_refusal terms history u = refusal_behind terms (state_of terms history) u
