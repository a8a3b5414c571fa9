-- Checks of a snapshot, rule by rule.
use Rattle.layer_faults.specs.declared.hls.HlsFault.TheVariants as hls
use Rattle.std.specs.Prelude.{ℕ, ◌+◌, ◌-◌, ◌==◌, ◌||◌, nat_eq, nat_lt, Bool, List, [], ◌∷◌, length, map, slice_get, sum_by, if◌then◌else◌}
use Rattle.std.specs.{Prelude.{Option, Some, None, Result, Ok, Err, ℤ, int_lt}, Cmp.Lexicographic.pointwise, List.list_all}
use Rattle.std.specs.Option.{option_eq}
use Rattle.bridge_io.specs.{Answer.and_then, Firsts.first_fault}
use Rattle.hls_media.specs.{declared.media.Media.Media, declared.media.MediaSegment.MediaSegment}
use Rattle.reload_law.specs.{Rules.{end_of, lawful, segments_from}, declared.unlawful.Unlawful.Unlawful as Rule}
use Rattle.reload_law.specs.declared.unlawful.Unlawful.TheVariants.{ThreeTargets}
use Rattle.hls_presentation.specs.Tracks.{Source, segment_faults}
use Rattle.layer_faults.specs.declared.hls.HlsFault.{HlsFault}
use Rattle.layer_faults.specs.declared.live.LiveFault.{LiveFault}
use Rattle.layer_faults.specs.declared.live.LiveFault.TheVariants.{Ended, ClockBack, NoMap, MapChanged}
use Rattle.layer_faults.specs.declared.live.LiveFault.TheVariants.{ZeroDuration, SectionsDiffer, NoTracks, Unlawful, SectionBack, Limit}
use Rattle.hls_follow.specs.{declared.state.Followed.Followed, declared.state.FollowedTrack.FollowedTrack, Faults.refused_if, Times.last_in}

-- ---- the time

-- nothing may follow where every playlist had EXT-X-ENDLIST, nor be earlier than the last accepted snapshot
abbrev pub judged_at : Option Followed → ℤ → Result (Unit {0}) LiveFault
judged_at None now = Ok tt
judged_at (Some former) now =
    if former.mpd.ended then Err Ended else refused_if (int_lt now former.mpd.published) (ClockBack former.mpd.published now)

-- ---- the segments of one track

-- segments have only these three errors
abbrev pub fault_of_track : HlsFault → LiveFault
fault_of_track hls.NoMap = NoMap
fault_of_track hls.MapChanged = MapChanged
fault_of_track fault = ZeroDuration

abbrev pub judged_segments_of : Media → Result (Unit {0}) LiveFault
judged_segments_of media = first_fault (map fault_of_track (segment_faults media))

abbrev pub judged_segments : List Source → Result (Unit {0}) LiveFault
judged_segments [] = Ok tt
judged_segments (s ∷ sources) = and_then (judged_segments_of s.media) (λ _. judged_segments sources)

-- ---- sections

-- the section numbers of segments, after those of a section
abbrev pub sections_behind : Option ℕ → List MediaSegment → List ℕ
sections_behind former [] = []
sections_behind former (s ∷ segments) =
    if option_eq nat_eq former (Some s.section) then sections_behind former segments else s.section ∷ sections_behind
    (Some s.section) segments

abbrev pub sections_of : Media → List ℕ
sections_of media = sections_behind None media.segments

-- those of the first track
abbrev pub sections_in : List Source → List ℕ
sections_in [] = []
sections_in (s ∷ sources) = sections_of s.media

abbrev pub has_sections : List ℕ → Source → Bool
has_sections sections s = pointwise nat_eq sections (sections_of s.media)

-- the section numbers that all tracks have, at least one
abbrev pub common_sections : List Source → Result (List ℕ) LiveFault
common_sections kept =
    if list_all (has_sections (sections_in kept)) kept
    then (if length (sections_in kept) == 0 then Err NoTracks else Ok (sections_in kept))
    else Err SectionsDiffer

-- ---- the previous snapshot

-- each track is checked, with its index and its last playlist
abbrev pub judged_all : (ℕ → Option FollowedTrack → Media → Result (Unit {0}) LiveFault) → List FollowedTrack → (place : ℕ)
    → List Source → Result (Unit {0}) LiveFault
judged_all judge formers place [] = Ok tt
judged_all judge formers place (s ∷ kept) =
    and_then (judge place (slice_get formers place) s.media) (λ _. judged_all judge formers (place + 1) kept)

-- the first rule that is broken, except that on three target durations, which is the last one
abbrev pub reload_told : (track : ℕ) → Result (Unit {0}) Rule → Result (Unit {0}) LiveFault
reload_told track (Ok done) = Ok tt
reload_told track (Err ThreeTargets) = Ok tt
reload_told track (Err rule) = Err (Unlawful track rule)

abbrev pub judged_reload : (track : ℕ) → Option FollowedTrack → Media → Result (Unit {0}) LiveFault
judged_reload track None media = Ok tt
judged_reload track (Some former) media = reload_told track (lawful former.media media)

-- how many sequence numbers are before the end of the previous playlist
abbrev pub known_in : (former new : Media) → ℕ
known_in former new = end_of former - new.sequence

-- the segments after the last sequence number of the previous snapshot
abbrev pub new_segments : Option FollowedTrack → Media → List MediaSegment
new_segments None media = media.segments
new_segments (Some former) media = segments_from (end_of former.media) media

-- the first of them isn't in a section before that of the last segment
abbrev pub section_told : (track : ℕ) → (last first : Option MediaSegment) → Result (Unit {0}) LiveFault
section_told track (Some last) (Some first) = refused_if (nat_lt first.section last.section) (SectionBack track last.section first.section)
section_told track (Some last) None = Ok tt
section_told track None first = Ok tt

abbrev pub judged_section : (track : ℕ) → Option FollowedTrack → Media → Result (Unit {0}) LiveFault
judged_section track None media = Ok tt
judged_section track (Some former) media = section_told track (last_in former.media.segments) (slice_get (new_segments
    (Some former) media) 0)

-- ---- the whole

-- the sections of the tracks, or the first error of all playlists together and as updates of those before
unfoldable pub judged_updates : List FollowedTrack → List Source → Result (List ℕ) LiveFault
judged_updates formers kept =
    and_then (common_sections kept) (λ sections.
    and_then (judged_all judged_reload formers 0 kept) (λ _.
    and_then (judged_all judged_section formers 0 kept) (λ _. Ok sections)))

abbrev pub count_of : List Source → ℕ
count_of kept = sum_by (λ (s : Source). length s.media.segments) kept

abbrev pub judged_count : (sections : List ℕ) → List Source → Result (Unit {0}) LiveFault
judged_count sections kept = refused_if (nat_lt 500_000 (count_of kept) || nat_lt 1_000 (length sections)) Limit

-- how many segments have sequence numbers above all accepted ones
abbrev pub appended_from : List FollowedTrack → (place : ℕ) → List Source → ℕ
appended_from formers place [] = 0
appended_from formers place (s ∷ kept) = length (new_segments (slice_get formers place) s.media) + appended_from formers (place + 1) kept
