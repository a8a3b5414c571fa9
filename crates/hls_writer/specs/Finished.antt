-- The media playlist of a track of a VOD presentation.
use Rattle.std.specs.Prelude.{ℕ, ◌+◌, ◌*◌, ◌/◌, ◌%◌, ◌^◌, nat_le, max, if◌then◌else◌, List, [], map, Option, None, Result}
use Rattle.std.specs.{Prelude.{Ok, Err}, List.flat_map}
use Rattle.std.specs.Option.{option_map_or}
use Rattle.std.specs.Prelude.{Bool, false, ◌∷◌, slice_get, Some}
use Rattle.bridge_io.specs.declared.media.Kind.TheVariants.{Text}
use Rattle.track_hints.specs.declared.hints.Hints.{Hints}
use Rattle.url_parts.specs.declared.address.Part.{Part}
use Rattle.timeline.specs.{declared.fault.ListFault.ListFault, Expansions.{SegmentTimeline, Timing}, Listed.part_of_timing}
use Rattle.presentation.specs.{declared.parts.Content.Content, Presented.{Presented, content_at, listed_at}, Counting.sections_of}
use Rattle.presentation.specs.{Printing.{PrintedTiming, printed_timings}, Verifying.longest_of}
use Rattle.presentation.specs.{declared.track.Track.Track, Order.is_of}
use Rattle.url_parts.specs.Spelling.{PlaylistPlace}
use Rattle.hls_writer.specs.{Playlists.{Item, finished_text}, Spelled.spelled_items, declared.finished.Targets.Targets}
use Rattle.hls_writer.specs.declared.finished.Targets.TheVariants.{Own, Shared}

-- the part of a segment that has a URL
abbrev pub part_or_none : Result Part ListFault → Part
part_or_none (Ok part) = part
part_or_none (Err fault) = record { address = []; range = None }

-- a segment of a section, with its printed duration
abbrev pub item_of : (part initialization : Part) → (section duration : ℕ) → Item
item_of part initialization section duration = record {
  part = part;
  map = initialization;
  duration = duration;
  section = section;
  date = None;
}

abbrev pub item_at : SegmentTimeline → (initialization : Part) → (section : ℕ) → PrintedTiming → Item
item_at timeline initialization section x = item_of (part_or_none (part_of_timing timeline x.times)) initialization section x.duration

abbrev pub items_at : SegmentTimeline → (initialization : Part) → (section : ℕ) → List PrintedTiming → List Item
items_at timeline initialization section xs = map (item_at timeline initialization section) xs

abbrev pub content_items : (unit section : ℕ) → List Timing → Content → List Item
content_items unit section listed content = items_at content.runs content.initialization section (printed_timings unit listed)

-- the segments of a track in a section
abbrev pub section_items : Presented → (unit track section : ℕ) → List Item
section_items p unit track section = option_map_or (content_items unit section (listed_at p section track)) (content_at p section track) []

-- the segments of a track
abbrev pub track_items : Presented → (unit track : ℕ) → List Item
track_items p unit track = flat_map (section_items p unit track) (sections_of p)

-- a duration, rounded to the nearest second, halves up, and at least 1 (RFC 8216, 4.3.3.1)
abbrev pub rounded : (unit units : ℕ) → ℕ
rounded unit units = if nat_le unit (2 * (units % unit)) then units / unit + 1 else units / unit

abbrev pub target_of : (unit units : ℕ) → ℕ
target_of unit units = max 1 (rounded unit units)

-- the text of a track's playlist at a place, with a target duration
abbrev pub track_text : Option PlaylistPlace → Presented → (digits track target : ℕ) → List ℕ
track_text place p digits track target = finished_text target digits (spelled_items place (track_items p (10 ^ digits) track))

-- what the target durations are: for players, video and audio share one
abbrev pub targets_of : Option Hints → Targets
targets_of None = Own
targets_of (Some hints) = Shared

-- a track's own target
abbrev pub own_target : Presented → (unit track : ℕ) → ℕ
own_target p unit track = target_of unit (longest_of p unit track)

abbrev pub with_target : (own : ℕ → ℕ) → (most place : ℕ) → Track → ℕ
with_target own most place track = if is_of Text track.kind then most else max most (own place)

-- the greatest target of the video and audio tracks, from an index on
abbrev pub greatest_from : (own : ℕ → ℕ) → (most place : ℕ) → List Track → ℕ
greatest_from own most place [] = most
greatest_from own most place (track ∷ later) = greatest_from own (with_target own most place track) (place + 1) later

abbrev pub shared_target : Presented → (unit : ℕ) → ℕ
shared_target p unit = greatest_from (own_target p unit) 0 0 p.tracks

abbrev pub is_text : List Track → ℕ → Bool
is_text tracks place = option_map_or (λ track. is_of Text track.kind) (slice_get tracks place) false

-- that one, but a text track keeps its own
abbrev pub shared_target_of : Presented → (unit track : ℕ) → ℕ
shared_target_of p unit track = if is_text p.tracks track then own_target p unit track else shared_target p unit

-- The target of a track: its own, or where these are shared, that of the video and audio tracks.
abbrev pub target_in : Targets → Presented → (unit track : ℕ) → ℕ
target_in Own p unit track = own_target p unit track
target_in Shared p unit track = shared_target_of p unit track

-- the text of a track's playlist at a place, whose durations have a number of digits
unfoldable pub media_text : Option PlaylistPlace → Targets → Presented → (digits track : ℕ) → List ℕ
media_text place targets p digits track = track_text place p digits track (target_in targets p (10 ^ digits) track)
