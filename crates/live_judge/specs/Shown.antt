-- The value of a session as a state.
use Rattle.std.specs.{Prelude.{ℕ, ◌-◌, List, [], ◌∷◌, length, map, slice_get, Option, option_map, unwrap_or}, Option.option_map_or}
use Rattle.exact_time.specs.{Time.Time, Tick.time_of}
use Rattle.url_parts.specs.declared.address.Part.{Part}
use Rattle.hls_writer.specs.declared.items.MediaItem.{MediaItem}
use Rattle.presentation.specs.Presented.{Presented, looked_at}
use Rattle.followed.specs.Durations.{Last}
use Rattle.live_meaning.specs.{Segments.Kept, Histories.Common, States.{State, Track}}
use Rattle.live_judge.specs.{declared.track.Fact.Fact, declared.track.LastKept.LastKept, declared.track.LiveTrack.LiveTrack}
use Rattle.live_judge.specs.declared.standing.Standing.{Standing}

-- ---- a track

abbrev pub part_of : MediaItem → Part
part_of item = record { address = item.address; range = item.range }

-- a kept segment, by its playlist item and what else is stored of it
abbrev pub kept_of : MediaItem → Fact → Kept
kept_of item fact = record {
  segment = record {
    value = record {
      place = fact.place;
      period_start = fact.period_start;
      part = part_of item;
      map = item.map;
      number = fact.span.number;
      date = item.date;
    };
    section = item.section;
    start = time_of fact.span.start;
    end = time_of fact.span.end;
  };
  duration = item.duration;
}

abbrev pub kepts_of : List MediaItem → List Fact → List Kept
kepts_of [] facts = []
kepts_of (item ∷ items) [] = []
kepts_of (item ∷ items) (fact ∷ facts) = kept_of item fact ∷ kepts_of items facts

abbrev pub last_kept : List Kept → Option Kept
last_kept kept = slice_get kept (length kept - 1)

-- the last one that was listed is the last kept one
abbrev pub last_from : (first : Time) → Kept → Last
last_from first k = record { section = k.segment.section; first = first; end = k.segment.end }

abbrev pub track_of : (first : ℕ) → (begin : Time) → List Kept → Track
track_of first begin kept = record {
  kept = kept;
  first = first;
  last = option_map (last_from begin) (last_kept kept);
  place = option_map_or (λ k. k.segment.value.place) (last_kept kept) 0;
}

abbrev pub track_shown : LiveTrack → Track
track_shown track = track_of track.first (time_of track.begin) (kepts_of track.items.items track.facts.items)

abbrev pub last_of : LastKept → Last
last_of last = record { section = last.section; first = time_of last.begin; end = time_of last.end }

-- ---- the state without the tracks

-- the presentation in force, at the time of the last update
abbrev pub in_force : Standing → Presented
in_force s = looked_at s.instant (unwrap_or s.newest s.opened)

abbrev pub common_shown : Standing → Common
common_shown s = record {
  terms = record { url = s.base; digits = s.digits };
  opened = s.opened;
  force = in_force s;
  published = s.published;
  known = s.known;
  resets = s.resets;
  target = s.target;
  instant = s.instant;
  accepted = s.accepted;
}

abbrev pub state_shown : Standing → List LiveTrack → State
state_shown s tracks = record { common = common_shown s; tracks = map track_shown tracks }
