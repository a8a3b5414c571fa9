-- The values of an MPD that matter, where the segments of each Representation are listed.
use Rattle.std.specs.Prelude.{ℕ, ◌+◌, ℤ, Bool, List, [], ◌∷◌, map, Option, Some}
use Rattle.bridge_io.specs.declared.media.Kind.{Kind}
use Rattle.mpd_levels.specs.Segments.{Segments}
use Rattle.mpd_rules.specs.Typed.{TypedMpd}
use Rattle.presentation.specs.declared.track.Track.{Track}
use Rattle.mpd_presentation.specs.Rows.{Period, Row}

-- a Representation (ISO/IEC 23009-1, 5.3.5 and 5.3.9)
pub record ShownTrack : Type 0 where
  pub kind : Kind
  pub language : Option (List ℕ)
  -- the base references
  pub bases : List (List ℕ)
  pub segments : Option Segments

-- a Period (5.3.2), and when it begins, in nanoseconds
pub record ShownPeriod : Type 0 where
  pub id : Option (List ℕ)
  pub start : ℕ
  pub tracks : List ShownTrack

-- the MPD (5.3.1)
pub record Shown : Type 0 where
  pub dynamic : Bool
  pub availability_start : Option ℤ
  pub publish_time : Option ℤ
  pub periods : List ShownPeriod

-- ---- read back

abbrev pub shown_row : Row → ShownTrack
shown_row row = record {
  kind = row.description.kind;
  language = row.description.language;
  bases = row.description.bases;
  segments = row.segments;
}

abbrev pub shown_period : Period → ShownPeriod
shown_period period = record { id = period.id; start = period.bounds.start; tracks = map shown_row period.tracks }

abbrev pub shown_of : TypedMpd (Option Segments) → Shown
shown_of mpd = record {
  dynamic = mpd.facts.live;
  availability_start = mpd.facts.availability_start;
  publish_time = mpd.facts.publish_time;
  periods = map shown_period mpd.periods;
}

-- ---- written

-- tracks from an index on, each with its segment values
abbrev pub shown_tracks : (told : ℕ → Option Segments) → (place : ℕ) → List Track → List ShownTrack
shown_tracks told place [] = []
shown_tracks told place (track ∷ tracks) =
    record { kind = track.kind; language = track.language; bases = []; segments = told place } ∷ shown_tracks told (place + 1) tracks

-- Periods from an index on, with the same tracks
abbrev pub shown_periods : {P : Type 0} → (id : ℕ → P → List ℕ) → (start : P → ℕ) → (told : (section track : ℕ) → Option Segments)
    → List Track → (place : ℕ) → List P → List ShownPeriod
shown_periods id start told tracks place [] = []
shown_periods id start told tracks place (period ∷ periods) =
    record { id = Some (id place period); start = start period; tracks = shown_tracks (told place) 0 tracks }
    ∷ shown_periods id start told tracks (place + 1) periods
