-- The effective values of an MPD for each Representation, without bounds and without errors.
use Rattle.std.specs.Prelude.{ℕ, List, [], ◌∷◌, ◌++◌, map, codes, Option, Some, None, unwrap_or}
use Rattle.bridge_io.specs.{declared.media.Kind.Kind, declared.media.Kind.TheVariants.Video, declared.media.Size.Size}
use Rattle.mpd_values.specs.MediaTypes.{kind_of}
use Rattle.mpd_tree.specs.Trees.{Head, Element}
use Rattle.mpd_profile.specs.Heads.{is_dynamic, or_else, value_named}
use Rattle.mpd_levels.specs.Readings.{number_named}
use Rattle.mpd_rules.specs.{declared.facts.Facts.Facts, declared.common.Common.Common, declared.rows.Description.Description}
use Rattle.mpd_rules.specs.{declared.rows.TrackRow.TrackRow, declared.rows.PeriodRow.PeriodRow, Kept.{Path, left_out_in, paths_of}}
use Rattle.mpd_rules.specs.{Periods.{Timed, timed_periods}, Readings.{base_reference, duration_named, frame_rate_named, instant_named}}

-- the values of an MPD; an X holds the segment values of a Representation
pub record TypedMpd (X : Type 0) : Type 0 where
  pub facts : Facts
  pub left_out : ℕ
  pub periods : List (PeriodRow X)

abbrev pub facts_of : Head → Facts
facts_of mpd = record {
  live = is_dynamic mpd;
  availability_start = instant_named (codes "availabilityStartTime") mpd;
  publish_time = instant_named (codes "publishTime") mpd;
  depth = duration_named (codes "timeShiftBufferDepth") mpd;
  max_segment = duration_named (codes "maxSegmentDuration") mpd;
}

-- ---- a Representation

abbrev pub kind_by : (common : Option Kind) → (own : Option (List ℕ)) → Option Kind
kind_by common None = common
kind_by common (Some type) = kind_of type

-- the kind of an element's media type, and where it has none, that of its AdaptationSet's
abbrev pub kind_in : (common : Option Kind) → Element → Option Kind
kind_in common e = kind_by common (value_named (codes "mimeType") e.head)

-- width and height, where both are present
abbrev pub both_there : Option ℕ → Option ℕ → Option Size
both_there (Some width) (Some height) = Some (record { width = width; height = height })
both_there (Some width) None = None
both_there None height = None

-- an optional member appended to a list
abbrev pub and_one : {X : Type 0} → List X → Option X → List X
and_one xs None = xs
and_one xs (Some x) = xs ++ x ∷ []

-- the base references of an element: those above it, followed by its first BaseURL
abbrev pub bases_below : List (List ℕ) → Element → List (List ℕ)
bases_below above e = and_one above (base_reference e)

-- what Representations inherit from their AdaptationSet; `above` are the base references above it
abbrev pub common_of : (place : ℕ) → (above : List (List ℕ)) → Element → Common
common_of place above set = record {
  place = place;
  kind = kind_in None set;
  language = value_named (codes "lang") set.head;
  codecs = value_named (codes "codecs") set.head;
  width = number_named (codes "width") set.head;
  height = number_named (codes "height") set.head;
  frame_rate = frame_rate_named set.head;
  bases = bases_below above set;
}

abbrev pub codecs_in : Common → Element → Option (List ℕ)
codecs_in common e = or_else (value_named (codes "codecs") e.head) common.codecs

abbrev pub size_in : Common → Element → Option Size
size_in common e =
    both_there (or_else (number_named (codes "width") e.head) common.width) (or_else (number_named (codes "height") e.head) common.height)

-- The Representation's own value, otherwise that of its AdaptationSet (5.3.7.1). In a valid MPD each has a media type.
abbrev pub description_in : Common → Element → Description
description_in common e = record {
  kind = unwrap_or (kind_in common.kind e) Video;
  set = common.place;
  id = unwrap_or (value_named (codes "id") e.head) [];
  bandwidth = unwrap_or (number_named (codes "bandwidth") e.head) 0;
  language = common.language;
  codecs = codecs_in common e;
  size = size_in common e;
  frame_rate = or_else (frame_rate_named e.head) common.frame_rate;
  bases = bases_below common.bases e;
  place = e.head.place;
}

abbrev pub common_at : Path → Common
common_at path = common_of path.place (bases_below (bases_below [] path.mpd) path.period) path.set

abbrev pub track_in : {X : Type 0} → (List Element → X) → Common → (above : List Element) → Element → TrackRow X
track_in told common above e = record { description = description_in common e; segments = told (e ∷ above) }

-- its segment values come from its levels
abbrev pub track_of : {X : Type 0} → (List Element → X) → Path → TrackRow X
track_of told path = track_in told (common_at path) (path.set ∷ path.period ∷ []) path.representation

-- ---- an MPD

abbrev pub period_of : {X : Type 0} → (List Element → X) → (mpd : Element) → Timed → PeriodRow X
period_of told mpd timed = record {
  id = value_named (codes "id") timed.period.head;
  bounds = timed.bounds;
  place = timed.period.head.place;
  tracks = map (track_of told) (paths_of mpd timed.period);
}

abbrev pub values_with : {X : Type 0} → (List Element → X) → Element → TypedMpd X
values_with told mpd = record {
  facts = facts_of mpd.head;
  left_out = left_out_in mpd;
  periods = map (period_of told mpd) (timed_periods mpd);
}

-- ---- the same with other types for segments

abbrev pub track_with : {X Y : Type 0} → (X → Y) → TrackRow X → TrackRow Y
track_with f track = record { description = track.description; segments = f track.segments }

abbrev pub period_with : {X Y : Type 0} → (X → Y) → PeriodRow X → PeriodRow Y
period_with f period = record { id = period.id; bounds = period.bounds; place = period.place; tracks = map (track_with f) period.tracks }

abbrev pub mpd_with : {X Y : Type 0} → (X → Y) → TypedMpd X → TypedMpd Y
mpd_with f mpd = record { facts = mpd.facts; left_out = mpd.left_out; periods = map (period_with f) mpd.periods }
