-- Values within the bounds of each attribute: reading with the bound gives the same as reading without it.
use Rattle.std.specs.{Prelude.{◌≡◌, ℕ, List, codes}, List.All}
use Rattle.mpd_tree.specs.Trees.{Head, Element}
use Rattle.mpd_levels.specs.{Fits.FitsLevel, Readings.number_named}
use Rattle.mpd_rules.specs.Kept.{periods_of, representations_of, sets_of}
use Rattle.mpd_rules.specs.Readings.{duration_named, duration_within_named, frame_rate_named, frame_rate_within_named}
use Rattle.mpd_rules.specs.Readings.{number_within_named}

-- a missing attribute fits, too
abbrev pub FitsDuration : List ℕ → Head → Type 0
FitsDuration name head = duration_within_named name head ≡ duration_named name head

abbrev pub FitsNumber : List ℕ → Head → Type 0
FitsNumber name head = number_within_named name head ≡ number_named name head

-- what an AdaptationSet and its Representations may both have
pub record FitsCommon (head : Head) : Type 0 where
  pub width : FitsNumber (codes "width") head
  pub height : FitsNumber (codes "height") head
  pub frame_rate : frame_rate_within_named head ≡ frame_rate_named head

pub record FitsTrack (e : Element) : Type 0 where
  pub bandwidth : FitsNumber (codes "bandwidth") e.head
  pub common : FitsCommon e.head
  pub level : FitsLevel e

pub record FitsSet (e : Element) : Type 0 where
  pub common : FitsCommon e.head
  pub level : FitsLevel e
  pub tracks : All FitsTrack (representations_of e)

pub record FitsPeriod (e : Element) : Type 0 where
  pub start : FitsDuration (codes "start") e.head
  pub duration : FitsDuration (codes "duration") e.head
  pub level : FitsLevel e
  pub sets : All FitsSet (sets_of e)

pub record FitsMpd (e : Element) : Type 0 where
  pub total : FitsDuration (codes "mediaPresentationDuration") e.head
  pub depth : FitsDuration (codes "timeShiftBufferDepth") e.head
  pub max_segment : FitsDuration (codes "maxSegmentDuration") e.head
  pub periods : All FitsPeriod (periods_of e)
