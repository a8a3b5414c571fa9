-- Numbers of a level's segment elements are within the bounds of each attribute: reading with the bound gives the same as
-- reading without it.
use Rattle.std.specs.Prelude.{◌≡◌, ℕ, ◌^◌, List, All, codes, IfSome, Option, option_and_then}
use Rattle.mpd_values.specs.Numbers.{number_between, signed_64_of}
use Rattle.mpd_tree.specs.Trees.{Head, Element}
use Rattle.mpd_profile.specs.Heads.{value_named}
use Rattle.mpd_levels.specs.{Readings.{number_named, signed_named, child_named, children_named}, Levels.{template_name, list_name}}

abbrev pub number_within : (least bound : ℕ) → List ℕ → Head → Option ℕ
number_within least bound name head = option_and_then (number_between least bound) (value_named name head)

-- a missing attribute fits, too
abbrev pub FitsBetween : (least bound : ℕ) → List ℕ → Head → Type 0
FitsBetween least bound name head = number_within least bound name head ≡ number_named name head

pub record FitsNumbers (head : Head) : Type 0 where
  pub timescale : FitsBetween 1 (2 ^ 32) (codes "timescale") head
  pub duration : FitsBetween 0 (2 ^ 63) (codes "duration") head
  pub start_number : FitsBetween 0 (2 ^ 63) (codes "startNumber") head
  pub time_offset : FitsBetween 0 (2 ^ 63) (codes "presentationTimeOffset") head

-- an S
pub record FitsRun (s : Element) : Type 0 where
  pub t : FitsBetween 0 (2 ^ 63) (codes "t") s.head
  pub d : FitsBetween 0 (2 ^ 63) (codes "d") s.head
  pub r : option_and_then signed_64_of (value_named (codes "r") s.head) ≡ signed_named (codes "r") s.head

abbrev pub FitsTimeline : Element → Type 0
FitsTimeline timeline = All FitsRun (children_named (codes "S") timeline)

-- a SegmentTemplate or a SegmentList
pub record FitsSegments (e : Element) : Type 0 where
  pub numbers : FitsNumbers e.head
  pub timeline : IfSome (child_named (codes "SegmentTimeline") e) FitsTimeline

-- a Period, an AdaptationSet or a Representation
pub record FitsLevel (level : Element) : Type 0 where
  pub template : IfSome (child_named template_name level) FitsSegments
  pub list : IfSome (child_named list_name level) FitsSegments
