-- The value of a `Presentation`, and its invariant.
use Rattle.std.specs.Prelude.{◌≡◌, ℕ, map, List, length, All, Option, None, Some, option_map}
use Rattle.presentation.specs.{declared.presentation.Presentation.TheInside.Inside, Presented.{Presented, following_of}}
use Rattle.presentation.specs.{Presented.{IsEnded, AreFilled}, declared.segments.Behind.Behind, Printing.{PrintedRest, PrintedTiming}}
use Rattle.presentation.specs.Printing.{begin_of, with_durations, ends_of}
use Rattle.exact_time.specs.{Tick.time_of, Time.difference, Floor.floor_in, Rounding.{Rounding, rounding_behind, rounding_from, total}}
use Rattle.exact_time.specs.Rounding.{differences, IsRising, AreNear}
use Rattle.timeline.specs.{Expansions.Timing, Listed.Rest}

abbrev pub presented : Inside → Presented
presented p = record {
  tracks = p.tracks;
  sections = p.sections;
  contents = p.contents;
  left_out = p.left_out;
  following = option_map following_of p.following;
  places = p.places.items;
}

-- There is one content for each section and track, and its end is known where the presentation is VOD.
pub record IsKept (p : Inside) : Type 0 where
  pub filled : AreFilled (length p.sections) (length p.tracks) (length p.contents)
  pub ended : p.following ≡ None → All IsEnded p.contents

-- the durations of the segments that are left
abbrev pub durations_behind : Rounding → List Timing → List ℕ
durations_behind r xs = differences (total r) (map (λ x. floor_in r.unit (difference x.end r.first)) xs)

abbrev pub printed_left : List Timing → Rounding → List PrintedTiming
printed_left xs r = with_durations xs (durations_behind r xs)

abbrev pub printed_rest : Rest → Rounding → PrintedRest
printed_rest rest r = record { timeline = rest.timeline; left = printed_left rest.left r }

-- their ends are valid arguments for the rounder in turn
pub record ArePacedBehind (xs : List Timing) (r : Rounding) : Type 0 where
  pub rising : IsRising r.former (ends_of xs)
  pub near : AreNear r.former (ends_of xs)

abbrev pub IsPaced : Rest → Rounding → Type 0
IsPaced rest r = ArePacedBehind rest.left r

-- where the rounder begins or continues
abbrev pub rounding_at : Option Behind → ℕ → List Timing → Rounding
rounding_at None unit xs = rounding_from (begin_of xs) unit
rounding_at (Some behind) unit xs = rounding_behind (time_of behind.first) unit (time_of behind.former)
