-- An MPD's values, or the first error.
use Rattle.mpd_profile.specs.declared.listed.Addressing.TheVariants as addressing
use Rattle.std.specs.Prelude.{ℕ, ◌+◌, ◌==◌, ◌||◌, not, Bool, true, false, List, [], ◌∷◌, ◌++◌, flat_map, if◌then◌else◌, Option, Some}
use Rattle.std.specs.{Prelude.{None, Result, Ok, Err}, List.list_any}
use Rattle.bridge_io.specs.{declared.media.Kind.Kind, declared.media.Kind.TheVariants.{Video, Audio, Text}, declared.place.Place.Place}
use Rattle.mpd_tree.specs.Trees.{Element}
use Rattle.mpd_profile.specs.declared.fault.RuleFault.{RuleFault}
use Rattle.mpd_profile.specs.{declared.fault.RuleFault.TheVariants.{Missing, Unsupported, IndexNeeded, NoTracks}, Heads.is_dynamic}
use Rattle.mpd_profile.specs.Refusals.{refusals_of}
use Rattle.mpd_levels.specs.{declared.indexed.IndexRow.IndexRow, Segments.{Segments, segments_of, is_incomplete}}
use Rattle.mpd_levels.specs.Indexed.{index_of, lacks_index}
use Rattle.mpd_rules.specs.{declared.rows.TrackRow.TrackRow, declared.rows.PeriodRow.PeriodRow}
use Rattle.mpd_rules.specs.{Kept.{Path, levels_of, paths_of, periods_of}, Periods.period_refusals, Typed.{TypedMpd, values_with}}

-- ---- Representations, in document order

-- a Period after another one, where that isn't supported
abbrev pub second_told : (many : Bool) → (place : ℕ) → (period : Element) → List RuleFault
second_told many place period = if many || (place == 0) then [] else Unsupported period.head.place ∷ []

-- a dynamic MPD, where that isn't supported
abbrev pub static_told : (many : Bool) → (mpd : Element) → List RuleFault
static_told many mpd = if many || not (is_dynamic mpd.head) then [] else Unsupported mpd.head.place ∷ []

-- `place` is the index of the first of these Periods
abbrev pub paths_told : (many : Bool) → (Path → List RuleFault) → (mpd : Element) → (place : ℕ) → List Element → List RuleFault
paths_told many told mpd place [] = []
paths_told many told mpd place (period ∷ periods) =
    second_told many place period ++ (flat_map told (paths_of mpd period) ++ paths_told many told mpd (place + 1) periods)

-- ---- nothing to play

abbrev pub is_played : Kind → Bool
is_played Video = true
is_played Audio = true
is_played Text = false

abbrev pub is_silent : {X : Type 0} → PeriodRow X → Bool
is_silent period = not (list_any (λ (track : TrackRow _). is_played track.description.kind) period.tracks)

abbrev pub silence_told : {X : Type 0} → PeriodRow X → List RuleFault
silence_told period = if is_silent period then NoTracks period.place ∷ [] else []

-- no Period, or one without video and audio
abbrev pub silence_in : {X : Type 0} → Place → List (PeriodRow X) → List RuleFault
silence_in place [] = NoTracks place ∷ []
silence_in place (period ∷ periods) = flat_map silence_told (period ∷ periods)

-- ---- segments, one by one

abbrev pub segments_refused : Place → Option Segments → List RuleFault
segments_refused place None = IndexNeeded place ∷ []
segments_refused place (Some segments) = if is_incomplete segments then Missing place ∷ [] else []

abbrev pub refused_at : {X : Type 0} → (Place → Option X → List RuleFault) → (List Element → Option X) → Path → List RuleFault
refused_at refused told path = refused path.representation.head.place (told (levels_of path))

-- an MPD's values, without bounds and errors
unfoldable pub dash_values : Element → TypedMpd (Option Segments)
dash_values mpd = values_with segments_of mpd

-- after those of features and values, each pass in document order
abbrev pub refusals_behind : {X : Type 0} → (many : Bool) → (Place → Option X → List RuleFault) → (List Element → Option X) → Element
    → List RuleFault
refusals_behind many refused told mpd =
    period_refusals mpd
    ++ (static_told many mpd
    ++ (paths_told many (refused_at refused told) mpd 0 (periods_of mpd) ++ silence_in mpd.head.place (values_with told mpd).periods))

-- all errors of an MPD, pass by pass
unfoldable pub all_refusals : Element → List RuleFault
all_refusals mpd = refusals_of addressing.Segments mpd ++ refusals_behind true segments_refused segments_of mpd

-- ---- files with a `sidx`: static MPDs of one Period

abbrev pub index_refused : Place → Option IndexRow → List RuleFault
index_refused place None = Unsupported place ∷ []
index_refused place (Some index) = if lacks_index index then Missing place ∷ [] else []

unfoldable pub index_values : Element → TypedMpd (Option IndexRow)
index_values mpd = values_with index_of mpd

unfoldable pub all_index_refusals : Element → List RuleFault
all_index_refusals mpd = refusals_of addressing.Index mpd ++ refusals_behind false index_refused index_of mpd

-- ---- the first error, otherwise the values

abbrev pub unless_refused : {X : Type 0} → List RuleFault → X → Result X RuleFault
unless_refused [] value = Ok value
unless_refused (fault ∷ faults) value = Err fault

unfoldable pub typed_mpd_of : Element → Result (TypedMpd (Option Segments)) RuleFault
typed_mpd_of mpd = unless_refused (all_refusals mpd) (dash_values mpd)

unfoldable pub indexed_mpd_of : Element → Result (TypedMpd (Option IndexRow)) RuleFault
indexed_mpd_of mpd = unless_refused (all_index_refusals mpd) (index_values mpd)
