-- The presentation of an MPD, or the first error: ISO/IEC 23009-1, 5.3.
use Rattle.template_ids.specs.declared.fault.TemplateFault.TheVariants as template
use Rattle.url_parts.specs.declared.fault.UrlFault.TheVariants as url
use Rattle.timeline.specs.declared.fault.TimeFault.TheVariants as times
use Rattle.timeline.specs.declared.names.Names.TheVariants as names
use Rattle.std.specs.Prelude.{◌≡◌, ℕ, ℤ, pos, ◌-◌, ◌&&◌, ◌||◌, nat_lt, not, is_some, Bool, false, List, [], ◌∷◌, ◌++◌, length, map, flat_map}
use Rattle.std.specs.Prelude.{if◌then◌else◌, Option, Some, None, option_map, unwrap_or, Result, Ok, Err}
use Rattle.bridge_io.specs.{Answer.{gathered, told_as, and_then}, declared.place.Place.Place}
use Rattle.template_ids.specs.{declared.fault.TemplateFault.TemplateFault, declared.fault.TemplateFault.TheVariants.Unknown}
use Rattle.template_ids.specs.Templates.{template_of, named, uses_number, uses_time}
use Rattle.url_parts.specs.{Addresses.{chain, resolve, IsBase}, declared.address.Part.Part, declared.fault.UrlFault.UrlFault}
use Rattle.timeline.specs.{declared.entry.End.End, declared.entry.End.TheVariants.{At, Unbounded}, declared.fault.TimeFault.TimeFault}
use Rattle.timeline.specs.{declared.names.Names.Names, Expansions.SegmentTimeline, Names.referred}
use Rattle.timeline.specs.SegmentTimelines.{timeline_of_entries, timeline_of_duration}
use Rattle.mpd_entries.specs.declared.entry.SEntry.{SEntry}
use Rattle.mpd_levels.specs.Segments.{Segments}
use Rattle.mpd_rules.specs.{declared.facts.Facts.Facts, declared.rows.Description.Description, Typed.TypedMpd}
use Rattle.presentation.specs.{Meanings.part_with, declared.fault.Spot.TheVariants.At as Standing}
use Rattle.presentation.specs.declared.fault.PresentationFault.{PresentationFault}
use Rattle.presentation.specs.declared.fault.PresentationFault.TheVariants.{PeriodsDiffer, Limit, Url, Template, Timeline, NeedsNow}
use Rattle.presentation.specs.{declared.fault.PresentationFault.TheVariants.Memory, declared.parts.Content.Content}
use Rattle.presentation.specs.{Presented.{Presented, Following}, Counting.unless_any, Order.by_kind}
use Rattle.mpd_presentation.specs.declared.told.PeriodContent.{PeriodContent}
use Rattle.mpd_presentation.specs.{Rows.{Row, Period, in_order, are_alike, track_of, section_of, first_rows}, Scales.scale_of}

-- ---- the content of a Representation in its Period: the faults are Template of `media`, then of `initialization`, then
-- Url of the BaseURLs, then of the init segment, then Timeline, each at the Representation's position

-- a placeholder for missing segment values, which the rules of an MPD reject
abbrev pub untold : Segments
untold = record {
  is_list = false;
  media = None;
  timescale = 1;
  duration = None;
  start_number = 1;
  time_offset = 0;
  timeline = None;
  urls = None;
  init_template = None;
  init_reference = None;
  init_range = None;
  has_initialization = false;
}

abbrev pub segments_in : Row → Segments
segments_in row = unwrap_or row.segments untold

abbrev pub at_template : Place → TemplateFault → PresentationFault
at_template place fault = Template fault place

abbrev pub at_url : Place → UrlFault → PresentationFault
at_url place fault = Url fault (Standing place)

abbrev pub at_times : Place → TimeFault → PresentationFault
at_times place fault = Timeline fault place

-- the same, where out of memory isn't a fault of the Representation
abbrev pub template_told : Place → TemplateFault → PresentationFault
template_told place template.Memory = Memory
template_told place fault = Template fault place

abbrev pub url_told : Place → UrlFault → PresentationFault
url_told place url.Memory = Memory
url_told place fault = Url fault (Standing place)

abbrev pub times_told : Place → TimeFault → PresentationFault
times_told place times.Memory = Memory
times_told place fault = Timeline fault place

-- the template of the segment URLs; a list has none
abbrev pub media_of : Place → Segments → Result (List ℕ) PresentationFault
media_of place s = told_as (at_template place) (template_of (unwrap_or s.media []))

-- the template of an init segment has neither number nor time; this is checked after all faults of the template itself
abbrev pub unless_segments : List ℕ → Result (List ℕ) TemplateFault
unless_segments template = if uses_number template || uses_time template then Err Unknown else Ok template

abbrev pub init_template_of : List ℕ → Result (List ℕ) TemplateFault
init_template_of text = and_then (template_of text) unless_segments

abbrev pub some_init : Option (List ℕ) → Result (Option (List ℕ)) TemplateFault
some_init None = Ok None
some_init (Some text) = and_then (init_template_of text) (λ template. Ok (Some template))

abbrev pub init_of : Place → Segments → Result (Option (List ℕ)) PresentationFault
init_of place s = told_as (at_template place) (some_init s.init_template)

-- the BaseURLs resolved one after another, from the MPD's URL on
abbrev pub base_of : (url : List ℕ) → Description → Result (List ℕ) PresentationFault
base_of url d = told_as (at_url d.place) (chain url d.bases)

abbrev pub init_name : Description → List ℕ → List ℕ
init_name d template = named template (record { id = d.id; bandwidth = d.bandwidth; number = 0; time = 0 })

-- the names by both templates give the same URL against each base
abbrev pub NamesSame : Description → (template short : List ℕ) → Type 0
NamesSame d template short = (base : List ℕ) → IsBase base → resolve base (init_name d short) ≡ resolve base (init_name d template)

-- the reference of the init segment: by the template, otherwise that of the Initialization element
abbrev pub init_reference : Description → Segments → Option (List ℕ) → Option (List ℕ)
init_reference d s None = s.init_reference
init_reference d s (Some template) = Some (init_name d template)

abbrev pub initialization_of : Description → Segments → Option (List ℕ) → (base : List ℕ) → Result Part PresentationFault
initialization_of d s template base =
    and_then (told_as (at_url d.place) (referred base (init_reference d s template))) (λ address. Ok (part_with s.init_range address))

-- ---- times

abbrev pub names_of : Description → Segments → (media base : List ℕ) → Names
names_of d s media base = if s.is_list then names.Shared (unwrap_or s.urls []) base
    else names.Template media d.id d.bandwidth base

-- a timeline takes precedence over a duration
abbrev pub timeline_by : Option (List SEntry) → Segments → (live : Bool) → End → Names → Result SegmentTimeline TimeFault
timeline_by (Some timeline) s live end names = timeline_of_entries timeline end live (scale_of s) names
timeline_by None s live end names = timeline_of_duration (unwrap_or s.duration 0) end live (scale_of s) names

abbrev pub runs_of : (live : Bool) → End → Description → Segments → (media base : List ℕ) → Result SegmentTimeline PresentationFault
runs_of live end d s media base = told_as (at_times d.place) (timeline_by s.timeline s live end (names_of d s media base))

-- ---- the parts

unfoldable pub content_of : (url : List ℕ) → (live : Bool) → End → Description → Segments → Result Content PresentationFault
content_of url live end d s =
    and_then (media_of d.place s) (λ media.
    and_then (init_of d.place s) (λ template.
    and_then (base_of url d) (λ base.
    and_then (initialization_of d s template base) (λ initialization.
    and_then (runs_of live end d s media base) (λ runs. Ok (record { initialization = initialization; runs = runs }))))))

abbrev pub told_of : (url : List ℕ) → (live : Bool) → End → Row → Result PeriodContent PresentationFault
told_of url live end row =
    and_then (content_of url live end row.description (segments_in row))
    (λ content. Ok (record { kind = row.description.kind; content = content; place = row.description.place }))

abbrev pub one_told : (url : List ℕ) → (live : Bool) → End → Row → Result (List PeriodContent) PresentationFault
one_told url live end row = and_then (told_of url live end row) (λ told. Ok (told ∷ []))

-- how long a Period lasts
abbrev pub end_of : Period → End
end_of period = unwrap_or (option_map (λ end. At (end - period.bounds.start)) period.bounds.end) Unbounded

abbrev pub told_in_order : List PeriodContent → List PeriodContent
told_in_order tolds = by_kind (λ (told : PeriodContent). told.kind) tolds

-- errors come in document order, and contents in the order of the tracks
abbrev pub period_told : (url : List ℕ) → (live : Bool) → Period → Result (List PeriodContent) PresentationFault
period_told url live period = and_then (gathered (one_told url live (end_of period)) period.tracks) (λ tolds. Ok (told_in_order tolds))

abbrev pub all_told : (url : List ℕ) → (live : Bool) → List Period → Result (List PeriodContent) PresentationFault
all_told url live periods = gathered (period_told url live) periods

-- ---- checked before: a time where one is needed, the limits, and each Period's tracks

abbrev pub needs_now : (live has_now : Bool) → List PresentationFault
needs_now live has_now = if live && not has_now then NeedsNow ∷ [] else []

-- at most 1,000 Periods, and 200 tracks
abbrev pub is_over : List Period → Bool
is_over periods = nat_lt 1000 (length periods) || nat_lt 200 (length (first_rows periods))

abbrev pub over_told : List Period → List PresentationFault
over_told periods = if is_over periods then Limit ∷ [] else []

abbrev pub differs_told : List Row → Period → List PresentationFault
differs_told first period = if are_alike first (in_order period.tracks) then [] else PeriodsDiffer period.place ∷ []

abbrev pub differ_told : List Period → List PresentationFault
differ_told [] = []
differ_told (first ∷ later) = flat_map (differs_told (in_order first.tracks)) later

abbrev pub told_before : (live has_now : Bool) → List Period → List PresentationFault
told_before live has_now periods = needs_now live has_now ++ (over_told periods ++ differ_told periods)

-- ---- a presentation

-- a dynamic MPD is followed; the rules reject one without availabilityStartTime
abbrev pub following_of : Facts → (now : Option ℤ) → Option Following
following_of facts now = if facts.live
    then Some (record {
      instant = unwrap_or now (pos 0);
      availability_start = unwrap_or facts.availability_start (pos 0);
      depth = facts.depth;
    })
    else None

abbrev pub presented_from : TypedMpd (Option Segments) → (now : Option ℤ) → List Content → List Place → Presented
presented_from mpd now contents places = record {
  tracks = map track_of (in_order (first_rows mpd.periods));
  sections = map section_of mpd.periods;
  contents = contents;
  left_out = mpd.left_out;
  following = following_of mpd.facts now;
  places = places;
}

abbrev pub presented_with : TypedMpd (Option Segments) → (now : Option ℤ) → List PeriodContent → Presented
presented_with mpd now tolds =
    presented_from mpd now (map (λ (told : PeriodContent). told.content) tolds) (map (λ (told : PeriodContent). told.place) tolds)

-- the presentation of all Representations, or the first error of one of them
abbrev pub presented_if_told : TypedMpd (Option Segments) → (url : List ℕ) → (now : Option ℤ) → Result Presented PresentationFault
presented_if_told mpd url now = and_then (all_told url mpd.facts.live mpd.periods) (λ tolds. Ok (presented_with mpd now tolds))

-- the presentation of an MPD at a URL, at a time where it is followed, or the first error
unfoldable pub presented_of : TypedMpd (Option Segments) → (url : List ℕ) → (now : Option ℤ) → Result Presented PresentationFault
presented_of mpd url now =
    and_then (unless_any {X = Unit {0}} (told_before mpd.facts.live (is_some now) mpd.periods) tt) (λ _. presented_if_told mpd url now)
