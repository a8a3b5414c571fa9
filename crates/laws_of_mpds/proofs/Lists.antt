-- The elements of written segments are read as they were written.
use Rattle.mpd_levels.specs.Segments as level
use Rattle.std.proofs.Common.{◌≡◌, ℕ, zero, suc, ◌≤◌, ◌==◌, pos, Bool, true, false, List, [], ◌∷◌, ◌++◌, length, map, filter, codes}
use Rattle.std.proofs.Common.{Option, Some, None, if◌then◌else◌, IfSome, option_map, option_and_then, unwrap_or, refl, sym, ◌∙◌, ap, ap₂}
use Rattle.std.proofs.{Common.{subst, arith}, lemmas.List.length-map}
use Rattle.std.specs.{Prelude.decimal, List.AllByRecursion}
use Rattle.bridge_io.specs.declared.place.Place.{Place}
use Rattle.url_parts.specs.{declared.address.Part.Part, declared.range.Range.Range}
use Rattle.mpd_tree.specs.{Trees.Element, Views.side_by_side, Placed.{past, placed}, Markup.{Tag, opening}}
use Rattle.mpd_profile.specs.Heads.{is_named}
use Rattle.mpd_values.specs.Numbers.{signed_of}
use Rattle.mpd_levels.specs.{Segments.segments_of, declared.initialization.Initialization.Initialization}
use Rattle.mpd_levels.specs.declared.values.Attributes.{Attributes}
use Rattle.segment_forms.specs.{declared.form.Form.TheVariants.{Plain, Players}, declared.pattern.Pattern.Pattern}
use Rattle.segment_forms.specs.Media.{doubled, media_of}
use Rattle.dash_writer.specs.{Elements.{Element as Written, in_order, leaf}, Forms.{addresses_of, pattern_in, players_by, template_with}}
use Rattle.dash_writer.specs.{Lists.list_with, Runs.{longest_runs, with_first}, Segments.{duration_of, initialization, joins, part_or_none}}
use Rattle.dash_writer.specs.Segments.{s_element, s_elements, segment_url}
use Rattle.timeline.specs.{Expansions.Timing, Listed.part_of_timing}
use Rattle.laws_of_mpds.specs.Told.{AreNamed, AreReadableTimes, IsReadable, IsShort, ListsAreRead, TimedListsAreRead, list_told}
use Rattle.laws_of_mpds.specs.Told.{players_told}
use Rattle.laws_of_mpds.specs.Told.{read_at, run_told, runs_of, template_told, url_of}
use Rattle.laws_of_mpds.proofs.{Numbers.{number_read, range_read, signed_read}, Patterns.first_low}
use Rattle.laws_of_mpds.proofs.Views.{behind, none_named, nothing_above}

-- ---- an element alone

url_read : (here : Place) (part : Part) → IsReadable part → level.url_of (read_at here (segment_url part)) ≡ url_of part
url_read here part readable = go part.address part.range readable where
  go : (address : List ℕ) (range : Option Range) → IsReadable (record { address = address; range = range })
      → level.url_of (read_at here (segment_url (record { address = address; range = range })))
      ≡ url_of (record { address = address; range = range })
  go address None readable = refl
  go address (Some range) readable = rw (range_read range readable) refl

abbrev pub initialization_of : Part → Initialization
initialization_of part = record { reference = Some part.address; range = part.range }

pub initialization_read : (here : Place) (part : Part) → IsReadable part
    → level.initialization_of (read_at here (initialization part)) ≡ initialization_of part
initialization_read here part readable = go part.address part.range readable where
  go : (address : List ℕ) (range : Option Range) → IsReadable (record { address = address; range = range })
      → level.initialization_of (read_at here (initialization (record { address = address; range = range })))
      ≡ initialization_of (record { address = address; range = range })
  go address None readable = refl
  go address (Some range) readable = rw (range_read range readable) refl

-- how often an S is repeated
repeats_read : (repeats : ℕ) → IsShort repeats
    → unwrap_or (option_and_then signed_of (if repeats == 0 then None else Some (decimal repeats))) (pos 0) ≡ pos repeats
repeats_read zero short = refl
repeats_read (suc repeats) short = let some : (suc repeats == 0) ≡ false = grind arith in rw (some, signed_read (suc repeats) short) refl

run_with : (here : Place) (time : Option ℕ) (duration : ℕ) (repeats : Option (List ℕ)) → IfSome time IsShort → IsShort duration
    → level.run_of (read_at here (leaf (codes "S") ((codes "t", option_map decimal time) ∷ (codes "d", Some (decimal duration)) ∷
    (codes "r", repeats) ∷ [])))
    ≡ record { t = time; d = duration; r = unwrap_or (option_and_then signed_of repeats) (pos 0) }
run_with here None duration None t d = rw (number_read duration d) refl
run_with here None duration (Some text) t d = rw (number_read duration d) refl
run_with here (Some time) duration None t d = rw (number_read time t, number_read duration d) refl
run_with here (Some time) duration (Some text) t d = rw (number_read time t, number_read duration d) refl

run_read : (here : Place) (time : Option ℕ) (duration repeats : ℕ) → IfSome time IsShort → IsShort duration → IsShort repeats
    → level.run_of (read_at here (s_element time duration repeats)) ≡ run_told time duration repeats
run_read here time duration repeats t d r =
    run_with here time duration (if repeats == 0 then None else Some (decimal repeats)) t d
    ∙ ap (λ r. record { t = time; d = duration; r = r }) (repeats_read repeats r)

-- ---- elements one after another

-- those of a name
abbrev pub named_at : List ℕ → Place → List Written → List Element
named_at name here xs = filter (is_named name) (side_by_side (placed here (in_order xs)))

urls_read : (here : Place) (parts : List Part) → AllByRecursion IsReadable parts
    → map level.url_of (named_at (codes "SegmentURL") here (map segment_url parts)) ≡ map url_of parts
urls_read here [] readable = refl
urls_read here (part ∷ parts) readable =
    ap₂ (λ url urls. url ∷ urls) (url_read (past here (codes "\n")) part readable.0) (urls_read (behind here
    (segment_url part)) parts readable.1)

abbrev IsShortRun : ℕ → List ℕ → Type 0
IsShortRun n run = AllByRecursion IsShort run × (length run ≤ n)

runs_read : (here : Place) (n : ℕ) (time : Option ℕ) (runs : List (List ℕ)) → IfSome time IsShort → IsShort n
    → AllByRecursion (IsShortRun n) runs
    → map level.run_of (named_at (codes "S") here (s_elements time runs)) ≡ runs_of time runs
runs_read here n time [] t few short = refl
runs_read here n time ([] ∷ runs) t few short = runs_read here n None runs tt few short.1
runs_read here n time ((d ∷ others) ∷ runs) t few short =
    ap₂ (λ run more. run ∷ more) (run_read (past here (codes "\n")) time d (length others) t short.0.0.0 (omega (arith, short.0.1)))
    (runs_read (behind here (s_element time d (length others))) n None runs tt few short.1)

-- ---- runs of durations that can be written

more_allowed : (n : ℕ) (runs : List (List ℕ)) → AllByRecursion (IsShortRun n) runs → AllByRecursion (IsShortRun (suc n)) runs
more_allowed n [] short = tt
more_allowed n (run ∷ runs) short = ((short.0.0, omega (arith, short.0.1)), more_allowed n runs short.1)

-- whether segments are joined or not
module _ (join : Bool) where
  one_more : (n d : ℕ) (runs : List (List ℕ)) → IsShort d → AllByRecursion (IsShortRun n) runs
      → AllByRecursion (IsShortRun (suc n)) (with_first (joins join) d runs)
  one_more n d [] short all = (((short, tt), omega arith), tt)
  one_more n d ([] ∷ runs) short all = (((short, tt), omega arith), more_allowed n runs all.1)
  one_more n d ((e ∷ run) ∷ runs) short all = go (joins join d e) where
    go : (same : Bool) → AllByRecursion (IsShortRun (suc n)) (if same then (d ∷ e ∷ run) ∷ runs else (d ∷ []) ∷ (e ∷ run) ∷ runs)
    go true = (((short, all.0.0), omega (arith, all.0.1)), more_allowed n runs all.1)
    go false = (((short, tt), omega arith), more_allowed n ((e ∷ run) ∷ runs) all)

  runs_short : (ds : List ℕ) → AllByRecursion IsShort ds → AllByRecursion (IsShortRun (length ds)) (longest_runs (joins join) ds)
  runs_short [] short = tt
  runs_short (d ∷ ds) short = one_more (length ds) d (longest_runs (joins join) ds) short.0 (runs_short ds short.1)

  timeline_read : (here : Place) (first : ℕ) (ds : List ℕ) → IsShort first → AllByRecursion IsShort ds → IsShort (length ds)
      → map level.run_of (named_at (codes "S") here (s_elements (Some first) (longest_runs (joins join) ds)))
      ≡ runs_of (Some first) (longest_runs (joins join) ds)
  timeline_read here first ds begins short few = runs_read here (length ds) (Some first) (longest_runs (joins join) ds) begins few
      (runs_short ds short)

-- ---- the list

module _ (join : Bool) (ticks : ℕ) (offset : Option ℕ) (first : ℕ) (part : Part) (ds : List ℕ) (parts : List Part) where
  abbrev list : Written
  list = list_with join ticks offset first part ds parts

  abbrev list_attributes : Attributes
  list_attributes = record {
    media = None;
    initialization = None;
    timescale = Some ticks;
    duration = None;
    start_number = None;
    time_offset = offset;
  }

  -- its attributes, with the time of the Period's start where it is told
  attributes_read : (here : Place) → IsShort ticks → IfSome offset IsShort
      → level.attributes_in true (read_at here list ∷ []) ≡ list_attributes
  attributes_read here short told = go offset told where
    go : (offset : Option ℕ) → IfSome offset IsShort
        → level.attributes_in true (read_at here (list_with join ticks offset first part ds parts) ∷ [])
        ≡ record { media = None; initialization = None; timescale = Some ticks; duration = None; start_number = None; time_offset = offset }
    go None told = rw (number_read ticks short) refl
    go (Some n) told = rw (number_read ticks short, number_read n told) refl

  -- what a list tells by its parts
  told_with : (values : level.Values) → values.attributes ≡ list_attributes → values.initialization ≡ Some (initialization_of part)
      → values.timeline ≡ Some (runs_of (Some first) (longest_runs (joins join) ds))
      → values.urls ≡ level.if_any (map url_of parts)
      → level.told true values ≡ list_told join ticks (unwrap_or offset 0) first part ds parts
  told_with values attributes initialized timed named = rw (attributes, initialized, timed, named) refl

  -- what a list says, alone
  list_values : (here : Place) → AreReadableTimes ticks offset first part ds parts
      → level.told true (level.values_in true (read_at here list ∷ [])) ≡ list_told join ticks (unwrap_or offset 0) first part ds parts
  list_values here readable =
      told_with (level.values_in true (read_at here list ∷ []))
      (attributes_read here readable.ticks readable.offset)
      (nothing_above _ ∙ ap Some (initialization_read _ part readable.initialization))
      (nothing_above _ ∙ ap Some (timeline_read join _ first ds readable.first readable.durations readable.few))
      (nothing_above _ ∙ ap level.if_any (urls_read _ parts readable.parts))

-- ---- the template

module _ (ticks : ℕ) (offset : Option ℕ) (first : ℕ) (address media : List ℕ) (number : ℕ) (ds : List ℕ) where
  abbrev template : Written
  template = template_with ticks offset first address media number ds

  abbrev template_attributes : Attributes
  template_attributes = record {
    media = Some media;
    initialization = Some (doubled address);
    timescale = Some ticks;
    duration = None;
    start_number = Some number;
    time_offset = offset;
  }

  template_attributes_read : (here : Place) → IsShort ticks → IfSome offset IsShort → IsShort number
      → level.attributes_in false (read_at here template ∷ []) ≡ template_attributes
  template_attributes_read here short told few = go offset told where
    go : (offset : Option ℕ) → IfSome offset IsShort
        → level.attributes_in false (read_at here (template_with ticks offset first address media number ds) ∷ [])
        ≡ record {
          media = Some media;
          initialization = Some (doubled address);
          timescale = Some ticks;
          duration = None;
          start_number = Some number;
          time_offset = offset;
        }
    go None told = rw (number_read ticks short, number_read number few) refl
    go (Some n) told = rw (number_read ticks short, number_read n told, number_read number few) refl

  -- what a template tells by its parts
  template_told_with : (values : level.Values) → values.attributes ≡ template_attributes → values.initialization ≡ None
      → values.timeline ≡ Some (runs_of (Some first) (longest_runs (joins true) ds)) → values.urls ≡ None
      → level.told false values ≡ template_told ticks (unwrap_or offset 0) first address media number ds
  template_told_with values attributes initialized timed named = rw (attributes, initialized, timed, named) refl

  -- what a template says, alone
  template_values : (here : Place) → IsShort ticks → IfSome offset IsShort → IsShort number → IsShort first → AllByRecursion IsShort ds
      → IsShort (length ds)
      → level.told false (level.values_in false (read_at here template ∷ []))
      ≡ template_told ticks (unwrap_or offset 0) first address media number ds
  template_values here short told counted begins durations few =
      template_told_with (level.values_in false (read_at here template ∷ []))
      (template_attributes_read here short told counted) refl
      (nothing_above _ ∙ ap Some (timeline_read true _ first ds begins durations few)) refl

-- ---- levels

module _ (representation set period : Tag) (representations sets : List Written) (a b c : Place)
    (in_set : AreNamed (codes "Representation") representations) (in_period : AreNamed (codes "AdaptationSet") sets) where
  abbrev levels_with : Written → List Element
  levels_with segments =
      read_at a (representation, in_order (segments ∷ [])) ∷ read_at b (set, in_order representations)
      ∷ read_at c (period, in_order sets) ∷ []

  list_in : (join : Bool) (ticks : ℕ) (offset : Option ℕ) (first : ℕ) (part : Part) (ds : List ℕ) (parts : List Part)
      → AreReadableTimes ticks offset first part ds parts
      → segments_of (levels_with (list_with join ticks offset first part ds parts))
      ≡ Some (list_told join ticks (unwrap_or offset 0) first part ds parts)
  unfolding segments_of
  list_in join ticks offset first part ds parts readable =
      rw (
        none_named (codes "Representation") (codes "SegmentList") refl (past b (opening set ++ codes ">")) representations in_set,
        none_named (codes "AdaptationSet") (codes "SegmentList") refl (past c (opening period ++ codes ">")) sets in_period,
        list_values join ticks offset first part ds parts _ readable,
      ) refl

  template_in : (ticks : ℕ) (offset : Option ℕ) (first : ℕ) (part : Part) (ds : List ℕ) (parts : List Part) (media : List ℕ) (number : ℕ)
      → AreReadableTimes ticks offset first part ds parts → IsShort number
      → segments_of (levels_with (template_with ticks offset first part.address media number ds))
      ≡ Some (template_told ticks (unwrap_or offset 0) first part.address media number ds)
  unfolding segments_of
  template_in ticks offset first part ds parts media number readable counted =
      rw (
        none_named (codes "Representation") (codes "SegmentTemplate") refl (past b (opening set ++ codes ">")) representations in_set,
        none_named (codes "AdaptationSet") (codes "SegmentTemplate") refl (past c (opening period ++ codes ">")) sets in_period,
        template_values ticks offset first part.address media number ds _ readable.ticks readable.offset counted readable.first
            readable.durations readable.few,
      ) refl

  players_in : (found : Option Pattern) (ticks : ℕ) (offset : Option ℕ) (first : ℕ) (part : Part) (ds : List ℕ) (parts : List Part)
      → pattern_in part parts ≡ found → AreReadableTimes ticks offset first part ds parts
      → segments_of (levels_with (players_by found ticks offset first part ds parts))
      ≡ Some (players_told found ticks (unwrap_or offset 0) first part ds parts)
  players_in None ticks offset first part ds parts is readable = list_in false ticks offset first part ds parts readable
  players_in (Some p) ticks offset first part ds parts is readable =
      let low = first_low part parts p is in
      template_in ticks offset first part ds parts (media_of (addresses_of parts)) p.first_number readable (omega (arith, low))

pub timed_lists : TimedListsAreRead
timed_lists Plain ticks offset first part ds parts representation set period representations sets a b c readable in_set in_period =
    list_in representation set period representations sets a b c in_set in_period true ticks offset first part ds parts readable
timed_lists Players ticks offset first part ds parts representation set period representations sets a b c readable in_set in_period =
    players_in representation set period representations sets a b c in_set in_period
    (pattern_in part parts) ticks offset first part ds parts
    refl readable

-- ---- those of a timeline

all_mapped : {X Y : Type 0} (P : Y → Type 0) (f : X → Y) (xs : List X) → AllByRecursion (λ x. P (f x)) xs → AllByRecursion P (map f xs)
all_mapped P f [] all = tt
all_mapped P f (x ∷ xs) all = (all.0, all_mapped P f xs all.1)

pub lists_are_read : ListsAreRead
lists_are_read form timeline part listed representation set period representations sets a b c readable in_set in_period =
    let ds = map duration_of listed in
    let part_at : Timing → Part = λ x. part_or_none (part_of_timing timeline x) in
    let times : AreReadableTimes timeline.ticks None 0 part ds (map part_at listed) = record {
      ticks = readable.ticks;
      offset = tt;
      first = omega arith;
      initialization = readable.initialization;
      durations = readable.durations;
      few = subst IsShort (sym (length-map listed duration_of)) readable.few;
      parts = all_mapped IsReadable part_at listed readable.parts;
    } in
    timed_lists form timeline.ticks None 0 part ds (map part_at listed) representation set period representations sets a b c times in_set
    in_period
