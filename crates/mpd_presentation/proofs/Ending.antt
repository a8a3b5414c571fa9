-- What is told of an MPD fills the sections, and ends where it isn't followed.
use Rattle.std.proofs.Common.{◌≡◌, ℕ, suc, ◌*◌, Bool, true, false, ◌&&◌, List, [], ◌∷◌, ◌++◌, map, flat_map, length, get_or, All, Option}
use Rattle.std.proofs.Common.{Some, None, Result, Ok, Err, ℤ, refl, sym, ◌∙◌, ap, subst, arith}
use Rattle.std.proofs.lemmas.List.Elements.{All-map, All-nil, All-cons}
use Rattle.std.specs.Prelude.{if◌then◌else◌, is_some, IfSome}
use Rattle.mpd_rules.specs.{Typed.{TypedMpd, period_with, track_with}, declared.rows.Description.Description}
use Rattle.mpd_rules.specs.{declared.rows.PeriodRow.PeriodRow, declared.rows.TrackRow.TrackRow, Held.{Keyed, keyed}}
use Rattle.presentation.specs.{Counting.{refusal, unless_any}, declared.fault.PresentationFault.PresentationFault}
use Rattle.presentation.specs.{declared.parts.Content.Content, Presented.IsEnded}
use Rattle.mpd_presentation.specs.{declared.shared.Shared.Shared, declared.told.PeriodContent.PeriodContent}
use Rattle.mpd_presentation.specs.{Rows.{Row, Period, are_alike, in_order, is_alike, first_rows}, Scales.scale_of}
use Rattle.mpd_presentation.specs.Shared.{AreOf, AreOfAll, IsShared}
use Rattle.mpd_presentation.specs.Told.{all_told, content_of, differ_told, differs_told, end_of, one_told, over_told, period_told}
use Rattle.mpd_presentation.specs.Told.{presented_if_told, presented_of, needs_now, segments_in, timeline_by, told_before, told_in_order}
use Rattle.mpd_presentation.specs.Told.{told_of, base_of, init_of, initialization_of, media_of, runs_of}
use Rattle.bridge_io.specs.Answer.{gathered, and_then}
use Rattle.presentation.proofs.{Printing.if_some, Filling.{all_gathered, all_in_order, length_gathered, length_in_order, ok_under}}
use Rattle.bridge_io.proofs.AndThen.{steps_of}
use Rattle.url_parts.specs.declared.address.Part.{Part}
use Rattle.timeline.specs.{declared.entry.End.End, declared.names.Names.Names, Expansions.{SegmentTimeline, is_open}}
use Rattle.timeline.specs.OpenEnds.{TimelinesEnd, DurationsEnd}
use Rattle.mpd_entries.specs.declared.entry.SEntry.{SEntry}
use Rattle.mpd_levels.specs.{declared.addressing.SegmentRow.SegmentRow, declared.tables.Tables.Tables, Segments.Segments}

-- ---- keys

pub of_all : (tables : Tables) (shared : Shared) (rows : List (PeriodRow SegmentRow)) → IsShared tables shared
    → AreOfAll shared (map (period_with (keyed tables)) rows)
of_all tables shared rows is =
    All-map (λ (period : PeriodRow (Keyed SegmentRow)). AreOf shared period.tracks) (period_with (keyed tables)) rows
    (λ k d within. All-map (λ (row : TrackRow (Keyed SegmentRow)). IsShared row.segments.tables shared) (track_with (keyed tables))
    (get_or rows k d).tracks (λ j e inside. is))

-- ---- as many tracks in each Period

and_both : (a b : Bool) → (a && b) ≡ true → b ≡ true
and_both true b is = is
and_both false b is = absurd (cc)

alike_long : (ones others : List Row) → are_alike ones others ≡ true → length ones ≡ length others
alike_long [] [] is = refl
alike_long [] (other ∷ others) is = absurd (cc)
alike_long (one ∷ ones) [] is = absurd (cc)
alike_long (one ∷ ones) (other ∷ others) is = ap suc (alike_long ones others (and_both (is_alike one other) (are_alike ones others) is))

pub none_behind : {X : Type 0} (xs ys : List X) → xs ++ ys ≡ [] → ys ≡ []
none_behind [] ys is = is
none_behind (x ∷ xs) ys is = absurd (cc)

none_first : {X : Type 0} (xs ys : List X) → xs ++ ys ≡ [] → xs ≡ []
none_first [] ys is = refl
none_first (x ∷ xs) ys is = absurd (cc)

holds : (b : Bool) (fault : PresentationFault) → (if b then [] else fault ∷ []) ≡ [] → b ≡ true
holds true fault is = refl
holds false fault is = absurd (cc)

abbrev IsAsLong : List Row → Period → Type 0
IsAsLong first period = length period.tracks ≡ length first

as_long : (first : List Row) (later : List Period) → flat_map (differs_told first) later ≡ [] → All (IsAsLong first) later
as_long first [] is = All-nil (IsAsLong first)
as_long first (period ∷ later) is =
    All-cons (IsAsLong first) period later
    (sym (length_in_order _ period.tracks)
    ∙ sym (alike_long first (in_order period.tracks) (holds _ _ (none_first (differs_told first period) _ is))))
    (as_long first later (none_behind (differs_told first period) _ is))

pub all_as_long : (periods : List Period) → differ_told periods ≡ []
    → All (λ (period : Period). length period.tracks ≡ length (first_rows periods)) periods
all_as_long [] is = All-nil (λ (period : Period). length period.tracks ≡ 0)
all_as_long (first ∷ later) is =
    All-cons (λ (period : Period). length period.tracks ≡ length first.tracks) first later refl
    (λ k d within. as_long (in_order first.tracks) later is k d within ∙ length_in_order _ first.tracks)

module _ (url : List ℕ) (live : Bool) where
  one_long : (end : End) (row : Row) (ys : List PeriodContent) → one_told url live end row ≡ Ok ys → length ys ≡ 1
  one_long end row ys is =
      let s = steps_of (told_of url live end row) _ ys is in
      let same : s.value ∷ [] ≡ ys = (let h = s.then in cc) in
      ap length (sym same)

  period_long : (period : Period) (ys : List PeriodContent) → period_told url live period ≡ Ok ys → length ys ≡ length period.tracks
  period_long period ys is =
      let s = steps_of (gathered (one_told url live (end_of period)) period.tracks) _ ys is in
      let same : told_in_order s.value ≡ ys = (let h = s.then in cc) in
      let rows : length s.value ≡ length period.tracks * 1 = length_gathered (one_told url live (end_of period)) 1 period.tracks
      (λ k d within. one_long (end_of period) (get_or period.tracks k d)) s.value s.first in
      ap length (sym same) ∙ length_in_order _ s.value ∙ omega (arith, rows)

  pub all_filled : (has_now : Bool) (periods : List Period) (tolds : List PeriodContent) → told_before live has_now periods ≡ []
      → all_told url live periods ≡ Ok tolds
      → length tolds ≡ length periods * length (first_rows periods)
  all_filled has_now periods tolds none is =
      let differ : differ_told periods ≡ [] = none_behind (over_told periods) _ (none_behind (needs_now live has_now) _ none) in
      length_gathered (period_told url live) (length (first_rows periods)) periods
      (λ k d within. λ ys told. period_long (get_or periods k d) ys told ∙ all_as_long periods differ k d within) tolds is

-- ---- the segments of each Representation

abbrev with_runs : Part → SegmentTimeline → Result Content PresentationFault
with_runs initialization runs = Ok (record { initialization = initialization; runs = runs })

-- what holds of segments by a timeline or a duration holds of all that is told
module _ (P : SegmentTimeline → Type 0) (live : Bool)
    (each : (timeline : Option (List SEntry)) (s : Segments) (end : End) (names : Names) (runs : SegmentTimeline)
    → timeline_by timeline s live end names ≡ Ok runs → P runs) (url : List ℕ) where
  abbrev Has : PeriodContent → Type 0
  Has told = P told.content.runs

  abbrev with_initialization : End → Description → Segments → (media base : List ℕ) → Part → Result Content PresentationFault
  with_initialization end d s media base initialization = and_then (runs_of live end d s media base) (with_runs initialization)

  abbrev with_base : End → Description → Segments → List ℕ → Option (List ℕ) → List ℕ → Result Content PresentationFault
  with_base end d s media template base = and_then (initialization_of d s template base) (with_initialization end d s media base)

  abbrev with_template : End → Description → Segments → List ℕ → Option (List ℕ) → Result Content PresentationFault
  with_template end d s media template = and_then (base_of url d) (with_base end d s media template)

  abbrev with_media : End → Description → Segments → List ℕ → Result Content PresentationFault
  with_media end d s media = and_then (init_of d.place s) (with_template end d s media)

  content_has : (end : End) (d : Description) (s : Segments) (content : Content) → content_of url live end d s ≡ Ok content → P content.runs
  unfolding content_of
  content_has end d s content is =
      let media = steps_of (media_of d.place s) (with_media end d s) content is in
      let template = steps_of (init_of d.place s) (with_template end d s media.value) content media.then in
      let base = steps_of (base_of url d) (with_base end d s media.value template.value) content template.then in
      let initialization = steps_of (initialization_of d s template.value base.value)
      (with_initialization end d s media.value base.value) content base.then in
      let runs = steps_of (runs_of live end d s media.value base.value) (with_runs initialization.value) content initialization.then in
      let same : runs.value ≡ content.runs = (let h = runs.then in cc) in
      subst P same (each s.timeline s end _ runs.value (ok_under _ _ runs.value runs.first))

  one_has : (end : End) (row : Row) (ys : List PeriodContent) → one_told url live end row ≡ Ok ys → All Has ys
  one_has end row ys is =
      let s = steps_of (told_of url live end row) _ ys is in
      let t = steps_of (content_of url live end row.description (segments_in row)) _ s.value s.first in
      let same : s.value ∷ [] ≡ ys = (let h = s.then in cc) in
      let content : t.value ≡ s.value.content = (let h = t.then in cc) in
      subst (All Has) same (All-cons Has s.value []
      (subst (λ (c : Content). P c.runs) content (content_has end row.description (segments_in row) t.value t.first)) (All-nil Has))

  period_has : (period : Period) (ys : List PeriodContent) → period_told url live period ≡ Ok ys → All Has ys
  period_has period ys is =
      let s = steps_of (gathered (one_told url live (end_of period)) period.tracks) _ ys is in
      let same : told_in_order s.value ≡ ys = (let h = s.then in cc) in
      subst (All Has) same (all_in_order _ Has s.value
      (all_gathered (one_told url live (end_of period)) Has (one_has (end_of period)) period.tracks s.value s.first))

  pub all_have : (periods : List Period) (tolds : List PeriodContent) → all_told url live periods ≡ Ok tolds
      → All (λ (content : Content). P content.runs) (map (λ (told : PeriodContent). told.content) tolds)
  all_have periods tolds is =
      All-map (λ (content : Content). P content.runs) (λ (told : PeriodContent). told.content) tolds
      (all_gathered (period_told url live) Has period_has periods tolds is)

-- ---- ends

module _ (timelines : TimelinesEnd) (durations : DurationsEnd) where
  timeline_ended : (timeline : Option (List SEntry)) (s : Segments) (end : End) (names : Names) (runs : SegmentTimeline)
      → timeline_by timeline s false end names ≡ Ok runs → is_open runs.members ≡ false
  timeline_ended (Some timeline) s end names runs is = timelines timeline end false (scale_of s) names runs is refl
  timeline_ended None s end names runs is = durations _ end false (scale_of s) names runs is refl

  pub all_ended : (url : List ℕ) (live : Bool) (periods : List Period) (tolds : List PeriodContent) → all_told url live periods ≡ Ok tolds
      → live ≡ false → All IsEnded (map (λ (told : PeriodContent). told.content) tolds)
  all_ended url true periods tolds is off = absurd (cc)
  all_ended url false periods tolds is off = all_have (λ runs. is_open runs.members ≡ false) false timeline_ended url periods tolds is

-- ---- what is judged before

module _ (mpd : TypedMpd (Option Segments)) (url : List ℕ) (now : Option ℤ) where
  pub presented_checked : (done : Unit {0}) → unless_any (told_before mpd.facts.live (is_some now) mpd.periods) tt ≡ Ok done
      → presented_of mpd url now ≡ presented_if_told mpd url now
  unfolding presented_of
  presented_checked done is = ap (λ r. and_then r (λ _. presented_if_told mpd url now)) is

  pub presented_refused : (fault : PresentationFault)
      → IfSome (refusal fault) (λ f. unless_any {X = Unit {0}} (told_before mpd.facts.live (is_some now) mpd.periods) tt ≡ Err f)
      → IfSome (refusal fault) (λ f. presented_of mpd url now ≡ Err f)
  unfolding presented_of
  presented_refused fault told = if_some (refusal fault) _ _ (λ f is. ap (λ r. and_then r (λ _. presented_if_told mpd url now)) is) told
