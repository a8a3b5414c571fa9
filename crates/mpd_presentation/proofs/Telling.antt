-- The presentation of an MPD means what the MPD means.
use Rattle.std.proofs.Common.{◌≡◌, ℕ, ◌+◌, ◌*◌, ◌<◌, ℤ, Bool, List, [], ◌∷◌, ◌++◌, flat_map, length, map, slice_get, get_or, All, Option}
use Rattle.std.proofs.{Common.{Some, None, option_map, Result, Ok, refl, sym, ◌∙◌, ap, subst, zero-add}, lemmas.Bool.cond-true}
use Rattle.std.proofs.{lemmas.List.length-map, lemmas.List.Concat.{flat_map_single, flat_map-cons}}
use Rattle.std.proofs.{lemmas.List.FromFn.length-map-range_with_len, lemmas.Option.slice_get-map}
use Rattle.std.specs.{Prelude.{is_some, option_and_then}, Option.option_map_or, Result.result_ok}
use Rattle.bridge_io.proofs.AndThen.{steps_of}
use Rattle.meaning.specs.Meanings.{Entry}
use Rattle.timeline.specs.declared.entry.End.{End}
use Rattle.mpd_levels.specs.Segments.{Segments}
use Rattle.mpd_rules.specs.{Rules.{all_refusals, dash_values, typed_mpd_of}, Typed.TypedMpd}
use Rattle.presentation.specs.Presented.{Presented, content_at, start_of, window_at, window_of, whole_window}
use Rattle.presentation.specs.Meanings.{entry_at, entry_of, head_of, meaning_of, meaning_with, row_at, rows_of}
use Rattle.mpd_presentation.specs.declared.told.PeriodContent.{PeriodContent}
use Rattle.mpd_presentation.specs.Rows.{Row, Period, first_rows, in_order, section_of, track_of}
use Rattle.mpd_presentation.specs.Told.{all_told, content_of, differ_told, end_of, following_of, needs_now, one_told, over_told}
use Rattle.mpd_presentation.specs.Told.{period_told, presented_with, segments_in, told_in_order, told_of}
use Rattle.mpd_presentation.specs.Meanings.{content_of_row, are_counted, head_of_row, meaning_if_counted, dash_meaning, mpd_meaning}
use Rattle.mpd_presentation.specs.{Meanings.{row_meant, window_in}, MeaningLaws.{PresentedAreMeant, TextsAreMeant}}
use Rattle.bridge_io.specs.Answer.{gathered}
use Rattle.presentation.proofs.{Allowed.each_at, Filling.length_in_order, Grids.{All-at, by_kind_made, found, in_row, same_members}}
use Rattle.mpd_presentation.proofs.{Countable.{typed_are_counted, values_are}, Ending.{all_as_long, none_behind}, FromMpd.is_told}
use Rattle.mpd_presentation.proofs.MeantContents.{content_is}

-- ---- what is told, Representation by Representation

abbrev told_meant : (url : List ℕ) → End → Row → PeriodContent
told_meant url end row = record { kind = row.description.kind; content = content_of_row url end row; place = row.description.place }

abbrev period_meant : (url : List ℕ) → Period → List PeriodContent
period_meant url period = map (told_meant url (end_of period)) (in_order period.tracks)

gathered_is : {X Y E : Type 0} (give : X → Result (List Y) E) (meant : X → List Y) → ((x : X) (ys : List Y) → give x ≡ Ok ys → ys ≡ meant x)
    → (xs : List X) (zs : List Y) → gathered give xs ≡ Ok zs → zs ≡ flat_map meant xs
gathered_is give meant each [] zs is = (let none : [] ≡ zs = cc in sym none)
gathered_is give meant each (x ∷ xs) zs is =
    let s = steps_of (give x) _ zs is in
    let t = steps_of (gathered give xs) _ zs s.then in
    let same : s.value ++ t.value ≡ zs = (let h = t.then in cc) in
    sym same ∙ ap (λ ys. ys ++ t.value) (each x s.value s.first)
    ∙ ap (λ ys. meant x ++ ys) (gathered_is give meant each xs t.value t.first) ∙ sym (flat_map-cons meant x xs)

module _ (url : List ℕ) (live : Bool) where
  told_is : (end : End) (row : Row) (told : PeriodContent) → told_of url live end row ≡ Ok told → told ≡ told_meant url end row
  told_is end row told is =
      let d = row.description in
      let s = steps_of (content_of url live end d (segments_in row))
      (λ content. Ok (record { kind = d.kind; content = content; place = d.place })) told is in
      let same : record { kind = d.kind; content = s.value; place = d.place } ≡ told = (let h = s.then in cc) in
      sym same ∙ ap (λ content. record { kind = d.kind; content = content; place = d.place })
      (content_is url live end d (segments_in row) s.value s.first)

  one_is : (end : End) (row : Row) (ys : List PeriodContent) → one_told url live end row ≡ Ok ys → ys ≡ told_meant url end row ∷ []
  one_is end row ys is =
      let s = steps_of (told_of url live end row) (λ told. Ok (told ∷ [])) ys is in
      let same : s.value ∷ [] ≡ ys = (let h = s.then in cc) in
      sym same ∙ ap (λ told. told ∷ []) (told_is end row s.value s.first)

  period_is : (period : Period) (ys : List PeriodContent) → period_told url live period ≡ Ok ys → ys ≡ period_meant url period
  period_is period ys is =
      let meant = told_meant url (end_of period) in
      let s = steps_of (gathered (one_told url live (end_of period)) period.tracks) (λ tolds. Ok (told_in_order tolds)) ys is in
      let same : told_in_order s.value ≡ ys = (let h = s.then in cc) in
      sym same
      ∙ ap told_in_order (gathered_is (one_told url live (end_of period)) (λ row. meant row ∷ [])
      (one_is (end_of period)) period.tracks s.value s.first ∙ flat_map_single meant period.tracks)
      ∙ by_kind_made meant (λ (told : PeriodContent). told.kind) period.tracks

  all_is : (periods : List Period) (tolds : List PeriodContent) → all_told url live periods ≡ Ok tolds
      → tolds ≡ flat_map (period_meant url) periods
  all_is periods tolds is = gathered_is (period_told url live) (period_meant url) period_is periods tolds is

-- ---- section by section, track by track

map_twice : {X Y Z : Type 0} (g : Y → Z) (f : X → Y) (xs : List X) → map g (map f xs) ≡ map (λ x. g (f x)) xs
map_twice g f [] = refl
map_twice g f (x ∷ xs) = ap (λ zs. g (f x) ∷ zs) (map_twice g f xs)

module _ (mpd : TypedMpd (Option Segments)) (url : List ℕ) (now : Option ℤ) (tolds : List PeriodContent)
    (told : tolds ≡ flat_map (period_meant url) mpd.periods)
    (alike : All (λ (period : Period). length period.tracks ≡ length (first_rows mpd.periods)) mpd.periods) where
  abbrev p : Presented
  p = presented_with mpd now tolds

  as_many : (period : Period) → length period.tracks ≡ length (first_rows mpd.periods) → length (in_order period.tracks) ≡ length p.tracks
  as_many period same = length_in_order _ period.tracks ∙ same ∙ sym (length-map (in_order (first_rows mpd.periods)) track_of
      ∙ length_in_order _ (first_rows mpd.periods))

  long_rows : All (λ period. length (period_meant url period) ≡ length p.tracks) mpd.periods
  long_rows k d within = let period = get_or mpd.periods k d in length-map (in_order period.tracks) _ ∙ as_many period (alike k d within)

  module _ (s : ℕ) (period : Period) (is : slice_get mpd.periods s ≡ Some period) (same : length period.tracks
      ≡ length (first_rows mpd.periods)) where
    starts : start_of p s ≡ period.bounds.start
    starts = ap (λ o. option_map_or (λ section. section.start) o 0) (slice_get-map section_of mpd.periods s ∙ ap (option_map section_of) is)

    looked : window_of p s ≡ window_in mpd.facts now period
    looked = ap (λ start. option_map_or (λ f. window_at f start) (following_of mpd.facts now) whole_window) starts

    content_there : (t : ℕ) (row : Row) → t < length p.tracks → slice_get (in_order period.tracks) t ≡ Some row
        → content_at p s t ≡ Some (content_of_row url (end_of period) row)
    content_there t row within there =
        slice_get-map (λ (told : PeriodContent). told.content) tolds (s * length p.tracks + t)
        ∙ ap (λ ts. option_map (λ (told : PeriodContent). told.content) (slice_get ts (s * length p.tracks + t))) told
        ∙ ap (option_map (λ (told : PeriodContent). told.content))
        (in_row (period_meant url) (length p.tracks) mpd.periods s t period long_rows is within
        ∙ slice_get-map (told_meant url (end_of period)) (in_order period.tracks) t
        ∙ ap (option_map (told_meant url (end_of period))) there)

    entry_there : (t : ℕ) (row : Row) → t < length p.tracks → slice_get (in_order period.tracks) t ≡ Some row
        → entry_at p s t ≡ entry_of (window_in mpd.facts now period) (content_of_row url (end_of period) row)
    entry_there t row within there =
        ap (option_and_then (entry_of (window_of p s))) (content_there t row within there)
        ∙ ap (λ window. entry_of window (content_of_row url (end_of period) row)) looked

    row_there : row_at p s ≡ row_meant url mpd.facts now period
    row_there =
        let rows = in_order period.tracks in
        let meant : Row → Option Entry = λ row. entry_of (window_in mpd.facts now period) (content_of_row url (end_of period) row) in
        let long : length (row_at p s) ≡ length p.tracks = length-map-range_with_len (entry_at p s) 0 (length p.tracks) in
        same_members (row_at p s) (map meant rows) (long ∙ sym (length-map rows meant ∙ as_many period same))
        (λ t below.
        let within : t < length p.tracks = subst (λ n. t < n) long below in
        let row = found rows t (subst (λ n. t < n) (sym (as_many period same)) within) in
        each_at (entry_at p s) 0 (length p.tracks) t within ∙ ap (λ k. Some (entry_at p s k)) (zero-add t)
        ∙ ap Some (entry_there t row.0 within row.1)
        ∙ sym (slice_get-map meant rows t ∙ ap (option_map meant) row.1))

  rows_there : rows_of p ≡ map (row_meant url mpd.facts now) mpd.periods
  rows_there =
      let meant = row_meant url mpd.facts now in
      let sections : length p.sections ≡ length mpd.periods = length-map mpd.periods section_of in
      let long : length (rows_of p) ≡ length p.sections = length-map-range_with_len (row_at p) 0 (length p.sections) in
      same_members (rows_of p) (map meant mpd.periods) (long ∙ sections ∙ sym (length-map mpd.periods meant))
      (λ s below.
      let within : s < length p.sections = subst (λ n. s < n) long below in
      let period = found mpd.periods s (subst (λ n. s < n) sections within) in
      each_at (row_at p) 0 (length p.sections) s within ∙ ap (λ k. Some (row_at p k)) (zero-add s)
      ∙ ap Some (row_there s period.0 period.1 (All-at (λ (period : Period). length period.tracks
      ≡ length (first_rows mpd.periods)) mpd.periods s period.0 alike period.1))
      ∙ sym (slice_get-map meant mpd.periods s ∙ ap (option_map meant) period.1))

  heads_there : map head_of p.tracks ≡ map head_of_row (in_order (first_rows mpd.periods))
  heads_there = map_twice head_of track_of (in_order (first_rows mpd.periods))

  pub means_that : mpd_meaning mpd url now ≡ meaning_of p
  unfolding mpd_meaning meaning_of
  means_that = sym (ap (λ rows. meaning_with (map head_of p.tracks) rows) rows_there
      ∙ ap (λ heads. meaning_with heads (map (row_meant url mpd.facts now) mpd.periods)) heads_there)

pub presented_are_meant : PresentedAreMeant
presented_are_meant mpd url now p is =
    let told = is_told mpd url now p is in
    let differ : differ_told mpd.periods ≡ [] = none_behind (over_told mpd.periods) _
    (none_behind (needs_now mpd.facts.live (is_some now)) _ told.none) in
    means_that mpd url now told.tolds (all_is url mpd.facts.live mpd.periods told.tolds told.told) (all_as_long mpd.periods differ)
    ∙ ap meaning_of told.is

pub texts_are_meant : TextsAreMeant
unfolding typed_mpd_of dash_meaning
texts_are_meant bytes url now tree mpd p read typed is =
    let values : dash_values tree ≡ mpd = values_are (all_refusals tree) (dash_values tree) mpd typed in
    ap (λ r. option_and_then (λ tree. meaning_if_counted (dash_values tree) url now) (result_ok r)) read
    ∙ ap (λ values. meaning_if_counted values url now) values
    ∙ cond-true (are_counted mpd) (Some (mpd_meaning mpd url now)) None (typed_are_counted tree mpd typed)
    ∙ ap Some (presented_are_meant mpd url now p is)
