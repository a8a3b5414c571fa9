-- That the segments of what is presented of playlists are counted.
use Rattle.std.proofs.Common.{◌≡◌, ℕ, suc, ◌+◌, ◌*◌, ◌<◌, ◌≤◌, pos, ◌*ℤ◌, true, false, eqb, ltb, not, ◌||◌, List, [], ◌∷◌, ◌++◌, map}
use Rattle.std.proofs.{Common.{get_or, slice_get, length, All, Result, Ok, refl, sym, ◌∙◌, ap, subst, arith}, Math.ListN.get_or-map}
use Rattle.std.proofs.{lemmas.Bool.ne_eqb, lemmas.Bool.Decides.nat_tests, lemmas.Int.ints, lemmas.List.length-map}
use Rattle.std.proofs.{lemmas.List.Elements.{All-filter, All-head, All-map, All-tail, All-weaker}, lemmas.List.Filters.sum_by-filter_both}
use Rattle.std.proofs.{lemmas.List.Folds.list_any_none, lemmas.List.FromFn.{get_or-range_with_len, length-range_with_len}}
use Rattle.std.proofs.{lemmas.List.Sums.sum_by-cons, lemmas.Option.unwrap_or-slice_get}
use Rattle.std.specs.{Prelude.int_lt, List.{list_any, range_with_len, sum_by}, Option.option_map_or}
use Rattle.bridge_io.proofs.AndThen.{steps_of}
use Rattle.bridge_io.specs.declared.place.Place.{Place}
use Rattle.timeline.specs.{declared.fault.TimeFault.TimeFault, Expansions.{Closed, Extent, SegmentTimeline, extents, numbered}}
use Rattle.timeline.specs.Listed.{answered_count, instant_of, listed, reaches_fault}
use Rattle.hls_master.specs.declared.track.MasterTrack.{MasterTrack}
use Rattle.hls_media.specs.{Laws.IsBounded, declared.media.Media.Media, declared.media.MediaSegment.MediaSegment}
use Rattle.presentation.specs.Counting.{count_at, count_faults, count_of_all, count_of_track, counted, faults_of_count, is_long, is_over}
use Rattle.presentation.specs.Counting.{limit_faults, listed_count, number_in, place_at, section_faults, sections_of, track_faults}
use Rattle.presentation.specs.{Counting.{tracks_of, unless_any, whole_track_faults}, declared.parts.Content.Content, Presented.Presented}
use Rattle.presentation.specs.Presented.{of_parts, whole_window}
use Rattle.hls_presentation.specs.Laid.{IsRow, in_row}
use Rattle.hls_presentation.specs.Laws.{PlaylistsAreCounted}
use Rattle.layer_faults.specs.declared.hls.HlsFault.TheVariants.{SectionsDiffer}
use Rattle.hls_presentation.specs.Presenting.{content_of, contents_of, flattened, hls_presented_of, nanos_by_tick, parts_with}
use Rattle.hls_presentation.specs.{Presenting.{presented_from, presented_of_kept, ticks_by_second, track_of}, Sections.all_alike}
use Rattle.hls_presentation.specs.{Sections.{group_at, groups_in, rows_of, section_count, whole_faults}, Tracks.{Source, is_kept, kept}}
use Rattle.hls_presentation.specs.Tracks.{left_out, sources, track_faults as faults_of_tracks}
use Rattle.hls_presentation.proofs.{Came.length_sections, Counting.{flat_at, flat_none, gathered_same, groups_sum, option_at, spread}}
use Rattle.hls_presentation.proofs.{Counting.sum_mapped, Faults.{given, none_given}, Grouping.{IsGroup, all_groups, all_long, one_at}}
use Rattle.hls_presentation.proofs.{Grouping.places_below, Laid.{positive, row}, Only.{media_bounded, no_front, none_if, not_passes}}
use Rattle.hls_presentation.proofs.Rows.{count_rows}

-- ---- a row's segments are all listed

after_start : (t n : ℕ) → 0 < n → int_lt (pos 0 *ℤ pos t) (pos n *ℤ pos 1) ≡ true
after_start t n some = grind (arith, ints, nat_tests)

all_listed : (ticks from number : ℕ) (durations : List ℕ) → All (λ d. 0 < d) durations
    → length (listed whole_window (numbered number (in_row ticks from durations))) ≡ length durations
all_listed ticks from number [] all = refl
all_listed ticks from number (d ∷ durations) all =
    let some : 0 < from + d = omega (arith, All-head (λ d. 0 < d) d durations all) in
    rw (after_start ticks (from + d) some) (ap suc (all_listed ticks (from + d) (number + 1) durations
    (All-tail (λ d. 0 < d) d durations all)))

none_reaches : (timeline : SegmentTimeline) (xs : List Extent) → list_any (reaches_fault timeline whole_window) (map Closed xs) ≡ false
none_reaches timeline [] = refl
none_reaches timeline (x ∷ xs) = none_reaches timeline xs

expanded : (xs : List Extent) → extents (instant_of whole_window) (map Closed xs) ≡ xs
expanded [] = refl
expanded (x ∷ xs) = ap (λ later. x ∷ later) (expanded xs)

row_counted : (scale : ℕ) (runs : SegmentTimeline) (is : IsRow scale runs) → answered_count runs whole_window ≡ Ok (length is.durations)
row_counted scale runs is =
    let xs = in_row scale 0 is.durations in
    let none : list_any (reaches_fault runs whole_window) runs.members ≡ false = ap (list_any (reaches_fault runs whole_window)) is.members
    ∙ none_reaches runs xs in
    let whole : extents (instant_of whole_window) runs.members ≡ xs = ap (extents (instant_of whole_window)) is.members ∙ expanded xs in
    rw (none, whole) (ap Ok (all_listed scale 0 runs.first_number is.durations is.lasting))

counted_content : (nanos : ℕ) → 0 < nanos → (group : List MediaSegment) (content : Content) → content_of nanos group ≡ Ok content
    → answered_count content.runs whole_window ≡ Ok (length group)
counted_content nanos some group content is =
    let r = row nanos some group content is in
    row_counted (ticks_by_second nanos) content.runs r.row ∙ ap Ok r.many

-- ---- the segments of playlists

shorter : (tracks : List MasterTrack) (medias : List Media)
    → sum_by (λ (s : Source). length s.media.segments) (sources tracks medias) ≤ sum_by (λ (media : Media). length media.segments) medias
shorter [] medias = omega arith
shorter (track ∷ tracks) [] = omega arith
shorter (track ∷ tracks) (media ∷ medias) =
    omega (
      arith,
      sum_by-cons (λ (s : Source). length s.media.segments) (record { track = track; media = media }) (sources tracks medias),
      sum_by-cons (λ (media : Media). length media.segments) media medias,
      shorter tracks medias,
    )

some_told : (t s n : ℕ) (place : Place) → 0 < n → faults_of_count true t s place (Ok n) ≡ []
some_told t s n place some =
    let differs : eqb n 0 ≡ false = ne_eqb n 0 (λ is. omega (arith, some, is)) in
    rw differs refl

not_above : (n m : ℕ) → m ≤ n → ltb n m ≡ false
not_above n m h = grind (arith, nat_tests)

IsAny : MediaSegment → Type 0
IsAny s = Unit {0}

abbrev count_of : Content → Result ℕ TimeFault
count_of content = answered_count content.runs whole_window

abbrev count_of_group : List MediaSegment → Result ℕ TimeFault
count_of_group group = Ok (length group)

abbrev size_of : Source → ℕ
size_of s = length s.media.segments

module _ (ours : List Source) (others : ℕ) (contents : List Content)
    (given : contents_of (nanos_by_tick ours) (rows_of (map groups_in ours)) ≡ Ok contents)
    (alike : all_alike (map groups_in ours) ≡ true) (bounded : All (λ (s : Source). IsBounded s.media) ours) where
  abbrev groups : List (List (List MediaSegment))
  groups = map groups_in ours

  abbrev made : Presented
  made = of_parts (parts_with ours others (rows_of groups) contents)

  many_sections : length made.sections ≡ section_count groups
  many_sections = length_sections 0 0 (rows_of groups) ∙ count_rows groups

  many_tracks : length made.tracks ≡ length groups
  many_tracks = length-map ours track_of ∙ sym (length-map ours groups_in)

  counts : map count_of contents ≡ map count_of_group (flattened (rows_of groups))
  counts = gathered_same (content_of (nanos_by_tick ours)) count_of count_of_group (counted_content (nanos_by_tick ours) (positive _))
      (flattened (rows_of groups)) contents given

  count_is : (t s : ℕ) → t < length groups → s < section_count groups → count_at made t s ≡ Ok (length (group_at s (get_or groups t [])))
  count_is t s there here =
      let places = range_with_len 0 (section_count groups) in
      let place : get_or places s 0 ≡ s = get_or-range_with_len 0 (section_count groups) s 0 here ∙ omega arith in
      let within : s < length places = omega (arith, here, length-range_with_len 0 (section_count groups)) in
      ap (λ n. option_map_or count_of (slice_get contents (s * n + t)) (Ok 0)) many_tracks
      ∙ option_at count_of contents (s * length groups + t) (Ok 0)
      ∙ ap (λ xs. get_or xs (s * length groups + t) (Ok 0)) counts
      ∙ get_or-map count_of_group (flattened (rows_of groups)) (s * length groups + t) []
      ∙ ap count_of_group (flat_at groups places s t within there ∙ ap (λ n. group_at n (get_or groups t [])) place)

  -- ---- each of a track's groups has a segment

  some_group : (t s : ℕ) → t < length groups → s < section_count groups → 0 < length (group_at s (get_or groups t []))
  unfolding IsAny
  some_group t s there here =
      let all = All-map (All (IsGroup IsAny)) groups_in ours (λ k d within. all_groups IsAny (get_or ours k d).media.segments
      (λ j e inside. tt)) in
      (one_at (IsGroup IsAny) s (section_count groups) (get_or groups t []) here (all_long groups alike t [] there) (all t [] there)).some

  section_none : (t s : ℕ) → t < length made.tracks → s < length made.sections → section_faults made t s ≡ []
  section_none t s there here =
      let track : t < length groups = omega (arith, there, many_tracks) in
      let section : s < section_count groups = omega (arith, here, many_sections) in
      ap (faults_of_count true t s (place_at made t s)) (count_is t s track section)
      ∙ some_told t s _ (place_at made t s) (some_group t s track section)

  track_none : (t : ℕ) → t < length made.tracks → track_faults made t ≡ []
  track_none t there =
      ap (λ faults. faults ++ whole_track_faults made t) (flat_none (section_faults made t) (sections_of made)
      (All-weaker (λ s. s < length made.sections) (λ s. section_faults made t s ≡ []) (λ s here. section_none t s there here)
      (sections_of made) (places_below (length made.sections))))

  -- ---- how many there are

  track_sum : (t : ℕ) → t < length groups → count_of_track made t ≡ sum_by length (get_or groups t [])
  track_sum t there =
      let track = get_or groups t [] in
      let long : length track ≡ section_count groups = all_long groups alike t [] there in
      ap (λ n. sum_by (listed_count made t) (range_with_len 0 n)) (many_sections ∙ sym long)
      ∙ spread length [] track (listed_count made t) 0 (λ s here.
      (let plain : 0 + s ≡ s = omega arith in
      let section : s < section_count groups = omega (arith, here, long) in
      ap (listed_count made t) plain ∙ ap number_in (count_is t s there section) ∙ ap length (unwrap_or-slice_get track s [])))

  all_sum : count_of_all made ≡ sum_by size_of ours
  all_sum =
      ap (λ n. sum_by (count_of_track made) (range_with_len 0 n)) many_tracks
      ∙ spread (sum_by length) [] groups (count_of_track made) 0 (λ t there. (let plain : 0 + t ≡ t = omega arith in
      ap (count_of_track made) plain ∙ track_sum t there))
      ∙ sum_mapped (sum_by length) size_of groups_in (λ s. groups_sum s.media.segments) ours

  few : All (λ (track : List (List MediaSegment)). sum_by length track ≤ 100000) groups
  few = All-map (λ (track : List (List MediaSegment)). sum_by length track ≤ 100000) groups_in ours (λ k d here.
      (let sum = groups_sum (get_or ours k d).media.segments in
      let bound = (bounded k d here).few in
      omega (arith, sum, bound)))

  not_long : (t : ℕ) → t < length made.tracks → is_long made t ≡ false
  not_long t here =
      let there : t < length groups = omega (arith, here, many_tracks) in
      let sum = track_sum t there in
      let bound = few t [] there in
      not_above 100000 (count_of_track made t) (omega (arith, sum, bound))

  none_long : list_any (is_long made) (tracks_of made) ≡ false
  none_long = list_any_none (is_long made) (tracks_of made)
      (All-weaker (λ t. t < length made.tracks) (λ t. is_long made t ≡ false) not_long (tracks_of made) (places_below (length made.tracks)))

  -- ---- the whole

  module _ (small : sum_by size_of ours ≤ 500000) where
    not_over : is_over made ≡ false
    not_over = ap (λ b. b || ltb 500000 (count_of_all made)) none_long
        ∙ not_above 500000 (count_of_all made) (omega (arith, all_sum, small))

    no_faults : count_faults made ≡ []
    no_faults =
        ap (λ faults. faults ++ limit_faults (is_over made)) (flat_none (track_faults made) (tracks_of made)
        (All-weaker (λ t. t < length made.tracks) (λ t. track_faults made t ≡ []) track_none (tracks_of made)
        (places_below (length made.tracks))))
        ∙ ap limit_faults not_over

    made_counted : counted made ≡ Ok (count_of_all made)
    unfolding counted
    made_counted = ap (λ faults. unless_any faults (count_of_all made)) no_faults

pub playlists_are_counted : PlaylistsAreCounted
unfolding hls_presented_of presented_of_kept presented_from
playlists_are_counted tracks medias p bounded few is =
    let all = sources tracks medias in
    let ours = kept all in
    let groups = map groups_in ours in
    let later = given (faults_of_tracks all) _ p is in
    let whole = none_given (whole_faults groups) _ p later in
    let alike : all_alike groups ≡ true = not_passes _ (none_if (not (all_alike groups)) SectionsDiffer (no_front _ _ whole)) in
    let s = steps_of (contents_of (nanos_by_tick ours) (rows_of groups)) _ p (given (whole_faults groups) _ p later) in
    let same : of_parts (parts_with ours (left_out all) (rows_of groups) s.value) ≡ p = (let h = s.then in cc) in
    let ours_bounded = All-filter is_kept (λ (s : Source). IsBounded s.media) all (media_bounded tracks medias bounded) in
    let fewer = sum_by-filter_both is_kept (λ (s : Source). not (is_kept s)) (λ s. refl) size_of all in
    let small : sum_by size_of ours ≤ 500000 = omega (arith, fewer, shorter tracks medias, few) in
    subst (λ (p : Presented). counted p ≡ Ok (count_of_all p)) same
    (made_counted ours (left_out all) s.value s.first alike ours_bounded small)
