-- What a presentation of playlists means.
use Rattle.std.proofs.Common.{◌≡◌, ℕ, zero, suc, ◌+◌, ◌*◌, ◌%◌, ◌<◌, ◌||◌, ◌&&◌, inl, inr, Bool, true, false, cond, not, eqb, List, [], ◌∷◌}
use Rattle.std.proofs.Common.{◌++◌, map, filter, get_or, slice_get, length, All, Option, Some, None, option_and_then, is_some, Ok, refl}
use Rattle.std.proofs.{Common.{sym, ◌∙◌, ap, subst, arith}, Math.ListN.get_or-map, lemmas.Bool.{eqb-false, eqb-true}}
use Rattle.std.proofs.{lemmas.List.{length-map, get_or-map as at_map}, lemmas.List.Elements.{All-cons, All-filter, All-head, All-map}}
use Rattle.std.proofs.{lemmas.List.Elements.{All-nil, All-tail, All-weaker}, lemmas.List.FromFn.get_or-range_with_len}
use Rattle.std.proofs.{lemmas.List.FromFn.length-range_with_len, lemmas.Option.unwrap_or-slice_get}
use Rattle.std.specs.List.{list_all, list_any, range_with_len}
use Rattle.bridge_io.proofs.AndThen.{steps_of}
use Rattle.bridge_io.specs.{declared.media.Kind.Kind, declared.media.Kind.TheVariants.{Video, Audio, Text}}
use Rattle.hls_master.specs.declared.track.MasterTrack.{MasterTrack}
use Rattle.hls_media.specs.{Laws.IsBounded, declared.media.Media.Media, declared.media.MediaSegment.MediaSegment}
use Rattle.hls_meaning.specs.Meanings.{Source as Told, meaning_of_kept, meaning_of_sources, meaning_over as meaning_over_told}
use Rattle.hls_meaning.specs.{Meanings.{numbers_among, track_over, is_kept as is_kept_told, is_text as is_text_told}, Sections.is_in}
use Rattle.hls_meaning.specs.Sections.{entry_in as entry_told, entry_of as entry_of_told}
use Rattle.hls_meaning.proofs.Numbers.{numbers_are_told, numbers_rise}
use Rattle.meaning.specs.{Meanings.Entry, Same.{IsSameTime, Pairwise, Same, SameEntries, SameTrack}}
use Rattle.presentation.specs.{Counting.sections_of, declared.parts.Content.Content, Meanings.{entry_at, entry_in, entry_of, head_of}}
use Rattle.presentation.specs.Meanings.{is_kept, language_of, meaning_of, meaning_over, rows_of as rows_meant, row_at as row_meant}
use Rattle.presentation.specs.{Meanings.tracks_from, Presented.{Presented, of_parts, whole_window}}
use Rattle.layer_faults.specs.declared.hls.HlsFault.{HlsFault}
use Rattle.layer_faults.specs.declared.hls.HlsFault.TheVariants.{Limit, NoTracks, SectionsDiffer}
use Rattle.hls_presentation.specs.{Origins.IsSilentTrack, Presenting.{are_micros, content_of, contents_of, flattened, hls_presented_of}}
use Rattle.hls_presentation.specs.Presenting.{is_micros, nanos_by_tick, parts_with, presented_from, presented_of_kept, track_of}
use Rattle.hls_presentation.specs.Sections.{all_alike, are_alike, group_at, groups_in, is_over_limit, rows_of, section_count, whole_faults}
use Rattle.hls_presentation.specs.Tracks.{Source, fault_if, is_text, kept, lacks_maps, left_out, sources, track_faults}
use Rattle.hls_presentation.specs.Tracks.{is_kept as is_source_kept}
use Rattle.hls_presentation.proofs.{Came.length_sections, Counting.{flat_at, gathered_same}, Faults.{given, none_given}, Grouping.IsGroup}
use Rattle.hls_presentation.proofs.{Grouping.{all_groups, all_long, one_at, places_below}, Only.{media_bounded, no_front, none_if}}
use Rattle.hls_presentation.proofs.{Only.not_passes, Rows.count_rows, Spanned.IsUnit}
use Rattle.laws_of_mpds.specs.PresentedLaws.{PresentedMeanWhatIsTold, told_by}
use Rattle.laws_of_mpds.proofs.{PresentedApart.{AreApart, alike_heads, entries_are, groups_apart, heads, rises}, PresentedNumbers.any_same}
use Rattle.laws_of_mpds.proofs.{PresentedNumbers.{has, heads_rise, rises_from, told, unique}, PresentedTimes.{AreWhole, content_entry}}
use Rattle.laws_of_mpds.proofs.PresentedTimes.{entry_by, timed_same}

-- ---- lists

option_then : {X Y : Type 0} (f : X → Option Y) (xs : List X) (k : ℕ) → option_and_then f (slice_get xs k) ≡ get_or (map f xs) k None
option_then f [] k = refl
option_then f (x ∷ xs) zero = refl
option_then f (x ∷ xs) (suc k) = option_then f xs k

-- a list place by place
places_map : {X Y : Type 0} (f : X → Y) (d : X) (xs : List X) (h : ℕ → Y) (from : ℕ)
    → ((k : ℕ) → k < length xs → h (from + k) ≡ f (get_or xs k d)) → map h (range_with_len from (length xs)) ≡ map f xs
places_map f d [] h from same = refl
places_map f d (x ∷ xs) h from same =
    let start : from ≡ from + 0 = omega arith in
    ap (λ y. y ∷ map h (range_with_len (from + 1) (length xs))) (ap h start ∙ same 0 (omega arith))
    ∙ ap (λ ys. f x ∷ ys) (places_map f d xs h (from + 1) (λ k within. (let moved : (from + 1) + k ≡ from + suc k = omega arith in
    ap h moved ∙ same (suc k) (omega arith))))

all_stay : {X : Type 0} (test : X → Bool) (xs : List X) → All (λ x. test x ≡ true) xs → filter test xs ≡ xs
all_stay test [] all = refl
all_stay test (x ∷ xs) all =
    let is = All-head (λ x. test x ≡ true) x xs all in
    rw is (ap (λ later. x ∷ later) (all_stay test xs (All-tail (λ x. test x ≡ true) x xs all)))

-- what stands at a place below a count
at_from : {Y : Type 0} (h : ℕ → Y) (from count k : ℕ) → k < count → slice_get (map h (range_with_len from count)) k ≡ Some (h (from + k))
at_from h from zero k within = absurd (omega (arith, within))
at_from h from (suc count) zero within = (let plain : from ≡ from + 0 = omega arith in ap (λ n. Some (h n)) plain)
at_from h from (suc count) (suc k) within = at_from h (from + 1) count k (omega (arith, within))
    ∙ (let moved : (from + 1) + k ≡ from + suc k = omega arith in ap (λ n. Some (h n)) moved)

pub at_place : {Y : Type 0} (h : ℕ → Y) (count k : ℕ) → k < count → slice_get (map h (range_with_len 0 count)) k ≡ Some (h k)
at_place h count k within = at_from h 0 count k within ∙ (let plain : 0 + k ≡ k = omega arith in ap (λ n. Some (h n)) plain)

any_first : {Y : Type 0} (h : ℕ → Option Y) (count : ℕ) → 0 < count → is_some (h 0) ≡ true
    → list_any is_some (map h (range_with_len 0 count)) ≡ true
any_first h zero some is = absurd (omega (arith, some))
any_first h (suc count) some is = ap (λ b. b || list_any is_some (map h (range_with_len 1 count))) is

unmap : {X Y : Type 0} (P : Y → Type 0) (f : X → Y) (xs : List X) → All P (map f xs) → All (λ x. P (f x)) xs
unmap P f [] all = All-nil _
unmap P f (x ∷ xs) all = All-cons (λ x. P (f x)) x xs (All-head P (f x) (map f xs) all) (unmap P f xs (All-tail P (f x) (map f xs) all))

-- ---- the kept tracks

same_text : (kind : Kind) → is_text_told kind ≡ is_text kind
same_text Video = refl
same_text Audio = refl
same_text Text = refl

kept_by : (s : Source) (all : List Source) (b : Bool) → is_source_kept s ≡ b → filter is_kept_told (map told_by all)
    ≡ map told_by (filter is_source_kept all)
    → cond b (told_by s ∷ filter is_kept_told (map told_by all)) (filter is_kept_told (map told_by all))
    ≡ map told_by (cond b (s ∷ filter is_source_kept all) (filter is_source_kept all))
kept_by s all true is later = ap (λ xs. told_by s ∷ xs) later
kept_by s all false is later = later

kept_told : (all : List Source) → filter is_kept_told (map told_by all) ≡ map told_by (kept all)
kept_told [] = refl
kept_told (s ∷ all) =
    let same : is_kept_told (told_by s) ≡ is_source_kept s = ap (λ b. not (b && lacks_maps s.media)) (same_text s.track.kind) in
    ap (λ b. cond b (told_by s ∷ filter is_kept_told (map told_by all)) (filter is_kept_told (map told_by all))) same
    ∙ kept_by s all (is_source_kept s) refl (kept_told all)

-- ---- the same entries

entries_same : (nanos : ℕ) → IsUnit nanos → (groups : List (List MediaSegment)) → All (AreWhole nanos) groups
    → Pairwise (SameEntries IsSameTime) (map entry_of_told groups) (map (entry_by nanos) groups)
entries_same nanos unit [] all = tt
entries_same nanos unit ([] ∷ groups) all = (tt, entries_same nanos unit groups (All-tail (AreWhole nanos) [] groups all))
entries_same nanos unit ((s ∷ rest) ∷ groups) all = (
  record {
    initialization = refl;
    segments = timed_same nanos unit 0 (s ∷ rest) (λ is. refl)
        (All-head (AreWhole nanos) (s ∷ rest) groups all);
  },
  entries_same nanos unit groups (All-tail (AreWhole nanos) (s ∷ rest) groups all),
)

same_language : (kind : Kind) (language : Option (List ℕ)) → (kind ≡ Video → language ≡ None) → language ≡ language_of kind language
same_language Video language silent = silent refl
same_language Audio language silent = refl
same_language Text language silent = refl

-- ---- whole microseconds

all_by : {X : Type 0} (test : X → Bool) (x : X) (xs : List X) (b : Bool) → test x ≡ b
    → (list_all test xs ≡ true → All (λ x. test x ≡ true) xs) → list_all test (x ∷ xs) ≡ true → All (λ x. test x ≡ true) (x ∷ xs)
all_by test x xs true is more all = All-cons (λ x. test x ≡ true) x xs is
    (more (let here : list_all test (x ∷ xs) ≡ list_all test xs = rw is refl in sym here ∙ all))
all_by test x xs false is more all = absurd (let here : list_all test (x ∷ xs) ≡ false = rw is refl in cc)

all_true : {X : Type 0} (test : X → Bool) (xs : List X) → list_all test xs ≡ true → All (λ x. test x ≡ true) xs
all_true test [] is = All-nil _
all_true test (x ∷ xs) is = all_by test x xs (test x) refl (all_true test xs) is

abbrev unit_of : Bool → ℕ
unit_of b = cond b 1000 1

micros_by : (b : Bool) → unit_of b ≡ 1000 → b ≡ true
micros_by true is = refl
micros_by false is = absurd (omega (arith, is))

unit_by : (b : Bool) → IsUnit (unit_of b)
unit_by true = inr refl
unit_by false = inl refl

whole_segments : (nanos : ℕ) (s : Source) → (nanos ≡ 1000 → are_micros s ≡ true) → AreWhole nanos s.media.segments
whole_segments nanos s micros = λ k d here is. eqb-true _ 0 (all_true is_micros s.media.segments (micros is) k d here)

-- ---- sections

some_tracks : (groups : List (List (List MediaSegment))) → 0 < section_count groups → 0 < length groups
some_tracks [] some = absurd (omega (arith, some))
some_tracks (track ∷ groups) some = omega arith

some_entry : (nanos : ℕ) (group : List MediaSegment) → 0 < length group → is_some (entry_by nanos group) ≡ true
some_entry nanos [] some = absurd (omega (arith, some))
some_entry nanos (s ∷ rest) some = refl

all_heads : (groups : List (List (List MediaSegment))) → all_alike groups ≡ true
    → All (λ (track : List (List MediaSegment)). heads track ≡ heads (get_or groups 0 [])) groups
all_heads [] alike = All-nil _
all_heads (first ∷ rest) alike =
    All-cons (λ (track : List (List MediaSegment)). heads track ≡ heads first) first rest refl
    (All-weaker (λ (track : List (List MediaSegment)). are_alike first track ≡ true) (λ (track : List (List MediaSegment)). heads track
    ≡ heads first) (λ track is. sym (alike_heads first track is)) rest (all_true (are_alike first) rest alike))

length_heads : (low : ℕ) (groups : List (List MediaSegment)) → AreApart low groups → length (heads groups) ≡ length groups
length_heads low [] apart = refl
length_heads low ([] ∷ groups) apart = absurd apart
length_heads low ((s ∷ rest) ∷ groups) apart = ap suc (length_heads (s.section + 1) groups apart.1.1)

IsAny : MediaSegment → Type 0
IsAny s = Unit {0}

module _ (ours : List Source) (others : ℕ) (contents : List Content)
    (gives : contents_of (nanos_by_tick ours) (rows_of (map groups_in ours)) ≡ Ok contents)
    (alike : all_alike (map groups_in ours) ≡ true) (some : 0 < section_count (map groups_in ours))
    (bounded : All (λ (s : Source). IsBounded s.media) ours) (silent : All (λ (s : Source). IsSilentTrack s.track) ours) where
  abbrev nanos : ℕ
  nanos = nanos_by_tick ours

  abbrev groups : List (List (List MediaSegment))
  groups = map groups_in ours

  abbrev made : Presented
  made = of_parts (parts_with ours others (rows_of groups) contents)

  many_sections : length made.sections ≡ section_count groups
  many_sections = length_sections 0 0 (rows_of groups) ∙ count_rows groups

  many_tracks : length made.tracks ≡ length groups
  many_tracks = length-map ours track_of ∙ sym (length-map ours groups_in)

  -- ---- what a track has in a section

  entries : map (entry_of whole_window) contents ≡ map (entry_by nanos) (flattened (rows_of groups))
  entries = gathered_same (content_of nanos) (entry_of whole_window) (entry_by nanos) (content_entry nanos)
      (flattened (rows_of groups)) contents gives

  entry_is : (s t : ℕ) → t < length groups → s < section_count groups → entry_at made s t ≡ entry_by nanos (group_at s (get_or groups t []))
  entry_is s t there here =
      let places = range_with_len 0 (section_count groups) in
      let place : get_or places s 0 ≡ s = get_or-range_with_len 0 (section_count groups) s 0 here ∙ omega arith in
      let within : s < length places = omega (arith, here, length-range_with_len 0 (section_count groups)) in
      ap (λ n. option_and_then (entry_of whole_window) (slice_get contents (s * n + t))) many_tracks
      ∙ option_then (entry_of whole_window) contents (s * length groups + t)
      ∙ ap (λ xs. get_or xs (s * length groups + t) None) entries
      ∙ get_or-map (entry_by nanos) (flattened (rows_of groups)) (s * length groups + t) []
      ∙ ap (entry_by nanos) (flat_at groups places s t within there ∙ ap (λ n. group_at n (get_or groups t [])) place)

  -- ---- its entries over all sections

  entries_meant : (t : ℕ) → t < length groups → map (entry_in t) (rows_meant made) ≡ map (entry_by nanos) (get_or groups t [])
  entries_meant t there =
      let track = get_or groups t [] in
      let long : length track ≡ section_count groups = all_long groups alike t [] there in
      let within : t < length made.tracks = omega (arith, there, many_tracks) in
      map_twice (row_meant made) (entry_in t) (sections_of made)
      ∙ ap (λ n. map (λ s. entry_in t (row_meant made s)) (range_with_len 0 n)) (many_sections ∙ sym long)
      ∙ places_map (entry_by nanos) [] track (λ s. entry_in t (row_meant made s)) 0 (λ s here.
      (let plain : 0 + s ≡ s = omega arith in
      let section : s < section_count groups = omega (arith, here, long) in
      ap (λ n. entry_in t (row_meant made n)) plain
      ∙ ap (option_and_then (λ (entry : Option Entry). entry)) (at_place (entry_at made s) (length made.tracks) t within)
      ∙ entry_is s t there section ∙ ap (entry_by nanos) (unwrap_or-slice_get track s [])))
    where
      map_twice : {X Y Z : Type 0} (f : X → Y) (g : Y → Z) (xs : List X) → map g (map f xs) ≡ map (λ x. g (f x)) xs
      map_twice f g [] = refl
      map_twice f g (x ∷ xs) = ap (λ ys. g (f x) ∷ ys) (map_twice f g xs)

  -- ---- every section has something

  row_kept : (s : ℕ) → s < length made.sections → is_kept (row_meant made s) ≡ true
  unfolding IsAny
  row_kept s here =
      let tracks : 0 < length groups = some_tracks groups some in
      let section : s < section_count groups = omega (arith, here, many_sections) in
      let all = All-map (All (IsGroup IsAny)) groups_in ours (λ k d within. all_groups IsAny (get_or ours k d).media.segments
      (λ j e inside. tt)) in
      let group = one_at (IsGroup IsAny) s (section_count groups) (get_or groups 0 []) section (all_long groups alike 0 [] tracks)
      (all 0 [] tracks) in
      any_first (entry_at made s) (length made.tracks) (omega (arith, tracks, many_tracks)) (ap is_some (entry_is s 0 tracks section)
      ∙ some_entry nanos (group_at s (get_or groups 0 [])) group.some)

  rows_stay : filter is_kept (rows_meant made) ≡ rows_meant made
  rows_stay = all_stay is_kept (rows_meant made) (All-map (λ row. is_kept row ≡ true) (row_meant made) (sections_of made)
      (All-weaker (λ s. s < length made.sections) (λ s. is_kept (row_meant made s) ≡ true) row_kept (sections_of made)
      (places_below (length made.sections))))

  -- ---- the numbers of the sections

  abbrev first : List (List MediaSegment)
  first = get_or groups 0 []

  abbrev numbers : List ℕ
  numbers = numbers_among [] (map told_by ours)

  heads_are : All (λ (s : Source). heads (groups_in s) ≡ heads first) ours
  heads_are = unmap (λ (track : List (List MediaSegment)). heads track ≡ heads first) groups_in ours (all_heads groups alike)

  first_apart : AreApart 0 first
  first_apart = All-map (AreApart 0) groups_in ours (λ k d here. groups_apart 0 (get_or ours k d).media.segments
      (rises (get_or ours k d).media.segments (bounded k d here).sections)) 0 [] (some_tracks groups some)

  numbers_are : numbers ≡ heads first
  numbers_are =
      let many : 0 < length (map told_by ours) = omega (
        arith,
        some_tracks groups some,
        length-map ours told_by,
        length-map ours groups_in,
      ) in
      unique 0 numbers (heads first) (rises_from numbers (numbers_rise (map told_by ours))) (heads_rise 0 first first_apart)
      (λ n. numbers_are_told (map told_by ours) n
      ∙ any_same (λ (source : Told). list_any (is_in n) source.media.segments) (map told_by ours) (has n (heads first)) many
      (All-map (λ (source : Told). list_any (is_in n) source.media.segments ≡ has n (heads first)) told_by ours
      (λ k d here. told n (get_or ours k d).media.segments ∙ ap (has n) (heads_are k d here))))

  -- ---- track by track

  record IsPlaced (t : ℕ) (s : Source) : Type 0 where
    quiet : IsSilentTrack s.track
    entries : Pairwise (SameEntries IsSameTime) (map (entry_told s.media.segments) numbers) (map (entry_in t) (rows_meant made))

  placed : (t : ℕ) (d : Source) → t < length ours → IsPlaced t (get_or ours t d)
  placed t d here =
      let s = get_or ours t d in
      let there : t < length groups = omega (arith, here, length-map ours groups_in) in
      let track : get_or groups t [] ≡ groups_in s = at_map groups_in ours t d [] here in
      let micros : nanos ≡ 1000 → are_micros s ≡ true = λ is. all_true are_micros ours (micros_by (list_all are_micros ours) is) t d here in
      let whole = All-weaker (IsGroup (λ (x : MediaSegment). nanos ≡ 1000 → x.duration % 1000 ≡ 0)) (AreWhole nanos) (λ group is. is.all)
      (groups_in s)
      (all_groups (λ (x : MediaSegment). nanos ≡ 1000 → x.duration % 1000 ≡ 0) s.media.segments (whole_segments nanos s micros)) in
      let one : map (entry_told s.media.segments) numbers ≡ map entry_of_told (groups_in s) =
      ap (map (entry_told s.media.segments)) (numbers_are ∙ sym (heads_are t d here))
      ∙ entries_are s.media.segments (bounded t d here).sections in
      let other : map (entry_in t) (rows_meant made) ≡ map (entry_by nanos) (groups_in s) = entries_meant t there
      ∙ ap (map (entry_by nanos)) track in
      record {
        quiet = silent t d here;
        entries = subst (λ xs. Pairwise (SameEntries IsSameTime) xs (map (entry_in t) (rows_meant made))) (sym one)
            (subst (λ ys. Pairwise (SameEntries IsSameTime) (map entry_of_told (groups_in s)) ys) (sym other)
            (entries_same nanos (unit_by (list_all are_micros ours)) (groups_in s) whole));
      }

  pairs : (k : ℕ) (ss : List Source) → ((j : ℕ) (d : Source) → j < length ss → IsPlaced (k + j) (get_or ss j d))
      → Pairwise (SameTrack IsSameTime) (map (track_over numbers) (map told_by ss))
      (tracks_from k (rows_meant made) (map head_of (map track_of ss)))
  pairs k [] all = tt
  pairs k (s ∷ ss) all =
      let plain : k + 0 ≡ k = omega arith in
      let one = subst (λ n. IsPlaced n s) plain (all 0 s (omega arith)) in (
        record { kind = refl; language = same_language s.track.kind s.track.language one.quiet; entries = one.entries },
        pairs (k + 1) ss (λ j d here. (let moved : k + suc j ≡ (k + 1) + j = omega arith in
            subst (λ n. IsPlaced n (get_or ss j d)) moved (all (suc j) d (omega (arith, here))))),
      )

  same_count : length numbers ≡ length (rows_meant made)
  same_count =
      ap length numbers_are ∙ length_heads 0 first first_apart ∙ all_long groups alike 0 [] (some_tracks groups some)
      ∙ sym (length-map (sections_of made) (row_meant made) ∙ length-range_with_len 0 (length made.sections) ∙ many_sections)

  pub made_means : Same IsSameTime (meaning_over_told numbers (map told_by ours)) (meaning_of made)
  unfolding meaning_of
  made_means =
      subst (λ rows. Same IsSameTime (meaning_over_told numbers (map told_by ours)) (meaning_over (map head_of made.tracks) rows))
      (sym rows_stay)
      (record {
        sections = same_count;
        tracks = pairs 0 ours (λ j d here. (let plain : j ≡ 0 + j = omega arith in
            subst (λ n. IsPlaced n (get_or ours j d)) plain (placed j d here)));
      })

-- ---- the whole

no_rest : (one more : List HlsFault) → one ++ more ≡ [] → more ≡ []
no_rest [] more is = is
no_rest (fault ∷ one) more is = absurd (cc)

silent_sources : (tracks : List MasterTrack) (medias : List Media) → All IsSilentTrack tracks
    → All (λ (s : Source). IsSilentTrack s.track) (sources tracks medias)
silent_sources [] medias all = All-nil _
silent_sources (track ∷ tracks) [] all = All-nil _
silent_sources (track ∷ tracks) (media ∷ medias) all =
    All-cons (λ (s : Source). IsSilentTrack s.track) (record { track = track; media = media }) (sources tracks medias)
    (All-head IsSilentTrack track tracks all) (silent_sources tracks medias (All-tail IsSilentTrack track tracks all))

pub presented_mean_what_is_told : PresentedMeanWhatIsTold
unfolding hls_presented_of presented_of_kept presented_from meaning_of_sources
presented_mean_what_is_told tracks medias p bounded silent is =
    let all = sources tracks medias in
    let ours = kept all in
    let groups = map groups_in ours in
    let later = given (track_faults all) _ p is in
    let whole = none_given (whole_faults groups) _ p later in
    let alike : all_alike groups ≡ true = not_passes _ (none_if (not (all_alike groups)) SectionsDiffer (no_front _ _ whole)) in
    let none : eqb (section_count groups) 0 ≡ false = none_if (eqb (section_count groups) 0) NoTracks
    (no_rest (fault_if (is_over_limit (rows_of groups)) Limit) _
    (no_rest (fault_if (not (all_alike groups)) SectionsDiffer) _ whole)) in
    let differs : section_count groups ≡ 0 → ⊥ = eqb-false (section_count groups) 0 none in
    let some : 0 < section_count groups = omega (arith, differs) in
    let s = steps_of (contents_of (nanos_by_tick ours) (rows_of groups)) _ p (given (whole_faults groups) _ p later) in
    let same : of_parts (parts_with ours (left_out all) (rows_of groups) s.value) ≡ p = (let h = s.then in cc) in
    let our_bounds = All-filter is_source_kept (λ (s : Source). IsBounded s.media) all (media_bounded tracks medias bounded) in
    let our_silence = All-filter is_source_kept (λ (s : Source). IsSilentTrack s.track) all (silent_sources tracks medias silent) in
    subst (λ (p : Presented). Same IsSameTime (meaning_of_sources (map told_by all)) (meaning_of p)) same
    (subst (λ kept. Same IsSameTime (meaning_of_kept kept)
    (meaning_of (of_parts (parts_with ours (left_out all) (rows_of groups) s.value)))) (sym (kept_told all))
    (made_means ours (left_out all) s.value s.first alike some our_bounds our_silence))
