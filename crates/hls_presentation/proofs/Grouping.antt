-- What is so of a track's segments is so of each of its groups.
use Rattle.std.proofs.Common.{◌≡◌, ℕ, suc, ◌+◌, ◌<◌, ◌^◌, Bool, true, false, cond, eqb, List, [], ◌∷◌, map, length, drop, get_or, All, refl}
use Rattle.std.proofs.{Common.{sym, ◌∙◌, ap, subst, arith}, lemmas.Bool.{false_from_ne_true, leb-false}, lemmas.List.drop_more}
use Rattle.std.proofs.lemmas.List.Elements.{All-nil, All-cons, All-head, All-tail, All-map, All-append, All-get_or}
use Rattle.std.proofs.{lemmas.List.FromFn.{get_or-range_with_len, length-range_with_len}, lemmas.Option.unwrap_or-slice_get}
use Rattle.std.specs.List.{list_all, list_any, range_with_len}
use Rattle.hls_media.specs.declared.media.MediaSegment.{MediaSegment}
use Rattle.hls_presentation.specs.{Presenting.flattened, Sections.{all_alike, are_alike, greatest, group_at, groups_of, is_too_long}}
use Rattle.hls_presentation.specs.Sections.{length_of, put_before, row_at, row_length, rows_of, section_count, starts_alike}

-- ---- tests of lists

none_by : {X : Type 0} (test : X → Bool) (x : X) (xs : List X) (b : Bool) → test x ≡ b
    → (list_any test xs ≡ false → All (λ x. test x ≡ false) xs)
    → list_any test (x ∷ xs) ≡ false → All (λ x. test x ≡ false) (x ∷ xs)
none_by test x xs true is more none = absurd (let here : list_any test (x ∷ xs) ≡ true = rw is refl in cc)
none_by test x xs false is more none = All-cons (λ x. test x ≡ false) x xs is
    (more (let here : list_any test (x ∷ xs) ≡ list_any test xs = rw is refl in sym here ∙ none))

pub none_pass : {X : Type 0} (test : X → Bool) (xs : List X) → list_any test xs ≡ false → All (λ x. test x ≡ false) xs
none_pass test [] is = All-nil _
none_pass test (x ∷ xs) is = none_by test x xs (test x) refl (none_pass test xs) is

-- ---- groups

-- a group has a segment, and each is so
pub record IsGroup (P : MediaSegment → Type 0) (group : List MediaSegment) : Type 0 where
  pub some : 0 < length group
  pub all : All P group

module _ (P : MediaSegment → Type 0) where
  alone : (s : MediaSegment) → P s → IsGroup P (s ∷ [])
  alone s one = record { some = omega arith; all = All-cons P s [] one (All-nil P) }

  put_by : (s next : MediaSegment) (rest : List MediaSegment) (groups : List (List MediaSegment)) (b : Bool) → P s
      → IsGroup P (next ∷ rest) → All (IsGroup P) groups
      → All (IsGroup P) (cond b ((s ∷ next ∷ rest) ∷ groups) ((s ∷ []) ∷ (next ∷ rest) ∷ groups))
  put_by s next rest groups true one group all = All-cons (IsGroup P) (s ∷ next ∷ rest) groups
      (record { some = omega arith; all = All-cons P s (next ∷ rest) one group.all }) all
  put_by s next rest groups false one group all = All-cons (IsGroup P) (s ∷ []) ((next ∷ rest) ∷ groups) (alone s one)
      (All-cons (IsGroup P) (next ∷ rest) groups group all)

  put_all : (s : MediaSegment) (groups : List (List MediaSegment)) → P s → All (IsGroup P) groups → All (IsGroup P) (put_before s groups)
  put_all s [] one all = All-cons (IsGroup P) (s ∷ []) [] (alone s one) all
  put_all s ([] ∷ groups) one all = All-cons (IsGroup P) (s ∷ []) groups (alone s one) (All-tail (IsGroup P) [] groups all)
  put_all s ((next ∷ rest) ∷ groups) one all = put_by s next rest groups (eqb s.section next.section) one
      (All-head (IsGroup P) (next ∷ rest) groups all) (All-tail (IsGroup P) (next ∷ rest) groups all)

  pub all_groups : (segments : List MediaSegment) → All P segments → All (IsGroup P) (groups_of segments)
  all_groups [] all = All-nil _
  all_groups (s ∷ rest) all = put_all s (groups_of rest) (All-head P s rest all) (all_groups rest (All-tail P s rest all))

-- ---- tracks with the same sections have as many groups

alike_by : (g h : List MediaSegment) (groups others : List (List MediaSegment)) (b : Bool)
    → (are_alike groups others ≡ true → length groups ≡ length others)
    → cond b (are_alike groups others) false ≡ true → length (g ∷ groups) ≡ length (h ∷ others)
alike_by g h groups others true more is = ap suc (more is)
alike_by g h groups others false more is = absurd (cc)

pub alike_long : (one other : List (List MediaSegment)) → are_alike one other ≡ true → length one ≡ length other
alike_long [] [] is = refl
alike_long [] (h ∷ others) is = absurd (cc)
alike_long (g ∷ groups) [] is = absurd (cc)
alike_long (g ∷ groups) (h ∷ others) is = alike_by g h groups others (starts_alike g h) (alike_long groups others) is

pub unlike : (one other : List (List MediaSegment)) → (length one ≡ length other → ⊥) → are_alike one other ≡ false
unlike one other differ = false_from_ne_true (are_alike one other) (λ is. differ (alike_long one other is))

-- the next sections of two tracks have the same number, or not
pub alike_turn : (one other : List (List MediaSegment)) (place : ℕ) (g h : List MediaSegment) (b : Bool) → place < length one
    → place < length other
    → g ≡ group_at place one → h ≡ group_at place other → starts_alike g h ≡ b
    → are_alike (drop place one) (drop place other) ≡ cond b (are_alike (drop (place + 1) one) (drop (place + 1) other)) false
alike_turn one other place g h b here there mine theirs is =
    let later = are_alike (drop (place + 1) one) (drop (place + 1) other) in
    let first : get_or one place [] ≡ g = sym (mine ∙ unwrap_or-slice_get one place []) in
    let second : get_or other place [] ≡ h = sym (theirs ∙ unwrap_or-slice_get other place []) in
    ap (λ gs. are_alike gs (drop place other)) (drop_more one place [] here)
    ∙ ap (are_alike (get_or one place [] ∷ drop (place + 1) one)) (drop_more other place [] there)
    ∙ ap (λ test. cond test later false) (ap (λ x. starts_alike x (get_or other place [])) first ∙ ap (starts_alike g) second ∙ is)

each_by : (first track : List (List MediaSegment)) (rest : List (List (List MediaSegment))) (b : Bool) → are_alike first track ≡ b
    → (list_all (are_alike first) rest ≡ true → All (λ track. length track ≡ length first) rest)
    → list_all (are_alike first) (track ∷ rest) ≡ true → All (λ track. length track ≡ length first) (track ∷ rest)
each_by first track rest true is more all = All-cons (λ (track : List (List MediaSegment)). length track ≡ length first) track rest
    (sym (alike_long first track is)) (more (let here : list_all (are_alike first) (track ∷ rest) ≡ list_all (are_alike first) rest =
    rw is refl in sym here ∙ all))
each_by first track rest false is more all = absurd (let here : list_all (are_alike first) (track ∷ rest) ≡ false = rw is refl in cc)

each_long : (first : List (List MediaSegment)) (rest : List (List (List MediaSegment))) → list_all (are_alike first) rest ≡ true
    → All (λ track. length track ≡ length first) rest
each_long first [] is = All-nil _
each_long first (track ∷ rest) is = each_by first track rest (are_alike first track) refl (each_long first rest) is

pub all_long : (tracks : List (List (List MediaSegment))) → all_alike tracks ≡ true
    → All (λ track. length track ≡ section_count tracks) tracks
all_long [] is = All-nil _
all_long (first ∷ rest) is = All-cons (λ (track : List (List MediaSegment)). length track ≡ length first) first rest refl
    (each_long first rest is)

-- ---- rows

-- a group of a section that isn't too long
pub record IsRowed (P : MediaSegment → Type 0) (group : List MediaSegment) : Type 0 where
  pub whole : IsGroup P group
  pub short : length_of group < 2 ^ 63

pub all_greatest : {X : Type 0} (size : X → ℕ) (bound : ℕ) (xs : List X) → greatest (map size xs) < bound → All (λ x. size x < bound) xs
all_greatest size bound [] is = All-nil _
all_greatest size bound (x ∷ xs) is =
    let here : size x < bound = omega (arith, is) in
    let later : greatest (map size xs) < bound = omega (arith, is) in
    All-cons (λ x. size x < bound) x xs here (all_greatest size bound xs later)

pub one_at : (P : List MediaSegment → Type 0) (place count : ℕ) (track : List (List MediaSegment)) → place < count → length track ≡ count
    → All P track → P (group_at place track)
one_at P place count track within long all = subst P (sym (unwrap_or-slice_get track place []))
    (All-get_or P track place [] (omega (arith, within, long)) all)

pub places_below : (count : ℕ) → All (λ place. place < count) (range_with_len 0 count)
places_below count = λ k d here.
    let within : k < count = omega (arith, here, length-range_with_len 0 count) in
    omega (arith, within, get_or-range_with_len 0 count k d within)

module _ (P : MediaSegment → Type 0) (tracks : List (List (List MediaSegment))) (alike : all_alike tracks ≡ true)
    (all : All (All (IsGroup P)) tracks) where
  row_of : (place : ℕ) → place < section_count tracks → is_too_long (row_at tracks place) ≡ false → All (IsRowed P) (row_at tracks place)
  row_of place within is =
      let short : row_length (row_at tracks place) < 2 ^ 63 = leb-false (2 ^ 63) (row_length (row_at tracks place)) is in
      let groups = All-map (IsGroup P) (group_at place) tracks (λ k d here. one_at (IsGroup P) place (section_count tracks) _ within
      (all_long tracks alike k d here) (all k d here)) in
      λ k d here. record { whole = groups k d here; short = all_greatest length_of (2 ^ 63) (row_at tracks place) short k d here }

  rows_by : (places : List ℕ) → All (λ place. place < section_count tracks) places
      → All (λ row. is_too_long row ≡ false) (map (row_at tracks) places) → All (IsRowed P) (flattened (map (row_at tracks) places))
  rows_by [] within short = All-nil _
  rows_by (place ∷ places) within short =
      All-append (IsRowed P) (row_at tracks place) (flattened (map (row_at tracks) places))
      (row_of place (All-head (λ place. place < section_count tracks) place places within)
      (All-head (λ row. is_too_long row ≡ false) (row_at tracks place) (map (row_at tracks) places) short))
      (rows_by places (All-tail (λ place. place < section_count tracks) place places within)
      (All-tail (λ row. is_too_long row ≡ false) (row_at tracks place) (map (row_at tracks) places) short))

  pub all_rowed : list_any is_too_long (rows_of tracks) ≡ false → All (IsRowed P) (flattened (rows_of tracks))
  all_rowed short = rows_by (range_with_len 0 (section_count tracks)) (places_below (section_count tracks))
      (none_pass is_too_long (rows_of tracks) short)
