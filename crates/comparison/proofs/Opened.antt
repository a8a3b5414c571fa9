-- What two meanings of presentations differ in is what is compared of these.
use Rattle.meaning.specs.declared.difference.Aspect.TheVariants as aspect
use Rattle.meaning.specs.Differences as meant
use Rattle.std.proofs.Common.{◌≡◌, ℕ, zero, suc, ◌+◌, ◌<◌, ◌==◌, Bool, true, false, List, [], ◌∷◌, ◌++◌, length, map, filter, Option, None}
use Rattle.std.proofs.{Common.{Some, Ok, if◌then◌else◌, refl, sym, ◌∙◌, ap, arith, zero-add}, Math.Dec.eqb-suc-zero, lemmas.Bool.eqb-true}
use Rattle.std.proofs.lemmas.List.{length-map, nil_from_length}
use Rattle.std.specs.{Prelude.{is_none, option_and_then}, List.range_with_len, Option.option_or}
use Rattle.bridge_io.specs.Firsts.{first_some}
use Rattle.meaning.specs.{declared.difference.Difference.Difference, Meanings.{Entry, Meaning}, Differences.entries_difference}
use Rattle.meaning.specs.Differences.{first_difference, in_all, in_track, unless}
use Rattle.presentation.specs.{declared.track.Track.Track, Counting.{count_faults, count_of_all, counted, sections_of, tracks_of}}
use Rattle.presentation.specs.Meanings.{Head, entry_at, entry_in, head_of, is_kept, meaning_of, meaning_over, row_at, rows_of, tracks_from}
use Rattle.presentation.specs.{Presented.{Presented, is_finished}, Verifying.{longest_of, url_faults, verified}}
use Rattle.presentation.proofs.{Allowed.each_at, Firsts.none_before, Reached.none_first, Whole.whole}
use Rattle.comparison.specs.Comparing.{AreComparable, contents_difference, difference_at, difference_of, heads_difference, is_same_track}
use Rattle.comparison.specs.Comparing.{sections_meant, tracks_difference}

-- ---- the meaning of a presentation

entry_there : (p : Presented) (s t : ℕ) → t < length p.tracks → entry_in t (row_at p s) ≡ entry_at p s t
entry_there p s t below = ap (λ o. option_and_then (λ entry. entry) o) (each_at (entry_at p s) 0 (length p.tracks) t below)
    ∙ ap (entry_at p s) (zero-add t)

range_length : (first n : ℕ) → length (range_with_len first n) ≡ n
range_length first zero = refl
range_length first (suc n) = ap suc (range_length (first + 1) n)

rows_as_many : (p : Presented) → length (rows_of p) ≡ length p.sections
rows_as_many p = length-map (sections_of p) _ ∙ range_length 0 (length p.sections)

none_kept : (f : ℕ → List (Option Entry)) (first n : ℕ) → ((s : ℕ) → f s ≡ []) → filter is_kept (map f (range_with_len first n)) ≡ []
none_kept f first zero empty = refl
none_kept f first (suc n) empty = rw (empty first) (none_kept f (first + 1) n empty)

-- of a presentation without a track nothing is kept
abbrev rows_meant : Presented → List (List (Option Entry))
rows_meant p = if length p.tracks == 0 then [] else rows_of p

abbrev whole_meaning : Presented → Meaning
whole_meaning p = meaning_over (map head_of p.tracks) (rows_meant p)

chosen : {X : Type 0} (n : ℕ) (x y : X) → 0 < n → (if n == 0 then x else y) ≡ y
chosen zero x y some = absurd (omega (arith, some))
chosen (suc n) x y some = ap (λ b. if b then x else y) (eqb-suc-zero n)

module _ (p : Presented) where
  trackless : length p.tracks ≡ 0 → meaning_of p ≡ whole_meaning p
  unfolding meaning_of
  trackless none =
      let empty : (s : ℕ) → row_at p s ≡ [] = λ s. ap (λ n. map (entry_at p s) (range_with_len 0 n)) none in
      ap (meaning_over (map head_of p.tracks)) (none_kept (row_at p) 0 (length p.sections) empty
      ∙ sym (ap (λ n. if n == 0 then [] else rows_of p) none))

  by_tracks : (n : ℕ) → length p.tracks ≡ n → is_finished p ≡ true → count_faults p ≡ [] → meaning_of p ≡ whole_meaning p
  by_tracks zero is finished none = trackless is
  by_tracks (suc n) is finished none =
      let some : 0 < length p.tracks = omega (arith, is) in
      whole p finished none some ∙ ap (meaning_over (map head_of p.tracks)) (sym (chosen (length p.tracks) [] (rows_of p) some))

  as_many_rows : (n : ℕ) → length p.tracks ≡ n → length (rows_meant p) ≡ sections_meant p
  as_many_rows zero is = ap (λ n. length (if n == 0 then [] else rows_of p)) is ∙ sym (ap (λ n. if n == 0 then 0 else length p.sections) is)
  as_many_rows (suc n) is =
      let some : 0 < length p.tracks = omega (arith, is) in
      ap length (chosen (length p.tracks) [] (rows_of p) some) ∙ rows_as_many p ∙ sym (chosen (length p.tracks) 0 (length p.sections) some)

none_told : (p : Presented) (unit : ℕ) (longest : List ℕ) → verified p unit ≡ Ok longest → count_faults p ≡ []
unfolding verified
none_told p unit longest is = none_first (count_faults p) (url_faults p)
    (none_before (count_faults p ++ url_faults p) (map (longest_of p unit) (tracks_of p)) longest is)

none_counted : (p : Presented) (n : ℕ) → counted p ≡ Ok n → count_faults p ≡ []
unfolding counted
none_counted p n is = none_before (count_faults p) (count_of_all p) n is

-- ---- what differs

tracks_as_many : (t : ℕ) (rows : List (List (Option Entry))) (xs : List Head) → length (tracks_from t rows xs) ≡ length xs
tracks_as_many t rows [] = refl
tracks_as_many t rows (x ∷ xs) = ap suc (tracks_as_many (t + 1) rows xs)

heads_as : (t : ℕ) (a b : List (List (Option Entry))) (xs ys : List Track)
    → meant.heads_difference t (tracks_from t a (map head_of xs)) (tracks_from t b (map head_of ys)) ≡ tracks_difference t xs ys
heads_as t a b [] ys = refl
heads_as t a b (x ∷ xs) [] = refl
heads_as t a b (x ∷ xs) (y ∷ ys) = ap (option_or (unless (is_same_track x y) (in_track t aspect.Track))) (heads_as (t + 1) a b xs ys)

module _ (unit : ℕ) (a b : Presented) where
  entries_as : (t first n : ℕ) → t < length a.tracks → t < length b.tracks
      → entries_difference unit t first (map (entry_in t) (map (row_at a) (range_with_len first n)))
      (map (entry_in t) (map (row_at b) (range_with_len first n)))
      ≡ first_some (map (difference_at unit a b t) (range_with_len first n))
  entries_as t first zero in_a in_b = refl
  entries_as t first (suc n) in_a in_b = rw (
    entry_there a first t in_a,
    entry_there b first t in_b,
    entries_as t (first + 1) n in_a in_b,
  ) refl

  abbrev of_track : (n t : ℕ) → Option Difference
  of_track n t = first_some (map (difference_at unit a b t) (range_with_len 0 n))

  tracks_as : (n t m : ℕ) (xs ys : List Head) → length xs ≡ m → length ys ≡ m → t + m ≡ length a.tracks → t + m ≡ length b.tracks
      → meant.tracks_difference unit t (tracks_from t (map (row_at a) (range_with_len 0 n)) xs)
      (tracks_from t (map (row_at b) (range_with_len 0 n)) ys) ≡ first_some (map (of_track n) (range_with_len t m))
  tracks_as n t zero [] ys is_xs is_ys in_a in_b = refl
  tracks_as n t zero (x ∷ xs) ys is_xs is_ys in_a in_b = absurd (omega (arith, is_xs))
  tracks_as n t (suc m) [] ys is_xs is_ys in_a in_b = absurd (omega (arith, is_xs))
  tracks_as n t (suc m) (x ∷ xs) [] is_xs is_ys in_a in_b = absurd (omega (arith, is_ys))
  tracks_as n t (suc m) (x ∷ xs) (y ∷ ys) is_xs is_ys in_a in_b =
      rw (
        entries_as t 0 n (omega (arith, in_a)) (omega (arith, in_b)),
        tracks_as n (t + 1) m xs ys (omega (arith, is_xs)) (omega (arith, is_ys)) (omega (arith, in_a)) (omega (arith, in_b)),
      ) refl

  abbrev contents_meant : (rows_a rows_b : List (List (Option Entry))) (xs ys : List Track) → Option Difference
  contents_meant rows_a rows_b xs ys = meant.tracks_difference unit 0 (tracks_from 0 rows_a (map head_of xs))
      (tracks_from 0 rows_b (map head_of ys))

  contents_as : (n : ℕ) → length a.tracks ≡ n → length a.tracks ≡ length b.tracks → sections_meant a ≡ sections_meant b
      → contents_meant (rows_meant a) (rows_meant b) a.tracks b.tracks ≡ contents_difference unit a b
  contents_as zero is same sections =
      ap (λ xs. contents_meant (rows_meant a) (rows_meant b) xs b.tracks) (nil_from_length a.tracks is)
      ∙ sym (ap (λ n. first_some (map (difference_of unit a b) (range_with_len 0 n))) is)
  contents_as (suc n) is same sections =
      let some_a : 0 < length a.tracks = omega (arith, is) in
      let some_b : 0 < length b.tracks = omega (arith, is, same) in
      let as_many : length b.sections ≡ length a.sections =
      sym (chosen (length b.tracks) 0 (length b.sections) some_b) ∙ sym sections ∙ chosen (length a.tracks) 0 (length a.sections) some_a in
      ap (λ rows. contents_meant rows (rows_meant b) a.tracks b.tracks) (chosen (length a.tracks) [] (rows_of a) some_a)
      ∙ ap (λ rows. contents_meant (rows_of a) rows a.tracks b.tracks) (chosen (length b.tracks) [] (rows_of b) some_b)
      ∙ ap (λ m. contents_meant (rows_of a) (map (row_at b) (range_with_len 0 m)) a.tracks b.tracks) as_many
      ∙ tracks_as (length a.sections) 0 (length a.tracks) (map head_of a.tracks) (map head_of b.tracks) (length-map a.tracks _)
      (length-map b.tracks _ ∙ sym same) (zero-add (length a.tracks)) (zero-add (length a.tracks) ∙ same)

told : (s t : Bool) (x y : Difference) (h c d : Option Difference) → (s ≡ true → t ≡ true → c ≡ d)
    → option_or (unless s x) (option_or (unless t y) (option_or h c)) ≡ option_or (option_or (unless s x) (option_or (unless t y) h)) d
told false t x y h c d same = refl
told true false x y h c d same = refl
told true true x y None c d same = same refl refl
told true true x y (Some found) c d same = refl

retold : (s s2 t t2 : Bool) (x y : Difference) (h h2 c d : Option Difference) → s ≡ s2 → t ≡ t2 → h ≡ h2 → (s2 ≡ true → t2 ≡ true → c ≡ d)
    → option_or (unless s x) (option_or (unless t y) (option_or h c)) ≡ option_or (option_or (unless s2 x) (option_or (unless t2 y) h2)) d
retold s s2 t t2 x y h h2 c d is_s is_t is_h same =
    ap (λ b. option_or (unless b x) (option_or (unless t y) (option_or h c))) is_s
    ∙ ap (λ b. option_or (unless s2 x) (option_or (unless b y) (option_or h c))) is_t
    ∙ ap (λ f. option_or (unless s2 x) (option_or (unless t2 y) (option_or f c))) is_h ∙ told s2 t2 x y h2 c d same

module _ (unit : ℕ) (a b : Presented) where
  whole_difference : first_difference unit (whole_meaning a) (whole_meaning b)
      ≡ option_or (heads_difference a b) (contents_difference unit a b)
  unfolding first_difference
  whole_difference =
      retold (length (rows_meant a) == length (rows_meant b)) (sections_meant a == sections_meant b)
      (length (tracks_from 0 (rows_meant a) (map head_of a.tracks)) == length (tracks_from 0 (rows_meant b) (map head_of b.tracks)))
      (length a.tracks == length b.tracks)
      (in_all aspect.Sections) (in_all aspect.Tracks) _ (tracks_difference 0 a.tracks b.tracks) _ (contents_difference unit a b)
      (ap (λ n. n == length (rows_meant b)) (as_many_rows a (length a.tracks) refl)
      ∙ ap (λ n. sections_meant a == n) (as_many_rows b (length b.tracks) refl))
      (ap (λ n. n == length (tracks_from 0 (rows_meant b) (map head_of b.tracks))) (tracks_as_many 0 (rows_meant a) (map head_of a.tracks)
      ∙ length-map a.tracks _)
      ∙ ap (λ n. length a.tracks == n) (tracks_as_many 0 (rows_meant b) (map head_of b.tracks) ∙ length-map b.tracks _))
      (heads_as 0 (rows_meant a) (rows_meant b) a.tracks b.tracks)
      (λ sections tracks. contents_as unit a b (length a.tracks) refl (eqb-true (length a.tracks) (length b.tracks) tracks)
      (eqb-true (sections_meant a) (sections_meant b) sections))

  pub opened : AreComparable unit a b → first_difference unit (meaning_of a) (meaning_of b)
      ≡ option_or (heads_difference a b) (contents_difference unit a b)
  opened both =
      let mine = by_tracks a (length a.tracks) refl both.finished (none_told a unit both.longest both.verified) in
      let theirs = by_tracks b (length b.tracks) refl (ap (λ f. is_none f) both.came.finished)
      (none_counted b (count_of_all b) both.counted) in
      ap (λ m. first_difference unit m (meaning_of b)) mine ∙ ap (λ m. first_difference unit (whole_meaning a) m) theirs ∙ whole_difference
