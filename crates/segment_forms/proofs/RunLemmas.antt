-- Runs of digits, and the patterns whose first number they are.
use Rattle.std.proofs.Common.{◌≡◌, ℕ, suc, ◌+◌, ◌-◌, ◌<◌, ◌≤◌, ◌^◌, Bool, true, false, List, [], ◌∷◌, ◌++◌, length, get_or, take, drop}
use Rattle.std.proofs.Common.{reverse, Option, Some, None, IsUtf8, arith, refl, sym, ap, ◌∙◌, ⊎_elim, length-take, length-drop}
use Rattle.std.proofs.{lemmas.Bool.{and_from, cases_Bool, cases_lt, leb-true, lt-leb, ltb-false}, lemmas.Bool.Decides.nat_tests}
use Rattle.std.proofs.lemmas.List.{drop-drop, get_or-drop, get_or-reverse, get_or-take, take-append-drop}
use Rattle.std.proofs.lemmas.List.Sums.{prefix_len-drop_yes, prefix_len-le-length, prefix_len_passes, suffix_len-le-length}
use Rattle.std.proofs.lemmas.Str.{IsCharBoundary-after_ascii, IsCharBoundary-before_ascii}
use Rattle.std.specs.{Char.is_ascii_digit, List.{suffix_len}, Prelude.{nat_lt, nat_le, slice_range}, Str.all_ascii_digits}
use Rattle.std.specs.Str.Parse.{digits_value}
use Rattle.segment_forms.specs.{declared.pattern.Pattern.Pattern, Numbers.{has_spare_zero, value_of}}
use Rattle.segment_forms.specs.Patterns.{IsPlaced, address_at, counts_within, kept, pattern_at, run_end, run_start, width_of}
use Rattle.segment_forms.proofs.{NumberLemmas.padded_run, PlaceLemmas.digit_within}

all_by_index : (ds : List ℕ) → ((i : ℕ) → i < length ds → is_ascii_digit (get_or ds i 0) ≡ true) → all_ascii_digits ds ≡ true
all_by_index [] each = refl
all_by_index (d ∷ ds) each = and_from (is_ascii_digit d) (all_ascii_digits ds) (each 0 (omega arith))
    (all_by_index ds (λ i below. each (suc i) (omega arith)))

-- the bytes that a text ends with which pass
passes_behind : (passes : ℕ → Bool) (xs : List ℕ) (k : ℕ) → length xs - suffix_len passes xs ≤ k → k < length xs
    → passes (get_or xs k 0) ≡ true
passes_behind passes xs k from below =
    let most = suffix_len-le-length passes xs in
    let less : length xs - 1 - k < length xs = omega arith in
    let within : length xs - 1 - k < suffix_len passes xs = omega arith in
    let place : length xs - 1 - (length xs - 1 - k) ≡ k = omega arith in
    let there = prefix_len_passes passes (reverse xs) (length xs - 1 - k) 0 within in
    rw (get_or-reverse xs (length xs - 1 - k) 0 less, place) at there

module _ (text : List ℕ) (place : ℕ) (digit : is_ascii_digit (get_or text place 0) ≡ true) where
  within : place < length text
  within = digit_within text place digit

  front_len : length (take place text) ≡ place
  front_len = let below = within in simp length-take (omega arith)

  starts : run_start text place ≤ place
  starts = omega arith

  ends : place < run_end text place
  ends = let here = prefix_len-drop_yes is_ascii_digit text place 0 within digit in omega arith

  stays : run_end text place ≤ length text
  stays = let most = prefix_len-le-length is_ascii_digit (drop place text) in
      omega (arith, within, length-drop place text)

  digit_in_run : (k : ℕ) → run_start text place ≤ k → k < run_end text place → is_ascii_digit (get_or text k 0) ≡ true
  digit_in_run k from below = ⊎_elim
      (λ (front : k < place). let len = front_len in
      let there = passes_behind is_ascii_digit (take place text) k (omega arith) (omega arith) in
      rw (get_or-take place text k 0 front) at there)
      (λ (back : place ≤ k). let there = prefix_len_passes is_ascii_digit (drop place text) (k - place) 0 (omega arith) in
      let same : place + (k - place) ≡ k = omega arith in
      rw (get_or-drop place text (k - place) 0, same) at there)
      (cases_lt k place)

  pub run_are : all_ascii_digits (slice_range text (run_start text place) (run_end text place)) ≡ true
  run_are = all_by_index (slice_range text (run_start text place) (run_end text place)) (λ i below.
      let short = rw (length-take (run_end text place - run_start text place) (drop (run_start text place) text)) at below in
      let few : i < run_end text place - run_start text place = omega arith in
      let same = get_or-take (run_end text place - run_start text place) (drop (run_start text place) text) i 0 few
      ∙ get_or-drop (run_start text place) text i 0 in
      rw same (digit_in_run (run_start text place + i) (omega arith) (omega arith)))

  pub run_len : length (slice_range text (run_start text place) (run_end text place)) ≡ run_end text place - run_start text place
  run_len = let last = stays in
      simp (length-take, length-drop) (omega arith)

  -- a run whose number isn't below 2^32
  pub too_great : None ≡ value_of (slice_range text (run_start text place) (run_end text place))
      → None ≡ kept (λ p. counts_within p 1) (pattern_at text place)
  too_great none = let run : List ℕ = slice_range text (run_start text place) (run_end text place) in ⊎_elim
      (λ (less : nat_lt (digits_value 10 run) (2 ^ 32) ≡ true).
      let found : ◌≡◌ {A = Option ℕ} None (Some (digits_value 10 run)) = rw (run_are, less) at none in cc)
      (λ (great : nat_lt (digits_value 10 run) (2 ^ 32) ≡ false).
      let above : 2 ^ 32 ≤ digits_value 10 run = ltb-false (digits_value 10 run) (2 ^ 32) great in
      let out : nat_le (digits_value 10 run + (1 - 1)) (2 ^ 32 - 1) ≡ false = lt-leb _ _ (omega arith) in
      ⊎_elim (λ (few : nat_le (length run) 20 ≡ true). rw (few, out) refl)
      (λ (many : nat_le (length run) 20 ≡ false). rw many refl) (cases_Bool (nat_le (length run) 20)))
      (cases_Bool (nat_lt (digits_value 10 run) (2 ^ 32)))

-- a text is what stands before a part, the part, and what stands behind it
parts : (text : List ℕ) (start end : ℕ) → start ≤ end → take start text ++ (slice_range text start end ++ drop end text) ≡ text
parts text start end ordered =
    let behind : drop (end - start) (drop start text) ≡ drop end text = let same : start + (end - start) ≡ end = omega arith in
    rw same at (drop-drop (end - start) start text) in
    ap (λ xs. take start text ++ (slice_range text start end ++ xs)) (sym behind)
    ∙ ap (λ xs. take start text ++ xs) (take-append-drop (end - start) (drop start text)) ∙ take-append-drop start text

module _ (text : List ℕ) (place : ℕ) (digit : is_ascii_digit (get_or text place 0) ≡ true) where
  -- the first address is as the pattern says
  pub own_address : (p : Pattern) → pattern_at text place ≡ Some p → counts_within p 1 ≡ true → address_at text p 0 ≡ text
  own_address p is counts = let start : ℕ = run_start text place in let end : ℕ = run_end text place in
      let run : List ℕ = slice_range text start end in
      let q : Pattern = record { prefix_len = start; suffix_start = end; first_number = digits_value 10 run; width = width_of run } in
      ⊎_elim (λ (few : nat_le (length run) 20 ≡ true).
      let found : ◌≡◌ {A = Option Pattern} (Some q) (Some p) = rw few at is in
      let same : p ≡ q = cc in
      let low : digits_value 10 run + (1 - 1) ≤ 2 ^ 32 - 1 = leb-true _ _ (rw same at counts) in
      let long = run_len text place digit in
      let before = starts text place digit in let after = ends text place digit in
      let plus : digits_value 10 run + 0 ≡ digits_value 10 run = omega arith in
      rw (same, plus, padded_run run (run_are text place digit) (omega arith) (omega arith)) (parts text start end (omega arith)))
      (λ (many : nat_le (length run) 20 ≡ false). let found : ◌≡◌ {A = Option Pattern} None (Some p) = rw many at is in cc)
      (cases_Bool (nat_le (length run) 20))

-- a run of a text can be cut out of it
pub placed : (text : List ℕ) (start end number : ℕ) → IsUtf8 text → start < end → end ≤ length text
    → is_ascii_digit (get_or text start 0) ≡ true → is_ascii_digit (get_or text (end - 1) 0) ≡ true
    → length (slice_range text start end) ≤ 20
    → IsPlaced text
    (record { prefix_len = start; suffix_start = end; first_number = number; width = width_of (slice_range text start end) })
placed text start end number utf8 some within first last few =
    let low : get_or text start 0 < 128 = grind (arith, nat_tests) in
    let low_last : get_or text (end - 1) 0 < 128 = grind (arith, nat_tests) in
    let same : end - 1 + 1 ≡ end = omega arith in
    record {
      ordered = omega arith;
      front = IsCharBoundary-before_ascii text start (omega arith) low;
      back = rw same at (IsCharBoundary-after_ascii text (end - 1) utf8 (omega arith) low_last);
      narrow = ⊎_elim (λ spare. rw spare few) (λ none. rw none (omega arith)) (cases_Bool (has_spare_zero (slice_range text start end)));
    }
