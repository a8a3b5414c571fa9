-- Codes that are joined by `,` are the same codes again.
use Rattle.std.proofs.Common.{◌≡◌, ℕ, ◌+◌, ◌-◌, ◌<◌, ◌==◌, Bool, true, false, List, [], ◌∷◌, All, length, map, get_or, reverse, refl, sym}
use Rattle.std.proofs.{Common.{◌∙◌, ap, inl, inr, arith}, lemmas.Bool.{and_parts, cases_Bool}}
use Rattle.std.proofs.lemmas.List.{append-nil, get_or-drop, get_or-reverse, get_or-take, length-drop, length-map, length-reverse}
use Rattle.std.proofs.lemmas.List.{length-take, take_all}
use Rattle.std.proofs.lemmas.List.Elements.{All-append, All-cons, All-drop, All-head, All-map, All-nil, All-tail, All-take, All-weaker}
use Rattle.std.proofs.lemmas.List.Splits.{length-slice_split, slice_split_at, slice_split_none}
use Rattle.std.proofs.lemmas.List.Sums.{AllPass-from_list_all, list_all-from_AllPass, prefix_len_is, prefix_len_stops}
use Rattle.std.proofs.lemmas.List.Sums.{suffix_len-le-length, suffix_len_is}
use Rattle.std.specs.{Prelude.flat_map, List.{list_all, onto_first, prefix_len, suffix_len, slice_split}}
use Rattle.bridge_io.specs.declared.media.Kind.{Kind}
use Rattle.mpd_values.specs.{declared.blank.Blank.Blank, declared.blank.Blank.TheVariants.Space}
use Rattle.mpd_values.specs.{Blanks.{is_blank, trimmed, without_end, without_front}, Codecs.{codes_of, is_code, is_code_char}}
use Rattle.mpd_presentation.specs.Rows.{joined_codes, with_commas}
use Rattle.laws_of_playlists.specs.Tracks.{AreOwnCodes}

-- ---- nothing is dropped twice

module _ (p : ℕ → Bool) where
  whole : (text : List ℕ) → (0 < length text → p (get_or text 0 0) ≡ false)
      → (0 < length text → p (get_or text (length text - 1) 0) ≡ false) → without_front p (without_end p text) ≡ text
  whole text first last =
      let none = suffix_len_is p text (length text) 0 (omega arith) (λ k from to. absurd (omega arith)) last in
      let ends : length text - suffix_len p text ≡ length text = omega arith in
      let begins : prefix_len p text ≡ 0 = prefix_len_is p text 0 0 (omega arith) (λ k below. absurd (omega arith)) first in
      rw (ends, take_all (length text) text (omega arith), begins) refl

  first_stays : (text : List ℕ) → 0 < length (without_front p text) → p (get_or (without_front p text) 0 0) ≡ false
  first_stays text some =
      let within : prefix_len p text < length text = omega (arith, length-drop (prefix_len p text) text) in
      let same : prefix_len p text + 0 ≡ prefix_len p text = omega arith in
      ap p (get_or-drop (prefix_len p text) text 0 0) ∙ ap (λ k. p (get_or text k 0)) same ∙ prefix_len_stops p text 0 within

  last_stays : (text : List ℕ) → 0 < length (without_end p text) → p (get_or (without_end p text) (length (without_end p text) - 1) 0)
      ≡ false
  last_stays text some =
      let end = length text - suffix_len p text in
      let long = length-take end text in
      let back : suffix_len p text < length (reverse text) = omega (arith, length-reverse text) in
      let here : length (without_end p text) - 1 ≡ length text - 1 - suffix_len p text = omega (arith, suffix_len-le-length p text) in
      ap p (get_or-take end text (length (without_end p text) - 1) 0 (omega arith)) ∙ ap (λ k. p (get_or text k 0)) here
      ∙ sym (ap p (get_or-reverse text (suffix_len p text) 0 (omega arith))) ∙ prefix_len_stops p (reverse text) 0 back

  last_behind : (text : List ℕ) → (0 < length text → p (get_or text (length text - 1) 0) ≡ false) → 0 < length (without_front p text)
      → p (get_or (without_front p text) (length (without_front p text) - 1) 0) ≡ false
  last_behind text last some =
      let long = length-drop (prefix_len p text) text in
      let same : prefix_len p text + (length (without_front p text) - 1) ≡ length text - 1 = omega arith in
      ap p (get_or-drop (prefix_len p text) text (length (without_front p text) - 1) 0) ∙ ap (λ k. p (get_or text k 0)) same
      ∙ last (omega arith)

trimmed_twice : (blank : Blank) (text : List ℕ) → trimmed blank (trimmed blank text) ≡ trimmed blank text
unfolding trimmed
trimmed_twice blank text =
    let p = is_blank blank in
    whole p (without_front p (without_end p text)) (first_stays p (without_end p text))
    (last_behind p (without_end p text) (last_stays p text))

pub All-trimmed : (blank : Blank) (P : ℕ → Type 0) (text : List ℕ) → All P text → All P (trimmed blank text)
unfolding trimmed
All-trimmed blank P text all =
    let p = is_blank blank in
    All-drop P (prefix_len p (without_end p text)) (without_end p text) (All-take P (length text - suffix_len p text) text all)

-- ---- what stands between commas

onto : {X : Type 0} (P : X → Type 0) (x : X) (parts : List (List X)) → P x → All (All P) parts → All (All P) (onto_first x parts)
onto P x [] is all = All-cons (All P) (x ∷ []) [] (All-cons P x [] is (All-nil P)) (All-nil (All P))
onto P x (part ∷ parts) is all = All-cons (All P) (x ∷ part) parts (All-cons P x part is (All-head (All P) part parts all))
    (All-tail (All P) part parts all)

-- what holds of all at which a list isn't cut holds of its parts
pub parts_hold : {X : Type 0} (p : X → Bool) (P : X → Type 0) (xs : List X) → All (λ x. p x ≡ false → P x) xs
    → All (All P) (slice_split p xs)
parts_hold p P [] all = All-cons (All P) [] [] (All-nil P) (All-nil (All P))
parts_hold p P (x ∷ xs) all =
    let rest = parts_hold p P xs (All-tail (λ x. p x ≡ false → P x) x xs all) in
    elim (cases_Bool (p x)) [
      | inl cut ↦ rw cut (All-cons (All P) [] (slice_split p xs) (All-nil P) rest)
      | inr kept ↦ rw kept (onto P x (slice_split p xs) (All-head (λ x. p x ≡ false → P x) x xs all kept) rest)
    ]

abbrev is_comma : ℕ → Bool
is_comma b = b == 44

abbrev IsClear : ℕ → Type 0
IsClear b = is_comma b ≡ false

split_joined : (codes : List (List ℕ)) → 0 < length codes → All (All IsClear) codes → slice_split is_comma (with_commas codes) ≡ codes
split_joined [] some clear = absurd (omega arith)
split_joined (code ∷ []) some clear = rw (append-nil code) (slice_split_none is_comma code (All-head (All IsClear) code [] clear))
split_joined (code ∷ next ∷ codes) some clear =
    slice_split_at is_comma code 44 (with_commas (next ∷ codes)) (All-head (All IsClear) code (next ∷ codes) clear) refl
    ∙ ap (λ parts. code ∷ parts) (split_joined (next ∷ codes) (omega arith) (All-tail (All IsClear) code (next ∷ codes) clear))

behind_commas : (P : ℕ → Type 0) (codes : List (List ℕ)) → P 44 → All (All P) codes → All P (flat_map (λ later. 44 ∷ later) codes)
behind_commas P [] comma all = All-nil P
behind_commas P (code ∷ codes) comma all =
    All-append P (44 ∷ code) (flat_map (λ later. 44 ∷ later) codes) (All-cons P 44 code comma (All-head (All P) code codes all))
    (behind_commas P codes comma (All-tail (All P) code codes all))

All-joined : (P : ℕ → Type 0) (codes : List (List ℕ)) → P 44 → All (All P) codes → All P (with_commas codes)
All-joined P [] comma all = All-nil P
All-joined P (code ∷ codes) comma all =
    All-append P code (flat_map (λ later. 44 ∷ later) codes) (All-head (All P) code codes all)
    (behind_commas P codes comma (All-tail (All P) code codes all))

-- ---- the same codes

map_twice : {X : Type 0} (f : X → X) → ((x : X) → f (f x) ≡ f x) → (xs : List X) → map f (map f xs) ≡ map f xs
map_twice f same [] = refl
map_twice f same (x ∷ xs) = rw (same x, map_twice f same xs) refl

codes_hold : (P : ℕ → Type 0) (text : List ℕ) → All (λ b. is_comma b ≡ false → P b) text → All (All P) (codes_of text)
unfolding codes_of
codes_hold P text all =
    All-map (All P) (trimmed Space) (slice_split is_comma text)
    (All-weaker (All P) (λ part. All P (trimmed Space part)) (λ part. All-trimmed Space P part) (slice_split is_comma text)
    (parts_hold is_comma P text all))

some_codes : (text : List ℕ) → 0 < length (codes_of text)
unfolding codes_of
some_codes text = simp length-map (omega (arith, length-slice_split is_comma text))

codes_of_joined : (text : List ℕ) → codes_of (joined_codes text) ≡ codes_of text
unfolding codes_of
codes_of_joined text =
    ap (map (trimmed Space)) (split_joined (codes_of text) (some_codes text) (codes_hold IsClear text (λ k d within clear. clear)))
    ∙ map_twice (trimmed Space) (trimmed_twice Space) (slice_split is_comma text)

pub joined_own : (kind : Kind) (text : List ℕ) → AreOwnCodes kind text → AreOwnCodes kind (joined_codes text)
joined_own kind text own =
    let both = and_parts (list_all is_code_char text) (list_all is_code (codes_of text)) own.are in
    let chars : list_all is_code_char (joined_codes text) ≡ true =
    list_all-from_AllPass is_code_char (joined_codes text) (All-joined (λ b. is_code_char b ≡ true) (codes_of text) refl
    (codes_hold (λ b. is_code_char b ≡ true) text (λ k d within _. AllPass-from_list_all is_code_char text both.0 k d within))) in
    let same = codes_of_joined text in
    record { are = rw (chars, same, both.1) refl; own = rw same own.own }
