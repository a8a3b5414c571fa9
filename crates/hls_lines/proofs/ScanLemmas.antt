-- Scans of bytes from a place on.
use Rattle.std.proofs.Common.{◌≡◌, ◌≢◌, ◌≤◌, ℕ, suc, ◌+◌, ◌-◌, ◌<◌, Bool, true, false, List, [], ◌∷◌, length, take, drop, position, get_or}
use Rattle.std.proofs.Common.{Option, Some, None, Ok, Err, unwrap_or, not, refl, sym, ◌∙◌, ap, arith, inl, inr, cond, eqb, ltb, min, IsUtf8}
use Rattle.std.proofs.{Common.{IsCharBoundary, add-zero, option_map, zero}, lemmas.Str.{IsUtf8-from_is_utf8, is_utf8-from_IsUtf8}}
use Rattle.std.proofs.{lemmas.Str.{IsCharBoundary-end, IsCharBoundary-after_ascii, IsCharBoundary-before_ascii}, lemmas.Bool.eqb-true}
use Rattle.std.proofs.{lemmas.Bool.{false≢true, cases_Bool, false_from_ne_true, ltb-true, ltb-false}, lemmas.Bool.Decides.nat_tests}
use Rattle.std.proofs.{Math.Seq.drop-length, lemmas.List.{drop-drop, length-drop, take_rest}, lemmas.List.Quantifiers.position-Some}
use Rattle.std.proofs.{lemmas.List.Splits.{slice_split_first, slice_split_none, length-slice_split}, lemmas.List.Sums.fails_before_first}
use Rattle.std.proofs.{lemmas.List.Sums.{count_by-le-length, position_or_len_is, prefix_len-le-length}, lemmas.Option.none-some}
use Rattle.std.proofs.lemmas.Grind.{common_steps}
use Rattle.std.specs.{List.{position_or_len, before_first, after_first, slice_split}, Str.is_utf8, Str.Lossy.utf8_valid_len}
use Rattle.memchr.specs.Find.{IsFirstByte}
use Rattle.byte_scan.specs.{Class.is_outside, declared.class.Class.TheVariants.Playlist, Lines.is_line_feed}
use Rattle.bridge_io.specs.{Places.place_of, declared.place.Place.Place}
use Rattle.hls_lines.specs.{Attributes.ends_value, Characters.{begins_with_high_control, high_control_from, first_control, earlier_of}}
use Rattle.hls_lines.specs.{Lines.{PlaylistLine, clean, text_lines, said_from, with_line, line_of, trimmed, behind}, Marks.after_mark}
use Rattle.hls_lines.specs.{Marks.{is_mark, parts_at}, declared.fault.LineFault.TheVariants.{NotUtf8, BadChar}}

-- ---- single bytes

-- what a search finds is the first place
pub first_place : (test : ℕ → Bool) (bytes : List ℕ) (r : Option ℕ) → IsFirstByte test bytes r → r ≡ position test bytes
first_place test bytes None nowhere =
    let none : position_or_len test bytes ≡ length bytes = position_or_len_is test bytes (length bytes) 0 (omega arith)
    (λ k l. false_from_ne_true _ (nowhere k (omega arith) l)) (λ l. absurd (omega arith)) in
    grind (arith, nat_tests)
first_place test bytes (Some at) found =
    let first : position_or_len test bytes ≡ at = position_or_len_is test bytes at 0 (omega (arith, found.0.high))
    (λ k l. false_from_ne_true _ (found.0.before k (omega arith) l)) (λ l. found.1) in
    grind (arith, nat_tests, found.0.high)

-- or there is none
position_none : (test : ℕ → Bool) (bytes : List ℕ) → position test bytes ≡ None → position_or_len test bytes ≡ length bytes
position_none test bytes e = elim (cases_Bool (ltb (position_or_len test bytes) (length bytes))) [
  | inl less ↦ let never : Some (position_or_len test bytes) ≡ None = rw less at e in absurd (none-some _ (sym never))
  | inr none ↦ let most : length bytes ≤ position_or_len test bytes = ltb-false _ _ none in
      omega (arith, prefix_len-le-length (λ b. not (test b)) bytes)
]

-- an ASCII character has a boundary on either side
pub mark_boundaries : (text : List ℕ) (mark at : ℕ) → IsUtf8 text → mark < 128 → position (is_mark mark) text ≡ Some at
    → IsCharBoundary text at × IsCharBoundary text (at + 1)
mark_boundaries text mark at utf8 ascii e =
    let found = position-Some (is_mark mark) text at 0 e in
    let low : get_or text at 0 < 128 = omega (arith, eqb-true (get_or text at 0) mark found.1) in
    (IsCharBoundary-before_ascii text at found.0 low, IsCharBoundary-after_ascii text at utf8 found.0 low)

-- what stands before and behind the first byte that passes
pub parts_found : (test : ℕ → Bool) (text front back : List ℕ) → Some (front, back) ≡ parts_at test text
    → (position_or_len test text < length text) × (front ≡ before_first test text) × (back ≡ after_first test text)
parts_found test text front back e = elim (cases_Bool (ltb (position_or_len test text) (length text))) [
  | inl less ↦
      let found : Some (front, back) ≡ Some (before_first test text, after_first test text) = rw less at e in
      let same : (front, back) ≡ (before_first test text, after_first test text) = cc in
      (ltb-true _ _ less, ap (λ (parts : List ℕ × List ℕ). parts.0) same, ap (λ (parts : List ℕ × List ℕ). parts.1) same)
  | inr none ↦ let never : Some (front, back) ≡ None = rw none at e in absurd (none-some _ (sym never))
]

unmapped : {A B : Type 0} (f : A → B) (o : Option A) → None ≡ option_map f o → o ≡ None
unmapped f None e = refl
unmapped f (Some a) e = absurd (none-some _ e)

pub parts_lacking : (test : ℕ → Bool) (text : List ℕ) → None ≡ parts_at test text → position_or_len test text ≡ length text
parts_lacking test text e = position_none test text (unmapped _ (position test text) e)

pub after_found : (mark : ℕ) (text rest : List ℕ) → text ≡ mark ∷ rest → Some rest ≡ after_mark mark text
after_found mark [] rest e = cc
after_found mark (b ∷ bs) rest e = grind (arith, common_steps)

mark_or_not : (b mark : ℕ) (bs : List ℕ) (same : Bool) → eqb b mark ≡ same → (b ≡ mark → ⊥) → None ≡ cond same (Some bs) None
mark_or_not b mark bs true e other = absurd (other (eqb-true b mark e))
mark_or_not b mark bs false e other = refl

pub after_none : (mark : ℕ) (text : List ℕ) → ((rest : List ℕ) → text ≢ mark ∷ rest) → None ≡ after_mark mark text
after_none mark [] e = refl
after_none mark (b ∷ bs) e = mark_or_not b mark bs (eqb b mark) refl (λ same. e bs (ap (λ x. x ∷ bs) same))

ends_ascii : (b : ℕ) → ends_value b ≡ true → b < 128
ends_ascii b e = grind (arith, nat_tests)

-- a value without quotes ends between two characters
pub value_boundary : (text : List ℕ) (o : Option ℕ) → o ≡ position ends_value text → IsCharBoundary text (unwrap_or o (length text))
value_boundary text None e = IsCharBoundary-end text
value_boundary text (Some at) e =
    let found = position-Some ends_value text at 0 (sym e) in
    IsCharBoundary-before_ascii text at found.0 (ends_ascii (get_or text at 0) found.1)

-- ---- control characters

not_here : (at : ℕ) (bytes : List ℕ) → begins_with_high_control bytes ≡ false
    → high_control_from at bytes ≡ high_control_from (suc at) (drop 1 bytes)
not_here at [] h = refl
not_here at (b ∷ bs) h = rw h refl

-- one place on
pub not_at : (bytes : List ℕ) (at : ℕ) → begins_with_high_control (take (length bytes - at) (drop at bytes)) ≡ false
    → high_control_from at (drop at bytes) ≡ high_control_from (at + 1) (drop (at + 1) bytes)
not_at bytes at h = not_here at (drop at bytes) (rw take_rest at h) ∙ simp (drop-drop) (grind (arith, common_steps))

here : (at : ℕ) (bytes : List ℕ) → begins_with_high_control bytes ≡ true → high_control_from at bytes ≡ Some at
here at [] h = absurd (false≢true h)
here at (b ∷ bs) h = rw h refl

pub begins_at : (bytes : List ℕ) (at : ℕ) → begins_with_high_control (take (length bytes - at) (drop at bytes)) ≡ true
    → high_control_from at (drop at bytes) ≡ Some at
begins_at bytes at h = here at (drop at bytes) (rw take_rest at h)

no_lead : (b : ℕ) (bs : List ℕ) → is_mark 194 b ≡ false → begins_with_high_control (b ∷ bs) ≡ false
no_lead b [] h = refl
no_lead b (next ∷ bs) h = rw h refl

-- bytes before the first lead begin no such character
over : (from k : ℕ) (bytes : List ℕ) → ((j : ℕ) → j < k → is_mark 194 (get_or bytes j 0) ≡ false)
    → high_control_from from bytes ≡ high_control_from (from + k) (drop k bytes)
over from zero bytes fails = rw add-zero refl
over from (suc k) [] fails = refl
over from (suc k) (b ∷ bs) fails =
    not_here from (b ∷ bs) (no_lead b bs (fails 0 (omega arith)))
    ∙ over (suc from) k bs (λ j l. fails (suc j) (omega arith))
    ∙ ap (λ at. high_control_from at (drop k bs)) (omega arith)

pub lead_found : (bytes : List ℕ) (at passed : ℕ) → Some passed ≡ position (is_mark 194) (take (length bytes - at) (drop at bytes))
    → (at + passed < length bytes) × (high_control_from at (drop at bytes) ≡ high_control_from (at + passed) (drop (at + passed) bytes))
lead_found bytes at passed e =
    let found = position-Some (is_mark 194) (drop at bytes) passed 0 (sym (rw take_rest at e)) in (
      omega (arith, found.0, length-drop at bytes),
      over at passed (drop at bytes) found.2 ∙ ap (high_control_from (at + passed)) (drop-drop passed at bytes),
    )

pub lead_lacking : (bytes : List ℕ) (at : ℕ) → None ≡ position (is_mark 194) (take (length bytes - at) (drop at bytes))
    → high_control_from at (drop at bytes) ≡ None
lead_lacking bytes at e =
    let rest = drop at bytes in
    let none = position_none (is_mark 194) rest (sym (rw take_rest at e)) in
    over at (length rest) rest (λ j l. fails_before_first (is_mark 194) rest j 0 (omega arith))
    ∙ ap (high_control_from _) (drop-length rest)

high_within : (from : ℕ) (bytes : List ℕ) (at : ℕ) → high_control_from from bytes ≡ Some at → at < from + length bytes
high_within from [] at e = cc
high_within from (b ∷ bs) at e = elim (cases_Bool (begins_with_high_control (b ∷ bs))) [
  | inl begins ↦ let found : Some from ≡ Some at = rw begins at e in let same : from ≡ at = cc in omega arith
  | inr other ↦ let more : high_control_from (suc from) bs ≡ Some at = rw other at e in omega (arith, high_within (suc from) bs at more)
]

first_within : (size : ℕ) (one other : Option ℕ) (at : ℕ) → ((k : ℕ) → one ≡ Some k → k < size) → ((k : ℕ) → other ≡ Some k → k < size)
    → earlier_of one other ≡ Some at → at < size
first_within size None other at h k e = k at e
first_within size (Some x) None at h k e = h at e
first_within size (Some x) (Some y) at h k e = let m : min x y ≡ at = cc in omega (arith, h x refl)

pub control_within : (bytes : List ℕ) (at : ℕ) → first_control bytes ≡ Some at → at ≤ length bytes
control_within bytes at e = let within = first_within (length bytes) (position (is_outside Playlist) bytes) (high_control_from 0 bytes) at
    (λ k found. (position-Some (is_outside Playlist) bytes k 0 found).0) (λ k found. let within = high_within 0 bytes k found in
    omega arith) e in omega arith

not_utf8 : (bytes : List ℕ) → ¬ (IsUtf8 bytes) → is_utf8 bytes ≡ false
not_utf8 bytes never = elim (cases_Bool (is_utf8 bytes)) [ inl is ↦ absurd (never (IsUtf8-from_is_utf8 bytes is)) | inr other ↦ other ]

pub clean-bad : (bytes : List ℕ) → ¬ (IsUtf8 bytes) → clean bytes ≡ Err (NotUtf8 (place_of bytes (utf8_valid_len bytes)))
unfolding clean
clean-bad bytes never = rw (not_utf8 bytes never) refl

pub clean-control : (bytes : List ℕ) (at : ℕ) → IsUtf8 bytes → first_control bytes ≡ Some at
    → clean bytes ≡ Err (BadChar (place_of bytes at))
unfolding clean
clean-control bytes at is e = rw (is_utf8-from_IsUtf8 bytes is, e) refl

pub clean-good : (bytes : List ℕ) → IsUtf8 bytes → first_control bytes ≡ None → clean bytes ≡ Ok bytes
unfolding clean
clean-good bytes is e = rw (is_utf8-from_IsUtf8 bytes is, e) refl

-- ---- lines

-- the first line ends by LF
pub first_cut : (place : Place) (text front back : List ℕ) → Some (front, back) ≡ parts_at is_line_feed text
    → text_lines place text ≡ with_line (line_of (trimmed front) place) (text_lines (behind front place) back)
first_cut place text front back e =
    let cut = parts_found is_line_feed text front back e in
    rw (cut.1, cut.2) (ap (said_from place) (slice_split_first is_line_feed text 0 cut.0))

-- or it is the last one
pub last_cut : (place : Place) (text : List ℕ) → None ≡ parts_at is_line_feed text
    → text_lines place text ≡ with_line (line_of (trimmed text) place) (text_lines place [])
last_cut place text e = let none = parts_lacking is_line_feed text e in
    ap (said_from place) (slice_split_none is_line_feed text (λ k d h. fails_before_first is_line_feed text k d (omega arith)))

with_fewer : (o : Option PlaylistLine) (others : List PlaylistLine) (n : ℕ) → length others ≤ n → length (with_line o others) ≤ n + 1
with_fewer None others n h = omega arith
with_fewer (Some said) others n h = omega arith

said_fewer : (place : Place) (lines : List (List ℕ)) → length (said_from place lines) ≤ length lines
said_fewer place [] = omega arith
said_fewer place (line ∷ lines) = omega (
  arith,
  with_fewer (line_of (trimmed line) place) (said_from (behind line place) lines)
      (length lines) (said_fewer (behind line place) lines),
)

-- no more lines than one more than the bytes
pub few_lines : (place : Place) (text : List ℕ) → length (text_lines place text) ≤ length text + 1
few_lines place text = omega (
  arith,
  said_fewer place (slice_split is_line_feed text),
  length-slice_split is_line_feed text,
  count_by-le-length is_line_feed text,
)
