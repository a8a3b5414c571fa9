-- Texts with references in the place of bytes.
use Rattle.std.proofs.Common.{◌≡◌, ℕ, zero, suc, ◌+◌, ◌/◌, ◌%◌, ◌<◌, ◌≤◌, ◌==◌, true, false, List, [], ◌∷◌, ◌++◌, length, take, drop}
use Rattle.std.proofs.{Common.{get_or, decimal, None, Some, refl, sym, ap, ◌∙◌, arith, inl, inr}, lemmas.Bool.cases_Bool}
use Rattle.std.proofs.{lemmas.Bool.Decides.nat_tests, lemmas.Iterator.Adapters.position_from-zero}
use Rattle.std.proofs.{lemmas.List.{append-nil, get_or-drop, drop-drop}, lemmas.List.Quantifiers.position-Some}
use Rattle.std.specs.{Fmt.{digits, digits_onto, digit_glyph}, List.{position, position_from}}
use Rattle.byte_scan.specs.ByteSet.{is_member}
use Rattle.mpd_tree.specs.Escapes.{escape_all, escape_of}
use Rattle.mpd_tree.proofs.EscapeLemmas.{byte_stays, escape-append}
use Rattle.dash_writer.specs.Escaped.{four}

stays : (b : ℕ) → is_member four b ≡ false → escape_of b ≡ b ∷ []
stays b none = grind (arith, nat_tests)

none_from : (i : ℕ) (text : List ℕ) → position_from (is_member four) i text ≡ None → escape_all text ≡ text
unfolding escape_all
none_from i [] none = refl
none_from i (b ∷ text) none = elim (cases_Bool (is_member four b)) [
  | inl is ↦ absurd (let other : Some i ≡ None = rw is at none in cc)
  | inr isnt ↦ ap (λ t. t ++ escape_all text) (stays b isnt) ∙ ap (λ t. b ∷ t) (none_from (i + 1) text (rw isnt at none))
]

-- no byte of the four stands in a text
pub none_escaped : (text : List ℕ) → position (is_member four) text ≡ None → escape_all text ≡ text
none_escaped text none = none_from 0 text (sym (position_from-zero (is_member four) text) ∙ none)

first_at : (text : List ℕ) (place d : ℕ) → place < length text → ((k : ℕ) → k < place → is_member four (get_or text k d) ≡ false)
    → escape_all text ≡ take place text ++ escape_of (get_or text place d) ++ escape_all (drop (suc place) text)
unfolding escape_all
first_at [] place d within before = absurd (omega arith)
first_at (b ∷ text) zero d within before = refl
first_at (b ∷ text) (suc place) d within before =
    ap (λ t. t ++ escape_all text) (stays b (before 0 (omega arith)))
    ∙ ap (λ t. b ∷ t) (first_at text place d (omega arith) (λ k below. before (suc k) (omega arith)))

-- the first one stands at a place
pub first_escaped : (text : List ℕ) (place d : ℕ) → position (is_member four) text ≡ Some place
    → escape_all text ≡ take place text ++ escape_of (get_or text place d) ++ escape_all (drop (place + 1) text)
first_escaped text place d first = let found = position-Some (is_member four) text place d first in
    let next : place + 1 ≡ suc place = omega arith in rw next (first_at text place d found.0 found.2)

pub found_at : (text : List ℕ) (place : ℕ) → position (is_member four) text ≡ Some place
    → (place < length text) × (is_member four (get_or (drop place text) 0 0) ≡ true)
found_at text place first = let found = position-Some (is_member four) text place 0 first in
    let there : place + 0 ≡ place = omega arith in
    (found.0, ap (is_member four) (get_or-drop place text 0 0 ∙ ap (λ k. get_or text k 0) there) ∙ found.1)

-- up to the first one, and behind it
pub first_parts : (text front back : List ℕ) (place : ℕ) → position (is_member four) text ≡ Some place → front ≡ take place text → back
    ≡ drop place text
    → escape_all text ≡ front ++ (escape_of (get_or back 0 0) ++ []) ++ escape_all (drop 1 back)
first_parts text front back place first before behind =
    let there : place + 0 ≡ place = omega arith in
    let byte : get_or back 0 0 ≡ get_or text place 0 = ap (λ xs. get_or xs 0 0) behind ∙ get_or-drop place text 0 0
    ∙ ap (λ k. get_or text k 0) there in
    let rest : drop 1 back ≡ drop (place + 1) text = ap (drop 1) behind ∙ drop-drop 1 place text in
    first_escaped text place 0 first ∙ sym (
    ap (λ b. front ++ (escape_of b ++ []) ++ escape_all (drop 1 back)) byte
    ∙ ap (λ xs. xs ++ (escape_of (get_or text place 0) ++ []) ++ escape_all (drop 1 back)) before
    ∙ ap (λ xs. take place text ++ (escape_of (get_or text place 0) ++ []) ++ escape_all xs) rest
    ∙ ap (λ xs. take place text ++ xs ++ escape_all (drop (place + 1) text)) (append-nil (escape_of (get_or text place 0))))

-- ---- numbers

digit_stays : (b : ℕ) → 48 ≤ b → b ≤ 57 → escape_of b ≡ b ∷ []
digit_stays b low high = byte_stays b (grind arith) (grind arith) (grind arith) (grind arith)

digits_stay : (k n : ℕ) (behind : List ℕ) → escape_all behind ≡ behind → escape_all (digits_onto k 10 false n behind)
    ≡ digits_onto k 10 false n behind
unfolding escape_all
digits_stay zero n behind stay = stay
digits_stay (suc k) n behind stay =
    let glyph = digit_glyph false (n % 10) in
    let low : 48 ≤ glyph = grind (arith, nat_tests) in
    let high : glyph ≤ 57 = grind (arith, nat_tests) in
    let one : escape_all (glyph ∷ behind) ≡ glyph ∷ behind = ap (λ t. t ++ escape_all behind) (digit_stays glyph low high)
    ∙ ap (λ t. glyph ∷ t) stay in
    elim (cases_Bool (n / 10 == 0)) [ inl last ↦ rw last one | inr more ↦ rw more (digits_stay k (n / 10) (glyph ∷ behind) one) ]

-- however large a number is, what is written of it stays
pub decimal_stays : (n : ℕ) → escape_all (decimal n) ≡ decimal n
unfolding digits escape_all
decimal_stays n = digits_stay 64 n [] refl

-- two numbers with a byte between them
pub numbers_stay : (a mark b : ℕ) → escape_of mark ≡ mark ∷ [] → decimal a ++ (mark ∷ (decimal b ++ []))
    ≡ escape_all (decimal a ++ mark ∷ decimal b)
unfolding escape_all
numbers_stay a mark b stays =
    ap (λ t. decimal a ++ (mark ∷ t)) (append-nil (decimal b))
    ∙ sym (escape-append (decimal a) (mark ∷ decimal b)
    ∙ ap (λ t. t ++ (escape_of mark ++ escape_all (decimal b))) (decimal_stays a)
    ∙ ap (λ t. decimal a ++ (t ++ escape_all (decimal b))) stays
    ∙ ap (λ t. decimal a ++ (mark ∷ t)) (decimal_stays b))

-- a byte and a number
pub number_stays : (mark n : ℕ) → escape_of mark ≡ mark ∷ [] → mark ∷ (decimal n ++ []) ≡ escape_all (mark ∷ decimal n)
unfolding escape_all
number_stays mark n stays =
    ap (λ t. mark ∷ t) (append-nil (decimal n))
    ∙ sym (ap (λ t. t ++ escape_all (decimal n)) stays ∙ ap (λ t. mark ∷ t) (decimal_stays n))

-- a number alone
pub alone_stays : (n : ℕ) → decimal n ++ [] ≡ escape_all (decimal n)
alone_stays n = append-nil (decimal n) ∙ sym (decimal_stays n)

-- a number between bytes
pub seconds_stay : (n : ℕ) → 80 ∷ 84 ∷ (decimal n ++ (83 ∷ [])) ≡ escape_all (80 ∷ 84 ∷ (decimal n ++ 83 ∷ []))
unfolding escape_all
seconds_stay n = ap (λ t. 80 ∷ 84 ∷ t) (sym (escape-append (decimal n) (83 ∷ []) ∙ ap (λ t. t ++ (83 ∷ [])) (decimal_stays n)))
