-- What the readers of a text's front find, and that they find what is there.
use Rattle.std.proofs.Common.{◌≡◌, ℕ, suc, ◌≤◌, nat_le, Bool, true, false, IsTrue, List, [], ◌∷◌, ◌++◌, length, take, Option, None, Some}
use Rattle.std.proofs.{Common.{IfSome, refl, sym, ap, subst, ◌∙◌, arith, append-nil, length-append, eq-eqb, ne_eqb}, Math.Numerals.one-add}
use Rattle.std.proofs.{lemmas.Bool.{and_parts, leb-true, false≢true, le-leb, eqb-true}, lemmas.List.{take_at, drop_at, take-append-drop}}
use Rattle.std.proofs.{lemmas.List.length-take, lemmas.List.Sums.prefix_len-le-length, lemmas.Option.{cond_some, option_and_then_some}}
use Rattle.std.specs.{Option.option_map, List.prefix_len, Char.is_ascii_digit, Str.all_ascii_digits}
use Rattle.iso_time.specs.Digits.{AreDigits, leading_digits, digits_at, after_mark, before_mark, fraction_at, found_or_text, optional_text}
use Rattle.iso_time.specs.Digits.{fraction_text, value_at_end, value_if, optional_rest, Found, ◌>>=◌}
use Rattle.iso_time.proofs.DigitLemmas.{ascii_front}

pub none_some : {A : Type 0} {x : A} → ◌≡◌ {A = Option A} None (Some x) → ⊥
none_some h = cc

pub some_same : {A : Type 0} {x y : A} → ◌≡◌ {A = Option A} (Some x) (Some y) → x ≡ y
some_same h = cc

-- no digit stands at the front
abbrev pub NoDigit : List ℕ → Type 0
NoDigit text = prefix_len is_ascii_digit text ≡ 0

pub prefix_len-run : (ds rest : List ℕ) → IsTrue (all_ascii_digits ds) → NoDigit rest → prefix_len is_ascii_digit (ds ++ rest) ≡ length ds
prefix_len-run [] rest h none = none
prefix_len-run (d ∷ ds) rest h none =
    let parts = and_parts (is_ascii_digit d) (all_ascii_digits ds) h in
    rw (parts.0, one-add) (ap suc (prefix_len-run ds rest parts.1 none))

-- a run is found where it stands, and what is found stands there
pub leading_digits-run : (least most : ℕ) (ds rest : List ℕ) → AreDigits least most ds → NoDigit rest
    → leading_digits least most (ds ++ rest) ≡ Some (ds, rest)
unfolding leading_digits
leading_digits-run least most ds rest h none =
    rw (prefix_len-run ds rest h.ascii none, le-leb _ _ h.enough, le-leb _ _ h.few, take_at ds rest _ refl, drop_at ds rest _ refl) refl

pub leading_digits-found : (least most : ℕ) (text : List ℕ) (run : List ℕ × List ℕ) → leading_digits least most text ≡ Some run
    → (text ≡ run.0 ++ run.1) × AreDigits least most run.0
unfolding leading_digits
leading_digits-found least most text run h =
    let len = prefix_len is_ascii_digit text in
    let found = cond_some _ _ _ h in
    let tests = and_parts (nat_le least len) (nat_le len most) found.0 in
    let size : length (take len text) ≡ len = omega (arith, length-take len text, prefix_len-le-length is_ascii_digit text) in
    subst (λ r. (text ≡ r.0 ++ r.1) × AreDigits least most r.0) found.1 (
      sym (take-append-drop len text),
      record { ascii = ascii_front text; enough = rw size (leb-true _ _ tests.0); few = rw size (leb-true _ _ tests.1) },
    )

-- so many digits likewise, whatever follows them
pub digits_at-run : (width : ℕ) (ds rest : List ℕ) → AreDigits width width ds → digits_at width (ds ++ rest) ≡ Some (ds, rest)
unfolding digits_at
digits_at-run width ds rest h =
    let size : length ds ≡ width = omega (arith, h.enough, h.few) in
    let fits : width ≤ length (ds ++ rest) = omega (arith, length-append ds rest) in
    rw (le-leb _ _ fits, take_at ds rest width size, drop_at ds rest width size, h.ascii) refl

pub digits_at-found : (width : ℕ) (text : List ℕ) (run : List ℕ × List ℕ) → digits_at width text ≡ Some run
    → (text ≡ run.0 ++ run.1) × AreDigits width width run.0
unfolding digits_at
digits_at-found width text run h =
    let found = cond_some _ _ _ h in
    let tests = and_parts (nat_le width (length text)) (all_ascii_digits (take width text)) found.0 in
    let size : length (take width text) ≡ width = omega (arith, length-take width text, leb-true _ _ tests.0) in
    subst (λ r. (text ≡ r.0 ++ r.1) × AreDigits width width r.0) found.1 (
      sym (take-append-drop width text),
      record { ascii = tests.1; enough = omega arith; few = omega arith },
    )

-- a mark
pub after_mark-found : (mark : ℕ) (text rest : List ℕ) → after_mark mark text ≡ Some rest → text ≡ mark ∷ rest
unfolding after_mark
after_mark-found mark [] rest h = absurd (none_some h)
after_mark-found mark (c ∷ text) rest h =
    let found = cond_some _ _ _ h in
    let same = eqb-true c mark found.0 in
    cc

pub after_mark-mark : (mark : ℕ) (rest : List ℕ) → after_mark mark (mark ∷ rest) ≡ Some rest
unfolding after_mark
after_mark-mark mark rest = rw (eq-eqb mark mark refl) refl

-- digits with a mark behind them
pub before_mark-mark : (mark : ℕ) (found : Found (List ℕ)) (ds rest : List ℕ) → found ≡ Some (ds, mark ∷ rest)
    → before_mark mark found ≡ Some (ds, rest)
before_mark-mark mark found ds rest h = rw (h, after_mark-mark mark rest) refl

pub before_mark-found : (mark : ℕ) (found : Found (List ℕ)) (run : List ℕ × List ℕ) → before_mark mark found ≡ Some run
    → found ≡ Some (run.0, mark ∷ run.1)
before_mark-found mark None run h = absurd (none_some h)
before_mark-found mark (Some digits) run h =
    option_and_then_some (λ rest. Some (digits.0, rest)) (after_mark mark digits.1) run h
    (λ rest at is. subst (λ r. ◌≡◌ {A = Found (List ℕ)} (Some digits) (Some (r.0, mark ∷ r.1))) (some_same is)
    (ap (λ t. Some (digits.0, t)) (after_mark-found mark digits.1 rest at)))

-- either way of what may be found
pub found_or_text-cases : {A : Type 0} (P : Option A × List ℕ → Type 0) (found : Found A) (text : List ℕ) → (found ≡ None → P (None, text))
    → ((x : A × List ℕ) → found ≡ Some x → P (Some x.0, x.1)) → P (found_or_text found text)
found_or_text-cases P None text none some = none refl
found_or_text-cases P (Some x) text none some = some x refl

-- a fraction, which may not be there
pub fraction_at-text : (fraction : Option (List ℕ)) (rest : List ℕ) → IfSome fraction (AreDigits 1 30) → NoDigit rest
    → after_mark 46 rest ≡ None → fraction_at (optional_text fraction_text fraction ++ rest) ≡ (fraction, rest)
unfolding fraction_at
fraction_at-text None rest h digit point = rw point refl
fraction_at-text (Some ds) rest h digit point = rw (after_mark-mark 46 (ds ++ rest), leading_digits-run 1 30 ds rest h digit) refl

pub fraction_at-found : (text : List ℕ) → (text ≡ optional_text fraction_text (fraction_at text).0 ++ (fraction_at text).1)
    × IfSome (fraction_at text).0 (AreDigits 1 30)
unfolding fraction_at
fraction_at-found text =
    found_or_text-cases (λ r. (text ≡ optional_text fraction_text r.0 ++ r.1) × IfSome r.0 (AreDigits 1 30))
    (after_mark 46 text >>= leading_digits 1 30) text
    (λ none. (refl, tt))
    (λ run is. option_and_then_some (leading_digits 1 30) (after_mark 46 text) run is
    (λ rest point digits. let found = leading_digits-found 1 30 rest run digits in
    (after_mark-found 46 text rest point ∙ ap (λ t. 46 ∷ t) found.0, found.1)))

-- nothing is left
pub value_at_end-found : {A : Type 0} (x y : A) (rest : List ℕ) → value_at_end x rest ≡ Some y → (rest ≡ []) × (x ≡ y)
value_at_end-found x y [] h = (refl, some_same h)
value_at_end-found x y (c ∷ rest) h = absurd (none_some h)

-- a test is passed
pub value_if-found : {A : Type 0} (test : A → Bool) (x y : A) → value_if test x ≡ Some y → (test x ≡ true) × (x ≡ y)
value_if-found test x y h = cond_some (test x) x y h

-- the whole rest of a text, which may be empty
pub optional_rest-text : {A : Type 0} (read : List ℕ → Option A) (text : A → List ℕ) (piece : Option A) → read [] ≡ None
    → ((x : A) → piece ≡ Some x → read (text x) ≡ Some x) → optional_rest read (optional_text text piece) ≡ Some piece
optional_rest-text read text None empty whole = refl
optional_rest-text read text (Some x) empty whole = by_text (text x) (whole x refl) where
  by_text : (t : List ℕ) → read t ≡ Some x → optional_rest read t ≡ Some (Some x)
  by_text [] h = absurd (none_some (sym empty ∙ h))
  by_text (c ∷ t) h = ap (option_map Some) h

pub optional_rest-found : {A : Type 0} (read : List ℕ → Option A) (text : A → List ℕ) (P : A → Type 0) (rest : List ℕ) (piece : Option A)
    → ((t : List ℕ) (x : A) → read t ≡ Some x → (t ≡ text x) × P x) → optional_rest read rest ≡ Some piece
    → (rest ≡ optional_text text piece) × IfSome piece P
optional_rest-found read text P [] piece found h =
    subst (λ o. ([] ≡ optional_text text o) × IfSome o P) (some_same h) (refl, tt)
optional_rest-found {A} read text P (c ∷ rest) piece found h = by_read (read (c ∷ rest)) refl h where
  by_read : (r : Option A) → read (c ∷ rest) ≡ r → ◌≡◌ {A = Option (Option A)} (option_map Some r) (Some piece)
      → ((c ∷ rest) ≡ optional_text text piece) × IfSome piece P
  by_read None e mapped = absurd (none_some mapped)
  by_read (Some x) e mapped = subst (λ o. ((c ∷ rest) ≡ optional_text text o) × IfSome o P) (some_same mapped) (found (c ∷ rest) x e)

-- digits alone
pub digits_at-all : (width : ℕ) (ds : List ℕ) → AreDigits width width ds → digits_at width ds ≡ Some (ds, [])
digits_at-all width ds h = subst (λ t. digits_at width t ≡ Some (ds, [])) (append-nil ds) (digits_at-run width ds [] h)

-- digits don't begin with a mark that is none
pub after_mark-digits : (mark : ℕ) (ds : List ℕ) → is_ascii_digit mark ≡ false → IsTrue (all_ascii_digits ds) → after_mark mark ds ≡ None
unfolding after_mark
after_mark-digits mark [] other h = refl
after_mark-digits mark (d ∷ ds) other h =
    let digit = (and_parts (is_ascii_digit d) (all_ascii_digits ds) h).0 in
    rw (ne_eqb d mark (λ e. false≢true (sym other ∙ ap is_ascii_digit (sym e) ∙ digit))) refl
