-- Attributes and commas are read as they are written.
use Rattle.std.proofs.Common.{◌≡◌, ℕ, suc, ◌+◌, ◌<◌, Bool, true, false, ◌||◌, not, List, [], ◌∷◌, ◌++◌, length, take, drop, position, cond}
use Rattle.std.proofs.Common.{eqb, ltb, Option, Some, None, option_map, option_and_then, unwrap_or, refl, sym, ◌∙◌, ap, subst, arith, inl}
use Rattle.std.proofs.{Common.{inr, append_assoc, get_or, length-append}, lemmas.Bool.{cases_Bool, eqb-true, ltb-true, lt-ltb, and_parts}}
use Rattle.std.proofs.{lemmas.Bool.Decides.nat_tests, lemmas.List.take-append-drop, lemmas.List.Folds.length-prefix_len}
use Rattle.std.proofs.{lemmas.List.Sums.{split_at_first, passes_at_first, prefix_len-le-length}, Math.Seq.take-append_seam}
use Rattle.std.proofs.Math.Seq.{drop-append-add, drop-append_seam}
use Rattle.std.specs.{Bool.⊤, List.{list_any, list_all, position_or_len}}
use Rattle.hls_lines.specs.Attributes.{NameValue, after_comma, attribute_at, attribute_with, ends_value, is_equals, is_name, is_name_byte}
use Rattle.hls_lines.specs.{Attributes.{is_quote, plain_value, value_at, value_behind}, Grammar.{IsComma, IsPlain, IsWritten}}
use Rattle.hls_lines.specs.{Grammar.{IsWrittenValue, is_space}, Marks.{after_mark, parts_at, without_spaces}}

-- ---- the first byte that passes a test

-- a text is at its end, or a byte follows that passes
abbrev pub Stops : (ℕ → Bool) → List ℕ → Type 0
Stops test [] = ⊤
Stops test (b ∷ bs) = test b ≡ true

pub none_of : (a b : Bool) → (a || b) ≡ false → (a ≡ false) × (b ≡ false)
none_of true b e = absurd (cc)
none_of false b e = (refl, e)

pub mark_is : (mark : ℕ) (text rest : List ℕ) → after_mark mark text ≡ Some rest → text ≡ mark ∷ rest
mark_is mark [] rest e = absurd (cc)
mark_is mark (b ∷ bs) rest e = elim (cases_Bool (eqb b mark)) [
  | inl is ↦ let found : Some bs ≡ Some rest = rw is at e in let same : b ≡ mark = eqb-true b mark is in cc
  | inr other ↦ let none : None ≡ Some rest = rw other at e in absurd (cc)
]

pub one_later : (test : ℕ → Bool) (x : ℕ) (xs : List ℕ) → test x ≡ false → position_or_len test (x ∷ xs) ≡ suc (position_or_len test xs)
one_later test x xs other = rw other (omega arith)

pub free_before : (test : ℕ → Bool) (xs : List ℕ) → list_any test (take (position_or_len test xs) xs) ≡ false
free_before test [] = refl
free_before test (x ∷ xs) = elim (cases_Bool (test x)) [
  | inl is ↦ rw is refl
  | inr other ↦ subst (λ (n : ℕ). list_any test (take n (x ∷ xs)) ≡ false) (sym (one_later test x xs other))
      (rw other (free_before test xs))
]

pub first_at : (test : ℕ → Bool) (front rest : List ℕ) → list_any test front ≡ false → Stops test rest
    → position_or_len test (front ++ rest) ≡ length front
first_at test [] [] free stops = refl
first_at test [] (b ∷ bs) free stops = rw stops refl
first_at test (x ∷ xs) rest free stops = elim (cases_Bool (test x)) [
  | inl is ↦ let never : true ≡ false = rw is at free in absurd (cc)
  | inr other ↦ let less : list_any test xs ≡ false = rw other at free in rw other (omega (arith, first_at test xs rest less stops))
]

-- a text is cut at the first byte that passes
pub record IsCut (test : ℕ → Bool) (text front rest : List ℕ) : Type 0 where
  pub mark : ℕ
  pub is : text ≡ front ++ mark ∷ rest
  pub passes : test mark ≡ true
  pub free : list_any test front ≡ false

pub cut : (test : ℕ → Bool) (text : List ℕ) (parts : List ℕ × List ℕ) → parts_at test text ≡ Some parts → IsCut test text parts.0 parts.1
cut test text parts e = elim (cases_Bool (ltb (position_or_len test text) (length text))) [
  | inl less ↦
      let within : position_or_len test text < length text = ltb-true _ _ less in
      let found : Some (take (position_or_len test text) text, drop (position_or_len test text + 1) text) ≡ Some parts = rw less at e in
      let same : (take (position_or_len test text) text, drop (position_or_len test text + 1) text) ≡ parts = cc in
      subst (λ (p : List ℕ × List ℕ). IsCut test text p.0 p.1) same (record {
        mark = get_or text (position_or_len test text) 0;
        is = split_at_first test text 0 within;
        passes = passes_at_first test text 0 within;
        free = free_before test text;
      })
  | inr none ↦ let never : None ≡ Some parts = rw none at e in absurd (cc)
]

pub parts_there : (test : ℕ → Bool) (front rest : List ℕ) (mark : ℕ) → list_any test front ≡ false → test mark ≡ true
    → parts_at test (front ++ mark ∷ rest) ≡ Some (front, rest)
parts_there test front rest mark free passes =
    let less : ltb (length front) (length (front ++ mark ∷ rest)) ≡ true = lt-ltb _ _ (omega (arith, length-append front (mark ∷ rest))) in
    rw (
      first_at test front (mark ∷ rest) free passes,
      less,
      take-append_seam front (mark ∷ rest),
      drop-append-add front (mark ∷ rest) 1,
    ) refl

-- ---- values

pub size_is : (test : ℕ → Bool) (text : List ℕ) → unwrap_or (position test text) (length text) ≡ position_or_len test text
size_is test text = elim (cases_Bool (ltb (position_or_len test text) (length text))) [
  | inl less ↦ rw less refl
  | inr none ↦ rw none (let most = prefix_len-le-length (λ b. not (test b)) text in grind (arith, nat_tests))
]

plain_written : (text : List ℕ) (found : List ℕ × List ℕ) → plain_value text ≡ Some found
    → (text ≡ found.0 ++ found.1) × IsPlain found.0 found.0
plain_written text found e = of_size (eqb n 0) refl (rw (size_is ends_value text) at e)
  where
    n : ℕ
    n = position_or_len ends_value text

    of_size : (b : Bool) → eqb n 0 ≡ b → cond b None (Some (take n text, drop n text)) ≡ Some found
        → (text ≡ found.0 ++ found.1) × IsPlain found.0 found.0
    of_size true z e = absurd (cc)
    of_size false z e =
        let same : (take n text, drop n text) ≡ found = cc in
        let size = length-prefix_len (λ b. not (ends_value b)) text in
        let some : 0 < n = grind (arith, nat_tests) in
        subst (λ (f : List ℕ × List ℕ). (text ≡ f.0 ++ f.1) × IsPlain f.0 f.0) same
        (sym (take-append-drop n text), record { is = refl; some = omega (arith, size, some); clean = free_before ends_value text })

pub value_written : (text : List ℕ) (found : List ℕ × List ℕ) → value_at text ≡ Some found
    → (front : List ℕ) × ((text ≡ front ++ found.1) × IsWrittenValue found.0 front)
value_written text found e = of_mark (after_mark 34 text) refl e
  where
    of_mark : (o : Option (List ℕ)) → after_mark 34 text ≡ o → value_behind o text ≡ Some found
        → (front : List ℕ) × ((text ≡ front ++ found.1) × IsWrittenValue found.0 front)
    of_mark None m e = let plain = plain_written text found e in (found.0, (plain.0, inl plain.1))
    of_mark (Some quoted) m e =
        let parts = cut is_quote quoted found e in
        let mark : parts.mark ≡ 34 = eqb-true parts.mark 34 parts.passes in (
          34 ∷ (found.0 ++ 34 ∷ []),
          (
            mark_is 34 text quoted m ∙ ap (λ q. 34 ∷ q) (parts.is ∙ ap (λ b. found.0 ++ b ∷ found.1) mark
                ∙ sym (append_assoc found.0 (34 ∷ []) found.1)),
            inr (record { is = refl; clean = parts.free }),
          ),
        )

no_quote : (b : ℕ) → ends_value b ≡ false → eqb b 34 ≡ false
no_quote b e = grind (arith, nat_tests)

plain_read : (value rest : List ℕ) → 0 < length value → list_any ends_value value ≡ false → Stops ends_value rest
    → value_at (value ++ rest) ≡ Some (value, rest)
plain_read [] rest some clean stops = absurd (omega arith)
plain_read (v ∷ vs) rest some clean stops =
    let more : eqb (length (v ∷ vs)) 0 ≡ false = grind (arith, nat_tests) in
    rw (
      no_quote v (none_of (ends_value v) (list_any ends_value vs) clean).0,
      size_is ends_value ((v ∷ vs) ++ rest),
      first_at ends_value (v ∷ vs) rest clean stops,
      take-append_seam (v ∷ vs) rest,
      drop-append_seam (v ∷ vs) rest,
      more,
    ) refl

pub value_read : (value front rest : List ℕ) → IsWrittenValue value front → Stops ends_value rest
    → value_at (front ++ rest) ≡ Some (value, rest)
value_read value front rest (inl plain) stops = rw plain.is (plain_read value rest plain.some plain.clean stops)
value_read value front rest (inr quoted) stops = rw (quoted.is, append_assoc value (34 ∷ []) rest)
    (parts_there is_quote value rest 34 quoted.clean refl)

-- ---- attributes

pub name_byte : (b : ℕ) → is_name_byte b ≡ true → (eqb b 61 ≡ false) × (eqb b 32 ≡ false)
name_byte b e = (grind (arith, nat_tests), grind (arith, nat_tests))

name_free : (name : List ℕ) → list_all is_name_byte name ≡ true → list_any is_equals name ≡ false
name_free [] e = refl
name_free (b ∷ bs) e = let parts = and_parts (is_name_byte b) (list_all is_name_byte bs) e in
    rw (name_byte b parts.0).0 (name_free bs parts.1)

pub attribute_written : (text : List ℕ) (found : NameValue × List ℕ) → attribute_at text ≡ Some found
    → (front : List ℕ) × ((text ≡ front ++ found.1) × IsWritten found.0 front)
unfolding attribute_at
attribute_written text found e = of_parts (parts_at is_equals text) refl e
  where
    of_value : (parts : List ℕ × List ℕ) (named : Bool) (o : Option (List ℕ × List ℕ)) → IsCut is_equals text parts.0 parts.1
        → is_name parts.0 ≡ named → value_at parts.1 ≡ o
        → cond named (option_map (λ f. ((parts.0, f.0), f.1)) o) None ≡ Some found → (front : List ℕ)
        × ((text ≡ front ++ found.1) × IsWritten found.0 front)
    of_value parts false o is n v e = absurd (cc)
    of_value parts true None is n v e = absurd (cc)
    of_value parts true (Some value) is n v e =
        let same : ((parts.0, value.0), value.1) ≡ found = cc in
        let has = value_written parts.1 value v in
        let mark : is.mark ≡ 61 = eqb-true is.mark 61 is.passes in
        subst (λ (f : NameValue × List ℕ). (front : List ℕ) × ((text ≡ front ++ f.1) × IsWritten f.0 front)) same (
          parts.0 ++ 61 ∷ has.0,
          (
            is.is ∙ ap (λ b. parts.0 ++ b ∷ parts.1) mark ∙ ap (λ t. parts.0 ++ 61 ∷ t) has.1.0
                ∙ sym (append_assoc parts.0 (61 ∷ has.0) value.1),
            record { value = has.0; is = refl; named = n; valued = has.1.1 },
          ),
        )

    of_parts : (o : Option (List ℕ × List ℕ)) → parts_at is_equals text ≡ o → option_and_then attribute_with o ≡ Some found
        → (front : List ℕ) × ((text ≡ front ++ found.1) × IsWritten found.0 front)
    of_parts None p e = absurd (cc)
    of_parts (Some parts) p e = of_value parts (is_name parts.0) (value_at parts.1) (cut is_equals text parts p) refl refl e

pub attribute_read : (attribute : NameValue) (front rest : List ℕ) → IsWritten attribute front → Stops ends_value rest
    → attribute_at (front ++ rest) ≡ Some (attribute, rest)
unfolding attribute_at
attribute_read attribute front rest is stops =
    let free = name_free attribute.0 (and_parts (not (eqb (length attribute.0) 0)) (list_all is_name_byte attribute.0) is.named).1 in
    rw (
      is.is,
      append_assoc attribute.0 (61 ∷ is.value) rest,
      parts_there is_equals attribute.0 (is.value ++ rest) 61 free refl,
      is.named,
      value_read attribute.1 is.value rest is.valued stops,
    ) refl

-- ---- commas

spaces_front : (text : List ℕ) → (spaces : List ℕ) × ((list_all is_space spaces ≡ true) × (text ≡ spaces ++ without_spaces text))
spaces_front [] = ([], (refl, refl))
spaces_front (b ∷ bs) = elim (cases_Bool (eqb b 32)) [
  | inl is ↦ let more = spaces_front bs in (b ∷ more.0, (rw is more.1.0, rw is (ap (λ t. b ∷ t) more.1.1)))
  | inr other ↦ ([], (refl, rw other refl))
]

spaces_gone : (spaces text : List ℕ) → list_all is_space spaces ≡ true → without_spaces (spaces ++ text) ≡ without_spaces text
spaces_gone [] text e = refl
spaces_gone (b ∷ bs) text e = let parts = and_parts (eqb b 32) (list_all is_space bs) e in rw parts.0 (spaces_gone bs text parts.1)

pub comma_written : (text next : List ℕ) → after_comma text ≡ Some next → (comma : List ℕ) × ((text ≡ comma ++ next) × IsComma comma)
unfolding after_comma
comma_written text next e = of_mark (after_mark 44 (without_spaces text)) refl e
  where
    of_mark : (o : Option (List ℕ)) → after_mark 44 (without_spaces text) ≡ o → option_map without_spaces o ≡ Some next
        → (comma : List ℕ) × ((text ≡ comma ++ next) × IsComma comma)
    of_mark None m e = absurd (cc)
    of_mark (Some rest) m e =
        let same : without_spaces rest ≡ next = cc in
        let before = spaces_front text in
        let behind = spaces_front rest in (
          before.0 ++ 44 ∷ behind.0,
          (
            before.1.1 ∙ ap (λ t. before.0 ++ t) (mark_is 44 (without_spaces text) rest m
                ∙ ap (λ t. 44 ∷ t) (behind.1.1 ∙ ap (λ t. behind.0 ++ t) same)) ∙ sym (append_assoc before.0 (44 ∷ behind.0) next),
            record { before = before.0; behind = behind.0; is = refl; spaces_before = before.1.0; spaces_behind = behind.1.0 },
          ),
        )

pub comma_read : (comma next : List ℕ) → IsComma comma → without_spaces next ≡ next → after_comma (comma ++ next) ≡ Some next
unfolding after_comma
comma_read comma next is plain =
    rw (
      is.is,
      append_assoc is.before (44 ∷ is.behind) next,
      spaces_gone is.before (44 ∷ (is.behind ++ next)) is.spaces_before,
      spaces_gone is.behind next is.spaces_behind,
      plain,
    ) refl

pub comma_stops : (comma next : List ℕ) → IsComma comma → Stops ends_value (comma ++ next)
comma_stops comma next is = subst (λ (c : List ℕ). Stops ends_value (c ++ next)) (sym is.is) (of_before is.before is.spaces_before)
  where
    of_before : (before : List ℕ) → list_all is_space before ≡ true → Stops ends_value ((before ++ 44 ∷ is.behind) ++ next)
    of_before [] e = refl
    of_before (b ∷ bs) e = let same : b ≡ 32 = eqb-true b 32 ((and_parts (eqb b 32) (list_all is_space bs) e).0) in rw same refl
