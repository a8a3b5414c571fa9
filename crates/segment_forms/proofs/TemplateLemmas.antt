-- How a media text is read as a template.
use Rattle.std.proofs.Common.{◌≡◌, ℕ, suc, ◌+◌, ◌-◌, ◌%◌, ◌<◌, ◌≤◌, ◌^◌, ◌==◌, ◌&&◌, ◌||◌, Bool, true, false, List, [], ◌∷◌, ◌++◌, length}
use Rattle.std.proofs.Common.{take, drop}
use Rattle.std.proofs.Common.{count_by, codes, Option, Some, None, Ok, arith, refl, sym, ap, ◌∙◌, subst, ⊎_elim, not, append_assoc}
use Rattle.std.proofs.Common.{append-nil}
use Rattle.std.proofs.{Common.{length-append, cond}, lemmas.Bool.{and_from, and_parts, and_right, cases_Bool, not-true}}
use Rattle.std.proofs.{lemmas.Bool.Decides.nat_tests, lemmas.List.take_at, lemmas.List.Folds.list_all-append}
use Rattle.std.proofs.lemmas.List.Splits.{slice_split_at, length-slice_split}
use Rattle.std.proofs.lemmas.List.Sums.{AllPass-from_list_all, sum_by-cons}
use Rattle.std.specs.{Prelude.{decimal, nat_lt, if◌then◌else◌}, List.{list_all, onto_first}}
use Rattle.template_ids.specs.{declared.identifier.Identifier.Identifier, declared.identifier.Identifier.TheVariants.{Dollar, Padded}}
use Rattle.template_ids.specs.{declared.identifier.Quantity.TheVariants.{Number, Time}, declared.fault.TemplateFault.TemplateFault}
use Rattle.template_ids.specs.{declared.ids.Ids.Ids, Identifiers.{identifier_of, width_of}}
use Rattle.std.specs.{Char.is_ascii_digit, Str.all_ascii_digits, Str.Parse.digits_value}
use Rattle.std.proofs.lemmas.Str.Parse.{IsNumeralModel, numerals_by_value, tells_all_ascii_digits}
use Rattle.std.proofs.lemmas.Fmt.{decimal_nonempty, digits_decimal, digits_value-decimal, length-decimal-le}
use Rattle.std.proofs.{Common.lit<, lemmas.Bool.{eqb-true, le-leb, lt-ltb}, lemmas.Slice.Eq.bytes_eq-Decides}
use Rattle.template_ids.specs.Templates.{identifier_fault, identifiers_of, is_dollar, is_padded, named, odd_parts, padded, parts_of}
use Rattle.template_ids.specs.Templates.{replaced, template_of}
use Rattle.template_ids.specs.Templates.{uses, value_of}
use Rattle.segment_forms.specs.Media.{LiteralsName, TemplatesName, doubled, number_identifier}
use Rattle.segment_forms.proofs.GivenLemmas.{given, low, narrow}

-- a text that is read as a template without `$Time$`, what it names, and whether it has `$Number$`
pub record Tells (text : List ℕ) (name : Ids → List ℕ) (numbered : Bool) : Type 0 where
  pub even : count_by is_dollar text % 2 ≡ 0
  pub names : (ids : Ids) → named text ids ≡ name ids
  pub faults : (later : Option TemplateFault) → identifier_fault (identifiers_of text) later ≡ later
  pub times : uses Time text ≡ false
  pub numbers : uses Number text ≡ numbered

tells_nothing : Tells [] (λ ids. []) false
tells_nothing = record { even = refl; names = λ ids. refl; faults = λ later. refl; times = refl; numbers = refl }

replaced_onto : (ids : Ids) (b : ℕ) (parts : List (List ℕ)) → replaced ids (onto_first b parts) ≡ b ∷ replaced ids parts
replaced_onto ids b [] = refl
replaced_onto ids b (literal ∷ []) = refl
replaced_onto ids b (literal ∷ (identifier ∷ parts)) = refl

odd_onto : (b : ℕ) (parts : List (List ℕ)) → odd_parts (onto_first b parts) ≡ odd_parts parts
odd_onto b [] = refl
odd_onto b (literal ∷ []) = refl
odd_onto b (literal ∷ (identifier ∷ parts)) = refl

module _ (text : List ℕ) (name : Ids → List ℕ) (numbered : Bool) (tells : Tells text name numbered) where
  -- behind a byte that stands for itself
  behind_byte : (b : ℕ) → is_dollar b ≡ false → Tells (b ∷ text) (λ ids. b ∷ name ids) numbered
  behind_byte b other = record {
    even = let more : count_by is_dollar (b ∷ text) ≡ cond {A = ℕ} (is_dollar b) 1 0 + count_by is_dollar text
        = sum_by-cons (λ x. cond (is_dollar x) 1 0) b text in
        let none : cond {A = ℕ} (is_dollar b) 1 0 ≡ 0 = rw other refl in
        omega (arith, tells.even);
    names = λ ids. rw other (replaced_onto ids b (parts_of text) ∙ ap (λ xs. b ∷ xs) (tells.names ids));
    faults = λ later. rw (other, odd_onto b (parts_of text)) (tells.faults later);
    times = rw (other, odd_onto b (parts_of text)) tells.times;
    numbers = rw (other, odd_onto b (parts_of text)) tells.numbers;
  }

  -- behind an identifier that isn't `Time`
  module _ (identifier : List ℕ) (found : Identifier) (plain : list_all (λ b. not (is_dollar b)) identifier ≡ true)
      (good : identifier_of identifier ≡ Ok found) (other : is_padded Time (Ok found) ≡ false) where
    parts : parts_of (36 ∷ (identifier ++ (36 ∷ text))) ≡ [] ∷ (identifier ∷ parts_of text)
    parts = ap (λ xs. [] ∷ xs) (slice_split_at is_dollar identifier 36 text
        (λ k d below. not-true _ (AllPass-from_list_all (λ b. not (is_dollar b)) identifier plain k d below)) refl)

    behind_identifier : Tells (36 ∷ (identifier ++ (36 ∷ text))) (λ ids. value_of ids found ++ name ids)
        (is_padded Number (Ok found) || numbered)
    behind_identifier = record {
      even = omega (
        arith,
        tells.even,
        length-slice_split is_dollar text,
        length-slice_split is_dollar (36 ∷ (identifier ++ (36 ∷ text))),
        ap length parts,
      );
      names = λ ids. rw (parts, good) (ap (λ xs. value_of ids found ++ xs) (tells.names ids));
      faults = λ later. rw (parts, good) (tells.faults later);
      times = rw (parts, good, other) tells.times;
      numbers = rw (parts, good) (ap (λ b. is_padded Number (Ok found) || b) tells.numbers);
    }

behind_doubled : (t text : List ℕ) (name : Ids → List ℕ) (n : Bool) → Tells text name n
    → Tells (doubled t ++ text) (λ ids. t ++ name ids) n
behind_doubled [] text name n tells = tells
behind_doubled (b ∷ t) text name n tells = ⊎_elim
    (λ (dollar : is_dollar b ≡ true). let same : b ≡ 36 = grind (arith, nat_tests) in
    rw same (behind_identifier (doubled t ++ text) (λ ids. t ++ name ids) n (behind_doubled t text name n tells) [] Dollar refl refl refl))
    (λ (other : is_dollar b ≡ false). rw other
    (behind_byte (doubled t ++ text) (λ ids. t ++ name ids) n (behind_doubled t text name n tells) b other))
    (cases_Bool (is_dollar b))

-- ---- the identifier of a number

digits_plain : (ds : List ℕ) → all_ascii_digits ds ≡ true → list_all (λ b. not (is_dollar b)) ds ≡ true
digits_plain [] are = refl
digits_plain (d ∷ ds) are = let both = and_parts (is_ascii_digit d) (all_ascii_digits ds) are in
    let digit = both.0 in
    let other : not (is_dollar d) ≡ true = grind (arith, nat_tests) in
    and_from (not (is_dollar d)) (list_all (λ b. not (is_dollar b)) ds) other (digits_plain ds both.1)

-- the width that a number has as it is read
abbrev read_width : ℕ → ℕ
read_width w = if w == 0 then 1 else w

module _ (w : ℕ) (some : 1 ≤ w) (most : w ≤ 20) where
  abbrev ds : List ℕ
  ds = decimal w

  own : IsNumeralModel (λ xs. all_ascii_digits xs ≡ true) (digits_value 10)
  own = numerals_by_value (λ xs. all_ascii_digits xs ≡ true) tells_all_ascii_digits

  are : all_ascii_digits ds ≡ true
  are = digits_decimal own w (omega arith)

  format_read : width_of (48 ∷ (ds ++ codes "d")) ≡ Some w
  format_read =
      let long : suc (length (ds ++ codes "d")) - 2 ≡ length ds = let n = length-append ds (codes "d") in omega arith in
      let digits : take (suc (length (ds ++ codes "d")) - 2) (ds ++ codes "d") ≡ ds = rw long (take_at ds (codes "d") (length ds) refl) in
      let value = digits_value-decimal own w (omega arith) in
      let nonempty = decimal_nonempty w (omega arith) in
      let short = length-decimal-le 2 w (lit< tt) (omega arith) (omega arith) in
      let one = le-leb 1 (length ds) nonempty in
      let three = le-leb (length ds) 3 (omega arith) in
      let least = le-leb 1 w some in
      let greatest = le-leb w 20 most in
      let same = (bytes_eq-Decides (48 ∷ (ds ++ codes "d")) (48 ∷ (ds ++ codes "d"))).1 refl in
      rw (digits, same, are, one, three, value, least, greatest) refl

  identifier_read : identifier_of (codes "Number%0" ++ (ds ++ codes "d")) ≡ Ok (Padded Number w)
  identifier_read = let here : nat_lt 6 (length (codes "Number%0" ++ (ds ++ codes "d"))) ≡ true = lt-ltb 6 _ (omega arith) in
      rw (here, format_read) refl

  identifier_plain : list_all (λ b. not (is_dollar b)) (codes "Number%0" ++ (ds ++ codes "d")) ≡ true
  identifier_plain = list_all-append (λ b. not (is_dollar b)) ds (codes "d") ∙ and_from _ _ (digits_plain ds are) refl

  behind_padded : (text : List ℕ) (name : Ids → List ℕ) → Tells text name false
      → Tells ((codes "$Number%0" ++ (ds ++ codes "d$")) ++ text) (λ ids. padded w (decimal ids.number) ++ name ids) true
  behind_padded text name tells =
      let shape : 36 ∷ ((codes "Number%0" ++ (ds ++ codes "d")) ++ (36 ∷ text)) ≡ (codes "$Number%0" ++ (ds ++ codes "d$")) ++ text
      = ap (λ xs. codes "$Number%0" ++ xs) (append_assoc ds (codes "d") (36 ∷ text) ∙ sym (append_assoc ds (codes "d$") text)) in
      subst (λ xs. Tells xs (λ ids. padded w (decimal ids.number) ++ name ids) true) shape
      (behind_identifier text name false tells (codes "Number%0" ++ (ds ++ codes "d")) (Padded Number w)
      identifier_plain identifier_read refl)

behind_number : (w : ℕ) → w ≤ 20 → (text : List ℕ) (name : Ids → List ℕ) → Tells text name false
    → Tells (number_identifier w ++ text) (λ ids. padded (read_width w) (decimal ids.number) ++ name ids) true
behind_number w most text name tells = ⊎_elim
    (λ (unpadded : (w == 0) ≡ true). rw unpadded
    (behind_identifier text name false tells (codes "Number") (Padded Number 1) refl refl refl))
    (λ (wide : (w == 0) ≡ false). let some : 1 ≤ w = grind (arith, nat_tests) in
    rw wide (behind_padded w some most text name tells)) (cases_Bool (w == 0))

-- a number has a digit
same_width : (w n : ℕ) → n < 2 ^ 64 → padded (read_width w) (decimal n) ≡ padded w (decimal n)
same_width w n low = let some = decimal_nonempty n low in ⊎_elim
    (λ (unpadded : (w == 0) ≡ true). let same : w ≡ 0 = eqb-true w 0 unpadded in
    let one : 1 - length (decimal n) ≡ 0 = omega arith in
    let none : 0 - length (decimal n) ≡ 0 = omega arith in
    rw (same, one, none) refl)
    (λ (wide : (w == 0) ≡ false). rw wide refl) (cases_Bool (w == 0))

module _ (front back : List ℕ) (w : ℕ) (most : w ≤ 20) where
  abbrev media : List ℕ
  media = doubled front ++ (number_identifier w ++ doubled back)

  abbrev name_back : Ids → List ℕ
  name_back ids = back ++ []

  abbrev name_number : Ids → List ℕ
  name_number ids = padded (read_width w) (decimal ids.number) ++ name_back ids

  whole : Tells media (λ ids. front ++ name_number ids) true
  whole = subst (λ xs. Tells (doubled front ++ (number_identifier w ++ xs)) (λ ids. front ++ name_number ids) true)
      (append-nil (doubled back))
      (behind_doubled front (number_identifier w ++ (doubled back ++ [])) name_number true
      (behind_number w most (doubled back ++ []) name_back (behind_doubled back [] (λ ids. []) false tells_nothing)))

  is_template : template_of media ≡ Ok media
  is_template = let late : (uses Number media && uses Time media) ≡ false = and_right (uses Number media) (uses Time media) whole.times in
      rw (whole.even, late, whole.faults None) refl

  named_media : (ids : Ids) → ids.number < 2 ^ 64 → named media ids ≡ front ++ (padded w (decimal ids.number) ++ back)
  named_media ids low = whole.names ids ∙ rw (append-nil back, same_width w ids.number low) refl

pub each_named : TemplatesName
each_named first rest p is =
    let front : List ℕ = take p.prefix_len first in
    let back : List ℕ = drop p.suffix_start first in
    let most = narrow first rest p is in
    record {
      template = is_template front back p.width most;
      numbered = (whole front back p.width most).numbers;
      untimed = (whole front back p.width most).times;
      names = λ ids k below number. let small = low first rest p is k below in
          named_media front back p.width most ids (rw number small) ∙ rw number (given first rest p is k below);
    }

pub each_literal : LiteralsName
each_literal text =
    let tells : Tells (doubled text) (λ ids. text ++ []) false = subst (λ xs. Tells xs (λ ids. text ++ []) false) (append-nil (doubled text))
    (behind_doubled text [] (λ ids. []) false tells_nothing) in
    let late : (uses Number (doubled text) && uses Time (doubled text)) ≡ false
    = and_right (uses Number (doubled text)) (uses Time (doubled text)) tells.times in
    record {
      template = rw (tells.even, late, tells.faults None) refl;
      unnumbered = tells.numbers;
      untimed = tells.times;
      names = λ ids. tells.names ids ∙ append-nil text;
    }
