-- Attribute lists are read as they are written.
use Rattle.std.proofs.Common.{◌≡◌, ℕ, zero, suc, ◌<◌, ◌≤◌, Bool, true, false, ◌||◌, not, List, [], ◌∷◌, ◌++◌, length, eqb, Option, Some}
use Rattle.std.proofs.Common.{None, option_map, option_and_then, Ok, Err, refl, sym, ◌∙◌, ap, subst, arith, inl, inr, ◌⊎◌, append_assoc}
use Rattle.std.proofs.{Common.{length-append, bytes_eq}, lemmas.Bool.{cases_Bool, cases_lt, and_parts}, lemmas.Option.slice_get_within}
use Rattle.std.proofs.{lemmas.Slice.Eq.bytes_eq-Decides, lemmas.List.append-nil}
use Rattle.std.specs.List.{list_all, slice_get}
use Rattle.bridge_io.specs.{Texts.is_among, declared.place.Place.Place}
use Rattle.hls_lines.specs.Attributes.{NameValue, after_comma, attribute_at, attributes_at, attributes_of, is_name, is_name_byte, more_by}
use Rattle.hls_lines.specs.{Attributes.{names_of, repeats_after}, Grammar.{AreWritten, IsWritten, HasDouble, ReadAreWritten, WrittenOneWay}}
use Rattle.hls_lines.specs.{Grammar.{AttributesAreTold, OtherTextsAreRefused, DoublesAreRefused}, Marks.without_spaces}
use Rattle.hls_lines.specs.declared.fault.LineFault.TheVariants.{Attribute, DoubleAttribute}
use Rattle.hls_lines.proofs.{AttributeLemmas.{first_then, unrolled}, AttributeTexts.{attribute_read, attribute_written, comma_read}}
use Rattle.hls_lines.proofs.AttributeTexts.{comma_stops, comma_written, name_byte, none_of}

-- ---- lists

-- a list that is read has a first attribute
record HasFirst (text : List ℕ) (attributes : List NameValue) : Type 0 where
  first : NameValue × List ℕ
  others : List NameValue
  read : attribute_at text ≡ Some first
  more : more_by attributes_at first.1 ≡ Some others
  is : attributes ≡ first.0 ∷ others

has_first : (text : List ℕ) (attributes : List NameValue) → attributes_at text ≡ Some attributes → HasFirst text attributes
has_first text attributes e = of_first (attribute_at text) refl (sym (unrolled text) ∙ e)
  where
    of_others : (first : NameValue × List ℕ) (o : Option (List NameValue)) → attribute_at text ≡ Some first
        → more_by attributes_at first.1 ≡ o → option_map (λ others. first.0 ∷ others) o ≡ Some attributes → HasFirst text attributes
    of_others first None f m e = absurd (cc)
    of_others first (Some others) f m e = record { first = first; others = others; read = f; more = m; is = cc }

    of_first : (o : Option (NameValue × List ℕ)) → attribute_at text ≡ o → first_then attributes_at o ≡ Some attributes
        → HasFirst text attributes
    of_first None f e = absurd (cc)
    of_first (Some first) f e = of_others first (more_by attributes_at first.1) f refl e

-- nothing or a comma follows the first attribute
more_read : (rest : List ℕ) (others : List NameValue) → more_by attributes_at rest ≡ Some others
    → ((rest ≡ []) × (others ≡ [])) ⊎ ((next : List ℕ) × ((after_comma rest ≡ Some next) × (attributes_at next ≡ Some others)))
more_read [] others e = inl (refl, cc)
more_read (b ∷ bs) others e = of_next (after_comma (b ∷ bs)) refl e
  where
    of_next : (o : Option (List ℕ)) → after_comma (b ∷ bs) ≡ o → option_and_then attributes_at o ≡ Some others
        → ((b ∷ bs ≡ []) × (others ≡ [])) ⊎ ((next : List ℕ) × ((after_comma (b ∷ bs) ≡ Some next) × (attributes_at next ≡ Some others)))
    of_next None c e = absurd (cc)
    of_next (Some next) c e = inr (next, (c, e))

never_empty : (text : List ℕ) → attributes_at text ≡ Some [] → ⊥
never_empty text e = let has = has_first text [] e in absurd (cc (has.is))

pub written : (attributes : List NameValue) (text : List ℕ) → attributes_at text ≡ Some attributes → AreWritten attributes text
written [] text e = never_empty text e
written (attribute ∷ []) text e =
    let has = has_first text (attribute ∷ []) e in
    let front = attribute_written text has.first has.read in
    let same : has.first.0 ≡ attribute = cc (has.is) in
    elim (more_read has.first.1 has.others has.more) [
      | inl end ↦ subst (λ (t : List ℕ). IsWritten attribute t) (sym (front.1.0 ∙ ap (λ r. front.0 ++ r) end.0 ∙ append-nil front.0))
          (subst (λ (a : NameValue). IsWritten a front.0) same front.1.1)
      | inr goes_on ↦ let none : has.others ≡ [] = cc (has.is) in absurd (never_empty goes_on.0 (goes_on.1.1 ∙ ap Some none))
    ]
written (attribute ∷ (next ∷ others)) text e =
    let has = has_first text (attribute ∷ (next ∷ others)) e in
    let front = attribute_written text has.first has.read in
    let same : has.first.0 ≡ attribute = cc (has.is) in
    let rest : has.others ≡ next ∷ others = cc (has.is) in
    elim (more_read has.first.1 has.others has.more) [
      | inl end ↦ let never : [] ≡ next ∷ others = sym end.1 ∙ rest in absurd (cc)
      | inr goes_on ↦
          let comma = comma_written has.first.1 goes_on.0 goes_on.1.0 in
          record {
            front = front.0;
            comma = comma.0;
            rest = goes_on.0;
            is = front.1.0 ∙ ap (λ r. front.0 ++ r) comma.1.0;
            front_is = subst (λ (a : NameValue). IsWritten a front.0) same front.1.1;
            comma_is = comma.1.1;
            rest_is = written (next ∷ others) goes_on.0 (goes_on.1.1 ∙ ap Some rest);
          }
    ]

-- what begins with a name begins with no space
named_plain : (name rest : List ℕ) → is_name name ≡ true → without_spaces (name ++ rest) ≡ name ++ rest
named_plain [] rest e = absurd (cc)
named_plain (b ∷ bs) rest e = let all = and_parts (not (eqb (length (b ∷ bs)) 0)) (list_all is_name_byte (b ∷ bs)) e in
    rw (name_byte b (and_parts (is_name_byte b) (list_all is_name_byte bs) all.1).0).1 refl

written_plain : (attribute : NameValue) (front rest : List ℕ) → IsWritten attribute front → without_spaces (front ++ rest) ≡ front ++ rest
written_plain attribute front rest is = rw (is.is, append_assoc attribute.0 (61 ∷ is.value) rest)
    (named_plain attribute.0 (61 ∷ (is.value ++ rest)) is.named)

not_spaced : (attributes : List NameValue) (text : List ℕ) → AreWritten attributes text → without_spaces text ≡ text
not_spaced [] text are = absurd are
not_spaced (attribute ∷ []) text are = rw append-nil at (written_plain attribute text [] are)
not_spaced (attribute ∷ (next ∷ others)) text are = rw are.is (written_plain attribute are.front (are.comma ++ are.rest) are.front_is)

more_there : (text next : List ℕ) → after_comma text ≡ Some next → more_by attributes_at text ≡ attributes_at next
unfolding after_comma
more_there [] next e = absurd (cc)
more_there (b ∷ bs) next e = rw e refl

pub read : (attributes : List NameValue) (text : List ℕ) → AreWritten attributes text → attributes_at text ≡ Some attributes
read [] text are = absurd are
read (attribute ∷ []) text are =
    let first : attribute_at text ≡ Some (attribute, []) = rw append-nil at (attribute_read attribute text [] are tt) in
    unrolled text ∙ rw first refl
read (attribute ∷ (next ∷ others)) text are =
    let first = attribute_read attribute are.front (are.comma ++ are.rest) are.front_is (comma_stops are.comma are.rest are.comma_is) in
    let more = more_there (are.comma ++ are.rest) are.rest (comma_read are.comma are.rest are.comma_is
    (not_spaced (next ∷ others) are.rest are.rest_is)) in
    rw are.is (unrolled (are.front ++ (are.comma ++ are.rest)) ∙ rw (first, more, read (next ∷ others) are.rest are.rest_is) refl)

pub read_are_written : ReadAreWritten
read_are_written text attributes = (written attributes text, read attributes text)

pub written_one_way : WrittenOneWay
written_one_way text one other is also = let same : Some one ≡ Some other = sym (read one text is) ∙ read other text also in cc

-- ---- names that stand twice

among_at : (name : List ℕ) (names : List (List ℕ)) → is_among name names ≡ true → (i : ℕ) × (slice_get names i ≡ Some name)
among_at name [] e = absurd (cc)
among_at name (x ∷ xs) e = elim (cases_Bool (bytes_eq name x)) [
  | inl is ↦ (0, ap Some (sym ((bytes_eq-Decides name x).0 is)))
  | inr other ↦ let more : is_among name xs ≡ true = rw other at e in let at = among_at name xs more in (suc at.0, at.1)
]

at_among : (name : List ℕ) (names : List (List ℕ)) (i : ℕ) → slice_get names i ≡ Some name → is_among name names ≡ true
at_among name [] i e = absurd (cc)
at_among name (x ∷ xs) zero e = let same : name ≡ x = cc in rw ((bytes_eq-Decides name x).1 same) refl
at_among name (x ∷ xs) (suc i) e = or_later (bytes_eq name x) (is_among name xs) (at_among name xs i e)
  where
    or_later : (a b : Bool) → b ≡ true → (a || b) ≡ true
    or_later true b e = refl
    or_later false b e = e

get_front : (xs ys : List (List ℕ)) (i : ℕ) → i < length xs → slice_get (xs ++ ys) i ≡ slice_get xs i
get_front [] ys i less = absurd (omega arith)
get_front (x ∷ xs) ys zero less = refl
get_front (x ∷ xs) ys (suc i) less = get_front xs ys i (omega arith)

get_seam : (xs ys : List (List ℕ)) (y : List ℕ) → slice_get (xs ++ y ∷ ys) (length xs) ≡ Some y
get_seam [] ys y = refl
get_seam (x ∷ xs) ys y = get_seam xs ys y

repeated : (before names : List (List ℕ)) → repeats_after before names ≡ true → HasDouble (before ++ names)
repeated before [] e = absurd (cc)
repeated before (name ∷ names) e = elim (cases_Bool (is_among name before)) [
  | inl is ↦ let at = among_at name before is in let less = slice_get_within before at.0 name at.1 in record {
    first = at.0;
    second = length before;
    name = name;
    less = less;
    at_first = get_front before (name ∷ names) at.0 less ∙ at.1;
    at_second = get_seam before names name;
  }
  | inr other ↦ let more : repeats_after (before ++ name ∷ []) names ≡ true = rw other at e in
      subst (λ (all : List (List ℕ)). HasDouble all) (append_assoc before (name ∷ []) names) (repeated (before ++ name ∷ []) names more)
]

single : (before names : List (List ℕ)) → repeats_after before names ≡ false → (twice : HasDouble (before ++ names))
    → length before ≤ twice.second → ⊥
single before [] e twice le = let within = slice_get_within (before ++ []) twice.second twice.name twice.at_second in
    omega (arith, within, length-append before [])
single before (name ∷ names) e twice le =
    let new = none_of (is_among name before) (repeats_after (before ++ name ∷ []) names) e in
    elim (cases_lt (length before) twice.second) [
      | inl later ↦
          let all : before ++ name ∷ names ≡ (before ++ name ∷ []) ++ names = sym (append_assoc before (name ∷ []) names) in
          single (before ++ name ∷ []) names new.1 (record {
            first = twice.first;
            second = twice.second;
            name = twice.name;
            less = twice.less;
            at_first = rw (← all) twice.at_first;
            at_second = rw (← all) twice.at_second;
          }) (omega (arith, length-append before (name ∷ [])))
      | inr here ↦
          let at : twice.second ≡ length before = omega arith in
          let same : name ≡ twice.name = let both : Some name ≡ Some twice.name = sym (get_seam before names name)
          ∙ ap (λ i. slice_get (before ++ name ∷ names) i) (sym at) ∙ twice.at_second in cc in
          let earlier : twice.first < length before = omega (arith, twice.less) in
          let there = at_among twice.name before twice.first (sym (get_front before (name ∷ names) twice.first earlier) ∙ twice.at_first) in
          let never : true ≡ false = sym there ∙ ap (λ n. is_among n before) (sym same) ∙ new.0 in absurd (cc)
    ]

-- ---- what is told

-- the three answers to a text, with what it writes
data Outcome (text : List ℕ) (place : Place) : Type 0 where
  nothing : attributes_at text ≡ None → attributes_of text place ≡ Err (Attribute place) → Outcome text place
  double : (attributes : List NameValue) → AreWritten attributes text → HasDouble (names_of attributes)
      → attributes_of text place ≡ Err (DoubleAttribute place) → Outcome text place
  listed : (attributes : List NameValue) → AreWritten attributes text → (HasDouble (names_of attributes) → ⊥)
      → attributes_of text place ≡ Ok attributes → Outcome text place

outcome : (text : List ℕ) (place : Place) → Outcome text place
unfolding attributes_of
outcome text place = of_list (attributes_at text) refl
  where
    of_names : (attributes : List NameValue) (b : Bool) → attributes_at text ≡ Some attributes → repeats_after [] (names_of attributes) ≡ b
        → Outcome text place
    of_names attributes true e r = double attributes (written attributes text e) (repeated [] (names_of attributes) r) (rw (e, r) refl)
    of_names attributes false e r = listed attributes (written attributes text e)
        (λ twice. single [] (names_of attributes) r twice (omega arith)) (rw (e, r) refl)

    of_list : (o : Option (List NameValue)) → attributes_at text ≡ o → Outcome text place
    of_list None e = nothing e (rw e refl)
    of_list (Some attributes) e = of_names attributes (repeats_after [] (names_of attributes)) e refl

unwritten : (text : List ℕ) (attributes : List NameValue) → attributes_at text ≡ None → AreWritten attributes text → ⊥
unwritten text attributes none are = let some = read attributes text are in absurd (cc)

told : (text : List ℕ) (place : Place) (attributes : List NameValue) → Outcome text place → attributes_of text place ≡ Ok attributes
    → AreWritten attributes text × (HasDouble (names_of attributes) → ⊥)
told text place attributes (nothing none err) e = absurd (cc)
told text place attributes (double others are twice err) e = absurd (cc)
told text place attributes (listed others are single ok) e = let same : others ≡ attributes = cc in
    subst (λ (a : List NameValue). AreWritten a text × (HasDouble (names_of a) → ⊥)) same (are, single)

tells : (text : List ℕ) (place : Place) (attributes : List NameValue) → Outcome text place
    → AreWritten attributes text × (HasDouble (names_of attributes) → ⊥) → attributes_of text place ≡ Ok attributes
tells text place attributes (nothing none err) is = absurd (unwritten text attributes none is.0)
tells text place attributes (double others are twice err) is =
    absurd (is.1 (subst (λ (a : List NameValue). HasDouble (names_of a)) (written_one_way text others attributes are is.0) twice))
tells text place attributes (listed others are single ok) is = ok ∙ ap Ok (written_one_way text others attributes are is.0)

pub attributes_are_told : AttributesAreTold
attributes_are_told text place attributes = (
  told text place attributes (outcome text place),
  tells text place attributes (outcome text place),
)

refused : (text : List ℕ) (place : Place) → Outcome text place → attributes_of text place ≡ Err (Attribute place)
    → (attributes : List NameValue) → AreWritten attributes text → ⊥
refused text place (nothing none err) e attributes are = unwritten text attributes none are
refused text place (double others is twice err) e attributes are = absurd (cc)
refused text place (listed others is single ok) e attributes are = absurd (cc)

refuses : (text : List ℕ) (place : Place) → Outcome text place → ((attributes : List NameValue) → AreWritten attributes text → ⊥)
    → attributes_of text place ≡ Err (Attribute place)
refuses text place (nothing none err) never = err
refuses text place (double others is twice err) never = absurd (never others is)
refuses text place (listed others is single ok) never = absurd (never others is)

pub other_texts_are_refused : OtherTextsAreRefused
other_texts_are_refused text place = (refused text place (outcome text place), refuses text place (outcome text place))

doubled : (text : List ℕ) (place : Place) → Outcome text place → attributes_of text place ≡ Err (DoubleAttribute place)
    → (attributes : List NameValue) × (AreWritten attributes text × HasDouble (names_of attributes))
doubled text place (nothing none err) e = absurd (cc)
doubled text place (double others is twice err) e = (others, (is, twice))
doubled text place (listed others is single ok) e = absurd (cc)

doubles : (text : List ℕ) (place : Place) → Outcome text place → (attributes : List NameValue)
    × (AreWritten attributes text × HasDouble (names_of attributes)) → attributes_of text place ≡ Err (DoubleAttribute place)
doubles text place (nothing none err) has = absurd (unwritten text has.0 none has.1.0)
doubles text place (double others is twice err) has = err
doubles text place (listed others is single ok) has =
    absurd (single (subst (λ (a : List NameValue). HasDouble (names_of a)) (written_one_way text has.0 others has.1.0 is) has.1.1))

pub doubles_are_refused : DoublesAreRefused
doubles_are_refused text place = (doubled text place (outcome text place), doubles text place (outcome text place))
