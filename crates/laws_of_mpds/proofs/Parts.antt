-- What is so of each byte of a text is so of its parts.
use Rattle.std.proofs.Common.{◌≡◌, ℕ, zero, suc, ◌+◌, ◌==◌, Bool, true, false, cond, List, [], ◌∷◌, take, drop, length, position, Option}
use Rattle.std.proofs.Common.{Some, None, option_map, option_and_then, unwrap_or, IfSome, Ok, Err, if◌then◌else◌, refl, ap, subst}
use Rattle.std.proofs.lemmas.Bool.{and_parts}
use Rattle.std.specs.{Prelude.bytes_eq, List.{AllByRecursion, list_all, slice_split, onto_first}}
use Rattle.bridge_io.specs.declared.place.Place.{Place}
use Rattle.hls_lines.specs.Attributes.{NameValue, after_comma, attribute_at, attribute_with, attributes_at, attributes_in, attributes_of}
use Rattle.hls_lines.specs.Attributes.{ends_value, is_equals, is_name, is_quote, more_by, names_of, repeats_after, unless_double, value_at}
use Rattle.hls_lines.specs.{Attributes.{value_behind, value_of}, declared.fault.LineFault.TheVariants.DoubleAttribute, Marks.after_mark}
use Rattle.hls_lines.specs.Marks.{parts_at, without_spaces}

then_some : {A B : Type 0} (P : A → Type 0) (Q : B → Type 0) (f : A → Option B) → ((a : A) → P a → IfSome (f a) Q) → (o : Option A)
    → IfSome o P
    → IfSome (option_and_then f o) Q
then_some P Q f each None is = tt
then_some P Q f each (Some a) is = each a is

map_some : {A B : Type 0} (P : A → Type 0) (Q : B → Type 0) (f : A → B) → ((a : A) → P a → Q (f a)) → (o : Option A) → IfSome o P
    → IfSome (option_map f o) Q
map_some P Q f each None is = tt
map_some P Q f each (Some a) is = each a is

pub some_of : {A : Type 0} (P : A → Type 0) (o : Option A) (a : A) → IfSome o P → o ≡ Some a → P a
some_of P o a all is = subst (λ x. IfSome x P) is all

module _ (p : ℕ → Bool) where
  abbrev pub Are : List ℕ → Type 0
  Are text = list_all p text ≡ true

  -- ---- cut texts

  pub front : (n : ℕ) (text : List ℕ) → Are text → Are (take n text)
  front zero text all = refl
  front (suc n) [] all = refl
  front (suc n) (b ∷ bs) all = let parts = and_parts (p b) (list_all p bs) all in rw parts.0 (front n bs parts.1)

  pub back : (n : ℕ) (text : List ℕ) → Are text → Are (drop n text)
  back zero text all = all
  back (suc n) [] all = refl
  back (suc n) (b ∷ bs) all = back n bs (and_parts (p b) (list_all p bs) all).1

  onto : (b : ℕ) (parts : List (List ℕ)) → p b ≡ true → AllByRecursion Are parts → AllByRecursion Are (onto_first b parts)
  onto b [] one all = (rw one refl, tt)
  onto b (part ∷ parts) one all = (rw one all.0, all.1)

  split_by : (b : ℕ) (parts : List (List ℕ)) (cut : Bool) → p b ≡ true → AllByRecursion Are parts
      → AllByRecursion Are (cond cut ([] ∷ parts) (onto_first b parts))
  split_by b parts true one all = (refl, all)
  split_by b parts false one all = onto b parts one all

  pub split : (q : ℕ → Bool) (text : List ℕ) → Are text → AllByRecursion Are (slice_split q text)
  split q [] all = (refl, tt)
  split q (b ∷ bs) all = let parts = and_parts (p b) (list_all p bs) all in split_by b (slice_split q bs) (q b) parts.0 (split q bs parts.1)

  cut_at : (text : List ℕ) → Are text → (place : Option ℕ)
      → IfSome {T = List ℕ × List ℕ} (option_map {U = List ℕ × List ℕ} (λ at. (take at text, drop (at + 1) text)) place)
      (λ parts. Are parts.0 × Are parts.1)
  cut_at text all None = tt
  cut_at text all (Some at) = (front at text all, back (at + 1) text all)

  pub cut : (test : ℕ → Bool) (text : List ℕ) → Are text → IfSome (parts_at test text) (λ parts. Are parts.0 × Are parts.1)
  cut test text all = cut_at text all (position test text)

  pub marked : (mark : ℕ) (text : List ℕ) → Are text → IfSome (after_mark mark text) Are
  marked mark [] all = tt
  marked mark (b ∷ bs) all = go (b == mark) (and_parts (p b) (list_all p bs) all).1 where
    go : (is : Bool) → Are bs → IfSome (if is then Some bs else None) Are
    go true rest = rest
    go false rest = tt

  spaceless_by : (space : Bool) (b : ℕ) (bs : List ℕ) → Are (b ∷ bs) → Are (without_spaces bs)
      → Are (if space then without_spaces bs else b ∷ bs)
  spaceless_by true b bs all rest = rest
  spaceless_by false b bs all rest = all

  spaceless : (text : List ℕ) → Are text → Are (without_spaces text)
  spaceless [] all = refl
  spaceless (b ∷ bs) all = spaceless_by (b == 32) b bs all (spaceless bs (and_parts (p b) (list_all p bs) all).1)

  -- ---- attributes

  plain_by : (none : Bool) (size : ℕ) (text : List ℕ) → Are text
      → IfSome {T = List ℕ × List ℕ} (if none then None else Some (take size text, drop size text)) (λ f. Are f.0 × Are f.1)
  plain_by true size text all = tt
  plain_by false size text all = (front size text all, back size text all)

  behind : (quoted : Option (List ℕ)) (text : List ℕ) → Are text → IfSome quoted Are
      → IfSome (value_behind quoted text) (λ f. Are f.0 × Are f.1)
  behind (Some quoted) text all is = cut is_quote quoted is
  behind None text all is = plain_by (unwrap_or (position ends_value text) (length text) == 0)
      (unwrap_or (position ends_value text) (length text)) text all

  value : (text : List ℕ) → Are text → IfSome (value_at text) (λ f. Are f.0 × Are f.1)
  value text all = behind (after_mark 34 text) text all (marked 34 text all)

  abbrev IsFound : NameValue × List ℕ → Type 0
  IsFound found = Are found.0.1 × Are found.1

  named_by : (named : Bool) (name : List ℕ) (found : Option (List ℕ × List ℕ)) → IfSome found (λ f. Are f.0 × Are f.1)
      → IfSome (if named then option_map (λ f. ((name, f.0), f.1)) found else None) IsFound
  named_by true name None all = tt
  named_by true name (Some f) all = all
  named_by false name found all = tt

  attribute : (text : List ℕ) → Are text → IfSome (attribute_at text) IsFound
  unfolding attribute_at
  attribute text all = then_some (λ parts. Are parts.0 × Are parts.1) IsFound attribute_with
      (λ parts both. named_by (is_name parts.0) parts.0 (value_at parts.1) (value parts.1 both.1)) (parts_at is_equals text)
      (cut is_equals text all)

  comma : (text : List ℕ) → Are text → IfSome (after_comma text) Are
  unfolding after_comma
  comma text all = map_some Are Are without_spaces spaceless (after_mark 44 (without_spaces text))
      (marked 44 (without_spaces text) (spaceless text all))

  abbrev AreValues : List NameValue → Type 0
  AreValues attributes = AllByRecursion (λ (a : NameValue). Are a.1) attributes

  more : (read : List ℕ → Option (List NameValue)) → ((text : List ℕ) → Are text → IfSome (read text) AreValues) → (text : List ℕ)
      → Are text
      → IfSome (more_by read text) AreValues
  more read each [] all = tt
  more read each (b ∷ bs) all = then_some Are AreValues read each (after_comma (b ∷ bs)) (comma (b ∷ bs) all)

  all_in : (most : ℕ) (text : List ℕ) → Are text → IfSome (attributes_in most text) AreValues
  all_in zero text all = tt
  all_in (suc most) text all =
      then_some IsFound AreValues (λ first. option_map (λ others. first.0 ∷ others) (more_by (attributes_in most) first.1))
      (λ first is. map_some AreValues AreValues (λ others. first.0 ∷ others) (λ others rest. (is.0, rest))
      (more_by (attributes_in most) first.1)
      (more (attributes_in most) (all_in most) first.1 is.1))
      (attribute_at text) (attribute text all)

  named : (name : List ℕ) (attributes : List NameValue) → AreValues attributes → IfSome (value_of name attributes) Are
  named name [] all = tt
  named name (a ∷ attributes) all = go (bytes_eq a.0 name) (named name attributes all.1) where
    go : (is : Bool) → IfSome (value_of name attributes) Are → IfSome (if is then Some a.1 else value_of name attributes) Are
    go true later = all.0
    go false later = later

  listed : (place : Place) (found : Option (List NameValue)) (attributes : List NameValue) → unless_double place found ≡ Ok attributes
      → found ≡ Some attributes
  listed place None attributes is = absurd (cc)
  listed place (Some found) attributes is = go (repeats_after [] (names_of found)) is where
    go : (b : Bool) → (if b then Err (DoubleAttribute place) else Ok found) ≡ Ok attributes → Some found ≡ Some attributes
    go true h = absurd (cc)
    go false h = (let same : found ≡ attributes = cc in ap Some same)

  -- a value that a list of attributes has
  pub value_in : (name text : List ℕ) (place : Place) (attributes : List NameValue) → Are text → attributes_of text place ≡ Ok attributes
      → IfSome (value_of name attributes) Are
  unfolding attributes_of attributes_at
  value_in name text place attributes all is =
      named name attributes (some_of AreValues (attributes_at text) attributes (all_in (length text) text all)
      (listed place (attributes_at text) attributes is))
