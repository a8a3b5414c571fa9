-- The tree of a written MPD can be written.
use Rattle.std.proofs.Common.{◌≡◌, ℕ, suc, ◌≤◌, ◌==◌, ◌&&◌, ◌||◌, not, Bool, true, false, List, [], ◌∷◌, ◌++◌, map, bytes_eq, Option}
use Rattle.std.proofs.{Common.{Some, None, IfSome, option_map, option_and_then, if◌then◌else◌, refl, ap, arith}, lemmas.Bool.and_parts}
use Rattle.std.specs.List.{AllByRecursion, list_all}
use Rattle.bridge_io.specs.{Texts.is_among, declared.media.Ratio.Ratio}
use Rattle.mpd_tree.specs.{Characters.is_name, Placed.{AllDiffer, AllLegal, AreLegal, IsLegalName, IsLegalTag, levels}}
use Rattle.dash_writer.specs.Elements.{Attribute, Element as Written, attributes_of, in_order, leaf, node, tag_of, with_attribute}
use Rattle.dash_writer.specs.Values.{known_rate, rate_text}
use Rattle.laws_of_mpds.specs.Texts.{IsCarried}
use Rattle.laws_of_mpds.proofs.Plain.{carried, is_plain, rate_plain}

-- ---- tags

-- names of printable ASCII
abbrev pub are_names : List (List ℕ) → Bool
are_names names = list_all (λ name. is_name name && list_all is_plain name) names

abbrev pub differ : List (List ℕ) → Bool
differ [] = true
differ (name ∷ names) = not (is_among name names) && differ names

abbrev names_in : List Attribute → List (List ℕ)
names_in attributes = map (λ (a : Attribute). a.0) attributes

legal_name : (name : List ℕ) → (is_name name && list_all is_plain name) ≡ true → IsLegalName name
legal_name name is = let parts = and_parts (is_name name) (list_all is_plain name) is in record {
  named = parts.0;
  clean = (carried name parts.1).clean;
}

-- values that values can carry
abbrev pub AreCarried : List Attribute → Type 0
AreCarried attributes = AllByRecursion (λ (a : Attribute). IfSome a.1 IsCarried) attributes

one_legal : (name : List ℕ) (value : Option (List ℕ)) (others : List (List ℕ × List ℕ)) → (is_name name && list_all is_plain name) ≡ true
    → IfSome value IsCarried → AllLegal others → AllLegal (with_attribute name value others)
one_legal name None others is carries legal = legal
one_legal name (Some value) others is carries legal = (
  record {
    name = legal_name name is;
    value = carries.clean;
    no_controls = carries.no_controls;
  },
  legal,
)

all_legal : (attributes : List Attribute) → are_names (names_in attributes) ≡ true → AreCarried attributes
    → AllLegal (attributes_of attributes)
all_legal [] are carry = tt
all_legal (a ∷ more) are carry =
    let parts = and_parts (is_name a.0 && list_all is_plain a.0) (are_names (names_in more)) are in
    one_legal a.0 a.1 (attributes_of more) parts.0 carry.0 (all_legal more parts.1 carry.1)

abbrev written_names : List (List ℕ × List ℕ) → List (List ℕ)
written_names attributes = map (λ (a : List ℕ × List ℕ). a.0) attributes

-- a name that isn't among all names is among no written ones
one_absent : (name other : List ℕ) (value : Option (List ℕ)) (others : List (List ℕ × List ℕ)) → bytes_eq name other ≡ false
    → is_among name (written_names others) ≡ false → is_among name (written_names (with_attribute other value others)) ≡ false
one_absent name other None others is absent = absent
one_absent name other (Some value) others is absent = rw is absent

split : (name other : List ℕ) (names : List (List ℕ)) → is_among name (other ∷ names) ≡ false
    → (bytes_eq name other ≡ false) × (is_among name names ≡ false)
split name other names is = go (bytes_eq name other) (is_among name names) is where
  go : (a b : Bool) → (a || b) ≡ false → (a ≡ false) × (b ≡ false)
  go true b whole = absurd (cc)
  go false b whole = (refl, whole)

absent : (name : List ℕ) (attributes : List Attribute) → is_among name (names_in attributes) ≡ false
    → is_among name (written_names (attributes_of attributes)) ≡ false
absent name [] is = refl
absent name (a ∷ more) is =
    let parts = split name a.0 (names_in more) is in
    one_absent name a.0 a.1 (attributes_of more) parts.0 (absent name more parts.1)

not_true : (b : Bool) → not b ≡ true → b ≡ false
not_true true is = absurd (cc)
not_true false is = refl

one_differs : (name : List ℕ) (value : Option (List ℕ)) (others : List (List ℕ × List ℕ)) → is_among name (written_names others) ≡ false
    → AllDiffer (written_names others) → AllDiffer (written_names (with_attribute name value others))
one_differs name None others is all = all
one_differs name (Some value) others is all = (ap not is, all)

all_differ : (attributes : List Attribute) → differ (names_in attributes) ≡ true → AllDiffer (written_names (attributes_of attributes))
all_differ [] is = tt
all_differ (a ∷ more) is =
    let parts = and_parts (not (is_among a.0 (names_in more))) (differ (names_in more)) is in
    one_differs a.0 a.1 (attributes_of more) (absent a.0 more (not_true (is_among a.0 (names_in more)) parts.0)) (all_differ more parts.1)

pub legal_tag : (name : List ℕ) (attributes : List Attribute) → are_names (name ∷ names_in attributes) ≡ true
    → differ (names_in attributes) ≡ true
    → AreCarried attributes → IsLegalTag (tag_of name attributes)
legal_tag name attributes are differs carry =
    let parts = and_parts (is_name name && list_all is_plain name) (are_names (names_in attributes)) are in
    record { name = legal_name name parts.0; attributes = all_legal attributes parts.1 carry; differ = all_differ attributes differs }

-- ---- elements

-- legal, with so many levels inside it at most
abbrev pub IsFine : ℕ → Written → Type 0
IsFine n x = IsLegalTag x.0 × AreLegal x.1 × (levels x.1 ≤ n)

pub all_fine : (n : ℕ) (xs : List Written) → AllByRecursion (IsFine n) xs → AreLegal (in_order xs) × (levels (in_order xs) ≤ suc n)
all_fine n [] fine = (tt, omega arith)
all_fine n (x ∷ xs) fine =
    let rest = all_fine n xs fine.1 in
    ((fine.0.0, fine.0.1, rest.0), omega (arith, fine.0.2, rest.1))

pub fine_node : (n : ℕ) (name : List ℕ) (attributes : List Attribute) (children : List Written) → IsLegalTag (tag_of name attributes)
    → AllByRecursion (IsFine n) children → IsFine (suc n) (node name attributes children)
fine_node n name attributes children legal fine = let inside = all_fine n children fine in (legal, inside.0, inside.1)

pub fine_leaf : (n : ℕ) (name : List ℕ) (attributes : List Attribute) → IsLegalTag (tag_of name attributes)
    → IsFine n (leaf name attributes)
fine_leaf n name attributes legal = (legal, tt, omega arith)

pub joined_fine : (n : ℕ) (xs ys : List Written) → AllByRecursion (IsFine n) xs → AllByRecursion (IsFine n) ys
    → AllByRecursion (IsFine n) (xs ++ ys)
joined_fine n [] ys first later = later
joined_fine n (x ∷ xs) ys first later = (first.0, joined_fine n xs ys first.1 later)

-- ---- values that may be there

pub maybe_plain : {X : Type 0} (text : X → List ℕ) → ((x : X) → list_all is_plain (text x) ≡ true) → (value : Option X)
    → IfSome (option_map text value) IsCarried
maybe_plain text plain None = tt
maybe_plain text plain (Some x) = carried (text x) (plain x)

pub rate_carried : (rate : Option Ratio) → IfSome (option_and_then known_rate rate) IsCarried
rate_carried None = tt
rate_carried (Some ratio) = go (ratio.n == 0) where
  go : (zero : Bool) → IfSome (if zero then None else Some (rate_text ratio)) IsCarried
  go true = tt
  go false = carried (rate_text ratio) (rate_plain ratio)
