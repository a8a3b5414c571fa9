-- A printed tree is UTF-8 without a character that no text may have.
use Rattle.std.proofs.Common.{◌≡◌, ℕ, suc, not, Bool, true, false, ◌==◌, ◌&&◌, List, [], ◌∷◌, ◌++◌, Option, Some, None, option_map}
use Rattle.std.proofs.{Common.{if◌then◌else◌, codes, IsUtf8, refl, sym, ap, subst, inl, inr, arith}, lemmas.Bool.{and_parts, cases_eq}}
use Rattle.std.proofs.lemmas.Str.{IsUtf8-append, IsUtf8-nil, IsUtf8-encode, IsUtf8-from_is_utf8, IsCharBoundary-start}
use Rattle.std.specs.{List.flat_map, Str.{is_utf8, chars}}
use Rattle.mpd_tree.specs.{Characters.{begins_with_noncharacter, begins_with_bad_character, first_bad_character}, Grammar.IsClean}
use Rattle.mpd_tree.specs.Escapes.{escape_of, escape_all}
use Rattle.mpd_tree.specs.Markup.{Tag, Markup, nothing, element, attribute_text, opening, enclosed, printed, declaration, document}
use Rattle.mpd_tree.specs.Placed.{IsLegalAttribute, AllLegal, IsLegalTag, AreLegal, IsLegal}
use Rattle.mpd_tree.proofs.EscapeLemmas.{escape-append, byte_stays, character_stays}
use lib.Utf8.{scalar, scalars, encode, encodes}

-- ---- one behind another

-- no character goes on in the bytes
abbrev begins_newly : List ℕ → Bool
begins_newly [] = true
begins_newly (b ∷ bs) = not (b == 190) && not (b == 191)

newly : (bytes : List ℕ) → IsUtf8 bytes → begins_newly bytes ≡ true
newly [] u = refl
newly (b ∷ bs) u = let boundary = IsCharBoundary-start (b ∷ bs) u in grind (arith, boundary.1)

-- nothing that begins before the bytes ends in them
begins_before : (x : ℕ) (a b : List ℕ) → begins_newly b ≡ true → begins_with_bad_character (x ∷ a) ≡ false
    → begins_with_bad_character (x ∷ (a ++ b)) ≡ false
unfolding begins_with_bad_character begins_with_noncharacter
begins_before x [] [] new e = e
begins_before x [] (c ∷ cs) new e =
    let other : (191 == c) ≡ false = grind arith in
    rw other (grind arith)
begins_before x (y ∷ []) [] new e = e
begins_before x (y ∷ []) (c ∷ cs) new e =
    let other : (190 == c) ≡ false = grind arith in
    let another : (191 == c) ≡ false = grind arith in
    rw other (rw another (grind arith))
begins_before x (y ∷ (z ∷ a)) b new e = e

some_is_not_none : (i : ℕ) → ◌≡◌ {A = Option ℕ} (Some i) None → ⊥
some_is_not_none i e = cc

none_of : (begins : Bool) (later : Option ℕ) → (if begins then Some 0 else option_map suc later) ≡ None → (begins ≡ false) × (later ≡ None)
none_of true later e = absurd (some_is_not_none 0 e)
none_of false None e = (refl, refl)
none_of false (Some k) e = absurd (some_is_not_none (suc k) e)

no_bad : (a b : List ℕ) → begins_newly b ≡ true → first_bad_character a ≡ None → first_bad_character b ≡ None
    → first_bad_character (a ++ b) ≡ None
no_bad [] b new A B = B
no_bad (x ∷ a) b new A B =
    let parts = none_of (begins_with_bad_character (x ∷ a)) (first_bad_character a) A in
    let here = begins_before x a b new parts.0 in
    rw here (ap (option_map suc) (no_bad a b new parts.1 B))

joined : {a b : List ℕ} → IsClean a → IsClean b → IsClean (a ++ b)
joined {a = a} {b = b} A B = record {
  utf8 = IsUtf8-append a b A.utf8 B.utf8;
  no_bad_character = no_bad a b (newly b B.utf8) A.no_bad_character B.no_bad_character;
}

-- ---- escaped values

-- what holds of the four escapes, and of other bytes as they are
by_escape : (P : ℕ → List ℕ → Type 0) → P 38 (codes "&amp;") → P 60 (codes "&lt;") → P 62 (codes "&gt;") → P 34 (codes "&quot;")
    → ((b : ℕ) → P b (b ∷ []))
    → (b : ℕ) → P b (escape_of b)
by_escape P amp less greater quote other b = elim (cases_eq b 38) [
  | inl is ↦ subst (λ k. P k (escape_of k)) (sym is) amp
  | inr not_amp ↦ elim (cases_eq b 60) [
    | inl is ↦ subst (λ k. P k (escape_of k)) (sym is) less
    | inr not_less ↦ elim (cases_eq b 62) [
      | inl is ↦ subst (λ k. P k (escape_of k)) (sym is) greater
      | inr not_greater ↦ elim (cases_eq b 34) [
        | inl is ↦ subst (λ k. P k (escape_of k)) (sym is) quote
        | inr not_quote ↦ subst (P b) (sym (byte_stays b (grind arith) (grind arith) (grind arith) (grind arith))) (other b)
      ]
    ]
  ]
]

-- no escape is of a byte that stands in a noncharacter
third_stays : (b c : ℕ) (ds : List ℕ) → begins_with_noncharacter (b ∷ (c ∷ escape_all ds)) ≡ begins_with_noncharacter (b ∷ (c ∷ ds))
unfolding begins_with_noncharacter escape_all
third_stays b c [] = refl
third_stays b c (d ∷ ds) =
    by_escape (λ d e. begins_with_noncharacter (b ∷ (c ∷ (e ++ escape_all ds)))
    ≡ begins_with_noncharacter (b ∷ (c ∷ (d ∷ ds)))) refl refl refl refl
    (λ d. refl) d

second_stays : (b : ℕ) (cs : List ℕ) → begins_with_noncharacter (b ∷ escape_all cs) ≡ begins_with_noncharacter (b ∷ cs)
unfolding begins_with_noncharacter escape_all
second_stays b [] = refl
second_stays b (c ∷ cs) =
    by_escape (λ c e. begins_with_noncharacter (b ∷ (e ++ escape_all cs)) ≡ begins_with_noncharacter (b ∷ (c ∷ cs))) refl refl refl refl
    (λ c. third_stays b c cs) c

escaped_not_bad : (value : List ℕ) → first_bad_character value ≡ None → first_bad_character (escape_all value) ≡ None
unfolding escape_all begins_with_bad_character begins_with_noncharacter
escaped_not_bad [] e = refl
escaped_not_bad (b ∷ bs) e =
    let parts = none_of (begins_with_bad_character (b ∷ bs)) (first_bad_character bs) e in
    let later = escaped_not_bad bs parts.1 in
    by_escape (λ b e. begins_with_bad_character (b ∷ bs) ≡ false → first_bad_character (e ++ escape_all bs) ≡ None)
    (λ good. rw later refl) (λ good. rw later refl) (λ good. rw later refl) (λ good. rw later refl)
    (λ b good. rw (second_stays b bs) (rw good (rw later refl)))
    b parts.0

character_escaped : (c : ℕ) → scalar c ≡ true → IsUtf8 (escape_all (encode c))
unfolding escape_all encode is_utf8 chars
character_escaped c ok = elim (cases_eq c 38) [
  | inl is ↦ subst (λ k. IsUtf8 (escape_all (encode k))) (sym is) (IsUtf8-from_is_utf8 _ refl)
  | inr not_amp ↦ elim (cases_eq c 60) [
    | inl is ↦ subst (λ k. IsUtf8 (escape_all (encode k))) (sym is) (IsUtf8-from_is_utf8 _ refl)
    | inr not_less ↦ elim (cases_eq c 62) [
      | inl is ↦ subst (λ k. IsUtf8 (escape_all (encode k))) (sym is) (IsUtf8-from_is_utf8 _ refl)
      | inr not_greater ↦ elim (cases_eq c 34) [
        | inl is ↦ subst (λ k. IsUtf8 (escape_all (encode k))) (sym is) (IsUtf8-from_is_utf8 _ refl)
        | inr not_quote ↦ subst IsUtf8 (sym (character_stays c not_amp not_less not_greater not_quote)) (IsUtf8-encode c ok)
      ]
    ]
  ]
]

characters_escaped : (cs : List ℕ) → scalars cs ≡ true → IsUtf8 (escape_all (encodes cs))
unfolding escape_all
characters_escaped [] ok = IsUtf8-nil
characters_escaped (c ∷ cs) ok =
    let parts = and_parts _ _ ok in
    subst IsUtf8 (sym (escape-append (encode c) (encodes cs))) (IsUtf8-append _ _ (character_escaped c parts.0)
    (characters_escaped cs parts.1))

escaped : {value : List ℕ} → IsClean value → IsClean (escape_all value)
escaped {value = value} clean = record {
  utf8 = subst (λ v. IsUtf8 (escape_all v)) clean.utf8.1.1 (characters_escaped clean.utf8.0 clean.utf8.1.0);
  no_bad_character = escaped_not_bad value clean.no_bad_character;
}

-- ---- trees

record Literals : Type 0 where
  space : IsClean (codes " ")
  equals : IsClean (codes "=\"")
  quote : IsClean (codes "\"")
  less_than : IsClean (codes "<")
  slash : IsClean (codes "</")
  greater_than : IsClean (codes ">")
  empty : IsClean (codes "/>")
  line_feed : IsClean (codes "\n")
  declared : IsClean declaration
  none : IsClean []

literals : Literals
unfolding is_utf8 chars encode begins_with_bad_character begins_with_noncharacter
literals = record {
  space = record { utf8 = IsUtf8-from_is_utf8 _ refl; no_bad_character = refl };
  equals = record { utf8 = IsUtf8-from_is_utf8 _ refl; no_bad_character = refl };
  quote = record { utf8 = IsUtf8-from_is_utf8 _ refl; no_bad_character = refl };
  less_than = record { utf8 = IsUtf8-from_is_utf8 _ refl; no_bad_character = refl };
  slash = record { utf8 = IsUtf8-from_is_utf8 _ refl; no_bad_character = refl };
  greater_than = record { utf8 = IsUtf8-from_is_utf8 _ refl; no_bad_character = refl };
  empty = record { utf8 = IsUtf8-from_is_utf8 _ refl; no_bad_character = refl };
  line_feed = record { utf8 = IsUtf8-from_is_utf8 _ refl; no_bad_character = refl };
  declared = record { utf8 = IsUtf8-from_is_utf8 _ refl; no_bad_character = refl };
  none = record { utf8 = IsUtf8-from_is_utf8 _ refl; no_bad_character = refl };
}

attribute_clean : (a : List ℕ × List ℕ) → IsLegalAttribute a → IsClean (attribute_text a)
attribute_clean a legal = joined (joined (joined (joined literals.space legal.name.clean) literals.equals)
    (escaped legal.value)) literals.quote

attributes_clean : (attributes : List (List ℕ × List ℕ)) → AllLegal attributes → IsClean (flat_map attribute_text attributes)
attributes_clean [] legal = literals.none
attributes_clean (a ∷ more) legal = joined (attribute_clean a legal.0) (attributes_clean more legal.1)

opening_clean : (tag : Tag) → IsLegalTag tag → IsClean (opening tag)
opening_clean tag legal = joined (joined literals.less_than legal.name.clean) (attributes_clean tag.attributes legal.attributes)

enclosed_clean : (tag : Tag) (children : Markup) → IsLegalTag tag → IsClean (printed children)
    → IsClean (enclosed tag children (printed children))
enclosed_clean tag nothing legal inside = joined (opening_clean tag legal) literals.empty
enclosed_clean tag (element first within after) legal inside =
    joined (joined (joined (opening_clean tag legal) literals.greater_than) (joined literals.line_feed inside))
    (joined (joined literals.slash legal.name.clean) literals.greater_than)

printed_clean : (m : Markup) → AreLegal m → IsClean (printed m)
printed_clean nothing legal = literals.none
printed_clean (element tag children others) legal =
    joined (enclosed_clean tag children legal.0 (printed_clean children legal.1)) (joined literals.line_feed (printed_clean others legal.2))

pub document_clean : (tag : Tag) (children : Markup) → IsLegal tag children → IsClean (document tag children)
document_clean tag children legal = joined literals.declared (printed_clean (element tag children nothing) (legal.root, legal.inside, tt))
