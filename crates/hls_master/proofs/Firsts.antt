-- The first mention of each address, one mention after another.
use Rattle.std.proofs.Common.{◌≡◌, ℕ, ◌+◌, ◌<◌, Bool, true, false, cond, ◌||◌, not, List, [], ◌∷◌, ◌++◌, map, length, drop, get_or, None}
use Rattle.std.proofs.{Common.{refl, sym, ◌∙◌, ap, subst, append_assoc, length-append, bytes_eq, nat_lt, arith}, lemmas.List.drop_more}
use Rattle.std.proofs.{lemmas.List.map-append, lemmas.Bool.Decides.nat_tests}
use Rattle.bridge_io.specs.Texts.{is_among}
use Rattle.hls_master.specs.{Texts.SameTexts, Tracks.{Mentioned, address_of, firsts_behind, few}}

same_more : (one other : List (List ℕ)) (text : List ℕ) → SameTexts one other → SameTexts (text ∷ one) (text ∷ other)
same_more one other text is = record { same = λ q. ap (λ b. bytes_eq q text || b) (is.same q) }

firsts_behind-same : (one other : List (List ℕ)) → SameTexts one other → (mentions : List Mentioned)
    → firsts_behind one mentions ≡ firsts_behind other mentions
firsts_behind-same one other is [] = refl
firsts_behind-same one other is (mention ∷ mentions) =
    rw (
      is.same (address_of mention),
      firsts_behind-same one other is mentions,
      firsts_behind-same (address_of mention ∷ one) (address_of mention ∷ other) (same_more one other (address_of mention) is) mentions,
    )
    refl

other_test : (a b : Bool) → a ≡ not b → a ≡ false → true ≡ b
other_test a true e f = refl
other_test a false e f = cc

one_test : (a b : Bool) → a ≡ not b → a ≡ true → false ≡ b
one_test a true e f = cc
one_test a false e f = refl

-- the mention at a place
module _ {M : Type 0} (see : M → Mentioned) (all : List M) (i : ℕ) (item : M) (below : i < length all) (is : item ≡ get_or all i item) where
  abbrev pub later : List Mentioned
  later = map see (drop (i + 1) all)

  one_left : map see (drop i all) ≡ see item ∷ later
  one_left = ap (map see) (drop_more all i item below) ∙ ap (λ x. see x ∷ later) (sym is)

  module _ (addresses more : List (List ℕ)) (items : List M) (whole : List Mentioned) (text : List ℕ)
      (text_is : text ≡ address_of (see item)) (fresh : Bool) (new : fresh ≡ not (is_among text addresses))
      (so_far : map see items ++ firsts_behind addresses (map see (drop i all)) ≡ whole) where
    abbrev choice : Bool → List Mentioned
    choice known = map see items ++ cond known (firsts_behind addresses later)
        (see item ∷ firsts_behind (address_of (see item) ∷ addresses) later)

    chosen : choice (is_among (address_of (see item)) addresses) ≡ whole
    chosen = rw one_left at so_far

    pub not_first : fresh ≡ false → more ≡ addresses → map see items ++ firsts_behind more later ≡ whole
    not_first old same = rw same (ap choice (other_test fresh (is_among text addresses) new old ∙ ap (λ t. is_among t addresses) text_is)
        ∙ chosen)

    pub is_first : fresh ≡ true → map see items ++ (see item ∷ firsts_behind (address_of (see item) ∷ addresses) later) ≡ whole
    is_first one = ap choice (one_test fresh (is_among text addresses) new one ∙ ap (λ t. is_among t addresses) text_is) ∙ chosen

    pub first_more : fresh ≡ true → SameTexts more (text ∷ addresses) → map see (items ++ item ∷ []) ++ firsts_behind more later ≡ whole
    first_more one added = rw (
      map-append see items (item ∷ []),
      append_assoc (map see items) (see item ∷ []) (firsts_behind more later),
      firsts_behind-same more (address_of (see item) ∷ addresses) (subst (λ t. SameTexts more (t ∷ addresses)) text_is added) later,
    ) (is_first one)

-- more than 200
above : (all : List Mentioned) (n : ℕ) → n ≡ length all → 200 < n → few all ≡ None
above all n e more = let long : nat_lt 200 (length all) ≡ true = grind (arith, nat_tests) in rw long refl

pub too_many : (found later whole : List Mentioned) (mention : Mentioned) → found ++ (mention ∷ later) ≡ whole → length found ≡ 200
    → None ≡ few whole
too_many found later whole mention e n =
    sym (above whole (length whole) refl (omega (arith, length-append found (mention ∷ later), ap length e)))
