-- The files of a track with a pattern.
use Rattle.std.proofs.Common.{◌≡◌, ℕ, ◌+◌, ◌-◌, ◌^◌, ◌<◌, Bool, true, false, List, [], ◌∷◌, length, Option, Some, None, if◌then◌else◌, refl}
use Rattle.std.proofs.{Common.{arith, subst}, lemmas.Bool.{and_parts, leb-true}}
use Rattle.std.specs.{Bool.then_some, List.list_all}
use Rattle.url_parts.specs.declared.address.Part.{Part}
use Rattle.segment_forms.specs.{declared.pattern.Pattern.Pattern, Patterns.{counts_within, follow, is_pattern_of, kept, pattern_of}}
use Rattle.segment_forms.specs.Patterns.{suggested}
use Rattle.dash_writer.specs.Forms.{addresses_of, is_whole, pattern_in}

-- none is a byte range, and their addresses have the pattern
pub record HasPattern (part : Part) (parts : List Part) (p : Pattern) : Type 0 where
  pub whole : list_all is_whole (part ∷ parts) ≡ true
  pub found : pattern_of (addresses_of parts) ≡ Some p

pub has_pattern : (part : Part) (parts : List Part) (p : Pattern) → pattern_in part parts ≡ Some p → HasPattern part parts p
has_pattern part parts p is = go (list_all is_whole (part ∷ parts)) refl is where
  go : (b : Bool) → list_all is_whole (part ∷ parts) ≡ b → (if b then pattern_of (addresses_of parts) else None) ≡ Some p
      → HasPattern part parts p
  go true whole found = record { whole = whole; found = found }
  go false whole found = absurd (cc)

passed : (test : Pattern → Bool) (found : Option Pattern) (p : Pattern) → kept test found ≡ Some p → test p ≡ true
passed test None p is = absurd (cc)
passed test (Some q) p is = go (test q) refl is where
  go : (b : Bool) → test q ≡ b → then_some b q ≡ Some p → test p ≡ true
  go true passes same = (let equal : q ≡ p = cc in subst (λ (r : Pattern). test r ≡ true) equal passes)
  go false passes same = absurd (cc)

number_low : (xs : List (List ℕ)) (p : Pattern) → pattern_of xs ≡ Some p → p.first_number < 2 ^ 32
number_low [] p is = absurd (cc)
number_low (first ∷ rest) p is =
    let tested = and_parts (counts_within p (length (first ∷ rest))) (follow first p 0 (first ∷ rest))
    (passed (is_pattern_of first rest) (suggested first rest) p is) in
    let most = leb-true (p.first_number + (length (first ∷ rest) - 1)) (2 ^ 32 - 1) tested.0 in
    omega arith

pub first_low : (part : Part) (parts : List Part) (p : Pattern) → pattern_in part parts ≡ Some p → p.first_number < 2 ^ 32
first_low part parts p is = number_low (addresses_of parts) p (has_pattern part parts p is).found
