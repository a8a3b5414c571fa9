-- How the reading of attributes goes on.
use Rattle.std.proofs.Common.{◌≡◌, ◌≤◌, ℕ, zero, suc, ◌<◌, List, [], ◌∷◌, ◌++◌, length, Option, Some, None, option_map, option_and_then}
use Rattle.std.proofs.Common.{refl, sym, ◌∙◌, ap, arith, append_assoc, length-append}
use Rattle.hls_lines.specs.Attributes.{NameValue, attribute_at, after_comma, more_by, attributes_in, attributes_at}
use Rattle.hls_lines.proofs.AttributeTexts.{attribute_written, comma_written}

-- ---- what is left gets shorter

pub attribute_shorter : (text : List ℕ) (found : NameValue × List ℕ) → attribute_at text ≡ Some found → length found.1 < length text
attribute_shorter text found e = let w = attribute_written text found e in
    omega (arith, ap length w.1.0, ap length w.1.1.is, length-append w.0 found.1, length-append found.0.0 (61 ∷ w.1.1.value))

pub comma_shorter : (text next : List ℕ) → after_comma text ≡ Some next → length next < length text
comma_shorter text next e = let w = comma_written text next e in
    omega (arith, ap length w.1.0, ap length w.1.1.is, length-append w.0 next, length-append w.1.1.before (44 ∷ w.1.1.behind))

-- ---- as many attributes as may be read make no difference

no_attribute : attribute_at [] ≡ None
unfolding attribute_at
no_attribute = refl

abbrev pub first_then : (List ℕ → Option (List NameValue)) → Option (NameValue × List ℕ) → Option (List NameValue)
first_then read first = option_and_then (λ found. option_map (λ others. found.0 ∷ others) (more_by read found.1)) first

same_more : (read other : List ℕ → Option (List NameValue)) (rest : List ℕ)
    → ((next : List ℕ) → length next < length rest → read next ≡ other next) → more_by read rest ≡ more_by other rest
same_more read other [] h = refl
same_more read other (b ∷ bs) h = same_next (after_comma (b ∷ bs)) refl
  where
    same_next : (o : Option (List ℕ)) → after_comma (b ∷ bs) ≡ o → option_and_then read o ≡ option_and_then other o
    same_next None e = refl
    same_next (Some next) e = h next (comma_shorter (b ∷ bs) next e)

same_first : (read other : List ℕ → Option (List NameValue)) (text : List ℕ) (first : Option (NameValue × List ℕ))
    → attribute_at text ≡ first
    → ((next : List ℕ) → length next < length text → read next ≡ other next) → first_then read first ≡ first_then other first
same_first read other text None e h = refl
same_first read other text (Some found) e h = ap (option_map (λ others. found.0 ∷ others))
    (same_more read other found.1 (λ next less. h next (omega (arith, attribute_shorter text found e))))

none_of_nothing : (text : List ℕ) (n : ℕ) → length text ≤ 0 → None ≡ attributes_in (suc n) text
none_of_nothing [] n h = rw no_attribute refl
none_of_nothing (b ∷ bs) n h = absurd (omega arith)

same_most : (n m : ℕ) (text : List ℕ) → length text ≤ n → length text ≤ m → attributes_in n text ≡ attributes_in m text
same_most zero zero text h k = refl
same_most zero (suc m) text h k = none_of_nothing text m h
same_most (suc n) zero text h k = sym (none_of_nothing text n k)
same_most (suc n) (suc m) text h k = same_first (attributes_in n) (attributes_in m) text (attribute_at text) refl
    (λ next less. same_most n m next (omega arith) (omega arith))

-- the first attribute, and then the others of what follows it
pub unrolled : (text : List ℕ) → attributes_at text ≡ first_then attributes_at (attribute_at text)
unfolding attributes_at
unrolled text = same_most (length text) (suc (length text)) text (omega arith) (omega arith)
    ∙ same_first (attributes_in (length text)) attributes_at text (attribute_at text) refl
    (λ next less. same_most (length text) (length next) next (omega arith) (omega arith))

-- ---- one step

-- the attributes so far with those of the rest are those of the whole text
pub record GoesOn (whole : List ℕ) (before : List NameValue) (rest : List ℕ) : Type 0 where
  pub same : option_map (λ more. before ++ more) (attributes_at rest) ≡ attributes_at whole

pub GoesOn-begin : (text : List ℕ) → GoesOn text [] text
GoesOn-begin text = record { same = kept (attributes_at text) }
  where
    kept : (o : Option (List NameValue)) → option_map (λ more. [] ++ more) o ≡ o
    kept None = refl
    kept (Some more) = refl

module _ (whole : List ℕ) (before : List NameValue) (rest : List ℕ) (on : GoesOn whole before rest) where
  whole_is : (answer : Option (List NameValue)) → first_then attributes_at (attribute_at rest) ≡ answer
      → option_map (λ more. before ++ more) answer ≡ attributes_at whole
  whole_is answer e = ap (option_map (λ more. before ++ more)) (sym (unrolled rest ∙ e)) ∙ on.same

  pub no_first : attribute_at rest ≡ None → None ≡ attributes_at whole
  no_first e = whole_is None (rw e refl)

  pub the_last : (first : NameValue) (behind : List ℕ) → attribute_at rest ≡ Some (first, behind) → length behind ≡ 0
      → Some (before ++ first ∷ []) ≡ attributes_at whole
  the_last first [] e none = whole_is (Some (first ∷ [])) (rw e refl)
  the_last first (b ∷ bs) e none = absurd (omega arith)

  pub no_comma : (first : NameValue) (behind : List ℕ) → attribute_at rest ≡ Some (first, behind) → 0 < length behind
      → after_comma behind ≡ None → None ≡ attributes_at whole
  no_comma first [] e less none = absurd (omega arith)
  no_comma first (b ∷ bs) e less none = whole_is None (rw (e, none) refl)

  pub one_more : (first : NameValue) (behind next : List ℕ) → attribute_at rest ≡ Some (first, behind) → 0 < length behind
      → after_comma behind ≡ Some next → GoesOn whole (before ++ first ∷ []) next
  one_more first [] next e less more = absurd (omega arith)
  one_more first (b ∷ bs) next e less more = record {
    same = regrouped (attributes_at next) ∙ whole_is (option_map (λ others. first ∷ others) (attributes_at next)) (rw (e, more) refl);
  }
    where
      regrouped : (o : Option (List NameValue)) → option_map (λ others. (before ++ first ∷ []) ++ others) o
          ≡ option_map (λ others. before ++ others) (option_map (λ others. first ∷ others) o)
      regrouped None = refl
      regrouped (Some others) = ap Some (append_assoc before (first ∷ []) others)
