-- The rules of reloads in sentences.
use Rattle.std.proofs.Common.{◌≡◌, ℕ, zero, suc, ◌+◌, ◌-◌, ◌*◌, ◌^◌, ◌≤◌, Bool, true, false, ◌&&◌, ◌||◌, not, List, [], ◌∷◌, drop}
use Rattle.std.proofs.Common.{slice_get, option_map, leb, Option, Some, None, Ok, refl, sym, ◌∙◌, ap, subst, inl, inr, arith, zero-add, eqb}
use Rattle.std.proofs.{Common.ltb, lemmas.Bool.{cases_Bool, leb-true, le-leb, eq-eqb, eqb-true, ltb-true, lt-ltb}}
use Rattle.std.proofs.lemmas.Bool.Decides.{nat_tests}
use Rattle.std.specs.Option.{option_eq}
use Rattle.hls_media.specs.{declared.media.Media.Media, declared.media.MediaSegment.MediaSegment}
use Rattle.reload_law.specs.{declared.unlawful.Unlawful.Unlawful, declared.unlawful.Unlawful.TheVariants.{Target, Sequence, Segment}}
use Rattle.reload_law.specs.{declared.unlawful.Unlawful.TheVariants.{Discontinuity, Shrunk, AfterEnd, ThreeTargets}, Rules.broken_if}
use Rattle.reload_law.specs.Rules.{discontinuity_rule, end_of, end_rule, ended_rule, first_broken, first_other, lawful, length_rule}
use Rattle.reload_law.specs.Rules.{nanos_of, same_part, same_range, same_section, same_segment, segment_rule, sequence_rule, target_rule}
use Rattle.reload_law.specs.Laws.{IsInBoth, IsLawful, ReloadsItself, segment_at}
use Rattle.url_parts.specs.{declared.address.Part.Part, declared.range.Range.Range}
use Rattle.bridge_io.proofs.Texts.{equals_itself}

first_is_none : (r : Option Unlawful) (rs : List (Option Unlawful)) → first_broken (r ∷ rs) ≡ Ok tt → (r ≡ None) × (first_broken rs ≡ Ok tt)
first_is_none None rs e = (refl, e)
first_is_none (Some rule) rs e = absurd (cc)

-- no rule of seven is broken
record AreNone (a b c d e f g : Option Unlawful) : Type 0 where
  a_is : a ≡ None
  b_is : b ≡ None
  c_is : c ≡ None
  d_is : d ≡ None
  e_is : e ≡ None
  f_is : f ≡ None
  g_is : g ≡ None

all_none : (a b c d e f g : Option Unlawful) → first_broken (a ∷ b ∷ c ∷ d ∷ e ∷ f ∷ g ∷ []) ≡ Ok tt → AreNone a b c d e f g
all_none a b c d e f g is =
    let one = first_is_none a (b ∷ c ∷ d ∷ e ∷ f ∷ g ∷ []) is in
    let two = first_is_none b (c ∷ d ∷ e ∷ f ∷ g ∷ []) one.1 in
    let three = first_is_none c (d ∷ e ∷ f ∷ g ∷ []) two.1 in
    let four = first_is_none d (e ∷ f ∷ g ∷ []) three.1 in
    let five = first_is_none e (f ∷ g ∷ []) four.1 in
    let six = first_is_none f (g ∷ []) five.1 in
    record { a_is = one.0; b_is = two.0; c_is = three.0; d_is = four.0; e_is = five.0; f_is = six.0; g_is = (first_is_none g [] six.1).0 }

holds_not : (b : Bool) (rule : Unlawful) → broken_if b rule ≡ None → b ≡ false
holds_not true rule e = cc
holds_not false rule e = refl

get_drop : (m : ℕ) (xs : List MediaSegment) (k : ℕ) → slice_get (drop m xs) k ≡ slice_get xs (m + k)
get_drop zero xs k = ap (λ n. slice_get xs n) (sym (zero-add k))
get_drop (suc m) [] k = refl
get_drop (suc m) (x ∷ xs) k = let more : suc m + k ≡ suc (m + k) = omega arith in rw more (get_drop m xs k)

module _ (same : MediaSegment → MediaSegment → Bool) where
  first_two : (first : ℕ) (o n : MediaSegment) (os ns : List MediaSegment) → first_other same first (o ∷ os) (n ∷ ns) ≡ None
      → (same o n ≡ true) × (first_other same (first + 1) os ns ≡ None)
  first_two first o n os ns e = elim (cases_Bool (same o n)) [
    | inr other ↦ let never : Some first ≡ None = rw other at e in absurd (cc)
    | inl is ↦ (is, rw is at e)
  ]

  none_other : (first : ℕ) (olds news : List MediaSegment) → first_other same first olds news ≡ None → (k : ℕ) (a b : MediaSegment)
      → slice_get olds k ≡ Some a → slice_get news k ≡ Some b → same a b ≡ true
  none_other first [] news e k a b in_old in_new = absurd (cc)
  none_other first (o ∷ os) [] e k a b in_old in_new = absurd (cc)
  none_other first (o ∷ os) (n ∷ ns) e zero a b in_old in_new = cc ((first_two first o n os ns e).0)
  none_other first (o ∷ os) (n ∷ ns) e (suc k) a b in_old in_new = none_other (first + 1) os ns
      ((first_two first o n os ns e).1) k a b in_old in_new

  no_other : (first : ℕ) (olds news : List MediaSegment) → ((k : ℕ) (a b : MediaSegment) → slice_get olds k ≡ Some a
      → slice_get news k ≡ Some b → same a b ≡ true) → first_other same first olds news ≡ None
  no_other first [] news all = refl
  no_other first (o ∷ os) [] all = refl
  no_other first (o ∷ os) (n ∷ ns) all = rw (all 0 o n refl refl) (no_other (first + 1) os ns (λ k a b. all (suc k) a b))

-- ---- segments by their numbers

module _ (same : MediaSegment → MediaSegment → Bool) (old new : Media) (rising : old.sequence ≤ new.sequence) where
  place : (media : Media) (number : ℕ) (x : MediaSegment) → segment_at number media ≡ Some x
      → (media.sequence ≤ number) × (slice_get media.segments (number - media.sequence) ≡ Some x)
  place media number x e = elim (cases_Bool (leb media.sequence number)) [
    | inl is ↦ (leb-true _ _ is, rw is at e)
    | inr other ↦ let never : None ≡ Some x = rw other at e in absurd (cc)
  ]

  in_kept : (number : ℕ) → new.sequence ≤ number → slice_get (drop (new.sequence - old.sequence) old.segments) (number - new.sequence)
      ≡ slice_get old.segments (number - old.sequence)
  in_kept number le = let there : new.sequence - old.sequence + (number - new.sequence) ≡ number - old.sequence = omega arith in
      get_drop (new.sequence - old.sequence) old.segments (number - new.sequence) ∙ ap (λ n. slice_get old.segments n) there

  pub both_same : first_other same new.sequence (drop (new.sequence - old.sequence) old.segments) new.segments ≡ None
      → (number : ℕ) (a b : MediaSegment) → IsInBoth old new number a b → same a b ≡ true
  both_same e number a b both =
      let in_old = place old number a both.in_old in
      let in_new = place new number b both.in_new in
      none_other same new.sequence (drop (new.sequence - old.sequence) old.segments) new.segments e (number - new.sequence) a b
      (in_kept number in_new.0 ∙ in_old.1) in_new.1

  at_number : (media : Media) (k : ℕ) (x : MediaSegment) (number : ℕ) → media.sequence ≤ number
      → slice_get media.segments (number - media.sequence) ≡ Some x → segment_at number media ≡ Some x
  at_number media k x number le e = rw (le-leb _ _ le) e

  pub none_differs : ((number : ℕ) (a b : MediaSegment) → IsInBoth old new number a b → same a b ≡ true)
      → first_other same new.sequence (drop (new.sequence - old.sequence) old.segments) new.segments ≡ None
  none_differs all = no_other same new.sequence (drop (new.sequence - old.sequence) old.segments) new.segments (λ k a b in_old in_new.
      all (new.sequence + k) a b (record {
        in_old = at_number old k a (new.sequence + k) (omega arith) (let back : new.sequence + k - old.sequence
            ≡ new.sequence - old.sequence + k = omega arith in ap (λ n. slice_get old.segments n) back
            ∙ sym (get_drop (new.sequence - old.sequence) old.segments k) ∙ in_old);
        in_new = at_number new k b (new.sequence + k) (omega arith) (let back : new.sequence + k - new.sequence ≡ k = omega arith in
            ap (λ n. slice_get new.segments n) back ∙ in_new);
      }))

-- ---- the rules

number_none : (rule : ℕ → Unlawful) (o : Option ℕ) → option_map rule o ≡ None → o ≡ None
number_none rule None e = refl
number_none rule (Some n) e = absurd (cc)

after_end : (was is same : Bool) → (was && (not is || not same)) ≡ false → was ≡ true → (is ≡ true) × (same ≡ true)
after_end true true true e w = (refl, refl)
after_end true true false e w = absurd (cc)
after_end true false same e w = absurd (cc)
after_end false is same e w = absurd (cc)

long_enough : (ended more short : Bool) → (not ended && more && short) ≡ false → ended ≡ false → more ≡ true → short ≡ false
long_enough false true false e n m = refl
long_enough false true true e n m = absurd (cc)
long_enough false false short e n m = absurd (cc)
long_enough true more short e n m = absurd (cc)

pub sentences : (old new : Media) → lawful old new ≡ Ok tt → IsLawful old new
unfolding lawful
sentences old new e =
    let rules = all_none (target_rule old new) (sequence_rule old new) (segment_rule old new) (discontinuity_rule old new)
    (end_rule old new) (ended_rule old new) (length_rule old new) e in
    let other : not (eqb old.target new.target) ≡ false = holds_not _ Target rules.a_is in
    let falls : ltb new.sequence old.sequence ≡ false = holds_not _ Sequence rules.b_is in
    let shrinks : ltb (end_of new) (end_of old) ≡ false = holds_not _ Shrunk rules.e_is in
    let rising : old.sequence ≤ new.sequence = grind (arith, nat_tests) in
    record {
      target = grind (arith, nat_tests);
      sequence = rising;
      segments = both_same same_segment old new rising (number_none Segment _ rules.c_is);
      sections = both_same same_section old new rising (number_none Discontinuity _ rules.d_is);
      ends = grind (arith, nat_tests);
      ended = λ was. let both = after_end old.ended new.ended (eqb (end_of new) (end_of old)) (holds_not _ AfterEnd rules.f_is) was in
          (both.0, eqb-true _ _ both.1);
      three_targets = λ goes_on more.
          let long : ltb (nanos_of new) (3 * 10 ^ 9 * new.target) ≡ false = long_enough new.ended (ltb old.sequence new.sequence) _
          (holds_not _ ThreeTargets rules.g_is) goes_on (lt-ltb _ _ more) in
          grind (arith, nat_tests);
    }

stays_ended : (was is same : Bool) → (was ≡ true → (is ≡ true) × (same ≡ true)) → (was && (not is || not same)) ≡ false
stays_ended false is same h = refl
stays_ended true is same h = rw ((h refl).0, (h refl).1) refl

lasts : (ended more short : Bool) → (ended ≡ false → more ≡ true → short ≡ false) → (not ended && more && short) ≡ false
lasts true more short h = refl
lasts false false short h = refl
lasts false true short h = rw (h refl refl) refl

pub as_a_rule : (old new : Media) → IsLawful old new → lawful old new ≡ Ok tt
unfolding lawful
as_a_rule old new is =
    let target : eqb old.target new.target ≡ true = eq-eqb _ _ is.target in
    let sequence : ltb new.sequence old.sequence ≡ false = grind (arith, nat_tests, is.sequence) in
    let segments = none_differs same_segment old new is.sequence is.segments in
    let sections = none_differs same_section old new is.sequence is.sections in
    let ends : ltb (end_of new) (end_of old) ≡ false = grind (arith, nat_tests, is.ends) in
    let ended = stays_ended old.ended new.ended (eqb (end_of new) (end_of old)) (λ was. let h = is.ended was in (h.0, eq-eqb _ _ h.1)) in
    let three = lasts new.ended (ltb old.sequence new.sequence) (ltb (nanos_of new) (3 * 10 ^ 9 * new.target))
    (λ goes_on more. grind (arith, nat_tests, is.three_targets goes_on (ltb-true _ _ more))) in
    rw (target, sequence, segments, sections, ends, ended, three) refl

-- ---- a playlist and itself

same_ranges : (r : Option Range) → option_eq same_range r r ≡ true
same_ranges None = refl
same_ranges (Some r) = rw (eq-eqb r.first r.first refl, eq-eqb r.count r.count refl) refl

same_map : (p : Option Part) → option_eq same_part p p ≡ true
same_map None = refl
same_map (Some p) = rw (equals_itself p.address, same_ranges p.range) refl

same_itself : (a : MediaSegment) → same_segment a a ≡ true
same_itself a = rw (equals_itself a.address, same_ranges a.range, eq-eqb a.duration a.duration refl, same_map a.map) refl

pub reloads_itself : ReloadsItself
reloads_itself media = as_a_rule media media (record {
  target = refl;
  sequence = omega arith;
  segments = λ number a b both. let is : a ≡ b = cc in subst (λ (x : MediaSegment). same_segment a x ≡ true) is (same_itself a);
  sections = λ number a b both. let is : a ≡ b = cc in
      subst (λ (x : MediaSegment). same_section a x ≡ true) is (eq-eqb a.section a.section refl);
  ends = omega arith;
  ended = λ was. (was, refl);
  three_targets = λ goes_on more. absurd (omega arith);
})
