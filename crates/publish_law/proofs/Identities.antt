-- Which segments a playlist has, by an ordered search.
use Rattle.std.proofs.Common.{◌≡◌, ℕ, Bool, true, false, cond, not, ◌||◌, ◌&&◌, ◌==◌, List, [], ◌∷◌, ◌++◌, reverse}
use Rattle.std.proofs.Common.{Option, None, Some, refl, sym, ◌∙◌, ap, bytes_eq, Less, Equal, Greater, Ordering, arith}
use Rattle.std.proofs.{lemmas.Map.Text.is_eq-slice_cmp, lemmas.List.Folds.list_any-append}
use Rattle.std.proofs.lemmas.Bool.Decides.{nat_tests}
use Rattle.std.specs.{List.{list_any, prefix_len, suffix_len}, Ordering.{nat_cmp, int_cmp, int_eq, is_eq, ordering_then, ordering_reverse}}
use Rattle.std.specs.{Option.{option_cmp, option_eq}, Cmp.Lexicographic.slice_cmp}
use Rattle.std.specs.{BTreeSet.{BTreeSet, Updates, contains_by}, Cmp.tied_then}
use Rattle.url_parts.specs.declared.range.Range.{Range}
use Rattle.hls_writer.specs.declared.items.MediaItem.{MediaItem}
use Rattle.reload_law.specs.Rules.{same_range}
use Rattle.publish_law.specs.declared.listed.{Identity.Identity, Listed.Listed}
use Rattle.publish_law.specs.{Joints.{same_item, is_unlisted}, Identities.{by_identity, by_numbers, identity_of, numbers_of}}
use Rattle.publish_law.specs.Identities.{has, is_new, AreListed, IsIdentity}
use Rattle.publish_law.specs.contracts.listed.IdentityOrd.TheImpl.Laws.{total-law}

is_eq-reverse : (a : Ordering) → is_eq (ordering_reverse a) ≡ is_eq a
is_eq-reverse Less = refl
is_eq-reverse Equal = refl
is_eq-reverse Greater = refl

is_eq-nat : (a b : ℕ) → is_eq (nat_cmp a b) ≡ (a == b)
is_eq-nat a b = grind (arith, nat_tests)

same_numbers : (a b : Option Range) → is_eq (option_cmp by_numbers (numbers_of a) (numbers_of b)) ≡ option_eq same_range a b
same_numbers None None = refl
same_numbers None (Some b) = refl
same_numbers (Some a) None = refl
same_numbers (Some a) (Some b) =
    sym (tied_then (nat_cmp a.first b.first) (nat_cmp a.count b.count)) ∙ rw (is_eq-nat a.first b.first, is_eq-nat a.count b.count) refl

ties : (a b c d e : Ordering) → is_eq (ordering_then a (ordering_then b (ordering_then c (ordering_then d e))))
    ≡ (is_eq a && is_eq b && is_eq c && (is_eq d && is_eq e))
ties Less b c d e = refl
ties Greater b c d e = refl
ties Equal Less c d e = refl
ties Equal Greater c d e = refl
ties Equal Equal Less d e = refl
ties Equal Equal Greater d e = refl
ties Equal Equal Equal d e = sym (tied_then d e)

-- two segments have one identity where they are the same
same_identity : (a b : MediaItem) (x y : Identity) → IsIdentity a x → IsIdentity b y → is_eq (by_identity x y) ≡ same_item a b
same_identity a b x y ax by =
    ties (int_cmp x.date y.date) (slice_cmp nat_cmp x.address.now y.address.now) (option_cmp by_numbers x.range y.range)
    (slice_cmp nat_cmp x.map.now y.map.now) (option_cmp by_numbers x.map_range y.map_range)
    ∙ rw (
      is_eq-slice_cmp x.address.now y.address.now,
      is_eq-slice_cmp x.map.now y.map.now,
      ax.date,
      ax.address,
      ax.range,
      ax.map,
      ax.map_range,
      by.date,
      by.address,
      by.range,
      by.map,
      by.map_range,
      same_numbers a.range b.range,
      same_numbers a.map.range b.map.range,
    ) refl

has_identity : (item : MediaItem) → IsIdentity item (identity_of item)
has_identity item = record { date = refl; address = refl; range = refl; map = refl; map_range = refl }

pub found : (listed : Listed) (item : MediaItem) (x : Identity) → IsIdentity item x
    → contains_by (by_identity x) listed.identities ≡ has listed item
found listed item x is = rw (is.date, is.address, is.range, is.map, is.map_range) refl

or_last : (a b : Bool) → cond a true b ≡ (b || (a || false))
or_last true true = refl
or_last true false = refl
or_last false true = refl
or_last false false = refl

pub one_more : (old new : BTreeSet Identity) (items : List MediaItem) (added : MediaItem) (x : Identity) → IsIdentity added x
    → Updates by_identity old new x true
    → AreListed (record { identities = old }) items → AreListed (record { identities = new }) (items ++ added ∷ [])
one_more old new items added x is h before = record {
  same = λ item.
      h.0 (identity_of item)
      ∙ ap (λ b. cond b true (has (record { identities = old }) item))
      (ap is_eq (total-law.antisymm x (identity_of item)) ∙ is_eq-reverse (by_identity (identity_of item) x)
      ∙ same_identity item added (identity_of item) x (has_identity item) is)
      ∙ ap (λ b. cond (same_item item added) true b) (before.same item)
      ∙ or_last (same_item item added) (list_any (same_item item) items)
      ∙ sym (list_any-append (same_item item) items (added ∷ []));
}

prefix_same : {X : Type 0} (p q : X → Bool) → ((x : X) → p x ≡ q x) → (xs : List X) → prefix_len p xs ≡ prefix_len q xs
prefix_same p q same [] = refl
prefix_same p q same (x ∷ xs) = rw (same x, prefix_same p q same xs) refl

-- how many come behind the last listed one
pub behind : (listed : Listed) (items new : List MediaItem) → AreListed listed items
    → suffix_len (is_new listed) new ≡ suffix_len (is_unlisted items) new
behind listed items new are =
    prefix_same (is_new listed) (is_unlisted items) (λ item. ap not (are.same item)) (reverse new)
