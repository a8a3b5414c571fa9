-- Which names stand twice, by a set of those before.
use Rattle.std.proofs.Common.{◌≡◌, ℕ, Bool, true, false, List, ◌∷◌, [], ◌++◌, ◌+◌, ◌<◌, length, take, drop, get_or, not, refl, sym, ◌∙◌, ap}
use Rattle.std.proofs.{Common.{Bor, bytes_eq, ◌||◌}, lemmas.List.{at_drop_more, take_more, map-append}}
use Rattle.std.specs.{List.list_any, BTreeMap.is_at, BTreeSet.insert_key}
use Rattle.bridge_io.specs.Texts.{is_among}
use Rattle.bridge_io.proofs.{NameSets.{by_name, has, has_name, insert_has}, Texts.among_more}
use Rattle.hls_lines.specs.{Attributes.{NameValue, names_of, repeats_after}, Pairs.{pair_of, pairs_of}}

-- the keys are these names
pub record AreNames (keys : List (Bor (List ℕ))) (names : List (List ℕ)) : Type 0 where
  pub same : (name : List ℕ) → has keys name ≡ is_among name names

-- one name more
names_more : (keys : List (Bor (List ℕ))) (names : List (List ℕ)) (k : Bor (List ℕ)) → AreNames keys names
    → AreNames (insert_key by_name keys k) (names ++ k.now ∷ [])
names_more keys names k are = record {
  same = λ name. insert_has keys k name ∙ ap (λ b. b || bytes_eq name k.now) (are.same name) ∙ sym (among_more name k.now names);
}

is_found : (b r : Bool) → r ≡ not b → r ≡ false → b ≡ true
is_found true r e h = refl
is_found false r e h = cc

is_new : (b r : Bool) → r ≡ not b → r ≡ true → b ≡ false
is_new false r e h = refl
is_new true r e h = cc

abbrev pub heads : List (Bor (List ℕ) × Bor (List ℕ)) → List (List ℕ)
heads pairs = names_of (pairs_of pairs)

-- one turn over pairs, of which some were passed
module _ (pairs : List (Bor (List ℕ) × Bor (List ℕ))) (i : ℕ) (d : Bor (List ℕ) × Bor (List ℕ)) (key : Bor (List ℕ))
    (keys : List (Bor (List ℕ))) (less : i < length pairs)
    (key_is : key.now ≡ (get_or pairs i d).0.now) (are : AreNames keys (heads (take i pairs))) where
  left : heads (drop i pairs) ≡ key.now ∷ heads (drop (i + 1) pairs)
  left = at_drop_more heads pairs i d less ∙ ap (λ n. n ∷ heads (drop (i + 1) pairs)) (sym key_is)

  seen : heads (take (i + 1) pairs) ≡ heads (take i pairs) ++ key.now ∷ []
  seen = ap heads (take_more pairs i d less) ∙ ap names_of (map-append pair_of (take i pairs) (get_or pairs i d ∷ []))
      ∙ map-append (λ (pair : NameValue). pair.0) (pairs_of (take i pairs)) (pair_of (get_or pairs i d) ∷ [])
      ∙ ap (λ n. heads (take i pairs) ++ n ∷ []) (sym key_is)

  among : (b : Bool) → list_any (is_at (by_name key)) keys ≡ b → is_among key.now (heads (take i pairs)) ≡ b
  among b e = sym (has_name keys key.now ∙ are.same key.now) ∙ e

  pub repeated : (added : Bool) → added ≡ not (list_any (is_at (by_name key)) keys) → added ≡ false
      → true ≡ repeats_after (heads (take i pairs)) (heads (drop i pairs))
  repeated added e h = rw (left, among true (is_found _ added e h)) refl

  pub others_same : (added : Bool) → added ≡ not (list_any (is_at (by_name key)) keys) → added ≡ true
      → repeats_after (heads (take (i + 1) pairs)) (heads (drop (i + 1) pairs))
      ≡ repeats_after (heads (take i pairs)) (heads (drop i pairs))
  others_same added e h = rw (seen, left, among false (is_new _ added e h)) refl

  pub AreNames-more : AreNames (insert_key by_name keys key) (heads (take (i + 1) pairs))
  AreNames-more = rw seen (names_more keys (heads (take i pairs)) key are)
