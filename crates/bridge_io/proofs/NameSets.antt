-- Which names an ordered set has.
use Rattle.std.proofs.Common.{◌≡◌, ℕ, Bool, true, false, ◌||◌, List, [], ◌∷◌, ◌++◌, map, refl, sym, ◌∙◌, ap, Bor, bytes_eq, Less, Equal}
use Rattle.std.proofs.{Common.{Greater, Ordering}, lemmas.Map.Text.is_eq-slice_cmp}
use Rattle.std.specs.{List.list_any, Ordering.{nat_cmp, is_eq, match_ordering}, Cmp.Lexicographic.slice_cmp, BTreeMap.is_at}
use Rattle.std.specs.BTreeSet.{insert_key}
use Rattle.bridge_io.specs.Texts.{is_among}
use Rattle.bridge_io.proofs.Texts.{same_bytes, or_nothing}

abbrev pub by_name : Bor (List ℕ) → Bor (List ℕ) → Ordering
by_name x y = slice_cmp nat_cmp x.now y.now

abbrev pub has : List (Bor (List ℕ)) → List ℕ → Bool
has keys name = is_among name (map (λ key. key.now) keys)

swapped : (a b : Bool) → (a || b) ≡ (b || a)
swapped true true = refl
swapped true false = refl
swapped false true = refl
swapped false false = refl

one_more : (a b c : Bool) → (a || (b || c)) ≡ ((a || b) || c)
one_more true b c = refl
one_more false b c = refl

there_already : (a b : Bool) → (a || b) ≡ ((a || b) || a)
there_already true b = refl
there_already false true = refl
there_already false false = refl

pub has_name : (keys : List (Bor (List ℕ))) (name : List ℕ) → list_any (is_at (λ key. slice_cmp nat_cmp name key.now)) keys ≡ has keys name
has_name [] name = refl
has_name (x ∷ xs) name = ap (λ b. b || list_any (is_at (λ key. slice_cmp nat_cmp name key.now)) xs) (is_eq-slice_cmp name x.now)
    ∙ ap (λ b. bytes_eq name x.now || b) (has_name xs name)

placed : (x k : Bor (List ℕ)) (xs more : List (Bor (List ℕ))) (name : List ℕ) (o : Ordering) → by_name k x ≡ o
    → has more name ≡ (has xs name || bytes_eq name k.now)
    → has (match_ordering o (k ∷ x ∷ xs) (x ∷ xs) (x ∷ more)) name ≡ (has (x ∷ xs) name || bytes_eq name k.now)
placed x k xs more name Less e h = swapped (bytes_eq name k.now) (has (x ∷ xs) name)
placed x k xs more name Equal e h =
    let same : k.now ≡ x.now = same_bytes k.now x.now (sym (is_eq-slice_cmp k.now x.now) ∙ ap is_eq e) in
    there_already (bytes_eq name x.now) (has xs name) ∙ ap (λ n. (bytes_eq name x.now || has xs name) || bytes_eq name n) (sym same)
placed x k xs more name Greater e h = ap (λ b. bytes_eq name x.now || b) h
    ∙ one_more (bytes_eq name x.now) (has xs name) (bytes_eq name k.now)

pub insert_has : (keys : List (Bor (List ℕ))) (k : Bor (List ℕ)) (name : List ℕ)
    → has (insert_key by_name keys k) name ≡ (has keys name || bytes_eq name k.now)
insert_has [] k name = or_nothing (bytes_eq name k.now)
insert_has (x ∷ xs) k name = placed x k xs (insert_key by_name xs k) name (by_name k x) refl (insert_has xs k name)
