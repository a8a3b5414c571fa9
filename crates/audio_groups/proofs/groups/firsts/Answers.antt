use Rattle.audio_groups.proofs.groups.firsts.Goals as goal
use Rattle.audio_groups.proofs.groups.firsts.Goals.{then-is_new+in_ok-push, else-is_new}
use Rattle.std.proofs.Common.{◌≡◌, ℕ, ◌+◌, ◌==◌, Bool, true, false, not, ◌&&◌, List, [], ◌∷◌, ◌++◌, map, drop}
use Rattle.std.proofs.Common.{refl, sym, ◌∙◌, ap, inl, inr, arith, suc, get_or, drop-cons}
use Rattle.std.proofs.{lemmas.Bool.cases_Bool, lemmas.List.map-append}
use Rattle.std.specs.{Prelude.if◌then◌else◌, List.list_any}
use Rattle.audio_groups.specs.{declared.groups.Rendition.Rendition, declared.groups.Sameness.Sameness, Groups.{firsts, is_same, key_of}}
use Rattle.audio_groups.specs.declared.groups.Sameness.TheVariants.{Key, Set}

abbrev same_key : ℕ × ℕ → ℕ × ℕ → Bool
same_key x y = (x.0 == y.0) && (x.1 == y.1)

and_true : (b : Bool) → (b && true) ≡ b
and_true true = refl
and_true false = refl

key_same : (s : Sameness) (one other : Rendition) → same_key (key_of s one) (key_of s other) ≡ is_same s one other
key_same Key one other = refl
key_same Set one other = and_true (one.set == other.set)

keys_among : (s : Sameness) (one : Rendition) (found : List Rendition)
    → list_any (same_key (key_of s one)) (map (key_of s) found) ≡ list_any (is_same s one) found
keys_among s one [] = refl
keys_among s one (other ∷ found) = rw (key_same s one other, keys_among s one found) refl

module _ (s : Sameness) (one : Rendition) (more found : List Rendition) (keys : List (ℕ × ℕ)) (same : keys ≡ map (key_of s) found) where
  abbrev IsNext : List Rendition → List (ℕ × ℕ) → Type 0
  IsNext new new_keys = (firsts s new more ≡ firsts s found (one ∷ more)) × (new_keys ≡ map (key_of s) new)

  abbrev among : Bool
  among = list_any (same_key (key_of s one)) keys

  among_is : among ≡ list_any (is_same s one) found
  among_is = ap (list_any (same_key (key_of s one))) same ∙ keys_among s one found

  next_new : (new : List Rendition) (new_keys : List (ℕ × ℕ)) → true ≡ not among
      → new_keys ≡ (if among then keys else keys ++ key_of s one ∷ []) → new ≡ found ++ one ∷ [] → IsNext new new_keys
  next_new new new_keys is pushed are = elim (cases_Bool among) [
    | inl there ↦ absurd (cc)
    | inr none ↦ (
      ap (λ xs. firsts s xs more) are ∙ rw (sym among_is ∙ none) refl,
      pushed ∙ (rw (none, are, same) (sym (map-append (key_of s) found (one ∷ [])))),
    )
  ]

  next_old : (new_keys : List (ℕ × ℕ)) → false ≡ not among → new_keys ≡ (if among then keys else keys ++ key_of s one ∷ [])
      → IsNext found new_keys
  next_old new_keys is pushed = elim (cases_Bool among) [
    | inl there ↦ (rw (sym among_is ∙ there) refl, pushed ∙ (rw there same))
    | inr none ↦ absurd (cc)
  ]

abbrev nowhere : Rendition
nowhere = record { place = 0; set = 0; codes = 0; rank = 0 }

pub loop-rendition-preserved : goal.loop-rendition-preserved
loop-rendition-preserved c =
    let s = c.args.sameness in
    let all = c.args.renditions.now in
    let k = c.loop-rendition.rendition-index in
    let found = c.loop-rendition.found.items in
    let keys = c.loop-rendition.keys.keys in
    let so_far = c.loop-rendition.invariant in
    let added = c.in_ok-is_new.ensures.added in
    let pushed = c.in_ok-is_new.ensures.keys in
    let one = get_or all k nowhere in
    let more : suc k ≡ k + 1 = omega arith in
    let rest : drop k all ≡ one ∷ drop (k + 1) all =
    drop-cons all k nowhere c.loop-rendition-test.true ∙ ap (λ n. one ∷ drop n all) more in
    let behind = ap (firsts s found) (sym rest) ∙ so_far.0 in
    elim c.if-is_new.branch [
      | then-is_new+in_ok-push w ↦
          let next = next_new s one (drop (k + 1) all) found keys so_far.1 c.if-is_new.found.items c.insert_full.new.self.keys
          (sym w.if-is_new.true ∙ (rw c.key.ensures at added)) (rw c.key.ensures at pushed)
          (ap (λ v. v.items) w.found-is ∙ w.in_ok-push.ensures.items) in
          (next.0 ∙ behind, next.1)
      | else-is_new w ↦
          let next = next_old s one (drop (k + 1) all) found keys so_far.1 c.insert_full.new.self.keys
          (sym w.if-is_new.false ∙ (rw c.key.ensures at added)) (rw c.key.ensures at pushed) in
          (rw w.found-is (next.0 ∙ behind), rw w.found-is next.1)
    ]
