-- Texts in an ordered set.
use Rattle.std.proofs.Common.{◌≡◌, ℕ, Bool, true, false, cond, ◌||◌, List, ◌∷◌, map, refl, sym, ◌∙◌, ap, Bor, bytes_eq}
use Rattle.std.proofs.lemmas.Map.Text.{is_eq-slice_cmp}
use Rattle.std.specs.{List.list_any, Ordering.nat_cmp, Cmp.Lexicographic.slice_cmp, BTreeMap.is_at, BTreeSet.{BTreeSet, UpdatesBy}}
use Rattle.bridge_io.proofs.{NameSets.has_name, Texts.bytes_eq_sym}
use Rattle.hls_master.specs.Texts.{SameTexts}

pub or_is : (a b : Bool) → cond a true b ≡ (a || b)
or_is true b = refl
or_is false b = refl

pub one_more : (old new : BTreeSet (Bor (List ℕ))) (text : Bor (List ℕ))
    → UpdatesBy (λ x y. slice_cmp nat_cmp x.now y.now) (λ y. slice_cmp nat_cmp text.now y.now) old new true
    → SameTexts (map (λ text. text.now) new.keys) (text.now ∷ map (λ text. text.now) old.keys)
one_more old new text h = record {
  same = λ q.
      let key : Bor (List ℕ) = record { ref_ptr = (0, 0); now = q } in
      sym (has_name new.keys q) ∙ h.0 key
      ∙ ap (λ b. cond b true (list_any (is_at (λ y. slice_cmp nat_cmp q y.now)) old.keys)) (is_eq-slice_cmp text.now q
      ∙ bytes_eq_sym text.now q)
      ∙ or_is (bytes_eq q text.now) (list_any (is_at (λ y. slice_cmp nat_cmp q y.now)) old.keys)
      ∙ ap (λ b. bytes_eq q text.now || b) (has_name old.keys q);
}
