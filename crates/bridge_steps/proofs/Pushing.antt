-- Texts that are added one after another.
use Rattle.std.proofs.{Common.{◌≡◌, ℕ, ◌+◌, ◌<◌, List, ◌++◌, flat_map, sym, ◌∙◌, ap, append_assoc}, lemmas.List.append-nil}
use Rattle.presentation.proofs.Counts.{from_on, from_on-end, from_on-first}

module _ (text : ℕ → List ℕ) (whole : List ℕ) where
  -- the text at a place was added, and the later ones are left
  pub one_more : (before : List ℕ) (place count : ℕ) → place < count → before ++ flat_map text (from_on place count) ≡ whole
      → (before ++ text place) ++ flat_map text (from_on (place + 1) count) ≡ whole
  one_more before place count within is =
      append_assoc before (text place) (flat_map text (from_on (place + 1) count))
      ∙ ap (λ places. before ++ flat_map text places) (sym (from_on-first place count within)) ∙ is

  -- none is left
  pub no_more : (before : List ℕ) (count : ℕ) → before ++ flat_map text (from_on count count) ≡ whole → before ≡ whole
  no_more before count is = sym (append-nil before) ∙ ap (λ places. before ++ flat_map text places) (sym (from_on-end count)) ∙ is
