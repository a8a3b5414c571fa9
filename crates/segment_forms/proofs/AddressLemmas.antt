-- Addresses cut at their prefix and their suffix.
use Rattle.std.proofs.Common.{◌≡◌, ◌≢◌, false, List, ℕ, ◌++◌, bytes_eq, sym, refl, ◌∙◌}
use Rattle.std.proofs.{lemmas.Bool.false_from_ne_true, lemmas.Bool.Decides.same_from_decides, lemmas.Slice.Eq.bytes_eq-Decides}
use Rattle.std.proofs.lemmas.List.{append_cancel_left, append_cancel_right}

module _ (address prefix suffix number : List ℕ) where
  pub no_prefix : ((rest : List ℕ) → address ≢ prefix ++ rest) → false ≡ bytes_eq address (prefix ++ (number ++ suffix))
  no_prefix none = sym (false_from_ne_true _ (λ same. none (number ++ suffix)
      ((bytes_eq-Decides address (prefix ++ (number ++ suffix))).0 same)))

  module _ (rest : List ℕ) (front : address ≡ prefix ++ rest) where
    pub no_suffix : ((digits : List ℕ) → rest ≢ digits ++ suffix) → false ≡ bytes_eq address (prefix ++ (number ++ suffix))
    no_suffix none = sym (false_from_ne_true _ (λ same. none number (append_cancel_left prefix rest (number ++ suffix)
        (sym front ∙ (bytes_eq-Decides address (prefix ++ (number ++ suffix))).0 same))))

    pub between : (digits : List ℕ) → rest ≡ digits ++ suffix → bytes_eq digits number ≡ bytes_eq address (prefix ++ (number ++ suffix))
    between digits back = same_from_decides _ _ (
      λ same. rw (front, back, (bytes_eq-Decides digits number).0 same) refl,
      λ is. (bytes_eq-Decides digits number).1 (append_cancel_right digits number suffix
          (append_cancel_left prefix (digits ++ suffix) (number ++ suffix) (sym (rw back at front) ∙ is))),
    )
        (bytes_eq-Decides address (prefix ++ (number ++ suffix)))
