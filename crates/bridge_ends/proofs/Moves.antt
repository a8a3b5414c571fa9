-- Files that take others' places.
use Rattle.std.proofs.Common.{◌≡◌, ℕ, List, Some, None, true, false, cond, bytes_eq, refl, sym, ap, ◌∙◌}
use Rattle.std.proofs.lemmas.Slice.Eq.{bytes_eq-Decides}
use Rattle.std.specs.Bool.{Decides}
use Rattle.bridge_io.specs.Outside.{Files, put}
use Rattle.bridge_io.proofs.{Files.same_files, Texts.equals_itself}
use Rattle.bridge_ends.specs.Moved.{moved, without}

-- where nothing has the name, nothing has the other one then
pub moved_none : (from to : List ℕ) (files : Files) → files from ≡ None → without to files ≡ moved from to files
moved_none from to files none = same_files (λ q.
    elim (bytes_eq to q) as (λ b. cond b None (files q) ≡ cond b (files from) (cond (bytes_eq from q) None (files q))) [
      | true ↦ sym none
      | false ↦ elim (bytes_eq from q) as (λ b. Decides b (from ≡ q) → files q ≡ cond b None (files q)) [
        | true ↦ λ same. ap files (sym (same.0 refl)) ∙ none
        | false ↦ λ _. refl
      ] (bytes_eq-Decides from q)
    ])

-- otherwise the bytes are put there, and the name is taken away
pub moved_some : (from to bytes : List ℕ) (files : Files) → files from ≡ Some bytes → bytes_eq from to ≡ false
    → without from (put to bytes files) ≡ moved from to files
moved_some from to bytes files has other = same_files (λ q.
    elim (bytes_eq to q) as (λ b. Decides b (to ≡ q) → cond (bytes_eq from q) None (cond b (Some bytes) (files q))
    ≡ cond b (files from) (cond (bytes_eq from q) None (files q))) [
      | true ↦ λ at. elim (bytes_eq from q) as (λ b. Decides b (from ≡ q) → cond b None (Some bytes) ≡ files from) [
        | true ↦ λ also.
            let same : from ≡ to = also.0 refl ∙ sym (at.0 refl) in
            let equal : bytes_eq from to ≡ true = rw (← same) (equals_itself from) in absurd (cc)
        | false ↦ λ _. sym has
      ] (bytes_eq-Decides from q)
      | false ↦ λ _. refl
    ] (bytes_eq-Decides to q))
