-- Files that are alike at each name are the same files.
use Rattle.std.proofs.Common.{◌≡◌, ℕ, List, ◌++◌, [], Option, Some, true, false, ap, ◌∙◌, refl, Result, Ok, Err, OnOk, OnErr, bytes_eq}
use Rattle.std.proofs.{Common.{unwrap_or, cond}, lemmas.Slice.Eq.bytes_eq-Decides}
use Rattle.std.specs.Bool.{Decides}
use Rattle.bridge_io.specs.Outside.{Files, put, extended}

pub same_files : {before after : Files} → ((name : List ℕ) → before name ≡ after name) → before ≡ after
same_files alike = λ i name. alike name i

-- a file set to what it has is as before
pub put_same : (files : Files) (name bytes : List ℕ) → Some bytes ≡ files name → put name bytes files ≡ files
put_same files name bytes has = same_files (λ q.
    elim (bytes_eq name q) as (λ b. Decides b (name ≡ q) → cond b (Some bytes) (files q) ≡ files q) [
      | true ↦ λ same. has ∙ ap files (same.0 refl)
      | false ↦ λ _. refl
    ] (bytes_eq-Decides name q))

-- a file whose bytes were there and grew by a piece
pub extends_known : {T E : Type 0} (result : Result T E) (before after : Files) (name bytes piece grown : List ℕ)
    → Some bytes ≡ before name → after ≡ put name grown before → OnOk result (grown ≡ bytes ++ piece)
    → OnOk result (after ≡ extended name piece before)
extends_known (Ok x) before after name bytes piece grown has puts is =
    puts ∙ ap (λ b. put name b before) (is ∙ ap (λ (b : Option (List ℕ)). unwrap_or b [] ++ piece) has)
extends_known (Err e) before after name bytes piece grown has puts is = tt

-- a file that was written again as it was
pub same_known : {T E : Type 0} (result : Result T E) (before after : Files) (name bytes again : List ℕ) → Some bytes ≡ before name
    → after ≡ put name again before → OnErr result (again ≡ bytes) → OnErr result (after ≡ before)
same_known (Ok x) before after name bytes again has puts is = tt
same_known (Err e) before after name bytes again has puts is = puts ∙ ap (λ b. put name b before) is ∙ put_same before name bytes has

pub on_err : {T E : Type 0} (result : Result T E) {P : Type 0} → P → OnErr result P
on_err (Ok x) p = tt
on_err (Err e) p = p
