-- What lies on a shelf, and the pages of the texts there.
use Rattle.std.proofs.Common.{◌≡◌, List, ℕ, Option, Some, None, true, false, Result, Ok, Err, IfOk, IfSome, OnOk, OnErr, bytes_eq, cond}
use Rattle.std.proofs.Common.{ap, refl, subst, sym, ◌∙◌}
use Rattle.std.proofs.Math.{Logic.{∥∥₁_elim, ∥∥₁_map}, Nat.ℕ_set}
use mathlib.Core.List.{is_set}
use Rattle.std.proofs.lemmas.Slice.Eq.{bytes_eq-Decides}
use Rattle.std.specs.Bool.{Decides}
use Rattle.bridge_io.specs.Outside.{Files, put}
use Rattle.page_server.specs.{Pages.{Page, Text, Page-set}, Shelves.AreOf}

-- nothing lies there
pub none_of : (pages : List ℕ → Page) (texts : Files) → ((file : List ℕ) → texts file ≡ None) → AreOf pages texts
none_of pages texts none = λ file. subst (λ text. IfSome text (λ text. pages file ≡ Text text)) (sym (none file)) tt

-- one text more
more_of : (pages : List ℕ → Page) (texts : Files) (name text : List ℕ) → AreOf pages texts → pages name ≡ Text text
    → AreOf pages (put name text texts)
more_of pages texts name text are is = λ file.
    elim (bytes_eq name file) as (λ b. Decides b (name ≡ file)
    → IfSome (cond b (Some text) (texts file)) (λ text. pages file ≡ Text text)) [
      | true ↦ λ same. ap pages (sym (same.0 refl)) ∙ is
      | false ↦ λ _. are file
    ] (bytes_eq-Decides name file)

module _ {P E : Type 0} (pages : List ℕ → Page) (texts : Files) (is_kept : ∥ P × AreOf pages texts ∥₁) where
  -- a text that was got
  pub kept_text : (file : List ℕ) (r : Result (Option (List ℕ)) E) → IfOk r (λ text. text ≡ texts file)
      → IfOk r (λ text. IfSome text (λ text. pages file ≡ Text text))
  kept_text file (Ok (Some text)) is = ∥∥₁_elim is_kept (Page-set (is_set ℕ_set) (pages file) (Text text))
      (λ kept. subst (λ o. IfSome o (λ text. pages file ≡ Text text)) (sym is) (kept.1 file))
  kept_text file (Ok None) is = tt
  kept_text file (Err e) is = tt

  -- a text that was put there, or not
  pub kept_more : {T : Type 0} (after : Files) (name text : List ℕ) (r : Result T E) → pages name ≡ Text text
      → OnOk r (after ≡ put name text texts) → OnErr r (after ≡ texts) → ∥ P × AreOf pages after ∥₁
  kept_more after name text (Ok x) is puts stays =
      ∥∥₁_map is_kept (λ kept. (kept.0, subst (AreOf pages) (sym puts) (more_of pages texts name text kept.1 is)))
  kept_more after name text (Err e) is puts stays = ∥∥₁_map is_kept (λ kept. (kept.0, subst (AreOf pages) (sym stays) kept.1))
