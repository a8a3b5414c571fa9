-- Readings that are told the same are the same.
use Rattle.std.proofs.Common.{◌≡◌, ℕ, suc, ◌<◌, ◌&&◌, Bool, true, false, List, []}
use Rattle.std.proofs.Common.{◌∷◌, length, drop, refl, ap, ap₂, ◌∙◌, arith, bytes_eq}
use Rattle.std.proofs.Math.{Seq.drop-cons, ListN.get_or}
use Rattle.std.proofs.lemmas.{Bool.and_parts, Slice.Eq.bytes_eq-Decides}
use Rattle.page_server.specs.declared.maker.{Manifest.Manifest, SourceFile.SourceFile}
use Rattle.page_server.specs.Sources.{is_same, are_same, is_same_manifest}

no_last : (b : Bool) → (b && false) ≡ false
no_last true = refl
no_last false = refl

pub unlike : (xs ys : List SourceFile) → (length xs ≡ length ys → ⊥) → are_same xs ys ≡ false
unlike [] [] h = absurd (h refl)
unlike [] (y ∷ ys) h = refl
unlike (x ∷ xs) [] h = refl
unlike (x ∷ xs) (y ∷ ys) h = ap (λ b. is_same x y && b) (unlike xs ys (λ e. h (ap suc e))) ∙ no_last (is_same x y)

pub same_at : (xs ys : List SourceFile) (i : ℕ) (d : SourceFile) → length xs ≡ length ys → i < length xs
    → are_same (drop i xs) (drop i ys) ≡ (is_same (get_or xs i d) (get_or ys i d) && are_same (drop (suc i) xs) (drop (suc i) ys))
same_at xs ys i d long below = rw (drop-cons xs i d below, drop-cons ys i d (omega (arith, long))) refl

is : (x y : SourceFile) → is_same x y ≡ true → x ≡ y
is x y h =
    let parts = and_parts (bytes_eq x.name y.name) (bytes_eq x.bytes y.bytes) h in
    ap₂ (λ n b. record { name = n; bytes = b }) ((bytes_eq-Decides x.name y.name).0 parts.0) ((bytes_eq-Decides x.bytes y.bytes).0 parts.1)

all_same : (x y : SourceFile) (xs ys : List SourceFile) → (xs ≡ ys) → (b : Bool) → is_same x y ≡ b → b ≡ true → (x ∷ xs) ≡ (y ∷ ys)
all_same x y xs ys rest b e t = ap₂ (λ z zs. z ∷ zs) (is x y (e ∙ t)) rest

pub same_is : (xs ys : List SourceFile) → are_same xs ys ≡ true → xs ≡ ys
same_is [] [] h = refl
same_is [] (y ∷ ys) h = cc
same_is (x ∷ xs) [] h = cc
same_is (x ∷ xs) (y ∷ ys) h =
    let parts = and_parts (is_same x y) (are_same xs ys) h in
    all_same x y xs ys (same_is xs ys parts.1) _ refl parts.0

all_three : (x y z : Bool) → (x && y && z) ≡ true → (x ≡ true) × ((y ≡ true) × (z ≡ true))
all_three true true z h = (refl, (refl, h))
all_three true false z h = cc
all_three false y z h = cc

manifests : (a b : Manifest) → a.base ≡ b.base → a.name ≡ b.name → a.files ≡ b.files → a ≡ b
manifests a b base name files =
    ap₂ (λ base name. record { base = base; name = name; files = a.files }) base name
    ∙ ap (λ files. record { base = b.base; name = b.name; files = files }) files

pub same_manifest : (a b : Manifest) → is_same_manifest a b ≡ true → a ≡ b
same_manifest a b h =
    let same = all_three (bytes_eq a.base b.base) (bytes_eq a.name b.name) (are_same a.files b.files) h in
    manifests a b ((bytes_eq-Decides a.base b.base).0 same.0) ((bytes_eq-Decides a.name b.name).0 same.1.0)
    (same_is a.files b.files same.1.1)
