-- Sums and lists of places.
use Rattle.std.proofs.Common.{◌≡◌, ℕ, zero, suc, Bool, true, false, cond, eqb, ◌+◌, ◌*◌, ◌<◌, List, [], ◌∷◌, ◌++◌, map, flat_map, get_or}
use Rattle.std.proofs.{Common.{slice_get, length, All, Result, Ok, refl, sym, ◌∙◌, ap, arith}, lemmas.List.{get_or-append-add, get_or-map}}
use Rattle.std.proofs.{lemmas.List.{get_or_append_left, length-map}, lemmas.List.Concat.flat_map-cons, lemmas.List.Elements.All-head}
use Rattle.std.proofs.{lemmas.List.Elements.All-tail, lemmas.List.Sums.sum_by-cons}
use Rattle.std.specs.{List.{range_with_len, sum_by}, Option.option_map_or}
use Rattle.bridge_io.proofs.AndThen.{steps_of}
use Rattle.hls_media.specs.declared.media.MediaSegment.{MediaSegment}
use Rattle.hls_presentation.specs.Presenting.{flattened, gathered}
use Rattle.hls_presentation.specs.Sections.{group_at, groups_of}
use Rattle.layer_faults.specs.declared.hls.HlsFault.{HlsFault}
use Rattle.hls_presentation.specs.Sections.{put_before, row_at}

-- ---- sums

-- a sum over the places of a list
pub spread : {X : Type 0} (f : X → ℕ) (d : X) (xs : List X) (h : ℕ → ℕ) (from : ℕ)
    → ((k : ℕ) → k < length xs → h (from + k) ≡ f (get_or xs k d))
    → sum_by h (range_with_len from (length xs)) ≡ sum_by f xs
spread f d [] h from same = refl
spread f d (x ∷ xs) h from same =
    let start : from ≡ from + 0 = omega arith in
    let first : h from ≡ f x = ap h start ∙ same 0 (omega arith) in
    let later = spread f d xs h (from + 1) (λ k within. (let moved : (from + 1) + k ≡ from + suc k = omega arith in
    ap h moved ∙ same (suc k) (omega arith))) in
    sum_by-cons h from (range_with_len (from + 1) (length xs)) ∙ ap (λ n. n + sum_by h (range_with_len (from + 1) (length xs))) first
    ∙ ap (λ n. f x + n) later ∙ sym (sum_by-cons f x xs)

pub sum_mapped : {X Y : Type 0} (f : X → ℕ) (g : Y → ℕ) (h : Y → X) → ((y : Y) → f (h y) ≡ g y) → (ys : List Y)
    → sum_by f (map h ys) ≡ sum_by g ys
sum_mapped f g h same [] = refl
sum_mapped f g h same (y ∷ ys) = sum_by-cons f (h y) (map h ys) ∙ ap (λ n. n + sum_by f (map h ys)) (same y)
    ∙ ap (λ n. g y + n) (sum_mapped f g h same ys) ∙ sym (sum_by-cons g y ys)

put_sum : (s : MediaSegment) (groups : List (List MediaSegment)) → sum_by length (put_before s groups) ≡ suc (sum_by length groups)
put_sum s [] = refl
put_sum s ([] ∷ groups) = omega (arith, sum_by-cons length (s ∷ []) groups, sum_by-cons length [] groups)
put_sum s ((next ∷ rest) ∷ groups) = put_by (eqb s.section next.section)
  where
    put_by : (b : Bool) → sum_by length (cond b ((s ∷ next ∷ rest) ∷ groups) ((s ∷ []) ∷ (next ∷ rest) ∷ groups))
        ≡ suc (sum_by length ((next ∷ rest) ∷ groups))
    put_by true = omega (arith, sum_by-cons length (s ∷ next ∷ rest) groups, sum_by-cons length (next ∷ rest) groups)
    put_by false = omega (arith, sum_by-cons length (s ∷ []) ((next ∷ rest) ∷ groups))

pub groups_sum : (segments : List MediaSegment) → sum_by length (groups_of segments) ≡ length segments
groups_sum [] = refl
groups_sum (s ∷ rest) = put_sum s (groups_of rest) ∙ ap suc (groups_sum rest)

-- ---- places

pub flat_none : {X Y : Type 0} (f : X → List Y) (xs : List X) → All (λ x. f x ≡ []) xs → flat_map f xs ≡ []
flat_none f [] all = refl
flat_none f (x ∷ xs) all = flat_map-cons f x xs ∙ ap (λ ys. ys ++ flat_map f xs) (All-head (λ x. f x ≡ []) x xs all)
    ∙ flat_none f xs (All-tail (λ x. f x ≡ []) x xs all)

pub option_at : {X Y : Type 0} (f : X → Y) (xs : List X) (k : ℕ) (d : Y) → option_map_or f (slice_get xs k) d ≡ get_or (map f xs) k d
option_at f [] k d = refl
option_at f (x ∷ xs) zero d = refl
option_at f (x ∷ xs) (suc k) d = option_at f xs k d

-- what a track has in a section, among all of them
pub flat_at : (groups : List (List (List MediaSegment))) (places : List ℕ) (s t : ℕ) → s < length places → t < length groups
    → get_or (flattened (map (row_at groups) places)) (s * length groups + t) [] ≡ group_at (get_or places s 0) (get_or groups t [])
flat_at groups [] s t here there = absurd (omega arith)
flat_at groups (place ∷ places) zero t here there =
    let row = row_at groups place in
    let rest = flattened (map (row_at groups) places) in
    let none : 0 * length groups + t ≡ t = omega arith in
    let long : t < length row = omega (arith, length-map groups (group_at place)) in
    ap (λ k. get_or (row ++ rest) k []) none ∙ get_or_append_left row rest [] t long ∙ get_or-map (group_at place) groups t [] [] there
flat_at groups (place ∷ places) (suc s) t here there =
    let row = row_at groups place in
    let rest = flattened (map (row_at groups) places) in
    let moved : suc s * length groups + t ≡ length row + (s * length groups + t) = omega (arith, length-map groups (group_at place)) in
    ap (λ k. get_or (row ++ rest) k []) moved ∙ get_or-append-add row rest (s * length groups + t) []
    ∙ flat_at groups places s t (omega arith) there

-- ---- what is gathered, seen by something that tells of what it was made

pub gathered_same : {X Y Z : Type 0} (give : X → Result Y HlsFault) (f : Y → Z) (g : X → Z) → ((x : X) (y : Y) → give x ≡ Ok y → f y ≡ g x)
    → (xs : List X) (zs : List Y) → gathered give xs ≡ Ok zs → map f zs ≡ map g xs
gathered_same give f g each [] zs is = (let none : [] ≡ zs = cc in ap (map f) (sym none))
gathered_same give f g each (x ∷ xs) zs is =
    let s = steps_of (give x) _ zs is in
    let t = steps_of (gathered give xs) _ zs s.then in
    let same : s.value ∷ t.value ≡ zs = (let h = t.then in cc) in
    ap (map f) (sym same) ∙ ap (λ z. z ∷ map f t.value) (each x s.value s.first)
    ∙ ap (λ zs. g x ∷ zs) (gathered_same give f g each xs t.value t.first)
