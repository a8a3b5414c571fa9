-- The segments of a section stand together.
use Rattle.std.proofs.Common.{◌≡◌, ℕ, suc, ◌+◌, ◌<◌, Bool, true, false, cond, eqb, List, [], ◌∷◌, take, drop, Some, slice_get, refl, sym}
use Rattle.std.proofs.{Common.{◌∙◌, ap, subst, arith}, lemmas.Bool.{eq-eqb, eqb-true}}
use Rattle.std.specs.List.{prefix_len}
use Rattle.hls_media.specs.declared.media.MediaSegment.{MediaSegment}
use Rattle.hls_presentation.specs.Sections.{groups_of, is_of, put_before}

-- how many of some segments in front are of the section of one
abbrev pub count_like : MediaSegment → List MediaSegment → ℕ
count_like s rest = prefix_len (is_of s.section) rest

one_more : (n : ℕ) → 1 + n ≡ suc n
one_more n = omega arith

abbrev IsCut : MediaSegment → List MediaSegment → Type 0
IsCut s rest = groups_of (s ∷ rest) ≡ (s ∷ take (count_like s rest) rest) ∷ groups_of (drop (count_like s rest) rest)

-- the next segment is of the same section, or not
cut_by : (s next : MediaSegment) (later : List MediaSegment) (b : Bool) → eqb s.section next.section ≡ b → IsCut next later
    → IsCut s (next ∷ later)
cut_by s next later true is before =
    let others = groups_of (drop (count_like next later) later) in
    let mine = take (count_like next later) later in
    let same : s.section ≡ next.section = eqb-true s.section next.section is in
    let count : count_like s (next ∷ later) ≡ suc (count_like next later) =
    ap (λ b. cond b (1 + count_like s later) 0) is ∙ one_more (count_like s later)
    ∙ ap (λ section. suc (prefix_len (is_of section) later)) same in
    ap (put_before s) before ∙ ap (λ b. cond b ((s ∷ next ∷ mine) ∷ others) ((s ∷ []) ∷ (next ∷ mine) ∷ others)) is
    ∙ ap (λ n. (s ∷ take n (next ∷ later)) ∷ groups_of (drop n (next ∷ later))) (sym count)
cut_by s next later false is before =
    let others = groups_of (drop (count_like next later) later) in
    let mine = take (count_like next later) later in
    let count : count_like s (next ∷ later) ≡ 0 = ap (λ b. cond b (1 + count_like s later) 0) is in
    ap (put_before s) before ∙ ap (λ b. cond b ((s ∷ next ∷ mine) ∷ others) ((s ∷ []) ∷ (next ∷ mine) ∷ others)) is
    ∙ ap (λ groups. (s ∷ []) ∷ groups) (sym before)
    ∙ ap (λ n. (s ∷ take n (next ∷ later)) ∷ groups_of (drop n (next ∷ later))) (sym count)

cut : (s : MediaSegment) (rest : List MediaSegment) → IsCut s rest
cut s [] = refl
cut s (next ∷ later) = cut_by s next later (eqb s.section next.section) refl (cut next later)

pub record IsFront (s : MediaSegment) (xs : List MediaSegment) : Type 0 where
  pub some : 0 < count_like s xs
  pub groups : groups_of xs ≡ take (count_like s xs) xs ∷ groups_of (drop (count_like s xs) xs)

-- the section of the first segment
pub front : (xs : List MediaSegment) (s : MediaSegment) → slice_get xs 0 ≡ Some s → IsFront s xs
front [] s is = absurd (cc)
front (x ∷ rest) s is =
    let same : x ≡ s = cc in
    let count : count_like x (x ∷ rest) ≡ suc (count_like x rest) = ap (λ b. cond b (1 + count_like x rest) 0)
    (eq-eqb x.section x.section refl) ∙ one_more (count_like x rest) in
    subst (λ s. IsFront s (x ∷ rest)) same (record {
      some = omega (arith, count);
      groups = cut x rest ∙ ap (λ n. take n (x ∷ rest) ∷ groups_of (drop n (x ∷ rest))) (sym count);
    })
