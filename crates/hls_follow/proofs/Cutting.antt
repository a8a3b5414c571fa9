-- The segments of a section stand together.
use Rattle.std.proofs.Common.{◌≡◌, ℕ, suc, ◌+◌, ◌-◌, ◌<◌, ◌++◌, Bool, true, false, cond, eqb, List, [], ◌∷◌, map, take, drop, get_or}
use Rattle.std.proofs.Common.{length, Some, slice_get, refl, sym, ◌∙◌, ap, subst, append_assoc, length-drop, arith}
use Rattle.std.proofs.{Math.Seq.take-length, lemmas.List.{drop-drop, length-take-le, map-append}}
use Rattle.std.proofs.{lemmas.Bool.{eq-eqb, eqb-true}, lemmas.List.Sums.prefix_len-le-length, lemmas.Option.slice_get_read}
use Rattle.std.specs.{Borrow.Bor, List.prefix_len}
use Rattle.hls_follow.specs.{Times.TimedSegment, Groups.{groups_of, is_of, put_before}}

-- how many of some segments in front are of the section of one
abbrev pub count_like : TimedSegment → List TimedSegment → ℕ
count_like s rest = prefix_len (is_of s.segment.section) rest

one_more : (n : ℕ) → 1 + n ≡ suc n
one_more n = omega arith

abbrev IsCut : TimedSegment → List TimedSegment → Type 0
IsCut s rest = groups_of (s ∷ rest) ≡ (s ∷ take (count_like s rest) rest) ∷ groups_of (drop (count_like s rest) rest)

-- the next segment is of the same section, or not
cut_by : (s next : TimedSegment) (later : List TimedSegment) (b : Bool) → eqb s.segment.section next.segment.section ≡ b
    → IsCut next later → IsCut s (next ∷ later)
cut_by s next later true is before =
    let others = groups_of (drop (count_like next later) later) in
    let mine = take (count_like next later) later in
    let same : s.segment.section ≡ next.segment.section = eqb-true s.segment.section next.segment.section is in
    let count : count_like s (next ∷ later) ≡ suc (count_like next later) =
    ap (λ b. cond b (1 + count_like s later) 0) is ∙ one_more (count_like s later)
    ∙ ap (λ section. suc (prefix_len (is_of section) later)) same in
    ap (put_before s) before ∙ ap (λ b. cond b ((s ∷ next ∷ mine) ∷ others) ((s ∷ []) ∷ (next ∷ mine) ∷ others)) is
    ∙ ap (λ n. (s ∷ take n (next ∷ later)) ∷ groups_of (drop n (next ∷ later))) (sym count)
cut_by s next later false is before =
    let others = groups_of (drop (count_like next later) later) in
    let mine = take (count_like next later) later in
    let count : count_like s (next ∷ later) ≡ 0 = ap (λ b. cond b (1 + count_like s later) 0) is in
    ap (put_before s) before ∙ ap (λ b. cond b ((s ∷ next ∷ mine) ∷ others) ((s ∷ []) ∷ (next ∷ mine) ∷ others)) is
    ∙ ap (λ groups. (s ∷ []) ∷ groups) (sym before)
    ∙ ap (λ n. (s ∷ take n (next ∷ later)) ∷ groups_of (drop n (next ∷ later))) (sym count)

cut : (s : TimedSegment) (rest : List TimedSegment) → IsCut s rest
cut s [] = refl
cut s (next ∷ later) = cut_by s next later (eqb s.segment.section next.segment.section) refl (cut next later)

pub record IsFront (s : TimedSegment) (xs : List TimedSegment) : Type 0 where
  pub some : 0 < count_like s xs
  pub groups : groups_of xs ≡ take (count_like s xs) xs ∷ groups_of (drop (count_like s xs) xs)

-- the section of the first segment
pub front : (xs : List TimedSegment) (s : TimedSegment) → slice_get xs 0 ≡ Some s → IsFront s xs
front [] s is = absurd (cc)
front (x ∷ rest) s is =
    let same : x ≡ s = cc in
    let count : count_like x (x ∷ rest) ≡ suc (count_like x rest) =
    ap (λ b. cond b (1 + count_like x rest) 0) (eq-eqb x.segment.section x.segment.section refl) ∙ one_more (count_like x rest) in
    subst (λ s. IsFront s (x ∷ rest)) same (record {
      some = omega (arith, count);
      groups = cut x rest ∙ ap (λ n. take n (x ∷ rest) ∷ groups_of (drop n (x ∷ rest))) (sym count);
    })

-- the first group
pub first_cut : (n : ℕ) (xs : List TimedSegment) (s : TimedSegment) → 0 < length xs → s ≡ get_or xs 0 s → n ≡ count_like s xs
    → groups_of xs ≡ take n xs ∷ groups_of (drop (length (take n xs)) xs)
first_cut n xs s within at count =
    let f = front xs s (slice_get_read xs (length xs) 0 s refl within at) in
    let fits = prefix_len-le-length (is_of s.segment.section) xs in
    let same : length (take n xs) ≡ n = length-take-le n xs (omega (arith, count, fits)) in
    f.groups ∙ ap (λ n. take n xs ∷ groups_of (drop n xs)) (sym count) ∙ ap (λ m. take n xs ∷ groups_of (drop m xs)) (sym same)

pub left_whole : (start : ℕ) (all : List TimedSegment) → take (length all - start) (drop start all) ≡ drop start all
left_whole start all = ap (λ n. take n (drop start all)) (sym (length-drop start all)) ∙ take-length (drop start all)

-- a group is cut off
pub cut_off : (groups : List (Bor (List TimedSegment))) (group : Bor (List TimedSegment)) (start : ℕ) (rest all : List TimedSegment)
    → rest ≡ take (length all - start) (drop start all) → groups_of rest ≡ group.now ∷ groups_of (drop (length group.now) rest)
    → map (λ (g : Bor (List TimedSegment)). g.now) groups ++ groups_of (drop start all) ≡ groups_of all
    → map (λ (g : Bor (List TimedSegment)). g.now) (groups ++ group ∷ []) ++ groups_of (drop (start + length group.now) all) ≡ groups_of all
cut_off groups group start rest all is pieces so_far =
    let whole = is ∙ left_whole start all in
    let later = ap (drop (length group.now)) whole ∙ drop-drop (length group.now) start all in
    ap (λ xs. xs ++ groups_of (drop (start + length group.now) all))
    (map-append (λ (g : Bor (List TimedSegment)). g.now) groups (group ∷ []))
    ∙ append_assoc (map (λ (g : Bor (List TimedSegment)). g.now) groups) (group.now ∷ []) (groups_of (drop (start + length group.now) all))
    ∙ ap (λ xs. map (λ (g : Bor (List TimedSegment)). g.now) groups ++ group.now ∷ groups_of xs) (sym later)
    ∙ ap (λ gs. map (λ (g : Bor (List TimedSegment)). g.now) groups ++ gs) (sym pieces ∙ ap groups_of whole) ∙ so_far
