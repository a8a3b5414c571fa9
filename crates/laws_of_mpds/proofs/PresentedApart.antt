-- The sections of a track whose section numbers don't fall.
use Rattle.std.proofs.Common.{◌≡◌, ℕ, suc, ◌+◌, ◌<◌, ◌≤◌, Bool, true, false, cond, eqb, List, [], ◌∷◌, ◌++◌, map, length, get_or, All, refl}
use Rattle.std.proofs.{Common.{sym, ◌∙◌, ap, subst, append_assoc, arith}, lemmas.Bool.{eq-eqb, eqb-false, eqb-true, ne_eqb}}
use Rattle.std.proofs.{lemmas.List.append-nil, lemmas.List.Elements.{All-append, All-cons, All-head, All-nil, All-tail, All-weaker}}
use Rattle.std.proofs.lemmas.List.Elements.{filter-append}
use Rattle.std.specs.List.Sorted.{IsNonDecreasingBy}
use Rattle.hls_media.specs.declared.media.MediaSegment.{MediaSegment}
use Rattle.hls_meaning.specs.Sections.{entry_of, is_in, segments_in}
use Rattle.hls_presentation.specs.{Presenting.flattened, Sections.{are_alike, groups_of, put_before}}

-- the first number is at least so much, and none is below the one before it
abbrev IsRising : ℕ → List MediaSegment → Type 0
IsRising low [] = Unit {0}
IsRising low (s ∷ rest) = (low ≤ s.section) × IsRising s.section rest

rising : (low : ℕ) (segments : List MediaSegment) → IsNonDecreasingBy (λ (s : MediaSegment). s.section) segments
    → ((s : MediaSegment) → 0 < length segments → low ≤ (get_or segments 0 s).section) → IsRising low segments
rising low [] sorted least = tt
rising low (s ∷ rest) sorted least = (
  least s (omega arith),
  rising s.section rest (λ i j d before within. sorted (suc i) (suc j) d (omega (arith, before))
      (omega (arith, within))) (λ d some. sorted 0 1 d (omega arith) (omega (arith, some))),
)

pub rises : (segments : List MediaSegment) → IsNonDecreasingBy (λ (s : MediaSegment). s.section) segments → IsRising 0 segments
rises segments sorted = rising 0 segments sorted (λ s some. omega arith)

-- ---- groups

-- each has a segment, all are of its section, and each section's number is above those before it
abbrev pub AreApart : ℕ → List (List MediaSegment) → Type 0
AreApart low [] = Unit {0}
AreApart low ([] ∷ groups) = ⊥
AreApart low ((s ∷ rest) ∷ groups) = (low ≤ s.section) × (All (λ (x : MediaSegment). x.section ≡ s.section) rest
    × AreApart (s.section + 1) groups)

put_by : (low : ℕ) (s next : MediaSegment) (rest : List MediaSegment) (groups : List (List MediaSegment)) (b : Bool)
    → eqb s.section next.section ≡ b → low ≤ s.section → AreApart s.section ((next ∷ rest) ∷ groups)
    → AreApart low (cond b ((s ∷ next ∷ rest) ∷ groups) ((s ∷ []) ∷ (next ∷ rest) ∷ groups))
put_by low s next rest groups true is least apart =
    let same : next.section ≡ s.section = sym (eqb-true s.section next.section is) in (
      least,
      (
        All-cons (λ (x : MediaSegment). x.section ≡ s.section) next rest same
            (subst (λ n. All (λ (x : MediaSegment). x.section ≡ n) rest) same apart.1.0),
        subst (λ n. AreApart (n + 1) groups) same apart.1.1,
      ),
    )
put_by low s next rest groups false is least apart =
    let differs : s.section ≡ next.section → ⊥ = eqb-false s.section next.section is in
    let above : s.section + 1 ≤ next.section = omega (arith, apart.0, differs) in
    (least, (All-nil _, (above, apart.1)))

put_apart : (low : ℕ) (s : MediaSegment) (groups : List (List MediaSegment)) → low ≤ s.section → AreApart s.section groups
    → AreApart low (put_before s groups)
put_apart low s [] least apart = (least, (All-nil _, tt))
put_apart low s ([] ∷ groups) least apart = absurd apart
put_apart low s ((next ∷ rest) ∷ groups) least apart = put_by low s next rest groups (eqb s.section next.section) refl least apart

pub groups_apart : (low : ℕ) (segments : List MediaSegment) → IsRising low segments → AreApart low (groups_of segments)
groups_apart low [] rising = tt
groups_apart low (s ∷ rest) rising = put_apart low s (groups_of rest) rising.0 (groups_apart s.section rest rising.1)

-- ---- together they are the segments

put_whole : (s : MediaSegment) (groups : List (List MediaSegment)) → flattened (put_before s groups) ≡ s ∷ flattened groups
put_whole s [] = refl
put_whole s ([] ∷ groups) = refl
put_whole s ((next ∷ rest) ∷ groups) = put_whole_by (eqb s.section next.section)
  where
    put_whole_by : (b : Bool) → flattened (cond b ((s ∷ next ∷ rest) ∷ groups) ((s ∷ []) ∷ (next ∷ rest) ∷ groups))
        ≡ s ∷ flattened ((next ∷ rest) ∷ groups)
    put_whole_by true = refl
    put_whole_by false = refl

pub whole : (segments : List MediaSegment) → flattened (groups_of segments) ≡ segments
whole [] = refl
whole (s ∷ rest) = put_whole s (groups_of rest) ∙ ap (λ later. s ∷ later) (whole rest)

-- ---- the numbers of the sections

abbrev pub heads : List (List MediaSegment) → List ℕ
heads [] = []
heads ([] ∷ groups) = heads groups
heads ((s ∷ rest) ∷ groups) = s.section ∷ heads groups

alike_by : (s other : MediaSegment) (groups others : List (List MediaSegment)) (b : Bool) → eqb s.section other.section ≡ b
    → (are_alike groups others ≡ true → heads groups ≡ heads others)
    → cond b (are_alike groups others) false ≡ true → s.section ∷ heads groups ≡ other.section ∷ heads others
alike_by s other groups others true is later alike = ap (λ n. n ∷ heads groups) (eqb-true s.section other.section is)
    ∙ ap (λ ns. other.section ∷ ns) (later alike)
alike_by s other groups others false is later alike = absurd (cc)

pub alike_heads : (groups others : List (List MediaSegment)) → are_alike groups others ≡ true → heads groups ≡ heads others
alike_heads [] [] alike = refl
alike_heads [] (h ∷ others) alike = absurd (cc)
alike_heads (g ∷ groups) [] alike = absurd (cc)
alike_heads ([] ∷ groups) ([] ∷ others) alike = alike_heads groups others alike
alike_heads ([] ∷ groups) ((other ∷ more) ∷ others) alike = absurd (cc)
alike_heads ((s ∷ rest) ∷ groups) ([] ∷ others) alike = absurd (cc)
alike_heads ((s ∷ rest) ∷ groups) ((other ∷ more) ∷ others) alike = alike_by s other groups others (eqb s.section other.section) refl
    (alike_heads groups others) alike

-- ---- the segments of a section are a group

all_in : (n : ℕ) (xs : List MediaSegment) → All (λ (x : MediaSegment). x.section ≡ n) xs → segments_in n xs ≡ xs
all_in n [] all = refl
all_in n (x ∷ xs) all =
    let is : eqb x.section n ≡ true = eq-eqb x.section n (All-head (λ (x : MediaSegment). x.section ≡ n) x xs all) in
    rw is (ap (λ later. x ∷ later) (all_in n xs (All-tail (λ (x : MediaSegment). x.section ≡ n) x xs all)))

none_in : (n : ℕ) (xs : List MediaSegment) → All (λ (x : MediaSegment). x.section ≡ n → ⊥) xs → segments_in n xs ≡ []
none_in n [] all = refl
none_in n (x ∷ xs) all =
    let is : eqb x.section n ≡ false = ne_eqb x.section n (All-head (λ (x : MediaSegment). x.section ≡ n → ⊥) x xs all) in
    rw is (none_in n xs (All-tail (λ (x : MediaSegment). x.section ≡ n → ⊥) x xs all))

-- those of later groups are not of a section below them
later_not : (n low : ℕ) (groups : List (List MediaSegment)) → n < low → AreApart low groups
    → All (λ (x : MediaSegment). x.section ≡ n → ⊥) (flattened groups)
later_not n low [] below apart = All-nil _
later_not n low ([] ∷ groups) below apart = absurd apart
later_not n low ((s ∷ rest) ∷ groups) below apart =
    let first : s.section ≡ n → ⊥ = λ is. omega (arith, is, below, apart.0) in
    All-cons (λ (x : MediaSegment). x.section ≡ n → ⊥) s (rest ++ flattened groups) first
    (All-append (λ (x : MediaSegment). x.section ≡ n → ⊥) rest (flattened groups)
    (All-weaker (λ (x : MediaSegment). x.section ≡ s.section) (λ (x : MediaSegment). x.section ≡ n
    → ⊥) (λ x same is. first (sym same ∙ is)) rest apart.1.0)
    (later_not n (s.section + 1) groups (omega (arith, below, apart.0)) apart.1.1))

entries_by : (low : ℕ) (before : List MediaSegment) (groups : List (List MediaSegment))
    → All (λ (x : MediaSegment). x.section < low) before → AreApart low groups
    → map (λ n. entry_of (segments_in n (before ++ flattened groups))) (heads groups) ≡ map entry_of groups
entries_by low before [] all apart = refl
entries_by low before ([] ∷ groups) all apart = absurd apart
entries_by low before ((s ∷ rest) ∷ groups) all apart =
    let group = s ∷ rest in
    let n = s.section in
    let mine : All (λ (x : MediaSegment). x.section ≡ n) group = All-cons (λ (x : MediaSegment). x.section ≡ n) s rest refl apart.1.0 in
    let none : segments_in n before ≡ [] = none_in n before (All-weaker (λ (x : MediaSegment). x.section < low)
    (λ (x : MediaSegment). x.section ≡ n → ⊥) (λ x is same. omega (arith, is, same, apart.0)) before all) in
    let others : segments_in n (flattened groups) ≡ [] = none_in n (flattened groups)
    (later_not n (n + 1) groups (omega arith) apart.1.1) in
    let one : segments_in n (before ++ (group ++ flattened groups)) ≡ group =
    filter-append (is_in n) before (group ++ flattened groups) ∙ ap (λ xs. xs ++ segments_in n (group ++ flattened groups)) none
    ∙ filter-append (is_in n) group (flattened groups) ∙ ap (λ xs. xs ++ segments_in n (flattened groups)) (all_in n group mine)
    ∙ ap (λ xs. group ++ xs) others ∙ append-nil group in
    let next = entries_by (n + 1) (before ++ group) groups
    (All-append (λ (x : MediaSegment). x.section < n + 1) before group
    (All-weaker (λ (x : MediaSegment). x.section < low) (λ (x : MediaSegment). x.section < n + 1)
    (λ x is. omega (arith, is, apart.0)) before all)
    (All-weaker (λ (x : MediaSegment). x.section ≡ n) (λ (x : MediaSegment). x.section < n + 1) (λ x is. omega (arith, is)) group mine))
    apart.1.1 in
    ap (λ xs. entry_of xs ∷ map (λ k. entry_of (segments_in k (before ++ (group ++ flattened groups)))) (heads groups)) one
    ∙ ap (λ entries. entry_of group ∷ entries) (ap (λ xs. map (λ k. entry_of (segments_in k xs)) (heads groups))
    (sym (append_assoc before group (flattened groups))) ∙ next)

-- what a track has in its sections
pub entries_are : (segments : List MediaSegment) → IsNonDecreasingBy (λ (s : MediaSegment). s.section) segments
    → map (λ n. entry_of (segments_in n segments)) (heads (groups_of segments)) ≡ map entry_of (groups_of segments)
entries_are segments sorted =
    ap (λ xs. map (λ n. entry_of (segments_in n xs)) (heads (groups_of segments))) (sym (whole segments))
    ∙ entries_by 0 [] (groups_of segments) (All-nil _) (groups_apart 0 segments (rises segments sorted))
