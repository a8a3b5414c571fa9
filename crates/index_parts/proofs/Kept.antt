-- What is kept of tracks, one after another.
use Rattle.std.proofs.Common.{◌≡◌, ◌<◌, ◌≤◌, ◌⊎◌, inl, inr, ℕ, ◌+◌, ◌==◌, Bool, true, false, nat_lt, List, [], ◌∷◌, ◌++◌, length}
use Rattle.std.proofs.{Common.{if◌then◌else◌, refl, sym, ◌∙◌, ap, arith, append_assoc, length-append}, lemmas.Bool.{cases_lt, eq-eqb}}
use Rattle.std.proofs.{lemmas.Bool.{le-ltb, lt-ltb, ne_eqb}, lemmas.List.{append-nil, length-map}, lemmas.List.Sums.sum_by-cons}
use Rattle.presentation.specs.declared.parts.Content.{Content}
use Rattle.index_parts.specs.{declared.located.Listed.Listed, declared.parts.Gathering.Gathering, Kept.{all_kept, counted_with, keep}}
use Rattle.index_parts.specs.{Kept.none_kept, Presented.{contents_in, few_segments, total}}

abbrev pub keep_all : Gathering → List Listed → Gathering
keep_all g [] = g
keep_all g (track ∷ tracks) = keep_all (keep g track) tracks

keeps : (n : ℕ) (xs ys : List Content) → n ≤ 500000 → (if nat_lt 500000 n then xs else ys) ≡ ys
keeps n xs ys few = rw (le-ltb 500000 n few) refl

leaves : (n : ℕ) (xs ys : List Content) → 500000 < n → (if nat_lt 500000 n then xs else ys) ≡ xs
leaves n xs ys many = rw (lt-ltb 500000 n many) refl

longer : (b : Bool) (xs : List Content) (y : Content) → length (if b then xs else xs ++ y ∷ []) ≤ length xs + 1
longer true xs y = omega arith
longer false xs y = omega (arith, length-append xs (y ∷ []))

shorter : (g : Gathering) (tracks : List Listed) → length (keep_all g tracks).contents ≤ length g.contents + length tracks
shorter g [] = omega arith
shorter g (track ∷ tracks) =
    omega (arith, shorter (keep g track) tracks, longer (nat_lt 500000 (counted_with g track)) g.contents track.content)

kept_within : (g : Gathering) (tracks : List Listed) → g.segments + total tracks ≤ 500000
    → (keep_all g tracks).contents ≡ g.contents ++ contents_in tracks
kept_within g [] few = sym (append-nil g.contents)
kept_within g (track ∷ tracks) few =
    let sum : total (track ∷ tracks) ≡ track.segments + total tracks = sum_by-cons (λ (track : Listed). track.segments) track tracks in
    kept_within (keep g track) tracks (omega (arith, sum))
    ∙ ap (λ xs. xs ++ contents_in tracks) (keeps (counted_with g track) g.contents (g.contents ++ track.content ∷ []) (omega (arith, sum)))
    ∙ append_assoc g.contents (track.content ∷ []) (contents_in tracks)

beyond_by : (g : Gathering) (track : Listed) (tracks : List Listed) → (500000 < counted_with g track) ⊎ (counted_with g track ≤ 500000)
    → g.segments ≤ 500000 → 500000 < g.segments + total (track ∷ tracks)
    → (counted_with g track ≤ 500000 → 500000 < counted_with g track + total tracks
    → length (keep_all (keep g track) tracks).contents < length (keep g track).contents + length tracks)
    → length (keep_all (keep g track) tracks).contents < length g.contents + length (track ∷ tracks)
beyond_by g track tracks (inl over) few many later =
    let none : length (keep g track).contents ≡ length g.contents =
    ap length (leaves (counted_with g track) g.contents (g.contents ++ track.content ∷ []) over) in
    let rest = shorter (keep g track) tracks in
    omega (arith, none, rest)
beyond_by g track tracks (inr within) few many later =
    let one = longer (nat_lt 500000 (counted_with g track)) g.contents track.content in
    let sum : total (track ∷ tracks) ≡ track.segments + total tracks = sum_by-cons (λ (track : Listed). track.segments) track tracks in
    let rest = later within (omega (arith, sum)) in
    omega (arith, one, rest)

-- contents past the limit lack
kept_beyond : (g : Gathering) (tracks : List Listed) → g.segments ≤ 500000 → 500000 < g.segments + total tracks
    → length (keep_all g tracks).contents < length g.contents + length tracks
kept_beyond g [] few many = absurd (omega arith)
kept_beyond g (track ∷ tracks) few many =
    beyond_by g track tracks (cases_lt 500000 (counted_with g track)) few many (kept_beyond (keep g track) tracks)

finished_by : (tracks : List Listed) → (500000 < total tracks) ⊎ (total tracks ≤ 500000)
    → all_kept (length tracks) (keep_all none_kept tracks).contents ≡ few_segments tracks
finished_by tracks (inl many) =
    let short : length (keep_all none_kept tracks).contents < length {A = Content} [] + length tracks =
    kept_beyond none_kept tracks (omega arith) (omega (arith, many)) in
    let differ : (length (keep_all none_kept tracks).contents == length tracks) ≡ false = ne_eqb _ _ (λ same. omega (arith, short, same)) in
    rw (differ, lt-ltb 500000 (total tracks) many) refl
finished_by tracks (inr few) =
    let same : (keep_all none_kept tracks).contents ≡ contents_in tracks = kept_within none_kept tracks (omega (arith, few)) in
    let equal : (length (contents_in tracks) == length tracks) ≡ true = eq-eqb _ _ (length-map tracks _) in
    rw (same, equal, le-ltb 500000 (total tracks) few) refl

-- all contents are kept, or there are too many segments
pub finished : (tracks : List Listed) → all_kept (length tracks) (keep_all none_kept tracks).contents ≡ few_segments tracks
finished tracks = finished_by tracks (cases_lt 500000 (total tracks))
