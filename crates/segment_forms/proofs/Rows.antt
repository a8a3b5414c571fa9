use Rattle.std.proofs.Common.{◌≡◌, ℕ, List, [], ◌∷◌, map, codes, Option, Some, None, refl}
use Rattle.std.specs.Fmt.{digits}
use Rattle.segment_forms.specs.{declared.pattern.Pattern.Pattern, Patterns.pattern_of, Media.media_of}

abbrev is : (prefix_len suffix_start first_number width : ℕ) → Option Pattern
is prefix_len suffix_start first_number width =
    Some (record { prefix_len = prefix_len; suffix_start = suffix_start; first_number = first_number; width = width })

abbrev Row : Type 0
Row = List (List ℕ) × Option Pattern

abbrev rows : List Row
rows =
    (codes "https://h/s1-of-9.m4s" ∷ [], is 16 17 9 0)
    ∷ ((codes "a/s009.m4s" ∷ (codes "a/s010.m4s" ∷ []), is 3 6 9 3)
    ∷ ((codes "s9" ∷ (codes "s10" ∷ []), is 1 2 9 0)
    ∷ ((codes "s99" ∷ (codes "s100" ∷ []), is 1 3 99 0)
    ∷ ((codes "x1y1" ∷ (codes "x2y1" ∷ []), is 1 2 1 0)
    ∷ ((codes "x1y1" ∷ (codes "x2y2" ∷ []), None)
    ∷ ((codes "s5" ∷ (codes "s5" ∷ []), None)
    ∷ ((codes "s00" ∷ (codes "s01" ∷ (codes "s02" ∷ [])), is 1 3 0 2)
    ∷ ((codes "s00000000000000000001" ∷ [], is 1 21 1 20)
    ∷ ((codes "s000000000000000000001" ∷ [], None)
    ∷ ((codes "4294967294" ∷ (codes "4294967295" ∷ []), is 0 10 4294967294 0)
    ∷ ((codes "4294967295" ∷ (codes "4294967296" ∷ []), None)
    ∷ ((codes "s1.2.m4s#7/8" ∷ [], is 3 4 2 0)
    ∷ ((codes "a/b?x=5" ∷ [], None)
    ∷ ((codes "a.5" ∷ [], None)
    ∷ ((codes "p3/i1.mp4?e=1" ∷ (codes "p3/i1.mp4?e=2" ∷ []), is 12 13 1 0)
    ∷ [])))))))))))))))

rows_hold : map (λ (row : Row). pattern_of row.0) rows ≡ map (λ (row : Row). row.1) rows
unfolding digits
rows_hold = refl

media_holds : map media_of ((codes "$5.mp4" ∷ []) ∷ ((codes "a/s009$.m4s" ∷ (codes "a/s010$.m4s" ∷ [])) ∷ []))
    ≡ codes "$$$Number$.mp4" ∷ (codes "a/s$Number%03d$$$.m4s" ∷ [])
unfolding digits
media_holds = refl
