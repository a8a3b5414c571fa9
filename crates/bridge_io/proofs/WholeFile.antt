-- What a file's first bytes say of the whole.
use Rattle.std.proofs.Common.{◌≡◌, ◌<◌, ◌≤◌, ℕ, List, [], length, take, drop, ◌++◌, nat_lt, Option, Some, None, Ok, Err, is_some, true}
use Rattle.std.proofs.{Common.{false, unwrap_or, refl, sym, ap, ◌∙◌, arith}, lemmas.Bool.{le-ltb, lt-ltb}, lemmas.List.take-append-drop}
use Rattle.std.proofs.lemmas.List.{take-append-le, length-take}
use Rattle.bridge_io.specs.{Places.place_of, Slurped.{within, IsFront, Long, Missing}}

pub absent_file : (limit : ℕ) (file : Option (List ℕ)) → is_some file ≡ false → within limit file ≡ Err Missing
absent_file limit None missing = refl
absent_file limit (Some bytes) missing = cc

-- all of it was read
pub whole_read : (limit : ℕ) (file : Option (List ℕ)) (bytes : List ℕ) → is_some file ≡ true → unwrap_or file [] ≡ bytes
    → length bytes ≤ limit → within limit file ≡ Ok bytes
whole_read limit None bytes there is small = cc
whole_read limit (Some whole) bytes there is small =
    let short : nat_lt limit (length whole) ≡ false = rw is (le-ltb _ _ small) in
    rw short (ap Ok is)

-- more than the limit was read
pub long_read : (limit : ℕ) (file : Option (List ℕ)) (bytes : List ℕ) → is_some file ≡ true → IsFront bytes (unwrap_or file [])
    → limit < length bytes → within limit file ≡ Err (Long (place_of bytes limit))
long_read limit None bytes there front long = cc
long_read limit (Some whole) bytes there front long =
    let longer : limit < length whole = omega (arith, ap length front, length-take (length bytes) whole) in
    let same : take limit whole ≡ take limit bytes =
    ap (take limit) (sym (take-append-drop (length bytes) whole) ∙ ap (λ x. x ++ drop (length bytes) whole) front)
    ∙ take-append-le limit bytes (drop (length bytes) whole) (omega arith) in
    let past : nat_lt limit (length whole) ≡ true = lt-ltb _ _ longer in
    rw (past, same) refl
