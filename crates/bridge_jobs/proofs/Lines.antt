-- A line that is read byte by byte.
use Rattle.std.proofs.Common.{◌≡◌, ◌≢◌, ◌<◌, ◌≤◌, ◌-◌, ◌==◌, ℕ, zero, suc, List, [], ◌∷◌, ◌++◌, length, Option, Some, None, true, false}
use Rattle.std.proofs.{Common.{◌+◌, drop, refl, sym, ap, ◌∙◌, subst, arith, append_assoc, length-append}, lemmas.List.append-nil}
use Rattle.std.proofs.lemmas.Bool.Decides.{nat_tests}
use Rattle.std.specs.Io.KnownBytes.{prepend_known, IsAtEnd}
use Rattle.std.proofs.Math.Seq.{drop-append-add, drop-append_seam}
use Rattle.bridge_io.specs.declared.outside.Fail.{Fail}
use Rattle.bridge_jobs.specs.{FrameFaults.fault_of, Frames.{LeavesAt, line_size, line_within}, Inputs.TakesFront}
use Rattle.bridge_jobs.specs.declared.frame.FrameFault.TheVariants as fault
use Rattle.bridge_jobs.proofs.Left.{fails_with, line_asked}

-- some bytes of a line were read, and the line goes on with what is there
abbrev pub IsLineSoFar : ℕ → List ℕ → Option (List ℕ) → Option (List ℕ) → Type 0
IsLineSoFar most line first now =
    (bytes : List ℕ) → first ≡ Some bytes
    → (rest : List ℕ) × (now ≡ Some rest) × (bytes ≡ line ++ rest)
    × (line_within most bytes ≡ line ++ line_within (most - length line) rest)
    × (line_size most bytes ≡ length line + line_size (most - length line) rest)

pub line_begun : (most : ℕ) (first : Option (List ℕ)) → IsLineSoFar most [] first first
line_begun most first = λ bytes told. let all : most ≡ most - 0 = omega arith in
    (bytes, told, refl, ap (λ n. line_within n bytes) all, let size = ap (λ n. line_size n bytes) all in omega (arith, size))

-- a line that is all that is left of it
whole : (most : ℕ) (line : List ℕ) (first now : Option (List ℕ)) → IsLineSoFar most line first now
    → ((rest : List ℕ) → now ≡ Some rest → line_within (most - length line) rest ≡ []) → TakesFront (line_within most) line first now
whole most line first now so_far ended = λ bytes told.
    let s = so_far bytes told in
    (sym (append-nil line) ∙ ap (λ x. line ++ x) (sym (ended s.0 s.1)) ∙ sym s.3, s.0, s.1, s.2)

none_within : (bytes : List ℕ) → line_within 0 bytes ≡ []
unfolding line_within
none_within bytes = refl

within_none : (most : ℕ) → line_within most [] ≡ []
unfolding line_within
within_none zero = refl
within_none (suc most) = refl

pub line_full : (most : ℕ) (line : List ℕ) (first now : Option (List ℕ)) → IsLineSoFar most line first now → most ≤ length line
    → TakesFront (line_within most) line first now
line_full most line first now so_far full =
    let over : most - length line ≡ 0 = omega arith in
    whole most line first now so_far (λ rest _. rw over (none_within rest))

pub line_cut : (most : ℕ) (line : List ℕ) (first now : Option (List ℕ)) → IsLineSoFar most line first now → IsAtEnd now
    → TakesFront (line_within most) line first now
line_cut most line first now so_far end = whole most line first now so_far (λ rest told.
    let empty : rest ≡ [] = subst IsAtEnd told end in rw empty (within_none _))

more_within : (most byte : ℕ) (rest : List ℕ) → byte ≢ 10 → line_within (suc most) (byte ∷ rest) ≡ byte ∷ line_within most rest
unfolding line_within
more_within most byte rest other = let no : (byte == 10) ≡ false = grind (arith, nat_tests) in rw no refl

more_size : (most byte : ℕ) (rest : List ℕ) → byte ≢ 10 → line_size (suc most) (byte ∷ rest) ≡ suc (line_size most rest)
unfolding line_size
more_size most byte rest other = let no : (byte == 10) ≡ false = grind (arith, nat_tests) in rw no refl

last_within : (most byte : ℕ) (rest : List ℕ) → byte ≡ 10 → line_within (suc most) (byte ∷ rest) ≡ byte ∷ []
unfolding line_within
last_within most byte rest last = let yes : (byte == 10) ≡ true = grind (arith, nat_tests) in rw yes refl

-- what is left before a byte was read
before_byte : (byte : ℕ) (now after : Option (List ℕ)) (rest : List ℕ) → now ≡ Some rest → now ≡ prepend_known (byte ∷ []) after
    → (more : List ℕ) × (after ≡ Some more) × (rest ≡ byte ∷ more)
before_byte byte now None rest told read = cc
before_byte byte now (Some more) rest told read = (more, refl, cc)

pub line_byte : (most byte : ℕ) (line : List ℕ) (first now after : Option (List ℕ)) → IsLineSoFar most line first now → length line < most
    → now ≡ prepend_known (byte ∷ []) after → byte ≢ 10 → IsLineSoFar most (line ++ byte ∷ []) first after
line_byte most byte line first now after so_far room read other = λ bytes told.
    let s = so_far bytes told in
    let b = before_byte byte now after s.0 s.1 read in
    let left : most - length line ≡ suc (most - length (line ++ byte ∷ [])) = omega (arith, length-append line (byte ∷ [])) in (
      b.0,
      b.1,
      s.2 ∙ ap (λ x. line ++ x) b.2 ∙ sym (append_assoc line (byte ∷ []) b.0),
      s.3 ∙ ap (λ x. line ++ line_within (most - length line) x) b.2
          ∙ ap (λ n. line ++ line_within n (byte ∷ b.0)) left
          ∙ ap (λ x. line ++ x) (more_within _ byte b.0 other)
          ∙ sym (append_assoc line (byte ∷ []) _),
      let size = ap (λ x. line_size (most - length line) x) b.2 ∙ ap (λ n. line_size n (byte ∷ b.0)) left ∙ more_size _ byte b.0 other in
          omega (arith, s.4, size, length-append line (byte ∷ [])),
    )

pub line_last : (most byte : ℕ) (line : List ℕ) (first now after : Option (List ℕ)) → IsLineSoFar most line first now → length line < most
    → now ≡ prepend_known (byte ∷ []) after → byte ≡ 10 → TakesFront (line_within most) (line ++ byte ∷ []) first after
line_last most byte line first now after so_far room read last = λ bytes told.
    let s = so_far bytes told in
    let b = before_byte byte now after s.0 s.1 read in
    let left : most - length line ≡ suc (most - suc (length line)) = omega arith in
    let ten : line_within (most - length line) s.0 ≡ byte ∷ [] =
    ap (line_within (most - length line)) b.2 ∙ ap (λ n. line_within n (byte ∷ b.0)) left ∙ last_within _ byte b.0 last in
    (sym (s.3 ∙ ap (λ x. line ++ x) ten), b.0, b.1, s.2 ∙ ap (λ x. line ++ x) b.2 ∙ sym (append_assoc line (byte ∷ []) b.0))

-- ---- a line that isn't read whole

pub line_fails : (most : ℕ) (line : List ℕ) (first now after : Option (List ℕ)) (fail : Fail) → IsLineSoFar most line first now
    → length line < most → after ≡ now → (bytes : List ℕ) → first ≡ Some bytes
    → LeavesAt (fault_of fail) (line_size most bytes) bytes after
line_fails most line first now after fail so_far room same = λ bytes told.
    let s = so_far bytes told in
    let left : most - length line ≡ suc (most - suc (length line)) = omega arith in
    let more = line_asked (most - suc (length line)) s.0 in let size = ap (λ n. line_size n s.0) left in
    fails_with fail (length line) (line_size most bytes) bytes after (omega (arith, s.4, size, more))
    (same ∙ s.1 ∙ ap Some (sym (drop-append_seam line s.0) ∙ ap (drop (length line)) (sym s.2)))

-- memory ran out for a byte that was read
pub byte_fails : (most byte : ℕ) (line : List ℕ) (first now after : Option (List ℕ)) → IsLineSoFar most line first now
    → length line < most → now ≡ prepend_known (byte ∷ []) after → (bytes : List ℕ) → first ≡ Some bytes
    → LeavesAt fault.Memory (line_size most bytes) bytes after
byte_fails most byte line first now after so_far room read = λ bytes told.
    let s = so_far bytes told in
    let b = before_byte byte now after s.0 s.1 read in
    let left : most - length line ≡ suc (most - suc (length line)) = omega arith in
    let more = line_asked (most - suc (length line)) s.0 in let size = ap (λ n. line_size n s.0) left in
    let both : bytes ≡ line ++ byte ∷ b.0 = s.2 ∙ ap (λ x. line ++ x) b.2 in (
      length line + 1,
      omega (arith, s.4, size, more),
      b.1 ∙ ap Some (sym (drop-append-add line (byte ∷ b.0) 1) ∙ ap (drop (length line + 1)) (sym both)),
    )
