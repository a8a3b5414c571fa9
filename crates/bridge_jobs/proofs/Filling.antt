-- A buffer that is filled from its front.
use Rattle.std.proofs.Common.{◌≡◌, ◌≤◌, ◌+◌, ◌<◌, ℕ, List, [], ◌++◌, length, take, drop, Option, Some, None, refl, sym, ap, ◌∙◌, subst}
use Rattle.std.proofs.Common.{arith}
use Rattle.std.proofs.{Common.{append_assoc, length-append}, lemmas.List.{append-nil, length-take, length-take-le, take_all}}
use Rattle.std.proofs.{lemmas.List.take-append-le, Math.Seq.{drop-append_seam, take-append-add, take-append_seam}}
use Rattle.std.specs.Io.KnownBytes.{prepend_known, IsAtEnd}
use Rattle.bridge_io.specs.declared.outside.Fail.{Fail}
use Rattle.bridge_jobs.specs.{FrameFaults.fault_of, Frames.LeavesAt, Inputs.TakesFront}
use Rattle.bridge_jobs.proofs.Left.{fails_with}

-- so many bytes at a buffer's front were read
abbrev pub IsFilled : ℕ → List ℕ → Option (List ℕ) → Option (List ℕ) → Type 0
IsFilled filled buf first now =
    (bytes : List ℕ) → first ≡ Some bytes → (rest : List ℕ) × (now ≡ Some rest) × (bytes ≡ take filled buf ++ rest)

pub fill_begun : (buf : List ℕ) (first : Option (List ℕ)) → IsFilled 0 buf first first
fill_begun buf first = λ bytes told. (bytes, told, refl)

front_more : (filled n : ℕ) (buf part more : List ℕ) → filled ≤ length buf → n ≤ length part
    → take (filled + n) (take filled buf ++ (part ++ more)) ≡ take filled buf ++ take n part
front_more filled n buf part more within few =
    let len : length (take filled buf) ≡ filled = length-take-le filled buf within in
    ap (λ k. take (k + n) (take filled buf ++ (part ++ more))) (sym len) ∙ take-append-add (take filled buf) (part ++ more) n
    ∙ ap (λ x. take filled buf ++ x) (take-append-le n part more few)

pub within_more : (filled n : ℕ) (buf part more : List ℕ) → filled ≤ length buf → n ≤ length part
    → filled + n ≤ length (take filled buf ++ (part ++ more))
within_more filled n buf part more within few =
    omega (arith, length-take-le filled buf within, length-append (take filled buf) (part ++ more), length-append part more)

before_piece : (piece rest : List ℕ) (now after : Option (List ℕ)) → now ≡ Some rest → now ≡ prepend_known piece after
    → (more : List ℕ) × (after ≡ Some more) × (rest ≡ piece ++ more)
before_piece piece rest now None told read = cc
before_piece piece rest now (Some more) told read = (more, refl, cc)

pub fill_more : (filled n : ℕ) (buf part more : List ℕ) (first now after : Option (List ℕ)) → IsFilled filled buf first now
    → filled ≤ length buf → n ≤ length part
    → now ≡ prepend_known (take n part) after → IsFilled (filled + n) (take filled buf ++ (part ++ more)) first after
fill_more filled n buf part more first now after so_far within few read = λ bytes told.
    let s = so_far bytes told in
    let p = before_piece (take n part) s.0 now after s.1 read in (
      p.0,
      p.1,
      s.2 ∙ ap (λ x. take filled buf ++ x) p.2 ∙ sym (append_assoc (take filled buf) (take n part) p.0)
          ∙ ap (λ x. x ++ p.0) (sym (front_more filled n buf part more within few)),
    )

pub filled_full : (filled : ℕ) (buf : List ℕ) (first now : Option (List ℕ)) → IsFilled filled buf first now → length buf ≤ filled
    → TakesFront (take (length buf)) (take filled buf) first now
filled_full filled buf first now so_far full = λ bytes told.
    let s = so_far bytes told in
    let all : take filled buf ≡ buf = take_all _ buf full in
    let front : take (length buf) bytes ≡ buf = ap (take (length buf)) (s.2 ∙ ap (λ x. x ++ s.0) all) ∙ take-append_seam buf s.0 in
    (all ∙ sym front, s.0, s.1, s.2)

pub filled_end : (filled : ℕ) (buf : List ℕ) (first now : Option (List ℕ)) → IsFilled filled buf first now → IsAtEnd now
    → TakesFront (take (length buf)) (take filled buf) first now
filled_end filled buf first now so_far end = λ bytes told.
    let s = so_far bytes told in
    let empty : s.0 ≡ [] = subst IsAtEnd s.1 end in
    let whole : bytes ≡ take filled buf = s.2 ∙ ap (λ x. take filled buf ++ x) empty ∙ append-nil (take filled buf) in
    let short : length (take filled buf) ≤ length buf = omega (arith, length-take filled buf) in
    (sym (ap (take (length buf)) whole ∙ take_all _ (take filled buf) short), s.0, s.1, s.2)

-- a buffer that isn't filled, since a read failed
pub fill_fails : (filled size : ℕ) (buf : List ℕ) (first now after : Option (List ℕ)) (fail : Fail) → IsFilled filled buf first now
    → filled ≤ length buf → filled < size → after ≡ now → (bytes : List ℕ) → first ≡ Some bytes → LeavesAt (fault_of fail) size bytes after
fill_fails filled size buf first now after fail so_far within less same = λ bytes told.
    let s = so_far bytes told in let front = take filled buf in
    fails_with fail filled size bytes after less (same ∙ s.1 ∙ ap Some (sym (drop-append_seam front s.0)
    ∙ ap (λ n. drop n (front ++ s.0)) (length-take-le filled buf within) ∙ ap (drop filled) (sym s.2)))
