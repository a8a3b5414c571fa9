-- Rounds that are read body by body.
use Rattle.std.proofs.Common.{◌≡◌, ◌<◌, ◌≤◌, ◌+◌, ℕ, suc, List, [], ◌∷◌, ◌++◌, length, take, drop, get_or, Option, Some, Result, Ok, Err}
use Rattle.std.proofs.{Common.{refl, sym, ap, ◌∙◌, arith, append_assoc, length-drop, drop-cons, drop-drop}, lemmas.List.append-nil}
use Rattle.std.proofs.lemmas.List.{take_more}
use Rattle.std.proofs.{Common.{Bool, true, false, nat_le, if◌then◌else◌, take_all}, lemmas.Bool.Decides.nat_tests}
use Rattle.std.proofs.lemmas.List.Sums.{sum_by-append, sum_by-cons, sum_by-take-drop}
use Rattle.std.specs.Prelude.{IfSome, sum}
use Rattle.bridge_io.specs.declared.place.Place.{Place}
use Rattle.bridge_jobs.specs.declared.frame.FrameFault.TheVariants as fault
use Rattle.bridge_jobs.specs.{Frames.{IsBehind, LeavesAt, behind, by_next, header_at, next_line, piece_of, refusal}}
use Rattle.bridge_jobs.specs.Rounds.{Bodies, after_bodies}
use Rattle.bridge_jobs.specs.Rounds.{and_bodies, bodies_of, header_of, most_header, next_round, round_by_line, rounded_if}
use Rattle.bridge_jobs.specs.{declared.frame.FramePos.FramePos, declared.frame.FrameFault.FrameFault}
use Rattle.bridge_jobs.specs.declared.lengths.RoundHeader.{RoundHeader}
use Rattle.bridge_jobs.proofs.{Left.{left_of_more, left_then, read_then, same_rest, told_so}, Reading.told_on}

-- a piece that is refused has too few bytes
too_short : (at : Place) (size : ℕ) (bytes : List ℕ) (f : FrameFault) → piece_of at size bytes ≡ Err f → length bytes < size
unfolding piece_of
too_short at size bytes f is = go (nat_le size (length bytes)) refl is
  where
    found : List ℕ × Place × List ℕ
    found = (take size bytes, behind at (take size bytes), drop size bytes)

    go : (b : Bool) → nat_le size (length bytes) ≡ b → (if b then Ok found else Err (fault.Cut (behind at bytes))) ≡ Err f
        → length bytes < size
    go true e same = absurd (cc)
    go false e same = grind (arith, nat_tests)

-- some bodies were read, and the others go on with what is there
abbrev pub IsReadSoFar : Place → List ℕ → (i : ℕ) → List (List ℕ) → Place → Option (List ℕ) → Option (List ℕ) → Type 0
IsReadSoFar place lengths i bodies at first now =
    (bytes : List ℕ) → first ≡ Some bytes
    → (rest : List ℕ) × (now ≡ Some rest) × (bodies_of place lengths bytes ≡ after_bodies bodies (bodies_of at (drop i lengths) rest))
    × (rest ≡ drop (sum (take i lengths)) bytes)

after_none : (found : Result Bodies FrameFault) → found ≡ after_bodies [] found
after_none (Ok x) = refl
after_none (Err e) = refl

after_both : (front : List (List ℕ)) (body : List ℕ) (found : Result Bodies FrameFault)
    → after_bodies front (after_bodies (body ∷ []) found) ≡ after_bodies (front ++ body ∷ []) found
after_both front body (Ok x) = ap (λ bodies. Ok (bodies, x.1, x.2)) (sym (append_assoc front (body ∷ []) x.0))
after_both front body (Err e) = refl

bodies_next : (place : Place) (size : ℕ) (lengths bytes : List ℕ) (piece : Result (List ℕ × Place × List ℕ) FrameFault)
    → piece_of place size bytes ≡ piece
    → bodies_of place (size ∷ lengths) bytes ≡ and_bodies (λ after rest. bodies_of after lengths rest) piece
unfolding bodies_of
bodies_next place size lengths bytes piece is = ap (and_bodies (λ after rest. bodies_of after lengths rest)) is

bodies_end : (place : Place) (bytes : List ℕ) → bodies_of place [] bytes ≡ Ok ([], place, bytes)
unfolding bodies_of
bodies_end place bytes = refl

no_more : (xs : List ℕ) → length xs ≡ 0 → xs ≡ []
no_more [] is = refl
no_more (x ∷ xs) is = absurd (omega (arith, is))

-- the size at an index, and those behind it
pub next_size : (lengths : List ℕ) (i : ℕ) → i < length lengths → drop i lengths ≡ get_or lengths i 0 ∷ drop (i + 1) lengths
next_size lengths i within = let next : suc i ≡ i + 1 = omega arith in
    drop-cons lengths i 0 within ∙ ap (λ n. get_or lengths i 0 ∷ drop n lengths) next

sum_next : (lengths : List ℕ) (i : ℕ) → i < length lengths → sum (take (i + 1) lengths) ≡ sum (take i lengths) + get_or lengths i 0
sum_next lengths i within = let more = ap sum (take_more lengths i 0 within) in
    omega (arith, more, sum_by-append (λ (n : ℕ). n) (take i lengths) (get_or lengths i 0 ∷ []))

pub behind_next : (lengths : List ℕ) (i : ℕ) (place at after : Place) → i < length lengths → IsBehind (sum (take i lengths)) place at
    → IsBehind (get_or lengths i 0) at after
    → IsBehind (sum (take (i + 1) lengths)) place after
behind_next lengths i place at after within before next = record {
  at = omega (arith, sum_next lengths i within, before.at, next.at);
  line = omega (arith, before.line, next.line);
}

pub no_bodies : (place : Place) (lengths : List ℕ) (first : Option (List ℕ)) → IsReadSoFar place lengths 0 [] place first first
no_bodies place lengths first = λ bytes told. (bytes, told, after_none (bodies_of place lengths bytes), refl)

module _ (place at : Place) (lengths : List ℕ) (i : ℕ) (bodies : List (List ℕ)) (first now : Option (List ℕ))
    (so_far : IsReadSoFar place lengths i bodies at first now) where
  -- the sizes up to the one at i, and those behind it
  taken_next : (size : ℕ) → drop i lengths ≡ size ∷ drop (i + 1) lengths → sum (take (i + 1) lengths) ≡ sum (take i lengths) + size
  taken_next size left = let all = sums_of i in let more = sums_of (i + 1) in let first = ap sum left in
      let cons = sum_by-cons (λ (n : ℕ). n) size (drop (i + 1) lengths) in omega (arith, all, more, first, cons)
    where
      sums_of : (i : ℕ) → sum (take i lengths) + sum (drop i lengths) ≡ sum lengths
      sums_of i = sum_by-take-drop (λ (n : ℕ). n) lengths i

  pub body_more : (size : ℕ) (body : List ℕ) (after : Place) (later : Option (List ℕ)) → drop i lengths ≡ size ∷ drop (i + 1) lengths
      → ((bytes : List ℕ) → now ≡ Some bytes → (rest : List ℕ) × (later ≡ Some rest) × (piece_of at size bytes ≡ Ok (body, after, rest)))
      → ((bytes : List ℕ) → now ≡ Some bytes → later ≡ Some (drop size bytes))
      → IsReadSoFar place lengths (i + 1) (bodies ++ body ∷ []) after first later
  body_more size body after later left piece behind = λ bytes told.
      let s = so_far bytes told in
      let p = piece s.0 s.1 in (
        p.0,
        p.1,
        s.2 ∙ ap (λ ls. after_bodies bodies (bodies_of at ls s.0)) left
            ∙ ap (after_bodies bodies) (bodies_next at size (drop (i + 1) lengths) s.0 _ p.2)
            ∙ after_both bodies body (bodies_of after (drop (i + 1) lengths) p.0),
        same_rest later p.0 (drop size s.0) p.1 (behind s.0 s.1) ∙ ap (drop size) s.3
            ∙ drop-drop size (sum (take i lengths)) bytes ∙ ap (λ n. drop n bytes) (sym (taken_next size left)),
      )

  pub body_fails : (size : ℕ) (e : FrameFault) → drop i lengths ≡ size ∷ drop (i + 1) lengths
      → ((bytes : List ℕ) → now ≡ Some bytes → IfSome (refusal e) (λ f. piece_of at size bytes ≡ Err f))
      → (bytes : List ℕ) → first ≡ Some bytes → IfSome (refusal e) (λ f. bodies_of place lengths bytes ≡ Err f)
  body_fails size e left piece = λ bytes told.
      let s = so_far bytes told in
      told_on e (piece_of at size s.0) (bodies_of place lengths bytes) (λ f same. s.2
      ∙ ap (λ ls. after_bodies bodies (bodies_of at ls s.0)) left
      ∙ ap (after_bodies bodies) (bodies_next at size (drop (i + 1) lengths) s.0 (Err f) same)) (piece s.0 s.1)

  pub body_left : (size : ℕ) (e : FrameFault) (after : Option (List ℕ)) → drop i lengths ≡ size ∷ drop (i + 1) lengths
      → ((bytes : List ℕ) → now ≡ Some bytes → IfSome (refusal e) (λ f. piece_of at size bytes ≡ Err f))
      → ((bytes : List ℕ) → now ≡ Some bytes → LeavesAt e size bytes after)
      → (bytes : List ℕ) → first ≡ Some bytes → LeavesAt e (sum lengths) bytes after
  body_left size e after left piece leaves = λ bytes told. let s = so_far bytes told in
      let so = left_then e (sum (take i lengths)) size bytes s.0 after s.3 (leaves s.0 s.1) in
      let sums = sum_by-take-drop (λ (n : ℕ). n) lengths (i + 1) in
      left_of_more e (sum (take i lengths) + size) (sum lengths) bytes after (omega (arith, sums, taken_next size left)) so
      (cut_within size s.0 bytes s.3 e (piece s.0 s.1))
    where
      cut_within : (size : ℕ) (rest bytes : List ℕ) → rest ≡ drop (sum (take i lengths)) bytes → (e : FrameFault)
          → IfSome (refusal e) (λ f. piece_of at size rest ≡ Err f)
          → IfSome (refusal e) (λ f. length bytes ≤ sum (take i lengths) + size)
      cut_within size rest bytes behind e is = let few = length-drop (sum (take i lengths)) bytes in
          told_so e (λ f same. let short = too_short at size rest f same in omega (arith, short, ap length behind, few)) is

  -- memory ran out for a body that was read
  pub body_dropped : (size : ℕ) (after : Option (List ℕ)) → drop i lengths ≡ size ∷ drop (i + 1) lengths
      → ((bytes : List ℕ) → now ≡ Some bytes → after ≡ Some (drop size bytes))
      → (bytes : List ℕ) → first ≡ Some bytes → LeavesAt fault.Memory (sum lengths) bytes after
  body_dropped size after left behind = λ bytes told. let s = so_far bytes told in
      let sums = sum_by-take-drop (λ (n : ℕ). n) lengths (i + 1) in (
        sum (take i lengths) + size,
        omega (arith, sums, taken_next size left),
        read_then (sum (take i lengths)) size bytes s.0 after s.3 (behind s.0 s.1),
      )

  pub all_left : length lengths ≤ i → (bytes : List ℕ) → first ≡ Some bytes → now ≡ Some (drop (sum lengths) bytes)
  all_left last = λ bytes told. let s = so_far bytes told in
      s.1 ∙ ap Some (s.3 ∙ ap (λ sizes. drop (sum sizes) bytes) (take_all i lengths last))

  pub all_bodies : length lengths ≤ i → (bytes : List ℕ) → first ≡ Some bytes
      → (rest : List ℕ) × (now ≡ Some rest) × (bodies_of place lengths bytes ≡ Ok (bodies, at, rest))
  all_bodies last = λ bytes told.
      let s = so_far bytes told in
      let left : drop i lengths ≡ [] = no_more (drop i lengths) (omega (arith, length-drop i lengths)) in (
        s.0,
        s.1,
        s.2 ∙ ap (λ ls. after_bodies bodies (bodies_of at ls s.0)) left ∙ ap (after_bodies bodies) (bodies_end at s.0)
            ∙ ap (λ all. Ok (all, at, s.0)) (append-nil bodies),
      )

-- ---- rounds by their lines

pub round_by : (tracks : ℕ) (at : FramePos) (line bytes : List ℕ) (header : Result RoundHeader FrameFault)
    → header_at most_header (header_of tracks) at.place line ≡ header → round_by_line tracks at line bytes ≡ rounded_if at line bytes header
unfolding round_by_line
round_by tracks at line bytes header is = ap (rounded_if at line bytes) is

-- the next round is that of the next line
pub next_round_by : (tracks : ℕ) (at : FramePos) (bytes : List ℕ) (next : Result (Option (List ℕ) × List ℕ) FrameFault)
    → next_line most_header at bytes ≡ next
    → next_round tracks at bytes ≡ by_next (round_by_line tracks at) next
unfolding next_round
next_round_by tracks at bytes next is = ap (by_next (round_by_line tracks at)) is
