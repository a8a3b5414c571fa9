-- What is left of the input.
use Rattle.bridge_io.specs.declared.outside.Fail.TheVariants as fail
use Rattle.bridge_jobs.specs.declared.frame.FrameFault.TheVariants as fault
use Rattle.std.proofs.Common.{◌≡◌, ◌<◌, ◌≤◌, ◌+◌, ◌==◌, ℕ, zero, suc, Bool, true, false, List, [], ◌∷◌, ◌++◌, length, take, drop, Option}
use Rattle.std.proofs.Common.{Some, Result, Ok, Err, if◌then◌else◌, refl, sym, ap, ◌∙◌, arith, drop-drop}
use Rattle.std.proofs.Math.Seq.{drop-append_seam}
use Rattle.std.proofs.Math.ListN.{drop_of_length-le}
use Rattle.std.proofs.{lemmas.List.take-append-drop, lemmas.Option.same_Some}
use Rattle.std.specs.Prelude.{IfSome, sum}
use Rattle.bridge_io.specs.declared.outside.Fail.{Fail}
use Rattle.bridge_jobs.specs.Rounds as rounds
use Rattle.bridge_jobs.specs.{FrameFaults.fault_of, Frames.{LeavesAt, announced, body_size, frame_size, header_at, line_size}}
use Rattle.bridge_jobs.specs.{Frames.{line_within, most_header, next_line, of_next, refusal}, Headers.{body_length, header_of}}
use Rattle.bridge_jobs.specs.{Rounds.{bodies_size, round_size}, declared.frame.FramePos.FramePos, declared.frame.FrameFault.FrameFault}
use Rattle.bridge_jobs.specs.{declared.header.Header.Header, declared.lengths.RoundHeader.RoundHeader}

-- ---- lines

pub line_sized : (most : ℕ) (bytes : List ℕ) → drop (line_size most bytes) bytes ≡ drop (length (line_within most bytes)) bytes
unfolding line_size line_within
line_sized zero bytes = refl
line_sized (suc most) [] = refl
line_sized (suc most) (b ∷ bytes) = go (line_sized most bytes) (b == 10)
  where
    go : drop (line_size most bytes) bytes ≡ drop (length (line_within most bytes)) bytes → (lf : Bool)
        → drop (if lf then 1 else suc (line_size most bytes)) (b ∷ bytes)
        ≡ drop (length (if lf then b ∷ [] else b ∷ line_within most bytes)) (b ∷ bytes)
    go next true = refl
    go next false = next

pub line_left : (most : ℕ) (bytes line rest : List ℕ) → line ≡ line_within most bytes → bytes ≡ line ++ rest
    → rest ≡ drop (line_size most bytes) bytes
line_left most bytes line rest is both = sym (drop-append_seam line rest) ∙ ap (drop (length line)) (sym both)
    ∙ ap (λ front. drop (length front) bytes) is ∙ sym (line_sized most bytes)

pub line_asked : (most : ℕ) (bytes : List ℕ) → 0 < line_size (suc most) bytes
unfolding line_size
line_asked most [] = omega arith
line_asked most (b ∷ bytes) = go (b == 10)
  where
    go : (lf : Bool) → 0 < (if lf then 1 else suc (line_size most bytes))
    go true = omega arith
    go false = omega arith

-- ---- pieces

pub piece_left : (size : ℕ) (bytes piece rest : List ℕ) → piece ≡ take size bytes → bytes ≡ piece ++ rest → rest ≡ drop size bytes
piece_left size bytes piece rest is both =
    let front = take size bytes in
    let same : front ++ rest ≡ front ++ drop size bytes = ap (λ x. x ++ rest) (sym is) ∙ sym both ∙ sym (take-append-drop size bytes) in
    sym (drop-append_seam front rest) ∙ ap (drop (length front)) same ∙ drop-append_seam front (drop size bytes)

-- ---- calls that fail

pub fails_with : (fail : Fail) (some size : ℕ) (bytes : List ℕ) (after : Option (List ℕ)) → some < size → after ≡ Some (drop some bytes)
    → LeavesAt (fault_of fail) size bytes after
fails_with fail.Failed some size bytes after less is = (some, less, is)
fails_with fail.Memory some size bytes after less is = (some, omega (arith, less), is)

-- memory ran out before anything was read
pub unread : (size : ℕ) (bytes : List ℕ) (after : Option (List ℕ)) → after ≡ Some bytes → LeavesAt fault.Memory size bytes after
unread size bytes after is = (0, omega arith, is)

-- what fails first fails of the whole, of which it is refused alone
pub left_first : (e : FrameFault) (size more : ℕ) (bytes : List ℕ) (after : Option (List ℕ)) → LeavesAt e size bytes after
    → IfSome (refusal e) (λ f. more ≡ 0) → LeavesAt e (size + more) bytes after
left_first fault.Fault size more bytes after left none = (left.0, omega (arith, left.1), left.2)
left_first fault.Memory size more bytes after left none = (left.0, omega (arith, left.1), left.2)
left_first (fault.Header place) size more bytes after left none = left ∙ ap (λ n. Some (drop n bytes)) (omega (arith, none))
left_first (fault.Cut place) size more bytes after left none = left ∙ ap (λ n. Some (drop n bytes)) (omega (arith, none))
left_first (fault.TooMany place) size more bytes after left none = left ∙ ap (λ n. Some (drop n bytes)) (omega (arith, none))

-- what fails after some bytes were read
pub left_then : (e : FrameFault) (size more : ℕ) (bytes rest : List ℕ) (after : Option (List ℕ)) → rest ≡ drop size bytes
    → LeavesAt e more rest after → LeavesAt e (size + more) bytes after
left_then fault.Fault size more bytes rest after behind left =
    (size + left.0, omega (arith, left.1), left.2 ∙ ap Some (ap (drop left.0) behind ∙ drop-drop left.0 size bytes))
left_then fault.Memory size more bytes rest after behind left =
    (size + left.0, omega (arith, left.1), left.2 ∙ ap Some (ap (drop left.0) behind ∙ drop-drop left.0 size bytes))
left_then (fault.Header place) size more bytes rest after behind left =
    left ∙ ap Some (ap (drop more) behind ∙ drop-drop more size bytes)
left_then (fault.Cut place) size more bytes rest after behind left =
    left ∙ ap Some (ap (drop more) behind ∙ drop-drop more size bytes)
left_then (fault.TooMany place) size more bytes rest after behind left =
    left ∙ ap Some (ap (drop more) behind ∙ drop-drop more size bytes)

-- or goes on there
pub read_then : (size more : ℕ) (bytes rest : List ℕ) (after : Option (List ℕ)) → rest ≡ drop size bytes → after ≡ Some (drop more rest)
    → after ≡ Some (drop (size + more) bytes)
read_then size more bytes rest after behind left = left ∙ ap Some (ap (drop more) behind ∙ drop-drop more size bytes)

none_left : (size all : ℕ) (bytes : List ℕ) → length bytes ≤ size → size ≤ all → drop size bytes ≡ drop all bytes
none_left size all bytes few more = drop_of_length-le bytes few ∙ sym (drop_of_length-le bytes (omega (arith, few, more)))

-- the same rest
pub same_rest : (after : Option (List ℕ)) (one other : List ℕ) → after ≡ Some one → after ≡ Some other → one ≡ other
same_rest after one other is so = same_Some one other (sym is ∙ so)

-- where more was asked for than there is, nothing is left
pub left_of_more : (e : FrameFault) (size all : ℕ) (bytes : List ℕ) (after : Option (List ℕ)) → size ≤ all → LeavesAt e size bytes after
    → IfSome (refusal e) (λ f. length bytes ≤ size) → LeavesAt e all bytes after
left_of_more fault.Fault size all bytes after more left few = (left.0, omega (arith, left.1, more), left.2)
left_of_more fault.Memory size all bytes after more left few = (left.0, omega (arith, left.1, more), left.2)
left_of_more (fault.Header place) size all bytes after more left few = left ∙ ap Some (none_left size all bytes few more)
left_of_more (fault.Cut place) size all bytes after more left few = left ∙ ap Some (none_left size all bytes few more)
left_of_more (fault.TooMany place) size all bytes after more left few = left ∙ ap Some (none_left size all bytes few more)

pub told_so : {P : Type 0} {A : Type 0} (e : FrameFault) {found : Result A FrameFault} → ((f : FrameFault) → found ≡ Err f → P)
    → IfSome (refusal e) (λ f. found ≡ Err f) → IfSome (refusal e) (λ f. P)
told_so fault.Fault on is = tt
told_so fault.Memory on is = tt
told_so (fault.Header place) on is = on _ is
told_so (fault.Cut place) on is = on _ is
told_so (fault.TooMany place) on is = on _ is

-- ---- headers

pub refusal_is : {H : Type 0} (e : FrameFault) (found : Result H FrameFault) → found ≡ Err e → IfSome (refusal e) (λ f. found ≡ Err f)
refusal_is fault.Fault found is = tt
refusal_is fault.Memory found is = tt
refusal_is (fault.Header place) found is = is
refusal_is (fault.Cut place) found is = is
refusal_is (fault.TooMany place) found is = is

-- what is refused for its header leaves what follows the line
pub header_left : {H : Type 0} (length : H → ℕ) (found : Result H FrameFault) (e : FrameFault) (bytes : List ℕ) (after : Option (List ℕ))
    → IfSome (refusal e) (λ f. found ≡ Err f) → (e ≡ fault.Fault → ⊥) → after ≡ Some bytes
    → LeavesAt e (announced length found) bytes after
header_left length found fault.Fault bytes after is told same = absurd (told refl)
header_left length found fault.Memory bytes after is told same = unread (announced length found) bytes after same
header_left length found (fault.Header place) bytes after is told same =
    same ∙ ap (λ n. Some (drop n bytes)) (sym (ap (announced length) is))
header_left length found (fault.Cut place) bytes after is told same =
    same ∙ ap (λ n. Some (drop n bytes)) (sym (ap (announced length) is))
header_left length found (fault.TooMany place) bytes after is told same =
    same ∙ ap (λ n. Some (drop n bytes)) (sym (ap (announced length) is))

-- nothing is asked for behind a line that is refused
pub none_next : (size : List ℕ → ℕ) (next : Result (Option (List ℕ) × List ℕ) FrameFault) (e : FrameFault)
    → IfSome (refusal e) (λ f. next ≡ Err f) → IfSome (refusal e) (λ f. of_next size next ≡ 0)
none_next size next fault.Fault is = tt
none_next size next fault.Memory is = tt
none_next size next (fault.Header place) is = ap (of_next size) is
none_next size next (fault.Cut place) is = ap (of_next size) is
none_next size next (fault.TooMany place) is = ap (of_next size) is

-- ---- frames

module _ (at : FramePos) where
  pub body_sized : (line : List ℕ) (header : Header) → Ok header ≡ header_at most_header header_of at.place line
      → body_size at line ≡ body_length header
  unfolding body_size
  body_sized line header is = ap (announced body_length) (sym is)

  pub no_body_left : (line bytes : List ℕ) (e : FrameFault) (after : Option (List ℕ))
      → Err e ≡ header_at most_header header_of at.place line → (e ≡ fault.Fault → ⊥) → after ≡ Some bytes
      → LeavesAt e (body_size at line) bytes after
  unfolding body_size
  no_body_left line bytes e after is told same =
      header_left body_length (header_at most_header header_of at.place line) e bytes after (refusal_is e _ (sym is)) told same

  pub frame_sized : (bytes : List ℕ) (next : Result (Option (List ℕ) × List ℕ) FrameFault) → next_line most_header at bytes ≡ next
      → frame_size at bytes ≡ line_size most_header bytes + of_next (body_size at) next
  unfolding frame_size
  frame_sized bytes next is = ap (λ n. line_size most_header bytes + of_next (body_size at) n) is

-- ---- rounds

module _ (tracks : ℕ) (at : FramePos) where
  pub bodies_sized : (line : List ℕ) (header : RoundHeader) → header_at rounds.most_header (rounds.header_of tracks) at.place line
      ≡ Ok header
      → bodies_size tracks at line ≡ sum header.lengths
  unfolding bodies_size
  bodies_sized line header is = ap (announced (λ (header : RoundHeader). sum header.lengths)) is

  pub no_bodies_left : (line bytes : List ℕ) (e : FrameFault) (after : Option (List ℕ))
      → IfSome (refusal e) (λ f. header_at rounds.most_header (rounds.header_of tracks) at.place line ≡ Err f)
      → (e ≡ fault.Fault → ⊥) → after ≡ Some bytes → LeavesAt e (bodies_size tracks at line) bytes after
  unfolding bodies_size
  no_bodies_left line bytes e after is told same =
      header_left (λ (header : RoundHeader). sum header.lengths)
      (header_at rounds.most_header (rounds.header_of tracks) at.place line) e bytes after is told same

  pub round_sized : (bytes : List ℕ) (next : Result (Option (List ℕ) × List ℕ) FrameFault) → next_line rounds.most_header at bytes ≡ next
      → round_size tracks at bytes ≡ line_size rounds.most_header bytes + of_next (bodies_size tracks at) next
  unfolding round_size
  round_sized bytes next is = ap (λ n. line_size rounds.most_header bytes + of_next (bodies_size tracks at) n) is
