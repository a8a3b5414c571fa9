-- A frame that is read line first.
use Rattle.bridge_jobs.specs.declared.frame.FrameFault.TheVariants as fault
use Rattle.std.proofs.Common.{◌≡◌, ◌≢◌, ◌<◌, ◌≤◌, ◌+◌, ◌==◌, ℕ, zero, suc, Bool, true, false, List, [], ◌∷◌, ◌++◌, length, take, drop}
use Rattle.std.proofs.{Common.{Option, Some, None, Result, Ok, Err, nat_le, refl, sym, ap, ◌∙◌, arith, if◌then◌else◌}, lemmas.Bool.le-leb}
use Rattle.std.proofs.{lemmas.Bool.Decides.nat_tests, lemmas.List.{length-take, take_all}, Math.Seq.drop-append_seam}
use Rattle.std.specs.Prelude.{IfSome}
use Rattle.bridge_io.specs.declared.place.Place.{Place}
use Rattle.bridge_jobs.specs.Frames.{behind, body_of, by_next, counted, frame_by_line, framed_as, framed_body, framed_if, header_at}
use Rattle.bridge_jobs.specs.{Frames.{line_within, most_header, next_frame, next_line, piece_of, refusal}, Headers.{body_length, header_of}}
use Rattle.bridge_jobs.specs.{declared.frame.Frame.Frame, declared.frame.FramePos.FramePos, declared.frame.FrameFault.FrameFault}
use Rattle.bridge_jobs.specs.declared.header.Header.{Header}

-- a refusal of one step is the refusal of what the step leads to
pub told_on : {A B : Type 0} (e : FrameFault) (first : Result A FrameFault) (next : Result B FrameFault)
    → ((f : FrameFault) → first ≡ Err f → next ≡ Err f)
    → IfSome (refusal e) (λ f. first ≡ Err f) → IfSome (refusal e) (λ f. next ≡ Err f)
told_on fault.Fault first next on is = tt
told_on fault.Memory first next on is = tt
told_on (fault.Header place) first next on is = on _ is
told_on (fault.Cut place) first next on is = on _ is
told_on (fault.TooMany place) first next on is = on _ is

-- ---- bodies

pub cut_piece : (place : Place) (size : ℕ) (bytes piece : List ℕ) → piece ≡ take size bytes → length piece < size
    → piece_of place size bytes ≡ Err (fault.Cut (behind place piece))
unfolding piece_of
cut_piece place size bytes piece is short =
    let fewer : length bytes < size = omega (arith, ap length is, length-take size bytes) in
    let no_room : nat_le size (length bytes) ≡ false = grind (arith, nat_tests) in
    let all : piece ≡ bytes = is ∙ take_all size bytes (omega arith) in
    rw no_room (ap (λ x. Err (fault.Cut (behind place x))) (sym all))

pub whole_piece : (place : Place) (size : ℕ) (bytes piece rest : List ℕ) → piece ≡ take size bytes → bytes ≡ piece ++ rest
    → size ≤ length piece
    → piece_of place size bytes ≡ Ok (piece, behind place piece, rest)
unfolding piece_of
whole_piece place size bytes piece rest is both long =
    let len : length piece ≡ size = omega (arith, ap length is, length-take size bytes) in
    let more : size ≤ length bytes = omega (arith, ap length is, length-take size bytes) in
    let room : nat_le size (length bytes) ≡ true = le-leb _ _ more in
    let left : drop size bytes ≡ rest = ap (λ n. drop n bytes) (sym len) ∙ ap (drop (length piece)) both ∙ drop-append_seam piece rest in
    rw (room, left, ← is) refl

pub body_by : (place : Place) (header : Header) (bytes : List ℕ) (piece : Result (List ℕ × Place × List ℕ) FrameFault)
    → piece_of place (body_length header) bytes ≡ piece → body_of place header bytes ≡ framed_body header piece
unfolding body_of
body_by place header bytes piece is = ap (framed_body header) is

-- ---- frames by their lines

pub no_header : (at : FramePos) (line bytes : List ℕ) (e : FrameFault) → Err e ≡ header_at most_header header_of at.place line
    → IfSome (refusal e) (λ f. frame_by_line at line bytes ≡ Err f)
unfolding frame_by_line
no_header at line bytes e is = told_on e (header_at most_header header_of at.place line)
    (framed_if at line bytes (header_at most_header header_of at.place line)) (λ f same. ap (framed_if at line bytes) same) (own e is)
  where
    own : (e : FrameFault) → Err e ≡ header_at most_header header_of at.place line
        → IfSome (refusal e) (λ f. header_at most_header header_of at.place line ≡ Err f)
    own fault.Fault same = tt
    own fault.Memory same = tt
    own (fault.Header place) same = sym same
    own (fault.Cut place) same = sym same
    own (fault.TooMany place) same = sym same

pub no_body : (at : FramePos) (line bytes : List ℕ) (header : Header) (place : Place) (e : FrameFault)
    → Ok header ≡ header_at most_header header_of at.place line → place ≡ behind at.place line
    → IfSome (refusal e) (λ f. body_of place header bytes ≡ Err f) → IfSome (refusal e) (λ f. frame_by_line at line bytes ≡ Err f)
unfolding frame_by_line
no_body at line bytes header place e is there = told_on e _ _ (λ f same.
    ap (framed_if at line bytes) (sym is) ∙ ap (λ p. counted at.frames (body_of p header bytes)) (sym there) ∙ ap (counted at.frames) same)

pub whole_frame : (at : FramePos) (line bytes : List ℕ) (header : Header) (place after : Place) (frame : Frame) (rest : List ℕ)
    → Ok header ≡ header_at most_header header_of at.place line → place ≡ behind at.place line
    → body_of place header bytes ≡ Ok (frame, after, rest) → frame_by_line at line bytes
    ≡ Ok (framed_as frame (record { place = after; frames = at.frames + 1 }) rest)
unfolding frame_by_line
whole_frame at line bytes header place after frame rest is there same =
    ap (framed_if at line bytes) (sym is) ∙ ap (λ p. counted at.frames (body_of p header bytes)) (sym there) ∙ ap (counted at.frames) same

-- ---- next lines

no_line : (most : ℕ) (bytes : List ℕ) → 0 < most → line_within most bytes ≡ [] → bytes ≡ []
unfolding line_within
no_line zero bytes some is = absurd (omega arith)
no_line (suc most) [] some is = refl
no_line (suc most) (b ∷ bytes) some is = go (b == 10) is
  where
    go : (lf : Bool) → (if lf then b ∷ [] else b ∷ line_within most bytes) ≡ [] → b ∷ bytes ≡ []
    go true e = cc
    go false e = cc

line_of_none : (most : ℕ) → line_within most [] ≡ []
unfolding line_within
line_of_none zero = refl
line_of_none (suc most) = refl

pub next_none : (most : ℕ) (at : FramePos) (bytes line rest : List ℕ) → 0 < most → line ≡ line_within most bytes → bytes ≡ line ++ rest
    → line ≡ []
    → next_line most at bytes ≡ Ok (None, rest)
unfolding next_line
next_none most at bytes line rest some is both none =
    let empty : bytes ≡ [] = no_line most bytes some (sym is ∙ none) in
    let left : rest ≡ [] = ap (λ x. x ++ rest) (sym none) ∙ sym both ∙ empty in
    rw (empty, left) refl

pub next_too_many : (most : ℕ) (at : FramePos) (bytes line : List ℕ) → line ≡ line_within most bytes → 0 < length line
    → at.frames ≡ 10_000_000
    → next_line most at bytes ≡ Err (fault.TooMany at.place)
unfolding next_line
next_too_many most at [] line is some last = absurd (omega (arith, ap length (is ∙ line_of_none most)))
next_too_many most at (b ∷ bytes) line is some last = rw last refl

pub next_some : (most : ℕ) (at : FramePos) (bytes line rest : List ℕ) → line ≡ line_within most bytes → bytes ≡ line ++ rest
    → 0 < length line
    → at.frames ≢ 10_000_000 → next_line most at bytes ≡ Ok (Some line, rest)
unfolding next_line
next_some most at [] line rest is both some more = absurd (omega (arith, ap length (is ∙ line_of_none most)))
next_some most at (b ∷ bytes) line rest is both some more =
    let no : (at.frames == 10_000_000) ≡ false = grind (arith, nat_tests) in
    let left : drop (length line) (b ∷ bytes) ≡ rest = ap (drop (length line)) both ∙ drop-append_seam line rest in
    rw (no, ← is, left) refl

-- the next frame is that of the next line
pub next_frame_by : (at : FramePos) (bytes : List ℕ) (next : Result (Option (List ℕ) × List ℕ) FrameFault)
    → next_line most_header at bytes ≡ next
    → next_frame at bytes ≡ by_next (frame_by_line at) next
unfolding next_frame
next_frame_by at bytes next is = ap (by_next (frame_by_line at)) is
