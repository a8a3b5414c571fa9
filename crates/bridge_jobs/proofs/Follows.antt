-- Frames one after another.
use Rattle.std.proofs.Common.{◌≡◌, ◌<◌, ◌+◌, ◌==◌, ℕ, zero, suc, Bool, true, false, List, [], ◌∷◌, ◌++◌, length, take, drop, Option, Some}
use Rattle.std.proofs.Common.{None, Result, Ok, Err, nat_le, count_by, if◌then◌else◌, refl, sym, ap, ap₂, subst, ◌∙◌, arith, append_assoc}
use Rattle.std.proofs.{Common.{add_assoc, length-append}, lemmas.List.take-append-drop, lemmas.List.Sums.sum_by-append}
use Rattle.std.proofs.Math.Seq.{take-append_seam}
use Rattle.bridge_io.specs.{Places.place_of, declared.place.Place.Place}
use Rattle.bridge_jobs.specs.Frames.{Framed, behind, body_of, by_next, counted, frame_by_line, frame_size, framed_if, framed_as}
use Rattle.bridge_jobs.specs.Frames.{frames_from}
use Rattle.bridge_jobs.specs.Frames.{frames_within, header_at, line_within, most_header, next_line, piece_of, most_frames, next_frame}
use Rattle.bridge_jobs.specs.{Frames.{some_of, stream_by, with_body, with_frame}, Headers.{body_length, header_of}, Laws.FramesFollow}
use Rattle.bridge_jobs.specs.{Laws.PlacesAreOfTheStream, declared.frame.FramePos.FramePos, declared.frame.FrameFault.FrameFault}
use Rattle.bridge_jobs.specs.{declared.frame.FrameFault.TheVariants.TooMany, declared.header.Header.Header}

abbrev is_lf : ℕ → Bool
is_lf b = b == 10

count_by-both : (a b : List ℕ) → count_by is_lf (a ++ b) ≡ count_by is_lf a + count_by is_lf b
count_by-both a b = sum_by-append _ a b

behind-both : (place : Place) (a b : List ℕ) → behind (behind place a) b ≡ behind place (a ++ b)
behind-both place a b = ap₂ (λ (at line : ℕ). let p : Place = record { at = at; line = line } in p)
    (add_assoc place.at (length a) (length b) ∙ ap (λ n. place.at + n) (sym (length-append a b)))
    (add_assoc place.line (count_by is_lf a) (count_by is_lf b) ∙ ap (λ n. place.line + n) (sym (count_by-both a b)))

-- a line and what stands behind it
pub line-front : (most : ℕ) (bytes : List ℕ) → line_within most bytes ++ drop (length (line_within most bytes)) bytes ≡ bytes
unfolding line_within
line-front zero bytes = refl
line-front (suc most) [] = refl
line-front (suc most) (b ∷ bytes) = go (line-front most bytes) (b == 10)
  where
    go : line_within most bytes ++ drop (length (line_within most bytes)) bytes ≡ bytes → (lf : Bool)
        → (if lf then b ∷ [] else b ∷ line_within most bytes) ++ drop (length (if lf then b ∷ [] else b ∷ line_within most bytes))
        (b ∷ bytes) ≡ b ∷ bytes
    go next true = refl
    go next false = ap (λ x. b ∷ x) next

pub line-some : (most b : ℕ) (bytes : List ℕ) → 0 < length (line_within (suc most) (b ∷ bytes))
unfolding line_within
line-some most b bytes = go (b == 10)
  where
    go : (lf : Bool) → 0 < length (if lf then b ∷ [] else b ∷ line_within most bytes)
    go true = omega arith
    go false = omega arith

-- a frame takes some bytes, and its end is behind them
pub record Takes (at : FramePos) (bytes : List ℕ) (framed : Framed) : Type 0 where
  pub piece : List ℕ
  pub front : bytes ≡ piece ++ framed.rest
  pub place : framed.after.place ≡ behind at.place piece
  pub some : 0 < length piece

body-takes : (at : FramePos) (line rest : List ℕ) (header : Header) (framed : Framed) → 0 < length line
    → counted at.frames (body_of (behind at.place line) header rest) ≡ Ok framed → Takes at (line ++ rest) framed
unfolding body_of piece_of
body-takes at line rest header framed some is = go (nat_le (body_length header) (length rest)) refl
  where
    after : FramePos
    after = record { place = behind (behind at.place line) (take (body_length header) rest); frames = at.frames + 1 }

    found : Takes at (line ++ rest) (framed_as (with_body header (take (body_length header) rest)) after (drop (body_length header) rest))
    found = record {
      piece = line ++ take (body_length header) rest;
      front = ap (λ x. line ++ x) (sym (take-append-drop (body_length header) rest))
          ∙ sym (append_assoc line (take (body_length header) rest) (drop (body_length header) rest));
      place = behind-both at.place line (take (body_length header) rest);
      some = omega (arith, length-append line (take (body_length header) rest));
    }

    go : (b : Bool) → nat_le (body_length header) (length rest) ≡ b → Takes at (line ++ rest) framed
    go true e =
        let same : Ok (framed_as (with_body header (take (body_length header) rest)) after (drop (body_length header) rest)) ≡ Ok framed =
        rw e at is in
        let it : framed_as (with_body header (take (body_length header) rest)) after (drop (body_length header) rest) ≡ framed = cc in
        subst (λ w. Takes at (line ++ rest) w) it found
    go false e = let bad = rw e at is in cc

line-takes : (at : FramePos) (line rest : List ℕ) (framed : Framed) → 0 < length line → frame_by_line at line rest ≡ Ok framed
    → Takes at (line ++ rest) framed
unfolding frame_by_line
line-takes at line rest framed some is = go (header_at most_header header_of at.place line) is
  where
    go : (h : Result Header FrameFault) → framed_if at line rest h ≡ Ok framed → Takes at (line ++ rest) framed
    go (Ok header) e = body-takes at line rest header framed some e
    go (Err _) e = cc

pub next-takes : (at : FramePos) (bytes : List ℕ) (framed : Framed) → next_frame at bytes ≡ Ok (Some framed) → Takes at bytes framed
unfolding next_frame next_line
next-takes at [] framed is = cc
next-takes at (b ∷ bytes) framed is = go (at.frames == most_frames) is
  where
    by_frame : (r : Result Framed FrameFault) → frame_by_line at (line_within 64 (b ∷ bytes))
        (drop (length (line_within 64 (b ∷ bytes))) (b ∷ bytes)) ≡ r
        → some_of r ≡ Ok (Some framed) → Takes at (b ∷ bytes) framed
    by_frame (Ok x) e same =
        let is_x : x ≡ framed = cc in
        subst (λ w. Takes at w framed) (line-front 64 (b ∷ bytes)) (line-takes at _ _ framed (line-some 63 b bytes) (e ∙ ap Ok is_x))
    by_frame (Err _) e same = cc

    go : (last : Bool) → by_next (frame_by_line at) (if last then Err (TooMany at.place)
        else Ok (Some (line_within 64 (b ∷ bytes)), drop (length (line_within 64 (b ∷ bytes))) (b ∷ bytes))) ≡ Ok (Some framed)
        → Takes at (b ∷ bytes) framed
    go true e = cc
    go false e = by_frame _ refl e

-- a frame leaves fewer bytes
shorter : (at : FramePos) (bytes : List ℕ) (framed : Framed) → next_frame at bytes ≡ Ok (Some framed) → length framed.rest < length bytes
shorter at bytes framed is =
    let t = next-takes at bytes framed is in
    omega (arith, ap length t.front, length-append t.piece framed.rest, t.some)

-- more room than there are bytes changes nothing
roomy : (most more : ℕ) (at : FramePos) (bytes : List ℕ) → length bytes < most → length bytes < more
    → frames_within most at bytes ≡ frames_within more at bytes
unfolding frames_within
roomy zero more at bytes low high = absurd (omega arith)
roomy (suc most) zero at bytes low high = absurd (omega arith)
roomy (suc most) (suc more) at bytes low high = go (next_frame at bytes) refl
    (λ framed less. roomy most more framed.after framed.rest (omega arith) (omega arith))
  where
    go : (r : Result (Option Framed) FrameFault) → next_frame at bytes ≡ r
        → ((framed : Framed) → length framed.rest < length bytes → frames_within most framed.after framed.rest
        ≡ frames_within more framed.after framed.rest)
        → stream_by (frame_size at bytes) (λ framed. frames_within most framed.after framed.rest) r
        ≡ stream_by (frame_size at bytes) (λ framed. frames_within more framed.after framed.rest) r
    go (Ok None) e next = refl
    go (Ok (Some framed)) e next = ap (with_frame framed.frame (frame_size at bytes)) (next framed (shorter at bytes framed e))
    go (Err _) e next = refl

pub frames_follow : FramesFollow
unfolding frames_within
frames_follow = λ at bytes. go at bytes (next_frame at bytes) refl
  where
    go : (at : FramePos) (bytes : List ℕ) (r : Result (Option Framed) FrameFault) → next_frame at bytes ≡ r
        → stream_by (frame_size at bytes) (λ framed. frames_within (length bytes) framed.after framed.rest) r
        ≡ stream_by (frame_size at bytes) (λ framed. frames_from framed.after framed.rest) r
    go at bytes (Ok None) e = refl
    go at bytes (Ok (Some framed)) e =
        let less : length framed.rest < length bytes = shorter at bytes framed e in
        ap (with_frame framed.frame (frame_size at bytes))
        (roomy (length bytes) (suc (length framed.rest)) framed.after framed.rest less (omega arith))
    go at bytes (Err _) e = refl

-- the place behind more of the same bytes
place_of-behind : (front piece rest : List ℕ) (place : Place) → place ≡ place_of (front ++ (piece ++ rest)) (length front)
    → behind place piece ≡ place_of (front ++ (piece ++ rest)) (length (front ++ piece))
place_of-behind front piece rest place is =
    let first : take (length front) (front ++ (piece ++ rest)) ≡ front = take-append_seam front (piece ++ rest) in
    let both : take (length (front ++ piece)) (front ++ (piece ++ rest)) ≡ front ++ piece =
    ap (take (length (front ++ piece))) (sym (append_assoc front piece rest)) ∙ take-append_seam (front ++ piece) rest in
    let line : place.line ≡ count_by is_lf front + 1 = ap (λ (p : Place). p.line) is ∙ ap (λ x. count_by is_lf x + 1) first in
    let at : place.at ≡ length front = ap (λ (p : Place). p.at) is in
    ap₂ (λ (at line : ℕ). let p : Place = record { at = at; line = line } in p)
    (omega (arith, length-append front piece))
    (omega (arith, count_by-both front piece, ap (count_by is_lf) both))

pub places : PlacesAreOfTheStream
places = λ front bytes at framed is next.
    let t = next-takes at bytes framed next in
    let there : at.place ≡ place_of (front ++ (t.piece ++ framed.rest)) (length front) = is
    ∙ ap (λ x. place_of (front ++ x) (length front)) t.front in (
      t.piece,
      t.front,
      t.place ∙ place_of-behind front t.piece framed.rest at.place there
          ∙ ap (λ x. place_of (front ++ x) (length (front ++ t.piece))) (sym t.front),
    )
