-- Rounds one after another.
use Rattle.std.proofs.Common.{◌≡◌, ◌<◌, ◌≤◌, ◌+◌, ◌==◌, ℕ, zero, suc, Bool, true, false, List, [], ◌∷◌, length, take, drop, Option, Some}
use Rattle.std.proofs.Common.{None, Result, Ok, Err, nat_le, if◌then◌else◌, refl, ap, arith, length-drop}
use Rattle.bridge_io.specs.declared.place.Place.{Place}
use Rattle.bridge_jobs.specs.{Frames.{behind, by_next, header_at, line_within, most_frames, next_line, piece_of, some_of}, Rounds.Bodies}
use Rattle.bridge_jobs.specs.Rounds.{Rounded, RoundStream, after_bodies, and_bodies, bodies_of, counted, header_of, most_header, next_round}
use Rattle.bridge_jobs.specs.Rounds.{round_by_line, round_size, rounded_as, rounded_if, rounds_by, rounds_from, rounds_within}
use Rattle.bridge_jobs.specs.Laws.{RoundsFollow}
use Rattle.bridge_jobs.specs.{declared.lengths.RoundHeader.RoundHeader, declared.frame.FramePos.FramePos}
use Rattle.bridge_jobs.specs.{declared.frame.FrameFault.FrameFault, declared.frame.FrameFault.TheVariants.{Cut, TooMany}}
use Rattle.bridge_jobs.proofs.Follows.{line-some}

abbrev Piece : Type 0
Piece = List ℕ × Place × List ℕ

-- a piece leaves no more bytes than there were
piece-leaves : (place : Place) (size : ℕ) (bytes : List ℕ) (x : Piece) → piece_of place size bytes ≡ Ok x → length x.2 ≤ length bytes
unfolding piece_of
piece-leaves place size bytes x is = go (nat_le size (length bytes)) is
  where
    found : Piece
    found = (take size bytes, behind place (take size bytes), drop size bytes)

    go : (b : Bool) → (if b then Ok found else Err (Cut (behind place bytes))) ≡ Ok x → length x.2 ≤ length bytes
    go true e = let same : found ≡ x = cc in omega (arith, ap (λ (t : Piece). length t.2) same, length-drop size bytes)
    go false e = absurd (cc)

-- and so do bodies
bodies-leave : (place : Place) (lengths bytes : List ℕ) (x : Bodies) → bodies_of place lengths bytes ≡ Ok x → length x.2 ≤ length bytes
unfolding bodies_of
bodies-leave place [] bytes x is = let same : Ok ([], place, bytes) ≡ Ok x = is in let it : ([], place, bytes) ≡ x = cc in
    omega (arith, ap (λ (t : Bodies). length t.2) it)
bodies-leave place (size ∷ lengths) bytes x is = go (piece_of place size bytes) refl is (λ at rest y. bodies-leave at lengths rest y)
  where
    further : (piece : Piece) → ((at : Place) (rest : List ℕ) (y : Bodies) → bodies_of at lengths rest ≡ Ok y → length y.2 ≤ length rest)
        → (more : Result Bodies FrameFault) → bodies_of piece.1 lengths piece.2 ≡ more → after_bodies (piece.0 ∷ []) more ≡ Ok x
        → length x.2 ≤ length piece.2
    further piece others (Ok y) is e =
        let same : Ok (piece.0 ∷ y.0, y.1, y.2) ≡ Ok x = e in let it : (piece.0 ∷ y.0, y.1, y.2) ≡ x = cc in
        omega (arith, ap (λ (t : Bodies). length t.2) it, others piece.1 piece.2 y is)
    further piece others (Err _) is e = absurd (cc)

    go : (piece : Result Piece FrameFault) → piece_of place size bytes ≡ piece
        → and_bodies (λ after rest. bodies_of after lengths rest) piece ≡ Ok x
        → ((at : Place) (rest : List ℕ) (y : Bodies) → bodies_of at lengths rest ≡ Ok y → length y.2 ≤ length rest)
        → length x.2 ≤ length bytes
    go (Ok piece) is e others = omega (arith, further piece others _ refl e, piece-leaves place size bytes piece is)
    go (Err _) is e others = absurd (cc)

line-leaves : (tracks : ℕ) (at : FramePos) (line rest : List ℕ) (rounded : Rounded) → round_by_line tracks at line rest ≡ Ok rounded
    → length rounded.rest ≤ length rest
unfolding round_by_line
line-leaves tracks at line rest rounded is = go (header_at most_header (header_of tracks) at.place line) is
  where
    by : (header : RoundHeader) (bodies : Result Bodies FrameFault) → bodies_of (behind at.place line) header.lengths rest ≡ bodies
        → counted at.frames header.now bodies ≡ Ok rounded → length rounded.rest ≤ length rest
    by header (Ok x) is e = omega (arith, ap length (rest-is x e), bodies-leave (behind at.place line) header.lengths rest x is)
      where
        rest-is : (x : Bodies) → counted at.frames header.now (Ok x) ≡ Ok rounded → x.2 ≡ rounded.rest
        rest-is x e =
            let it : rounded_as (record { now = header.now; bodies = x.0 }) (record { place = x.1; frames = at.frames + 1 }) x.2
            ≡ rounded = cc in
            ap (λ (r : Rounded). r.rest) it
    by header (Err _) is e = absurd (cc)

    go : (h : Result RoundHeader FrameFault) → rounded_if at line rest h ≡ Ok rounded → length rounded.rest ≤ length rest
    go (Ok header) e = by header _ refl e
    go (Err _) e = absurd (cc)

-- a round leaves fewer bytes
shorter : (tracks : ℕ) (at : FramePos) (bytes : List ℕ) (rounded : Rounded) → next_round tracks at bytes ≡ Ok (Some rounded)
    → length rounded.rest < length bytes
unfolding next_round next_line
shorter tracks at [] rounded is = absurd (cc)
shorter tracks at (b ∷ bytes) rounded is = go (at.frames == most_frames) is
  where
    line : List ℕ
    line = line_within most_header (b ∷ bytes)

    by_round : (r : Result Rounded FrameFault) → round_by_line tracks at line (drop (length line) (b ∷ bytes)) ≡ r
        → some_of r ≡ Ok (Some rounded) → length rounded.rest < length (b ∷ bytes)
    by_round (Ok x) e same = let it : x ≡ rounded = cc in
        omega (
          arith,
          ap (λ (r : Rounded). length r.rest) it,
          line-leaves tracks at line _ x e,
          length-drop (length line) (b ∷ bytes),
          line-some 2047 b bytes,
        )
    by_round (Err _) e same = absurd (cc)

    go : (last : Bool) → by_next (round_by_line tracks at) (if last then Err (TooMany at.place)
        else Ok (Some line, drop (length line) (b ∷ bytes)))
        ≡ Ok (Some rounded) → length rounded.rest < length (b ∷ bytes)
    go true e = absurd (cc)
    go false e = by_round _ refl e

-- more room than there are bytes changes nothing
roomy : (most more : ℕ) (tracks : ℕ) (at : FramePos) (bytes : List ℕ) → length bytes < most → length bytes < more
    → rounds_within most tracks at bytes ≡ rounds_within more tracks at bytes
unfolding rounds_within
roomy zero more tracks at bytes low high = absurd (omega arith)
roomy (suc most) zero tracks at bytes low high = absurd (omega arith)
roomy (suc most) (suc more) tracks at bytes low high =
    go (next_round tracks at bytes) refl (λ rounded less. roomy most more tracks rounded.after rounded.rest (omega arith) (omega arith))
  where
    go : (r : Result (Option Rounded) FrameFault) → next_round tracks at bytes ≡ r
        → ((rounded : Rounded) → length rounded.rest < length bytes
        → rounds_within most tracks rounded.after rounded.rest ≡ rounds_within more tracks rounded.after rounded.rest)
        → rounds_by (round_size tracks at bytes) (λ rounded. rounds_within most tracks rounded.after rounded.rest) r
        ≡ rounds_by (round_size tracks at bytes) (λ rounded. rounds_within more tracks rounded.after rounded.rest) r
    go (Ok None) e next = refl
    go (Ok (Some rounded)) e next =
        ap (λ (s : RoundStream). (rounded.round ∷ s.0, s.1, round_size tracks at bytes ∷ s.2))
        (next rounded (shorter tracks at bytes rounded e))
    go (Err _) e next = refl

pub rounds_follow : RoundsFollow
unfolding rounds_within
rounds_follow = λ tracks at bytes. go tracks at bytes (next_round tracks at bytes) refl
  where
    go : (tracks : ℕ) (at : FramePos) (bytes : List ℕ) (r : Result (Option Rounded) FrameFault) → next_round tracks at bytes ≡ r
        → rounds_by (round_size tracks at bytes) (λ rounded. rounds_within (length bytes) tracks rounded.after rounded.rest) r
        ≡ rounds_by (round_size tracks at bytes) (λ rounded. rounds_from tracks rounded.after rounded.rest) r
    go tracks at bytes (Ok None) e = refl
    go tracks at bytes (Ok (Some rounded)) e =
        let less : length rounded.rest < length bytes = shorter tracks at bytes rounded e in
        ap (λ (s : RoundStream). (rounded.round ∷ s.0, s.1, round_size tracks at bytes ∷ s.2))
        (roomy (length bytes) (suc (length rounded.rest)) tracks rounded.after rounded.rest less (omega arith))
    go tracks at bytes (Err _) e = refl
