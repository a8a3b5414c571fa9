-- What follows a frame, and a snapshot, and what is left of a stream.
use Rattle.bridge_jobs.specs.declared.frame.FrameFault.TheVariants as fault
use Rattle.bridge_jobs.specs.Rounds as rounds
use Rattle.std.proofs.Common.{◌≡◌, ◌+◌, ◌-◌, ◌==◌, ℕ, Bool, true, false, List, [], ◌∷◌, length, take, drop, nat_le, Option, Some, None}
use Rattle.std.proofs.Common.{Result, Ok, Err, if◌then◌else◌, refl, sym, ap, ◌∙◌, drop-drop, length-drop, ◌≤◌, zero, suc, arith, subst}
use Rattle.std.proofs.{lemmas.Bool.{Decides.nat_tests, leb-true}, lemmas.Option.same_Some, lemmas.Slice.Eq.bytes_eq-Decides}
use Rattle.std.proofs.lemmas.List.Sums.{sum_by-cons}
use Rattle.std.specs.Prelude.{bytes_eq, sum}
use Rattle.bridge_io.specs.declared.place.Place.{Place}
use Rattle.bridge_jobs.specs.Frames.{announced, behind, body_of, body_size, by_next, counted, frame_by_line, frame_size, Framed}
use Rattle.bridge_jobs.specs.Frames.{framed_body, framed_if, frames_from, header_at, header_by_line, line_size, line_within, most_frames}
use Rattle.bridge_jobs.specs.Frames.{most_header, next_frame, next_line, of_next, piece_of, some_of, Stream, stream_by}
use Rattle.bridge_jobs.specs.Headers.{body_length, header_of}
use Rattle.bridge_jobs.specs.Laws.{FramesAreLeft, FramesFollow, IsRestOf, RoundsAreLeft, RoundsFollow, SizesAreOfFrames, SizesAreOfRounds}
use Rattle.bridge_jobs.specs.Rounds.{after_bodies, and_bodies, Bodies, bodies_of, bodies_size, next_round, round_by_line, round_size}
use Rattle.bridge_jobs.specs.Rounds.{Rounded, rounded_if, rounds_by, rounds_from, RoundStream}
use Rattle.bridge_jobs.specs.declared.{frame.{FrameFault.FrameFault, FramePos.FramePos}, header.Header.Header}
use Rattle.bridge_jobs.specs.declared.lengths.RoundHeader.{RoundHeader}
use Rattle.bridge_jobs.proofs.Left.{frame_sized, line_sized, round_sized}

-- what follows a rest
rest_on : (size more : ℕ) (bytes mid rest : List ℕ) → IsRestOf mid size bytes → IsRestOf rest more mid → IsRestOf rest (size + more) bytes
rest_on size more bytes mid rest first next = let left = ap length first.0 in (
  next.0 ∙ ap (drop more) first.0 ∙ drop-drop more size bytes,
  omega (arith, left, length-drop size bytes, first.1, next.1),
)

-- ---- lines

abbrev EndsInLf : List ℕ → Type 0
EndsInLf line = drop (length line - 1) line ≡ 10 ∷ []

lf_later : (b : ℕ) (line : List ℕ) → (b == 10) ≡ false → EndsInLf (b ∷ line) → EndsInLf line
lf_later b [] other end = let last : b ≡ 10 = cc in absurd (grind (arith, nat_tests))
lf_later b (c ∷ line) other end =
    let one : length (c ∷ line) - 1 ≡ length line = omega arith in
    let two : length (b ∷ c ∷ line) - 1 ≡ suc (length line) = omega arith in
    ap (λ n. drop n (c ∷ line)) one ∙ sym (ap (λ n. drop n (b ∷ c ∷ line)) two) ∙ end

-- a line that ends in LF has all bytes that are asked for it
line_there : (most : ℕ) (bytes : List ℕ) → EndsInLf (line_within most bytes) → line_size most bytes ≤ length bytes
unfolding line_size line_within
line_there zero bytes end = omega arith
line_there (suc most) [] end = absurd (cc)
line_there (suc most) (b ∷ bytes) end = go (line_there most bytes) (b == 10) refl end
  where
    go : (EndsInLf (line_within most bytes) → line_size most bytes ≤ length bytes) → (lf : Bool) → (b == 10) ≡ lf
        → EndsInLf (if lf then b ∷ [] else b ∷ line_within most bytes)
        → (if lf then 1 else suc (line_size most bytes)) ≤ length (b ∷ bytes)
    go next true is end = omega arith
    go next false is end = omega (arith, next (lf_later b (line_within most bytes) is end))

-- and so it does where it is a header
header_ends : {H : Type 0} (most : ℕ) (read : List ℕ → Option H) (place : Place) (line : List ℕ) (header : H)
    → header_at most read place line ≡ Ok header → EndsInLf line
unfolding header_at
header_ends most read place line header is = go (bytes_eq (drop (length line - 1) line) (10 ∷ [])) refl is
  where
    go : (lf : Bool) → bytes_eq (drop (length line - 1) line) (10 ∷ []) ≡ lf
        → header_by_line most read place line (if lf then Some (take (length line - 1) line) else None) ≡ Ok header → EndsInLf line
    go true lf e = (bytes_eq-Decides (drop (length line - 1) line) (10 ∷ [])).0 lf
    go false lf e = none (length line == most) e
      where
        none : (long : Bool) → (if long then Err (fault.Header place) else Err (fault.Cut (behind place line))) ≡ Ok header → EndsInLf line
        none true e = absurd (cc)
        none false e = absurd (cc)

-- what follows a line
abbrev next_or : Result (Option (List ℕ) × List ℕ) FrameFault → Option (List ℕ) × List ℕ
next_or (Ok next) = next
next_or (Err e) = (None, [])

line_rest : (most : ℕ) (at : FramePos) (bytes line rest : List ℕ) → next_line most at bytes ≡ Ok (Some line, rest) → EndsInLf line
    → IsRestOf rest (line_size most bytes) bytes
unfolding next_line
line_rest most at [] line rest is end =
    let first : None ≡ Some line = ap (λ (next : Result (Option (List ℕ) × List ℕ) FrameFault). (next_or next).0) is in absurd (cc)
line_rest most at (b ∷ bytes) line rest is end = go (at.frames == most_frames) is
  where
    front : List ℕ
    front = line_within most (b ∷ bytes)

    found : Option (List ℕ) × List ℕ
    found = (Some front, drop (length front) (b ∷ bytes))

    go : (last : Bool) → (if last then Err (fault.TooMany at.place) else Ok found) ≡ Ok (Some line, rest)
        → IsRestOf rest (line_size most (b ∷ bytes)) (b ∷ bytes)
    go true e = absurd (cc)
    go false e =
        let one : Some front ≡ Some line = ap (λ (next : Result (Option (List ℕ) × List ℕ) FrameFault). (next_or next).0) e in (
          sym (ap (λ (next : Result (Option (List ℕ) × List ℕ) FrameFault). (next_or next).1) e) ∙ sym (line_sized most (b ∷ bytes)),
          line_there most (b ∷ bytes) (subst EndsInLf (sym (same_Some front line one)) end),
        )

-- what follows a piece
piece_rest : (place : Place) (size : ℕ) (bytes : List ℕ) (x : List ℕ × Place × List ℕ) → piece_of place size bytes ≡ Ok x
    → IsRestOf x.2 size bytes
unfolding piece_of
piece_rest place size bytes x is = go (nat_le size (length bytes)) refl is
  where
    found : List ℕ × Place × List ℕ
    found = (take size bytes, behind place (take size bytes), drop size bytes)

    go : (b : Bool) → nat_le size (length bytes) ≡ b → (if b then Ok found else Err (fault.Cut (behind place bytes))) ≡ Ok x
        → IsRestOf x.2 size bytes
    go true all e = let same : found ≡ x = cc in
        (sym (ap (λ (t : List ℕ × Place × List ℕ). t.2) same), leb-true size (length bytes) all)
    go false all e = absurd (cc)

-- what follows what is read by a line
module _ {Y : Type 0} (most : ℕ) (at : FramePos) (bytes : List ℕ) (size : List ℕ → ℕ) (rest_of : Y → List ℕ)
    (read : List ℕ → List ℕ → Result Y FrameFault)
    (own : (line rest : List ℕ) (y : Y) → read line rest ≡ Ok y → IsRestOf (rest_of y) (size line) rest × EndsInLf line) (y : Y) where
  by_line : (line rest : List ℕ) → next_line most at bytes ≡ Ok (Some line, rest) → (r : Result Y FrameFault) → read line rest ≡ r
      → some_of r ≡ Ok (Some y) → IsRestOf (rest_of y) (line_size most bytes + size line) bytes
  by_line line rest next (Ok x) is same = let it : x ≡ y = cc in let found = own line rest y (is ∙ ap Ok it) in
      rest_on (line_size most bytes) (size line) bytes rest (rest_of y) (line_rest most at bytes line rest next found.1) found.0
  by_line line rest next (Err _) is same = absurd (cc)

  rest_by : (next : Result (Option (List ℕ) × List ℕ) FrameFault) → next_line most at bytes ≡ next → by_next read next ≡ Ok (Some y)
      → IsRestOf (rest_of y) (line_size most bytes + of_next size next) bytes
  rest_by (Ok (None, rest)) is same = absurd (cc)
  rest_by (Ok (Some line, rest)) is same = by_line line rest is (read line rest) refl same
  rest_by (Err _) is same = absurd (cc)

-- ---- frames

abbrev rest_or : Result Framed FrameFault → List ℕ
rest_or (Ok framed) = framed.rest
rest_or (Err e) = []

frame_rest : (at : FramePos) (line rest : List ℕ) (framed : Framed) → frame_by_line at line rest ≡ Ok framed
    → IsRestOf framed.rest (body_size at line) rest × EndsInLf line
unfolding frame_by_line body_size body_of
frame_rest at line rest framed is = go (header_at most_header header_of at.place line) refl is
  where
    by : (header : Header) (piece : Result (List ℕ × Place × List ℕ) FrameFault)
        → piece_of (behind at.place line) (body_length header) rest ≡ piece
        → counted at.frames (framed_body header piece) ≡ Ok framed → IsRestOf framed.rest (body_length header) rest
    by header (Ok x) is e = subst (λ (r : Result Framed FrameFault). IsRestOf (rest_or r) (body_length header) rest) e
        (piece_rest (behind at.place line) (body_length header) rest x is)
    by header (Err _) is e = absurd (cc)

    go : (h : Result Header FrameFault) → header_at most_header header_of at.place line ≡ h → framed_if at line rest h ≡ Ok framed
        → IsRestOf framed.rest (announced body_length h) rest × EndsInLf line
    go (Ok header) read e = (by header _ refl e, header_ends most_header header_of at.place line header read)
    go (Err _) read e = absurd (cc)

pub sizes_of_frames : SizesAreOfFrames
unfolding next_frame
sizes_of_frames at bytes framed is =
    subst (λ n. IsRestOf framed.rest n bytes) (sym (frame_sized at bytes (next_line most_header at bytes) refl))
    (rest_by most_header at bytes (body_size at) (λ (framed : Framed). framed.rest) (frame_by_line at) (frame_rest at) framed
    (next_line most_header at bytes) refl is)

-- ---- snapshots

abbrev round_rest_or : Result Rounded FrameFault → List ℕ
round_rest_or (Ok rounded) = rounded.rest
round_rest_or (Err e) = []

bodies_rest : (place : Place) (lengths bytes : List ℕ) (x : Bodies) → bodies_of place lengths bytes ≡ Ok x
    → IsRestOf x.2 (sum lengths) bytes
unfolding bodies_of
bodies_rest place [] bytes x is =
    let it : ([], place, bytes) ≡ x = cc in (sym (ap (λ (t : Bodies). t.2) it), omega arith)
bodies_rest place (size ∷ lengths) bytes x is =
    go (piece_of place size bytes) refl is (λ at rest y. bodies_rest at lengths rest y)
  where
    further : (piece : List ℕ × Place × List ℕ) (more : Result Bodies FrameFault) → after_bodies (piece.0 ∷ []) more ≡ Ok x
        → ((y : Bodies) → more ≡ Ok y → IsRestOf y.2 (sum lengths) piece.2) → IsRestOf x.2 (sum lengths) piece.2
    further piece (Ok y) e each =
        let it : (piece.0 ∷ y.0, y.1, y.2) ≡ x = cc in subst (λ (t : Bodies). IsRestOf t.2 (sum lengths) piece.2) it (each y refl)
    further piece (Err _) e each = absurd (cc)

    go : (piece : Result (List ℕ × Place × List ℕ) FrameFault) → piece_of place size bytes ≡ piece
        → and_bodies (λ after rest. bodies_of after lengths rest) piece ≡ Ok x
        → ((at : Place) (rest : List ℕ) (y : Bodies) → bodies_of at lengths rest ≡ Ok y → IsRestOf y.2 (sum lengths) rest)
        → IsRestOf x.2 (sum (size ∷ lengths)) bytes
    go (Ok piece) is e others = subst (λ n. IsRestOf x.2 n bytes) (sym (sum_by-cons (λ (n : ℕ). n) size lengths))
        (rest_on size (sum lengths) bytes piece.2 x.2 (piece_rest place size bytes piece is) (further piece _ e (others piece.1 piece.2)))
    go (Err _) is e others = absurd (cc)

round_rest : (tracks : ℕ) (at : FramePos) (line rest : List ℕ) (rounded : Rounded) → round_by_line tracks at line rest ≡ Ok rounded
    → IsRestOf rounded.rest (bodies_size tracks at line) rest × EndsInLf line
unfolding round_by_line bodies_size
round_rest tracks at line rest rounded is = go (header_at rounds.most_header (rounds.header_of tracks) at.place line) refl is
  where
    by : (header : RoundHeader) (bodies : Result Bodies FrameFault) → bodies_of (behind at.place line) header.lengths rest ≡ bodies
        → rounds.counted at.frames header.now bodies ≡ Ok rounded → IsRestOf rounded.rest (sum header.lengths) rest
    by header (Ok x) is e = subst (λ (r : Result Rounded FrameFault). IsRestOf (round_rest_or r) (sum header.lengths) rest) e
        (bodies_rest (behind at.place line) header.lengths rest x is)
    by header (Err _) is e = absurd (cc)

    go : (h : Result RoundHeader FrameFault) → header_at rounds.most_header (rounds.header_of tracks) at.place line ≡ h
        → rounded_if at line rest h ≡ Ok rounded
        → IsRestOf rounded.rest (announced (λ (header : RoundHeader). sum header.lengths) h) rest × EndsInLf line
    go (Ok header) read e = (by header _ refl e, header_ends rounds.most_header (rounds.header_of tracks) at.place line header read)
    go (Err _) read e = absurd (cc)

pub sizes_of_rounds : SizesAreOfRounds
unfolding next_round
sizes_of_rounds tracks at bytes rounded is =
    subst (λ n. IsRestOf rounded.rest n bytes) (sym (round_sized tracks at bytes (next_line rounds.most_header at bytes) refl))
    (rest_by rounds.most_header at bytes (bodies_size tracks at) (λ (rounded : Rounded). rounded.rest) (round_by_line tracks at)
    (round_rest tracks at) rounded (next_line rounds.most_header at bytes) refl is)

-- ---- whole streams

-- what is left when a first one and some others are read
rest_then : (size : ℕ) (taken bytes rest : List ℕ) (n : ℕ) → IsRestOf rest size bytes → sum (take n taken) ≤ length rest
    → IsRestOf (drop (sum (take n taken)) rest) (sum (take (suc n) (size ∷ taken))) bytes
rest_then size taken bytes rest n first all =
    subst (λ k. IsRestOf (drop (sum (take n taken)) rest) k bytes) (sym (sum_by-cons (λ (n : ℕ). n) size (take n taken)))
    (rest_on size (sum (take n taken)) bytes rest (drop (sum (take n taken)) rest) first (refl, all))

module _ (follows : FramesFollow) where
  abbrev IsLeft : (bytes : List ℕ) (n : ℕ) → Stream → Type 0
  IsLeft bytes n stream = n ≤ length stream.frames
      → (later : FramePos) × (frames_from later (drop (sum (take n stream.taken)) bytes)
      ≡ record { frames = drop n stream.frames; fault = stream.fault; taken = drop n stream.taken })
      × (sum (take n stream.taken) ≤ length bytes)

  frames_behind : (n : ℕ) (at : FramePos) (bytes : List ℕ) → IsLeft bytes n (frames_from at bytes)
  frames_behind zero at bytes = λ some. (at, refl, omega arith)
  frames_behind (suc n) at bytes = subst (IsLeft bytes (suc n)) (sym (follows at bytes))
      (go (next_frame at bytes) refl (λ framed. frames_behind n framed.after framed.rest))
    where
      go : (r : Result (Option Framed) FrameFault) → next_frame at bytes ≡ r
          → ((framed : Framed) → IsLeft framed.rest n (frames_from framed.after framed.rest))
          → IsLeft bytes (suc n) (stream_by (frame_size at bytes) (λ framed. frames_from framed.after framed.rest) r)
      go (Ok None) is each = λ some. absurd (omega (arith, some))
      go (Err _) is each = λ some. absurd (omega (arith, some))
      go (Ok (Some framed)) is each = λ some.
          let more : Stream = frames_from framed.after framed.rest in
          let others = each framed (omega (arith, some)) in
          let first = sizes_of_frames at bytes framed is in
          let left = rest_then (frame_size at bytes) more.taken bytes framed.rest n first others.2 in
          (others.0, ap (frames_from others.0) (sym left.0) ∙ others.1, left.1)

pub frames_left : FramesFollow → FramesAreLeft
frames_left follows at bytes n = frames_behind follows n at bytes

module _ (follows : RoundsFollow) (tracks : ℕ) where
  abbrev AreLeft : (bytes : List ℕ) (n : ℕ) → RoundStream → Type 0
  AreLeft bytes n stream = n ≤ length stream.0
      → (later : FramePos) × (rounds_from tracks later (drop (sum (take n stream.2)) bytes) ≡ (drop n stream.0, stream.1, drop n stream.2))
      × (sum (take n stream.2) ≤ length bytes)

  rounds_behind : (n : ℕ) (at : FramePos) (bytes : List ℕ) → AreLeft bytes n (rounds_from tracks at bytes)
  rounds_behind zero at bytes = λ some. (at, refl, omega arith)
  rounds_behind (suc n) at bytes = subst (AreLeft bytes (suc n)) (sym (follows tracks at bytes))
      (go (next_round tracks at bytes) refl (λ rounded. rounds_behind n rounded.after rounded.rest))
    where
      go : (r : Result (Option Rounded) FrameFault) → next_round tracks at bytes ≡ r
          → ((rounded : Rounded) → AreLeft rounded.rest n (rounds_from tracks rounded.after rounded.rest))
          → AreLeft bytes (suc n) (rounds_by (round_size tracks at bytes) (λ rounded. rounds_from tracks rounded.after rounded.rest) r)
      go (Ok None) is each = λ some. absurd (omega (arith, some))
      go (Err _) is each = λ some. absurd (omega (arith, some))
      go (Ok (Some rounded)) is each = λ some.
          let more : RoundStream = rounds_from tracks rounded.after rounded.rest in
          let others = each rounded (omega (arith, some)) in
          let first = sizes_of_rounds tracks at bytes rounded is in
          let left = rest_then (round_size tracks at bytes) more.2 bytes rounded.rest n first others.2 in
          (others.0, ap (rounds_from tracks others.0) (sym left.0) ∙ others.1, left.1)

pub rounds_left : RoundsFollow → RoundsAreLeft
rounds_left follows tracks at bytes n = rounds_behind follows tracks n at bytes
