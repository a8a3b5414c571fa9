-- The rounds of a stream have a body for each track, and instants that are read.
use Rattle.std.proofs.Common.{◌≡◌, ◌-◌, ◌+◌, ◌==◌, ℕ, ℤ, zero, suc, Bool, true, false, List, [], ◌∷◌, length, drop, Option, Some, None}
use Rattle.std.proofs.Common.{option_map, Result, Ok, Err, bytes_eq, if◌then◌else◌, refl, sym, ap, ◌∙◌, subst, arith}
use Rattle.std.proofs.lemmas.List.Elements.{All-nil, All-cons}
use Rattle.std.specs.{Prelude.codes, List.All}
use Rattle.bridge_io.specs.declared.place.Place.{Place}
use Rattle.bridge_jobs.specs.Frames.{behind, by_next, header_at, header_by_line, header_or_fault, line_within, most_frames, next_line}
use Rattle.bridge_jobs.specs.{Frames.{piece_of, some_of, without_end}, Headers.cut_at_space, Jobs.{◌>>=◌, instant_in}, Rounds.Bodies}
use Rattle.bridge_jobs.specs.Rounds.{Rounded, after_bodies, and_bodies, bodies_of, counted, first_part, header_by, header_of, lengths_of}
use Rattle.bridge_jobs.specs.Rounds.{most_bodies, most_header, next_length, next_round, round_by_line, rounded_as, rounded_if, rounds_by}
use Rattle.bridge_jobs.specs.Rounds.{round_size}
use Rattle.bridge_jobs.specs.{Rounds.{rounds_within, timed_lengths}, declared.lengths.RoundHeader.RoundHeader}
use Rattle.bridge_jobs.specs.{declared.frame.FramePos.FramePos, declared.frame.FrameFault.FrameFault}
use Rattle.bridge_jobs.specs.{declared.frame.FrameFault.TheVariants.{Cut, Header, TooMany}, declared.round.Round.Round}

-- ---- headers

lengths_count : (tracks room : ℕ) (rest : Option (List ℕ)) (lengths : List ℕ) → lengths_of tracks room rest ≡ Some lengths
    → length lengths ≡ tracks
unfolding lengths_of
lengths_count zero room None lengths is = let same : [] ≡ lengths = cc in ap length (sym same)
lengths_count zero room (Some text) lengths is = absurd (cc)
lengths_count (suc tracks) room rest lengths is = go (next_length room rest) is (λ room rest more. lengths_count tracks room rest more)
  where
    further : (size room : ℕ) (rest more : Option (List ℕ)) → lengths_of tracks room rest ≡ more
        → option_map (λ all. size ∷ all) more ≡ Some lengths
        → ((room : ℕ) (rest : Option (List ℕ)) (more : List ℕ) → lengths_of tracks room rest ≡ Some more → length more ≡ tracks)
        → length lengths ≡ suc tracks
    further size room rest None is e others = absurd (cc)
    further size room rest (Some all) is e others = let same : size ∷ all ≡ lengths = cc in
        omega (arith, ap length same, others room rest all is)

    go : (next : Option (ℕ × Option (List ℕ)))
        → (next >>= (λ x. option_map (λ all. x.0 ∷ all) (lengths_of tracks (room - x.0) x.1))) ≡ Some lengths
        → ((room : ℕ) (rest : Option (List ℕ)) (more : List ℕ) → lengths_of tracks room rest ≡ Some more → length more ≡ tracks)
        → length lengths ≡ suc tracks
    go None e others = absurd (cc)
    go (Some x) e others = further x.0 (room - x.0) x.1 _ refl e others

-- a header with so many lengths, of which the instant is one of those that are read
module _ (IsInstant : ℤ → Type 0) (read : (text : List ℕ) (now : ℤ) → instant_in text ≡ Some now → IsInstant now) where
  record IsHeader (tracks : ℕ) (header : RoundHeader) : Type 0 where
    count : length header.lengths ≡ tracks
    now : IsInstant header.now

  timed_is : (tracks : ℕ) (text : List ℕ) (header : RoundHeader) → timed_lengths tracks text ≡ Some header → IsHeader tracks header
  unfolding timed_lengths
  timed_is tracks text header is = go (instant_in (first_part text).0) refl is
    where
      by : (now : ℤ) → instant_in (first_part text).0 ≡ Some now → (lengths : Option (List ℕ))
          → lengths_of tracks most_bodies (first_part text).1 ≡ lengths
          → (lengths >>= (λ all. Some (let h : RoundHeader = record { now = now; lengths = all } in h))) ≡ Some header
          → IsHeader tracks header
      by now instant None is e = absurd (cc)
      by now instant (Some all) is e =
          let same : (let h : RoundHeader = record { now = now; lengths = all } in h) ≡ header = cc in
          subst (IsHeader tracks) same
          (record { count = lengths_count tracks most_bodies (first_part text).1 all is; now = read (first_part text).0 now instant })

      go : (now : Option ℤ) → instant_in (first_part text).0 ≡ now
          → (now >>= (λ n. lengths_of tracks most_bodies (first_part text).1 >>= (λ all. Some (let h : RoundHeader =
          record { now = n; lengths = all } in h))))
          ≡ Some header → IsHeader tracks header
      go None instant e = absurd (cc)
      go (Some now) instant e = by now instant _ refl e

  header_is : (tracks : ℕ) (line : List ℕ) (header : RoundHeader) → header_of tracks line ≡ Some header → IsHeader tracks header
  unfolding header_of
  header_is tracks line header is = go (cut_at_space line) is
    where
      by : (word text : List ℕ) (found : Bool) → (if found then timed_lengths tracks text else None) ≡ Some header
          → IsHeader tracks header
      by word text true e = timed_is tracks text header e
      by word text false e = absurd (cc)

      go : (parts : Option (List ℕ × List ℕ)) → (parts >>= (λ p. header_by tracks p.0 p.1)) ≡ Some header → IsHeader tracks header
      go None e = absurd (cc)
      go (Some p) e = by p.0 p.1 (bytes_eq p.0 (codes "round")) e

  line_is : (tracks : ℕ) (place : Place) (line : List ℕ) (header : RoundHeader)
      → header_at most_header (header_of tracks) place line ≡ Ok header → IsHeader tracks header
  unfolding header_at
  line_is tracks place line header is = go (without_end line) is
    where
      by : (text : List ℕ) (found : Option RoundHeader) → header_of tracks text ≡ found → header_or_fault place found ≡ Ok header
          → IsHeader tracks header
      by text None is e = absurd (cc)
      by text (Some h) is e = let same : h ≡ header = cc in header_is tracks text header (is ∙ ap Some same)

      cut : (long : Bool) → (if long then Err (Header place) else Err (Cut (behind place line))) ≡ Ok header → IsHeader tracks header
      cut true e = absurd (cc)
      cut false e = absurd (cc)

      go : (text : Option (List ℕ)) → header_by_line most_header (header_of tracks) place line text ≡ Ok header → IsHeader tracks header
      go (Some text) e = by text _ refl e
      go None e = cut (length line == most_header) e

-- ---- bodies

abbrev Piece : Type 0
Piece = List ℕ × Place × List ℕ

bodies_count : (place : Place) (lengths bytes : List ℕ) (x : Bodies) → bodies_of place lengths bytes ≡ Ok x → length x.0 ≡ length lengths
unfolding bodies_of
bodies_count place [] bytes x is = let it : ([], place, bytes) ≡ x = cc in ap (λ (t : Bodies). length t.0) (sym it)
bodies_count place (size ∷ lengths) bytes x is = go (piece_of place size bytes) is (λ at rest y. bodies_count at lengths rest y)
  where
    further : (piece : Piece) (more : Result Bodies FrameFault) → bodies_of piece.1 lengths piece.2 ≡ more
        → after_bodies (piece.0 ∷ []) more ≡ Ok x
        → ((at : Place) (rest : List ℕ) (y : Bodies) → bodies_of at lengths rest ≡ Ok y → length y.0 ≡ length lengths)
        → length x.0 ≡ suc (length lengths)
    further piece (Ok y) is e others =
        let it : (piece.0 ∷ y.0, y.1, y.2) ≡ x = cc in
        omega (arith, ap (λ (t : Bodies). length t.0) it, others piece.1 piece.2 y is)
    further piece (Err _) is e others = absurd (cc)

    go : (piece : Result Piece FrameFault) → and_bodies (λ after rest. bodies_of after lengths rest) piece ≡ Ok x
        → ((at : Place) (rest : List ℕ) (y : Bodies) → bodies_of at lengths rest ≡ Ok y → length y.0 ≡ length lengths)
        → length x.0 ≡ suc (length lengths)
    go (Ok piece) e others = further piece _ refl e others
    go (Err _) e others = absurd (cc)

-- ---- rounds

module _ (IsInstant : ℤ → Type 0) (read : (text : List ℕ) (now : ℤ) → instant_in text ≡ Some now → IsInstant now) where
  -- a body for each of so many tracks, at such an instant
  pub record IsWhole (tracks : ℕ) (round : Round) : Type 0 where
    pub bodies : length round.bodies ≡ tracks
    pub now : IsInstant round.now

  by_line : (tracks : ℕ) (at : FramePos) (line rest : List ℕ) (rounded : Rounded) → round_by_line tracks at line rest ≡ Ok rounded
      → IsWhole tracks rounded.round
  unfolding round_by_line
  by_line tracks at line rest rounded is = go (header_at most_header (header_of tracks) at.place line) refl is
    where
      by : (header : RoundHeader) (bodies : Result Bodies FrameFault) → IsHeader IsInstant read tracks header
          → bodies_of (behind at.place line) header.lengths rest ≡ bodies → counted at.frames header.now bodies ≡ Ok rounded
          → IsWhole tracks rounded.round
      by header (Ok x) own is e =
          let found = rounded_as (record { now = header.now; bodies = x.0 }) (record { place = x.1; frames = at.frames + 1 }) x.2 in
          let same : found ≡ rounded = cc in
          subst (λ (r : Rounded). IsWhole tracks r.round) same
          (record { bodies = bodies_count (behind at.place line) header.lengths rest x is ∙ own.count; now = own.now })
      by header (Err _) own is e = absurd (cc)

      go : (h : Result RoundHeader FrameFault) → header_at most_header (header_of tracks) at.place line ≡ h
          → rounded_if at line rest h ≡ Ok rounded → IsWhole tracks rounded.round
      go (Ok header) is e = by header _ (line_is IsInstant read tracks at.place line header is) refl e
      go (Err _) is e = absurd (cc)

  next_has : (tracks : ℕ) (at : FramePos) (bytes : List ℕ) (rounded : Rounded) → next_round tracks at bytes ≡ Ok (Some rounded)
      → IsWhole tracks rounded.round
  unfolding next_round next_line
  next_has tracks at [] rounded is = absurd (cc)
  next_has tracks at (b ∷ bytes) rounded is = go (at.frames == most_frames) is
    where
      line : List ℕ
      line = line_within most_header (b ∷ bytes)

      by : (r : Result Rounded FrameFault) → round_by_line tracks at line (drop (length line) (b ∷ bytes)) ≡ r
          → some_of r ≡ Ok (Some rounded) → IsWhole tracks rounded.round
      by (Ok x) is e = let same : x ≡ rounded = cc in by_line tracks at line _ rounded (is ∙ ap Ok same)
      by (Err _) is e = absurd (cc)

      go : (last : Bool) → by_next (round_by_line tracks at) (if last then Err (TooMany at.place) else Ok (
        Some line,
        drop (length line)
            (b ∷ bytes),
      ))
          ≡ Ok (Some rounded) → IsWhole tracks rounded.round
      go true e = absurd (cc)
      go false e = by _ refl e

  pub all_have : (most tracks : ℕ) (at : FramePos) (bytes : List ℕ) → All (IsWhole tracks) (rounds_within most tracks at bytes).0
  unfolding rounds_within
  all_have zero tracks at bytes = All-nil (IsWhole tracks)
  all_have (suc most) tracks at bytes = go (next_round tracks at bytes) refl (λ rounded. all_have most tracks rounded.after rounded.rest)
    where
      go : (r : Result (Option Rounded) FrameFault) → next_round tracks at bytes ≡ r
          → ((rounded : Rounded) → All (IsWhole tracks) (rounds_within most tracks rounded.after rounded.rest).0)
          → All (IsWhole tracks) (rounds_by (round_size tracks at bytes)
          (λ rounded. rounds_within most tracks rounded.after rounded.rest) r).0
      go (Ok None) is others = All-nil (IsWhole tracks)
      go (Ok (Some rounded)) is others = All-cons (IsWhole tracks) rounded.round
          (rounds_within most tracks rounded.after rounded.rest).0 (next_has tracks at bytes rounded is) (others rounded)
      go (Err _) is others = All-nil (IsWhole tracks)
