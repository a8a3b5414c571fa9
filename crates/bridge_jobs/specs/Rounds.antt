-- Snapshots: the playlists of a live presentation, all read at one time.
use Rattle.std.specs.Prelude.{ℕ, ℤ, zero, suc, ◌-◌, ◌+◌, nat_le, codes, bytes_eq, List, [], ◌∷◌, ◌++◌, length, if◌then◌else◌, Option, Some}
use Rattle.std.specs.Prelude.{None, option_map, sum, Result, Ok, Err}
use Rattle.bridge_io.specs.declared.place.Place.{Place}
use Rattle.bridge_jobs.specs.{Headers.{cut_at_space, length_of}, Jobs.{◌>>=◌, instant_in}, Frames.{behind, header_at, piece_of, next_line}}
use Rattle.bridge_jobs.specs.{Frames.{announced, by_next, line_size, of_next}, declared.lengths.RoundHeader.RoundHeader}
use Rattle.bridge_jobs.specs.declared.round.Round.{Round}
use Rattle.bridge_jobs.specs.{declared.frame.FramePos.FramePos, declared.frame.FrameFault.FrameFault}

-- the most bytes that a header line has, with its LF
abbrev pub most_header : ℕ
most_header = 2_048

-- the most bytes that all bodies of a snapshot have together
abbrev pub most_bodies : ℕ
most_bodies = 67_108_864

-- ---- headers

abbrev pub part_or_all : List ℕ → Option (List ℕ × List ℕ) → List ℕ × Option (List ℕ)
part_or_all text None = (text, None)
part_or_all text (Some parts) = (parts.0, Some parts.1)

-- what is before a text's first space, and what is after it, if there is one
abbrev pub first_part : List ℕ → List ℕ × Option (List ℕ)
first_part text = part_or_all text (cut_at_space text)

abbrev pub within_room : ℕ → ℕ → Option ℕ
within_room room length = if nat_le length room then Some length else None

-- a length that is at most `room`, and what follows it
unfoldable pub next_length : (room : ℕ) → Option (List ℕ) → Option (ℕ × Option (List ℕ))
next_length room None = None
next_length room (Some text) = do
  length ← length_of (first_part text).0
  small ← within_room room length
  Some (small, (first_part text).1)

abbrev pub none_left : Option (List ℕ) → Option (List ℕ)
none_left None = Some []
none_left (Some text) = None

-- one length per track, separated by one space, at most `room` together
unfoldable pub lengths_of : (tracks room : ℕ) → Option (List ℕ) → Option (List ℕ)
lengths_of zero room rest = none_left rest
lengths_of (suc tracks) room rest = next_length room rest >>= (λ x. option_map (λ lengths. x.0 ∷ lengths)
    (lengths_of tracks (room - x.0) x.1))

-- `<instant> <length> ..`
unfoldable pub timed_lengths : (tracks : ℕ) → List ℕ → Option RoundHeader
timed_lengths tracks text = do
  now ← instant_in (first_part text).0
  lengths ← lengths_of tracks most_bodies (first_part text).1
  Some (record { now = now; lengths = lengths })

abbrev pub header_by : (tracks : ℕ) → List ℕ → List ℕ → Option RoundHeader
header_by tracks word text = if bytes_eq word (codes "round") then timed_lengths tracks text else None

-- a header line without its LF: `round <instant> <length> ..`, with a length for each track, which is 1 to 7 digits and at most
-- 8,388,608, and all together at most 67,108,864
unfoldable pub header_of : (tracks : ℕ) → List ℕ → Option RoundHeader
header_of tracks line = do
  parts ← cut_at_space line
  header_by tracks parts.0 parts.1

-- ---- bodies

-- bodies, the position after them, and the bytes from there on
abbrev pub Bodies : Type 0
Bodies = List (List ℕ) × Place × List ℕ

-- with some bodies before them
abbrev pub after_bodies : List (List ℕ) → Result Bodies FrameFault → Result Bodies FrameFault
after_bodies front (Ok x) = Ok (front ++ x.0, x.1, x.2)
after_bodies front (Err e) = Err e

abbrev pub and_bodies : (Place → List ℕ → Result Bodies FrameFault) → Result (List ℕ × Place × List ℕ) FrameFault → Result Bodies FrameFault
and_bodies more (Ok x) = after_bodies (x.0 ∷ []) (more x.1 x.2)
and_bodies more (Err e) = Err e

-- bodies of these lengths one after another, where the first begins at a position
unfoldable pub bodies_of : Place → (lengths : List ℕ) → List ℕ → Result Bodies FrameFault
bodies_of place [] bytes = Ok ([], place, bytes)
bodies_of place (size ∷ lengths) bytes = and_bodies (λ after rest. bodies_of after lengths rest) (piece_of place size bytes)

-- ---- snapshots

-- a snapshot, where the next one begins, and the bytes from there on
pub record Rounded : Type 0 where
  pub round : Round
  pub after : FramePos
  pub rest : List ℕ

abbrev pub rounded_as : Round → FramePos → List ℕ → Rounded
rounded_as round at rest = record { round = round; after = at; rest = rest }

-- one snapshot more
abbrev pub counted : (frames : ℕ) → (now : ℤ) → Result Bodies FrameFault → Result Rounded FrameFault
counted frames now (Ok x) = Ok (rounded_as (record { now = now; bodies = x.0 }) (record { place = x.1; frames = frames + 1 }) x.2)
counted frames now (Err e) = Err e

abbrev pub rounded_if : FramePos → List ℕ → List ℕ → Result RoundHeader FrameFault → Result Rounded FrameFault
rounded_if at line bytes (Ok header) = counted at.frames header.now (bodies_of (behind at.place line) header.lengths bytes)
rounded_if at line bytes (Err e) = Err e

-- the snapshot of a line and the bytes after it
unfoldable pub round_by_line : (tracks : ℕ) → FramePos → List ℕ → List ℕ → Result Rounded FrameFault
round_by_line tracks at line bytes = rounded_if at line bytes (header_at most_header (header_of tracks) at.place line)

-- the snapshot that bytes begin with; `None` where there are no bytes; snapshots are counted, and rejected, as update
-- frames are
unfoldable pub next_round : (tracks : ℕ) → FramePos → List ℕ → Result (Option Rounded) FrameFault
next_round tracks at bytes = by_next (round_by_line tracks at) (next_line most_header at bytes)

-- how many bytes are asked for after a snapshot's line
unfoldable pub bodies_size : (tracks : ℕ) → FramePos → (line : List ℕ) → ℕ
bodies_size tracks at line = announced (λ (header : RoundHeader). sum header.lengths)
    (header_at most_header (header_of tracks) at.place line)

-- How many bytes are asked for the next snapshot: its line and its bodies, or only the line where that is rejected; at the end of the
-- stream one.
unfoldable pub round_size : (tracks : ℕ) → FramePos → List ℕ → ℕ
round_size tracks at bytes = line_size most_header bytes + of_next (bodies_size tracks at) (next_line most_header at bytes)

-- ---- the whole stream

-- the snapshots of a stream, why it ends where it isn't whole, and how many bytes are asked for each snapshot, and at last for its end
abbrev pub RoundStream : Type 0
RoundStream = List Round × Option FrameFault × List ℕ

abbrev pub rounds_by : (size : ℕ) → (Rounded → RoundStream) → Result (Option Rounded) FrameFault → RoundStream
rounds_by size more (Ok None) = ([], None, size ∷ [])
rounds_by size more (Ok (Some rounded)) = (rounded.round ∷ (more rounded).0, (more rounded).1, size ∷ (more rounded).2)
rounds_by size more (Err e) = ([], Some e, size ∷ [])

-- the snapshots of bytes that begin at a position; each takes one of a number of steps
unfoldable pub rounds_within : ℕ → (tracks : ℕ) → FramePos → List ℕ → RoundStream
rounds_within zero tracks at bytes = ([], None, [])
rounds_within (suc most) tracks at bytes = rounds_by (round_size tracks at bytes)
    (λ rounded. rounds_within most tracks rounded.after rounded.rest)
    (next_round tracks at bytes)

abbrev pub rounds_from : (tracks : ℕ) → FramePos → List ℕ → RoundStream
rounds_from tracks at bytes = rounds_within (suc (length bytes)) tracks at bytes
