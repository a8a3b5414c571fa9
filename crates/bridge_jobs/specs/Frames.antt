-- Streams of update frames.
use Rattle.bridge_jobs.specs.declared.header.Header.TheVariants as header
use Rattle.bridge_jobs.specs.declared.frame.Frame.TheVariants as frame
use Rattle.bridge_jobs.specs.declared.frame.FrameFault.TheVariants as fault
use Rattle.std.specs.Prelude.{◌≡◌, ℕ, ℤ, ◌+◌, ◌-◌, ◌*◌, ◌^◌, ◌<◌, ◌≤◌, ◌==◌, zero, suc, nat_le, List, [], ◌∷◌, length, take, drop, count_by}
use Rattle.std.specs.Prelude.{bytes_eq, if◌then◌else◌, Option, Some, None, IsNone, IfSome, Result, Ok, Err, MatchResult}
use Rattle.bridge_io.specs.declared.place.Place.{Place}
use Rattle.bridge_jobs.specs.{Headers.{header_of, body_length}, declared.header.Header.Header, declared.frame.Frame.Frame}
use Rattle.bridge_jobs.specs.{declared.frame.FramePos.FramePos, declared.frame.FrameFault.FrameFault}

-- an I/O error and out of memory say nothing about the stream
abbrev pub refusal : FrameFault → Option FrameFault
refusal fault.Fault = None
refusal fault.Memory = None
refusal told = Some told

-- the position after some bytes
abbrev pub behind : Place → List ℕ → Place
behind place bytes = record {
  at = place.at + length bytes;
  line = place.line + count_by (λ b. b == 10) bytes;
}

-- the most bytes that a header line has, with its LF
abbrev pub most_header : ℕ
most_header = 64

-- the most frames that a stream has
abbrev pub most_frames : ℕ
most_frames = 10_000_000

-- ---- one frame

-- the prefix of some bytes up to and with the first LF, truncated to a limit
unfoldable pub line_within : ℕ → List ℕ → List ℕ
line_within zero bytes = []
line_within (suc most) [] = []
line_within (suc most) (b ∷ bytes) = if b == 10 then b ∷ [] else b ∷ line_within most bytes

-- the line without its LF, where that is its last byte
abbrev pub without_end : List ℕ → Option (List ℕ)
without_end line =
    if bytes_eq (drop (length line - 1) line) (10 ∷ []) then Some (take (length line - 1) line) else None

-- a complete line that isn't a header is rejected at its first byte
abbrev pub header_or_fault : {H : Type 0} → Place → Option H → Result H FrameFault
header_or_fault place (Some header) = Ok header
header_or_fault place None = Err (fault.Header place)

-- and so is a line that is too long; one that the stream's end truncates is rejected at that end
abbrev pub header_by_line : {H : Type 0} → (most : ℕ) → (read : List ℕ → Option H) → Place → List ℕ → Option (List ℕ) → Result H FrameFault
header_by_line most read place line (Some text) = header_or_fault place (read text)
header_by_line most read place line None =
    if length line == most then Err (fault.Header place) else Err (fault.Cut (behind place line))

-- the header of a line, which has at most `most` bytes with its LF
unfoldable pub header_at : {H : Type 0} → (most : ℕ) → (read : List ℕ → Option H) → Place → List ℕ → Result H FrameFault
header_at most read place line = header_by_line most read place line (without_end line)

-- `size` bytes, the position after them, and the bytes from there on; a stream that ends inside them is rejected at its end
unfoldable pub piece_of : Place → (size : ℕ) → List ℕ → Result (List ℕ × Place × List ℕ) FrameFault
piece_of place size bytes =
    if nat_le size (length bytes) then Ok (take size bytes, behind place (take size bytes), drop size bytes)
    else Err (fault.Cut (behind place bytes))

abbrev pub with_body : Header → List ℕ → Frame
with_body (header.Mpd now length) body = frame.Mpd now body
with_body (header.Reset now length) body = frame.Reset now body
with_body (header.Tick now) body = frame.Tick now

-- the timestamp of a frame
abbrev pub now_of : Frame → ℤ
now_of (frame.Mpd now body) = now
now_of (frame.Reset now body) = now
now_of (frame.Tick now) = now

abbrev pub framed_body : Header → Result (List ℕ × Place × List ℕ) FrameFault → Result (Frame × Place × List ℕ) FrameFault
framed_body header (Ok x) = Ok (with_body header x.0, x.1, x.2)
framed_body header (Err e) = Err e

-- the frame of a header, the position after it, and the bytes from there on, where the body begins at a position
unfoldable pub body_of : Place → Header → List ℕ → Result (Frame × Place × List ℕ) FrameFault
body_of place header bytes = framed_body header (piece_of place (body_length header) bytes)

-- a frame, where the next one begins, and the bytes from there on
pub record Framed : Type 0 where
  pub frame : Frame
  pub after : FramePos
  pub rest : List ℕ

abbrev pub framed_as : Frame → FramePos → List ℕ → Framed
framed_as frame at rest = record { frame = frame; after = at; rest = rest }

-- one frame more
abbrev pub counted : ℕ → Result (Frame × Place × List ℕ) FrameFault → Result Framed FrameFault
counted frames (Ok x) = Ok (framed_as x.0 (record { place = x.1; frames = frames + 1 }) x.2)
counted frames (Err e) = Err e

abbrev pub framed_if : FramePos → List ℕ → List ℕ → Result Header FrameFault → Result Framed FrameFault
framed_if at line bytes (Ok header) = counted at.frames (body_of (behind at.place line) header bytes)
framed_if at line bytes (Err e) = Err e

-- the frame of a line and the bytes after it
unfoldable pub frame_by_line : FramePos → List ℕ → List ℕ → Result Framed FrameFault
frame_by_line at line bytes = framed_if at line bytes (header_at most_header header_of at.place line)

-- the next line, at most `most` bytes, and the bytes after it; `None` where there are no bytes; a byte after the last frame
-- is rejected
unfoldable pub next_line : (most : ℕ) → FramePos → List ℕ → Result (Option (List ℕ) × List ℕ) FrameFault
next_line most at [] = Ok (None, [])
next_line most at (b ∷ bytes) =
    if at.frames == most_frames then Err (fault.TooMany at.place)
    else let line = line_within most (b ∷ bytes) in Ok (Some line, drop (length line) (b ∷ bytes))

abbrev pub some_of : {Y : Type 0} → Result Y FrameFault → Result (Option Y) FrameFault
some_of (Ok y) = Ok (Some y)
some_of (Err e) = Err e

-- what a line and the bytes after it are read as, where there is a line
abbrev pub by_next : {Y : Type 0} → (List ℕ → List ℕ → Result Y FrameFault) → Result (Option (List ℕ) × List ℕ) FrameFault
    → Result (Option Y) FrameFault
by_next read (Ok (None, rest)) = Ok None
by_next read (Ok (Some line, rest)) = some_of (read line rest)
by_next read (Err e) = Err e

-- the frame that bytes begin with; `None` where there are no bytes
unfoldable pub next_frame : FramePos → List ℕ → Result (Option Framed) FrameFault
next_frame at bytes = by_next (frame_by_line at) (next_line most_header at bytes)

-- ---- how much is read

-- how many bytes are asked for a line, up to and with its LF: at most `most`, and one more than there are where these end before it
unfoldable pub line_size : (most : ℕ) → List ℕ → ℕ
line_size zero bytes = 0
line_size (suc most) [] = 1
line_size (suc most) (b ∷ bytes) = if b == 10 then 1 else suc (line_size most bytes)

-- how many bytes a header announces, and none where it is rejected
abbrev pub announced : {H : Type 0} → (length : H → ℕ) → Result H FrameFault → ℕ
announced length (Ok header) = length header
announced length (Err e) = 0

-- of the next line, where there is one
abbrev pub of_next : (List ℕ → ℕ) → Result (Option (List ℕ) × List ℕ) FrameFault → ℕ
of_next size (Ok (Some line, rest)) = size line
of_next size (Ok (None, rest)) = 0
of_next size (Err e) = 0

-- how many bytes are asked for after a frame's line
unfoldable pub body_size : FramePos → (line : List ℕ) → ℕ
body_size at line = announced body_length (header_at most_header header_of at.place line)

-- How many bytes are asked for the next frame: its line and its body, or only the line where that is rejected; at the end of the
-- stream one.
unfoldable pub frame_size : FramePos → List ℕ → ℕ
frame_size at bytes = line_size most_header bytes + of_next (body_size at) (next_line most_header at bytes)

-- ---- the whole stream

-- the frames of a stream, why it ends where it isn't whole, and how many bytes are asked for each frame, and at last for its end
pub record Stream : Type 0 where
  pub frames : List Frame
  pub fault : Option FrameFault
  pub taken : List ℕ

abbrev pub with_frame : Frame → (size : ℕ) → Stream → Stream
with_frame frame size stream = record stream { frames = frame ∷ stream.frames; taken = size ∷ stream.taken }

abbrev pub stream_by : (size : ℕ) → (Framed → Stream) → Result (Option Framed) FrameFault → Stream
stream_by size more (Ok None) = record { frames = []; fault = None; taken = size ∷ [] }
stream_by size more (Ok (Some framed)) = with_frame framed.frame size (more framed)
stream_by size more (Err e) = record { frames = []; fault = Some e; taken = size ∷ [] }

-- the frames of bytes that begin at a position; each takes one of a number of steps
unfoldable pub frames_within : ℕ → FramePos → List ℕ → Stream
frames_within zero at bytes = record { frames = []; fault = None; taken = [] }
frames_within (suc most) at bytes = stream_by (frame_size at bytes) (λ framed. frames_within most framed.after framed.rest)
    (next_frame at bytes)

abbrev pub frames_from : FramePos → List ℕ → Stream
frames_from at bytes = frames_within (suc (length bytes)) at bytes

abbrev pub start : FramePos
start = record { place = record { at = 0; line = 1 }; frames = 0 }

-- the frames of a stream from its first byte
abbrev pub frames_of : List ℕ → Stream
frames_of bytes = frames_from start bytes

-- ---- what a call returns

-- where a next frame may begin: each frame has moved the position by less than 2^27 bytes
pub record IsFramePos (at : FramePos) : Type 0 where
  pub frames : at.frames ≤ most_frames
  pub place : at.place.at ≤ at.frames * 2 ^ 27
  pub line : at.place.line ≤ at.place.at + 1

-- a position that can be advanced past some bytes
pub record IsNear (place : Place) (bytes : List ℕ) : Type 0 where
  pub at : place.at + length bytes < 2 ^ 64
  pub line : place.line + length bytes < 2 ^ 64

-- a position at most `most` bytes after another, and by no more lines than bytes
pub record IsBehind (most : ℕ) (before after : Place) : Type 0 where
  pub at : after.at ≤ before.at + most
  pub line : after.line + before.at ≤ before.line + after.at

-- The call returns what the definition says of the unread bytes, and leaves what follows it unread.
abbrev pub ReadsFrom : {X Y : Type 0} → (X → List ℕ → Y) → Result X FrameFault → Option (List ℕ) → Option (List ℕ)
    → (List ℕ → Result Y FrameFault) → Type 0
ReadsFrom value result before after meaning =
    (bytes : List ℕ) → before ≡ Some bytes → MatchResult result
    (λ x. (rest : List ℕ) × (after ≡ Some rest) × (meaning bytes ≡ Ok (value x rest)))
    (λ e. IfSome (refusal e) (λ f. meaning bytes ≡ Err f))

-- What is unread where a call fails that asks for `size` of some bytes: what follows these where they are rejected; after a failed read
-- fewer were taken, and at most so many where memory ran out.
abbrev pub LeavesAt : FrameFault → (size : ℕ) → (bytes : List ℕ) → (after : Option (List ℕ)) → Type 0
LeavesAt fault.Fault size bytes after = (some : ℕ) × (some < size) × (after ≡ Some (drop some bytes))
LeavesAt fault.Memory size bytes after = (some : ℕ) × (some ≤ size) × (after ≡ Some (drop some bytes))
LeavesAt (fault.Header place) size bytes after = after ≡ Some (drop size bytes)
LeavesAt (fault.Cut place) size bytes after = after ≡ Some (drop size bytes)
LeavesAt (fault.TooMany place) size bytes after = after ≡ Some (drop size bytes)

-- The call leaves what follows `size` bytes, or all read where there are fewer; or what a failed one leaves.
abbrev pub Leaves : {X : Type 0} → Result X FrameFault → (size : ℕ) → (bytes : List ℕ) → (after : Option (List ℕ)) → Type 0
Leaves (Ok x) size bytes after = after ≡ Some (drop size bytes)
Leaves (Err e) size bytes after = LeavesAt e size bytes after

-- the same of a source's unread bytes, of which it asks for so many
abbrev pub LeavesBehind : {X : Type 0} → Result X FrameFault → (size : List ℕ → ℕ) → (before after : Option (List ℕ)) → Type 0
LeavesBehind result size before after = (bytes : List ℕ) → before ≡ Some bytes → Leaves result (size bytes) bytes after

-- no frame was read
abbrev pub IsNoFrame : {X : Type 0} → Result (Option X) FrameFault → Type 0
IsNoFrame (Ok frame) = IsNone frame
IsNoFrame (Err e) = Unit {0}
