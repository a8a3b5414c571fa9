-- Laws of commands and of streams of update frames.
use Rattle.std.specs.{Prelude.{◌≡◌, ℕ, ◌<◌, ◌≤◌, IsTrue, codes, List, ◌∷◌, ◌++◌, take, drop, length, sum, Some, Ok}, Fmt.decimal}
use Rattle.bridge_io.specs.{Names.is_name, Places.place_of}
use Rattle.bridge_jobs.specs.{Jobs.is_folder, Frames.{Framed, frame_size, frames_from, next_frame, stream_by}}
use Rattle.bridge_jobs.specs.{Rounds.{Rounded, next_round, round_size, rounds_by, rounds_from}, declared.frame.FramePos.FramePos}

-- ---- the names of the files that are written

abbrev pub in_folder : List ℕ → List ℕ → List ℕ
in_folder folder file = folder ++ 47 ∷ file

-- `t<track>.m3u8`
abbrev pub playlist_of : ℕ → List ℕ
playlist_of track = 116 ∷ decimal track ++ codes ".m3u8"

-- in a directory that a command accepts, the files that are written have valid names
pub record FoldersHoldFiles (folder : List ℕ) : Type 0 where
  pub playlists : (track : ℕ) → track < 200 → IsTrue (is_name (in_folder folder (playlist_of track)))
  pub master : IsTrue (is_name (in_folder folder (codes "master.m3u8")))
  pub manifest : IsTrue (is_name (in_folder folder (codes "manifest.mpd")))
  pub source : IsTrue (is_name (in_folder folder (codes "source.mpd")))
  pub live : IsTrue (is_name (in_folder folder (codes "live.mpd")))

abbrev pub FoldersHoldTheirFiles : Type 0
FoldersHoldTheirFiles = (folder : List ℕ) → IsTrue (is_folder folder) → FoldersHoldFiles folder

-- ---- streams of update frames, and of snapshots

-- the frames of a stream are its first one and those of what follows it, or its end
abbrev pub FramesFollow : Type 0
FramesFollow =
    (at : FramePos) (bytes : List ℕ) → frames_from at bytes ≡ stream_by (frame_size at bytes)
    (λ framed. frames_from framed.after framed.rest) (next_frame at bytes)

-- and so are the snapshots of a stream of snapshots
abbrev pub RoundsFollow : Type 0
RoundsFollow = (tracks : ℕ) (at : FramePos) (bytes : List ℕ)
    → rounds_from tracks at bytes ≡ rounds_by (round_size tracks at bytes) (λ rounded. rounds_from tracks rounded.after rounded.rest)
    (next_round tracks at bytes)

-- what follows so many bytes, which are all there
abbrev pub IsRestOf : (rest : List ℕ) → (size : ℕ) → (bytes : List ℕ) → Type 0
IsRestOf rest size bytes = (rest ≡ drop size bytes) × (size ≤ length bytes)

-- A frame that is read whole has all bytes that are asked for it, and what follows it follows these; and so it is with a snapshot.
abbrev pub SizesAreOfFrames : Type 0
SizesAreOfFrames = (at : FramePos) (bytes : List ℕ) (framed : Framed) → next_frame at bytes ≡ Ok (Some framed)
    → IsRestOf framed.rest (frame_size at bytes) bytes

abbrev pub SizesAreOfRounds : Type 0
SizesAreOfRounds = (tracks : ℕ) (at : FramePos) (bytes : List ℕ) (rounded : Rounded) → next_round tracks at bytes ≡ Ok (Some rounded)
    → IsRestOf rounded.rest (round_size tracks at bytes) bytes

-- All bytes are there that the first n frames ask for, and what is left when they are read is the stream of the others; and so it is with
-- snapshots.
abbrev pub FramesAreLeft : Type 0
FramesAreLeft = (at : FramePos) (bytes : List ℕ) (n : ℕ) → let stream = frames_from at bytes in n ≤ length stream.frames
    → (later : FramePos) × (frames_from later (drop (sum (take n stream.taken)) bytes)
    ≡ record { frames = drop n stream.frames; fault = stream.fault; taken = drop n stream.taken })
    × (sum (take n stream.taken) ≤ length bytes)

abbrev pub RoundsAreLeft : Type 0
RoundsAreLeft = (tracks : ℕ) (at : FramePos) (bytes : List ℕ) (n : ℕ) → let stream = rounds_from tracks at bytes in n ≤ length stream.0
    → (later : FramePos) × (rounds_from tracks later (drop (sum (take n stream.2)) bytes) ≡ (drop n stream.0, stream.1, drop n stream.2))
    × (sum (take n stream.2) ≤ length bytes)

-- positions are those of bytes in the whole stream
abbrev pub PlacesAreOfTheStream : Type 0
PlacesAreOfTheStream =
    (front bytes : List ℕ) (at : FramePos) (framed : Framed) → at.place ≡ place_of (front ++ bytes) (length front)
    → next_frame at bytes ≡ Ok (Some framed)
    → (piece : List ℕ) × (bytes ≡ piece ++ framed.rest) × (framed.after.place ≡ place_of (front ++ bytes) (length (front ++ piece)))
