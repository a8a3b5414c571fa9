-- What holds for a master playlist's tracks.
use Rattle.std.specs.Prelude.{◌≡◌, ℕ, List, map, All, None, Ok}
use Rattle.bridge_io.specs.declared.media.Kind.TheVariants.{Video}
use Rattle.hls_master.specs.{declared.track.MasterTrack.MasterTrack, Masters.master_of, SeenTracks.track_seen}

-- a master playlist can't give a video track's language (RFC 8216 4.3.4.2)
abbrev pub IsSilentTrack : MasterTrack → Type 0
IsSilentTrack track = track.kind ≡ Video → track.language ≡ None

-- this holds for the tracks of a master playlist that was read
abbrev pub ReadAreSilent : Type 0
ReadAreSilent = (bytes url : List ℕ) (tracks : List MasterTrack) → master_of bytes url ≡ Ok (map track_seen tracks)
    → All IsSilentTrack tracks
