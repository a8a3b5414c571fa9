-- What a written master playlist is read back as (RFC 8216, 4.3.4).
use Rattle.std.specs.Prelude.{◌≡◌, ℕ, ◌+◌, List, [], ◌∷◌, ◌++◌, map, IfSome, Option, Some, None, option_map}
use Rattle.bridge_io.specs.{declared.media.Kind.Kind, declared.media.Kind.TheVariants.{Video, Audio, Text}}
use Rattle.url_parts.specs.Addresses.{folder_of}
use Rattle.hls_master.specs.{Masters.master_values, Tracks.TrackValue}
use Rattle.hls_writer.specs.{Attributes.playlist_name, Lines.lines_text, Master.master_lines}
use Rattle.presentation.specs.declared.track.Track.{Track}
use Rattle.track_hints.specs.{Labels.AreFit, declared.hints.Hints.Hints}
use Rattle.laws_of_playlists.specs.Tracks.{AreWritable}

-- a track's kind and language, and the URL of its playlist
pub record Head : Type 0 where
  pub kind : Kind
  pub language : Option (List ℕ)
  pub address : List ℕ

abbrev pub head_of : TrackValue → Head
head_of track = record { kind = track.kind; language = track.language; address = track.address }

-- the language of audio and text
abbrev pub told_language : Kind → Option (List ℕ) → Option (List ℕ)
told_language Video language = None
told_language Audio language = language
told_language Text language = language

abbrev pub head_at : (folder : List ℕ) → ℕ → Track → Head
head_at folder place track = record {
  kind = track.kind;
  language = told_language track.kind track.language;
  address = folder ++ playlist_name place;
}

-- the heads of tracks, given the index of the first one
abbrev pub heads_from : (folder : List ℕ) → ℕ → List Track → List Head
heads_from folder place [] = []
heads_from folder place (track ∷ later) = head_at folder place track ∷ heads_from folder (place + 1) later

-- ---- what is told for players

-- where anything is, its labels can be names
abbrev pub IsFitFor : Option Hints → Type 0
IsFitFor players = IfSome players AreFit

-- ---- the law

-- A master playlist is read back as the tracks for which it was written, in order, each with its kind, its language and the
-- name of its playlist beside the master.
abbrev pub MasterIsRead : Type 0
MasterIsRead = (players : Option Hints) (tracks : List Track) (url : List ℕ) → IsFitFor players → AreWritable tracks
    → option_map (λ values. map head_of values) (master_values (lines_text (master_lines players tracks)) url)
    ≡ Some (heads_from (folder_of url) 0 tracks)
