-- An MPD that is written for playlists.
use Rattle.std.specs.Prelude.{◌≡◌, ◌<◌, ℕ, ℤ, true, List, map, All, Option, Some, Ok, IfSome}
use Rattle.url_parts.specs.{Addresses.IsAddress, declared.address.Part.Part}
use Rattle.hls_master.specs.{declared.track.MasterTrack.MasterTrack, Masters.master_of, SeenTracks.track_seen, Tracks.TrackValue}
use Rattle.hls_media.specs.{Laws.IsBounded, Media.media_of, declared.media.Media.Media, declared.media.MediaSegment.MediaSegment}
use Rattle.hls_presentation.specs.Presenting.{hls_presented_of}
use Rattle.presentation.specs.{Presented.Presented, Meanings.meaning_of}
use Rattle.mpd_presentation.specs.Meanings.{dash_meaning}
use Rattle.segment_forms.specs.declared.form.Form.{Form}
use Rattle.dash_writer.specs.Manifest.{manifest_text}
use Rattle.laws_of_mpds.specs.{Meant.are_in_order, Texts.IsCarried}

-- URLs that resolve to themselves
pub record HasAddresses (s : MediaSegment) : Type 0 where
  pub own : IsAddress s.address
  pub initialization : IfSome s.map (λ (part : Part). IsAddress part.address)

abbrev pub HaveAddresses : Media → Type 0
HaveAddresses media = All HasAddresses media.segments

-- a track that can be written to an MPD
pub record CanBeTold (track : MasterTrack) : Type 0 where
  pub language : IfSome track.language IsCarried
  pub codecs : IfSome track.codecs IsCarried

abbrev pub PlaylistsMeanTheSame : Type 0
PlaylistsMeanTheSame = (form : Form) (tracks : List MasterTrack) (medias : List Media) (p : Presented) (url : List ℕ) (now : Option ℤ)
    → All IsBounded medias → All HaveAddresses medias → are_in_order (map (λ (track : MasterTrack). track.kind) tracks) ≡ true
    → All CanBeTold tracks
    → hls_presented_of tracks medias ≡ Ok p → dash_meaning (manifest_text form p) url now ≡ Some (meaning_of p)

-- the tracks of a master playlist that was read are in order
abbrev pub ReadAreInOrder : Type 0
ReadAreInOrder = (bytes url : List ℕ) (tracks : List MasterTrack) → master_of bytes url ≡ Ok (map track_seen tracks)
    → are_in_order (map (λ (track : MasterTrack). track.kind) tracks) ≡ true

-- and can be written to an MPD
abbrev pub ReadCanBeTold : Type 0
ReadCanBeTold = (bytes url : List ℕ) (tracks : List MasterTrack) → master_of bytes url ≡ Ok (map track_seen tracks) → All CanBeTold tracks

-- for the presentation of a master playlist that was read and of playlists with the bounds of those that were read
abbrev pub ReadMeanTheSame : Type 0
ReadMeanTheSame = (form : Form) (bytes master : List ℕ) (tracks : List MasterTrack) (medias : List Media) (p : Presented)
    (url : List ℕ) (now : Option ℤ)
    → master_of bytes master ≡ Ok (map track_seen tracks) → All IsBounded medias → All HaveAddresses medias
    → hls_presented_of tracks medias ≡ Ok p → dash_meaning (manifest_text form p) url now ≡ Some (meaning_of p)

-- segments of playlists that were read, with a URL of bytes, have URLs
abbrev pub ReadHaveAddresses : Type 0
ReadHaveAddresses = (bytes url : List ℕ) (media : Media) → All (λ b. b < 256) url → media_of bytes url ≡ Ok media → HaveAddresses media

-- and the URLs of the media playlists of a master playlist that has a URL are like that
abbrev pub TracksAreOfBytes : Type 0
TracksAreOfBytes = (bytes url : List ℕ) (seen : List TrackValue) → IsAddress url → master_of bytes url ≡ Ok seen
    → All (λ (track : TrackValue). All (λ b. b < 256) track.address) seen

-- frame rates of a master playlist that was read are fractions
abbrev pub ReadHaveRates : Type 0
ReadHaveRates = (bytes url : List ℕ) (seen : List TrackValue) → master_of bytes url ≡ Ok seen
    → All (λ (track : TrackValue). IfSome track.frame_rate (λ rate. 0 < rate.1)) seen
