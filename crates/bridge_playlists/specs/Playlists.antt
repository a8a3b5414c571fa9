-- A master playlist with the media playlists that it mentions, and their presentation.
use Rattle.bridge_report.specs.declared.refusal.Refusal.TheVariants as refusal
use Rattle.std.specs.Prelude.{◌≡◌, ◌≤◌, ℕ, ◌+◌, nat_lt, true, List, [], ◌∷◌, ◌++◌, length, map, sum_by, All, if◌then◌else◌, Option, Some, None}
use Rattle.std.specs.Prelude.{option_map, Result, Ok, Err}
use Rattle.bridge_io.specs.{Answer.{and_then, told_as}, Outside.Files}
use Rattle.url_parts.specs.Addresses.{local_name_of}
use Rattle.hls_media.specs.{Laws.IsBounded, declared.media.Media.Media}
use Rattle.hls_master.specs.{declared.fault.MasterFault.MasterFault, declared.track.MasterTrack.MasterTrack, Tracks.TrackValue}
use Rattle.hls_master.specs.Masters.{master_of}
use Rattle.hls_presentation.specs.Presenting.{hls_presented_of}
use Rattle.presentation.specs.{Presented.Presented, Ratios.rate_of}
use Rattle.bridge_report.specs.Reading.{Named, content_of, media_at, of_file}
use Rattle.bridge_playlists.specs.{declared.medias.Medias.Medias, declared.place.StorePlace.StorePlace}

-- ---- the master playlist

-- a track as it is stored
abbrev pub track_kept : TrackValue → MasterTrack
track_kept t = record {
  kind = t.kind;
  set = t.set;
  address = t.address;
  language = t.language;
  codecs = t.codecs;
  bandwidth = t.bandwidth;
  size = t.size;
  frame_rate = option_map rate_of t.frame_rate;
}

-- the tracks of a master playlist, or its first fault
abbrev pub tracks_of : (bytes url : List ℕ) → Result (List MasterTrack) MasterFault
tracks_of bytes url = and_then (master_of bytes url) (λ tracks. Ok (map track_kept tracks))

unfoldable pub master_in : StorePlace → (bytes : List ℕ) → Result (List MasterTrack) Named
master_in place bytes = of_file place.file (told_as refusal.Master (tracks_of bytes place.url))

-- the master playlist at a location
unfoldable pub master_at : StorePlace → Files → Result (List MasterTrack) Named
master_at place files = and_then (content_of place.file files) (master_in place)

-- ---- the media playlists

-- the playlists that are read so far, and how many segments they have in all
abbrev pub none_read : Medias
none_read = record { files = []; segments = 0 }

abbrev pub with_media : Medias → Media → Medias
with_media medias media = record { files = medias.files ++ media ∷ []; segments = medias.segments + length media.segments }

-- all playlists together have no more segments than this
abbrev pub segment_limit : ℕ
segment_limit = 500000

abbrev pub within_limit : StorePlace → Medias → Result Medias Named
within_limit place medias = if nat_lt segment_limit medias.segments then Err (place.file, refusal.TooManySegments) else Ok medias

-- the playlist of a file name, where the URL gives one under the folder
abbrev pub media_named : StorePlace → Files → (address : List ℕ) → Option (List ℕ) → Result Media Named
media_named place files address None = Err (place.file, refusal.OutsideBase)
media_named place files address (Some file) = media_at file address files

-- the playlist at a URL, which is a file under the folder
unfoldable pub media_under : StorePlace → Files → (address : List ℕ) → Result Media Named
media_under place files address = media_named place files address (local_name_of place.folder address)

-- one more playlist
unfoldable pub medias_with : StorePlace → Files → Medias → MasterTrack → Result Medias Named
medias_with place files medias track = and_then (media_under place files track.address)
    (λ media. within_limit place (with_media medias media))

-- those of some tracks, one after another
abbrev pub medias_of : StorePlace → Files → Medias → List MasterTrack → Result Medias Named
medias_of place files medias [] = Ok medias
medias_of place files medias (track ∷ tracks) = and_then (medias_with place files medias track) (λ next. medias_of place files next tracks)

-- ---- the presentation

unfoldable pub presented_by : StorePlace → List MasterTrack → List Media → Result Presented Named
presented_by place tracks medias = of_file place.file (told_as refusal.Hls (hls_presented_of tracks medias))

-- the presentation of a master playlist's tracks, with their playlists in these files
unfoldable pub presented_with : StorePlace → Files → List MasterTrack → Result Presented Named
presented_with place files tracks = and_then (medias_of place files none_read tracks) (λ medias. presented_by place tracks medias.files)

-- the presentation of these bytes as a master playlist
abbrev pub presented_in : StorePlace → Files → (bytes : List ℕ) → Result Presented Named
presented_in place files bytes = and_then (master_in place bytes) (presented_with place files)

-- the presentation of the master playlist at a location, or the first error
unfoldable pub presented_at : StorePlace → Files → Result Presented Named
presented_at place files = and_then (content_of place.file files) (presented_in place files)

-- ---- the presentation of playlists that may be live

-- a playlist as if it were ended
abbrev pub ended : Media → Media
ended media = record media { ended = true }

abbrev pub all_ended : Medias → Medias
all_ended medias = record { files = map ended medias.files; segments = medias.segments }

-- the presentation of what the playlists list
unfoldable pub listed_with : StorePlace → Files → List MasterTrack → Result Presented Named
listed_with place files tracks =
    and_then (medias_of place files none_read tracks) (λ medias. presented_by place tracks (all_ended medias).files)

abbrev pub listed_in : StorePlace → Files → (bytes : List ℕ) → Result Presented Named
listed_in place files bytes = and_then (master_in place bytes) (listed_with place files)

-- of the master playlist at a location, each of whose playlists is taken as if it were ended, or the first error
unfoldable pub presented_so_far : StorePlace → Files → Result Presented Named
presented_so_far place files = and_then (content_of place.file files) (listed_in place files)

-- The playlists are bounded, and have no more segments than the limit.
pub record AreCounted (medias : Medias) : Type 0 where
  pub bounded : All IsBounded medias.files
  pub sum : medias.segments ≡ sum_by (λ media. length media.segments) medias.files
  pub few : medias.segments ≤ segment_limit
