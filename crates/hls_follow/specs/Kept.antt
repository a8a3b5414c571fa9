-- Which tracks are kept, and their state after the last accepted snapshot.
use Rattle.std.specs.Prelude.{◌<◌, ◌^◌, Bool, true, false, List, [], ◌∷◌, map, All, Option, Some, None, if◌then◌else◌}
use Rattle.hls_media.specs.{Laws.IsBounded, declared.media.Media.Media}
use Rattle.hls_presentation.specs.Tracks.{Source, is_kept}
use Rattle.dash_writer.specs.{Live.IsLive, declared.live.LivePeriod.LivePeriod, declared.live.LiveRun.LiveRun}
use Rattle.hls_follow.specs.{declared.state.Followed.Followed, declared.state.FollowedTrack.FollowedTrack}

-- before the first accepted snapshot there are none
abbrev pub formers_of : Option Followed → List FollowedTrack
formers_of None = []
formers_of (Some former) = former.tracks

abbrev pub periods_of : Option Followed → List LivePeriod
periods_of None = []
periods_of (Some former) = former.mpd.periods

-- the first accepted snapshot drops text tracks for good
abbrev pub flags_of : Option Followed → List Source → List Bool
flags_of None sources = map is_kept sources
flags_of (Some former) sources = former.kept

-- the sources that flags keep
abbrev pub kept_by : List Bool → List Source → List Source
kept_by [] sources = []
kept_by (flag ∷ flags) [] = []
kept_by (flag ∷ flags) (s ∷ sources) = if flag then s ∷ kept_by flags sources else kept_by flags sources

-- the last playlists of tracks that flags keep, and none of the others
abbrev pub medias_by : List Bool → List FollowedTrack → List (Option Media)
medias_by [] tracks = []
medias_by (false ∷ flags) tracks = None ∷ medias_by flags tracks
medias_by (true ∷ flags) [] = None ∷ medias_by flags []
medias_by (true ∷ flags) (track ∷ tracks) = Some track.media ∷ medias_by flags tracks

-- the last accepted snapshot's
abbrev pub medias_of : Option Followed → List (Option Media)
medias_of None = []
medias_of (Some former) = medias_by former.kept former.tracks

abbrev pub first_media : List (Option Media) → Option Media
first_media [] = None
first_media (media ∷ medias) = media

-- their playlists are bounded as those that were read
abbrev pub AreBounded : List Source → Type 0
AreBounded sources = All (λ (s : Source). IsBounded s.media) sources

-- ---- invariants

-- a media sequence number that can be checked
abbrev pub IsEarly : FollowedTrack → Type 0
IsEarly track = track.media.sequence < 2 ^ 63

-- at least one tick per second
abbrev pub HasScale : LiveRun → Type 0
HasScale run = 0 < run.scale

abbrev pub HasScales : LivePeriod → Type 0
HasScales period = All HasScale period.runs

-- the state after accepted snapshots
pub record IsSound (f : Followed) : Type 0 where
  pub early : All IsEarly f.tracks
  pub live : IsLive f.mpd
  pub scaled : All HasScales f.mpd.periods
