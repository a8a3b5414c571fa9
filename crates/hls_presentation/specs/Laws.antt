-- Which playlists are rejected.
use Rattle.std.specs.Prelude.{◌≡◌, ◌≤◌, List, length, sum_by, All, Ok, Err}
use Rattle.bridge_io.specs.Firsts.{first_fault}
use Rattle.hls_master.specs.declared.track.MasterTrack.{MasterTrack}
use Rattle.hls_media.specs.{Laws.IsBounded, declared.media.Media.Media}
use Rattle.presentation.specs.{Counting.{counted, count_of_all}, Presented.Presented}
use Rattle.hls_presentation.specs.Presenting.{faults_in, hls_presented_of}
use Rattle.layer_faults.specs.declared.hls.HlsFault.{HlsFault}

-- Playlists that were read are rejected only for the faults of tracks and of the whole; their segments always have valid
-- times.
abbrev pub OnlyFaultsAreRefused : Type 0
OnlyFaultsAreRefused = (tracks : List MasterTrack) (medias : List Media) (fault : HlsFault) → All IsBounded medias
    → hls_presented_of tracks medias ≡ Err fault → first_fault (faults_in tracks medias) ≡ Err fault

-- For playlists that were read, with at most 500,000 segments in all, `count` succeeds.
abbrev pub PlaylistsAreCounted : Type 0
PlaylistsAreCounted = (tracks : List MasterTrack) (medias : List Media) (p : Presented) → All IsBounded medias
    → sum_by (λ media. length media.segments) medias ≤ 500_000
    → hls_presented_of tracks medias ≡ Ok p → counted p ≡ Ok (count_of_all p)
