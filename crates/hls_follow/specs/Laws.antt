-- What stays true from one accepted snapshot to the next.
use Rattle.std.specs.Prelude.{◌≡◌, ℕ, ◌+◌, ◌<◌, ◌≤◌, List, All, length, slice_get, Option, Some, Ok, ℤ}
use Rattle.hls_master.specs.declared.track.MasterTrack.{MasterTrack}
use Rattle.hls_media.specs.{declared.media.Media.Media, declared.media.MediaSegment.MediaSegment}
use Rattle.reload_law.specs.Rules.{end_of}
use Rattle.dash_writer.specs.declared.live.LivePeriod.{LivePeriod}
use Rattle.hls_follow.specs.{declared.periods.Extent.Extent, declared.state.Followed.Followed, declared.state.FollowedTrack.FollowedTrack}
use Rattle.hls_follow.specs.{Kept.formers_of, Periods.known_in, Rounds.followed_of, Times.former_time}

-- A snapshot was accepted after others.
pub record Follows (old new : Followed) : Type 0 where
  pub tracks : List MasterTrack
  pub now : ℤ
  pub medias : List Media
  pub accepted : followed_of tracks (Some old) now medias ≡ Ok new

-- A track's last playlist lists a segment with this number.
pub record Lists (track : FollowedTrack) (number : ℕ) : Type 0 where
  pub from : track.media.sequence ≤ number
  pub before : number < end_of track.media

-- a track has these playlists one after the other
pub record IsTrack (old new : Followed) (a b : FollowedTrack) : Type 0 where
  pub place : ℕ
  pub in_old : slice_get old.tracks place ≡ Some a
  pub in_new : slice_get new.tracks place ≡ Some b

-- a sequence number that is listed again keeps its time
abbrev pub NumbersKeepTheirTimes : Type 0
NumbersKeepTheirTimes = (old new : Followed) (a b : FollowedTrack) (number time : ℕ) → Follows old new → IsTrack old new a b
    → Lists b number
    → former_time (Some a) number ≡ Some time → former_time (Some b) number ≡ Some time

-- a section that is listed again keeps its start
abbrev pub SectionsKeepTheirStarts : Type 0
SectionsKeepTheirStarts = (old new : Followed) → Follows old new
    → All (λ (period : LivePeriod). (known : Extent) → known_in period.number old.mpd.periods ≡ Some known → period.start
    ≡ known.start) new.mpd.periods

-- the presentation keeps its start
abbrev pub StartsStay : Type 0
StartsStay = (old new : Followed) → Follows old new → new.mpd.start ≡ old.mpd.start

-- A track's times are those of its segments, each of which begins where the one before it in its section ends.
pub record IsContiguous (track : FollowedTrack) : Type 0 where
  pub whole : length track.times ≡ length track.media.segments
  pub ends : (i time : ℕ) (a b : MediaSegment) → slice_get track.media.segments i ≡ Some a → slice_get track.media.segments (i + 1) ≡ Some b
      → a.section ≡ b.section → slice_get track.times i ≡ Some time → slice_get track.times (i + 1) ≡ Some (time + a.duration)

-- The first accepted snapshot has contiguous times, and so has each one after a snapshot with contiguous times.
abbrev pub TimesAreContiguous : Type 0
TimesAreContiguous = (tracks : List MasterTrack) (former : Option Followed) (now : ℤ) (medias : List Media) (new : Followed)
    → followed_of tracks former now medias ≡ Ok new → All IsContiguous (formers_of former) → All IsContiguous new.tracks
