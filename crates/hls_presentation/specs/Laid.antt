-- The times in a presentation of playlists.
use Rattle.std.specs.Prelude.{◌≡◌, ℕ, ◌+◌, ◌<◌, List, [], ◌∷◌, length, map, All, Ok}
use Rattle.exact_time.specs.Time.{in_units}
use Rattle.timeline.specs.Expansions.{Closed, Extent, SegmentTimeline}
use Rattle.hls_master.specs.declared.track.MasterTrack.{MasterTrack}
use Rattle.hls_media.specs.declared.media.Media.{Media}
use Rattle.presentation.specs.{declared.parts.Content.Content, declared.track.Section.Section, Presented.Presented}
use Rattle.hls_presentation.specs.Presenting.{hls_presented_of, section_at}

-- consecutive segments with these durations in ticks
abbrev pub in_row : (ticks from : ℕ) → List ℕ → List Extent
in_row ticks from [] = []
in_row ticks from (d ∷ durations) = record { start = in_units ticks from; end = in_units ticks (from + d) }
    ∷ in_row ticks (from + d) durations

-- They begin with the section, with media time equal to time, and there is at least one: each lasts a tick or more.
pub record IsRow (scale : ℕ) (runs : SegmentTimeline) : Type 0 where
  pub durations : List ℕ
  pub some : 0 < length durations
  pub lasting : All (λ d. 0 < d) durations
  pub members : runs.members ≡ map Closed (in_row scale 0 durations)
  pub ticks : runs.ticks ≡ scale
  pub origin : runs.origin ≡ 0
  pub offset : runs.offset ≡ 0

-- consecutive sections of these lengths, from the presentation's start
abbrev pub sections_by : (place start : ℕ) → List ℕ → List Section
sections_by place start [] = []
sections_by place start (n ∷ lengths) = section_at place start n ∷ sections_by (place + 1) (start + n) lengths

-- the times of all tracks are in ticks of one scale
pub record IsLaidOut (p : Presented) : Type 0 where
  pub lengths : List ℕ
  pub sections : p.sections ≡ sections_by 0 0 lengths
  pub ticks : ℕ
  pub rows : All (λ (content : Content). IsRow ticks content.runs) p.contents

-- presentations of playlists are laid out like this
abbrev pub PresentedAreLaidOut : Type 0
PresentedAreLaidOut = (tracks : List MasterTrack) (medias : List Media) (p : Presented) → hls_presented_of tracks medias ≡ Ok p
    → IsLaidOut p
