-- Where presentations come from.
use Rattle.std.specs.Prelude.{◌≡◌, false, List, length, All, None}
use Rattle.bridge_io.specs.declared.media.Kind.TheVariants.{Video}
use Rattle.url_parts.specs.declared.address.Part.{Part}
use Rattle.timeline.specs.{declared.names.Names.TheVariants.Addresses, Expansions.{SegmentTimeline, is_open}}
use Rattle.presentation.specs.{declared.parts.Content.Content, declared.track.Track.Track, Presented.{Presented, AreFilled}}

-- segments up to an end, each with a URL of its own
pub record IsAddressed (timeline : SegmentTimeline) : Type 0 where
  pub parts : List Part
  pub named : timeline.names ≡ Addresses parts
  pub ended : is_open timeline.members ≡ false
  pub paired : length timeline.members ≡ length parts

-- a playlist can't give a video track's language
abbrev pub IsSilent : Track → Type 0
IsSilent track = track.kind ≡ Video → track.language ≡ None

-- from playlists (RFC 8216, 4.3)
pub record CameFromPlaylists (p : Presented) : Type 0 where
  pub finished : p.following ≡ None
  pub filled : AreFilled (length p.sections) (length p.tracks) (length p.contents)
  pub addressed : All (λ (content : Content). IsAddressed content.runs) p.contents
  pub silent : All IsSilent p.tracks
