-- Which tracks can be written.
use Rattle.std.specs.Prelude.{◌≡◌, All, length}
use Rattle.iso_time.specs.Instant.{IsWritable}
use Rattle.live_meaning.specs.{Segments.Kept, States.Track}
use Rattle.live_judge.specs.{declared.track.LiveTrack.LiveTrack, Shown.track_shown}

abbrev pub IsDated : Kept → Type 0
IsDated k = IsWritable k.segment.value.date

abbrev pub AreDated : Track → Type 0
AreDated track = All IsDated track.kept

-- its two rings are parallel, and each segment's date can be written
pub record IsWritten (track : LiveTrack) : Type 0 where
  pub paired : length track.items.items ≡ length track.facts.items
  pub dates : AreDated (track_shown track)
