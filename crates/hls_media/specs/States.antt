-- The state after some lines of a media playlist.
use Rattle.std.specs.Prelude.{ℕ, Bool, false, List, [], Option, None}
use Rattle.bridge_io.specs.declared.place.Place.{Place}
use Rattle.url_parts.specs.declared.address.Part.{Part}
use Rattle.hls_media.specs.declared.media.MediaSegment.{MediaSegment}

pub record State : Type 0 where
  -- the target duration, in seconds
  pub target : Option ℕ
  -- the number of the first segment
  pub sequence : Option ℕ
  -- the number of the first section
  pub first_section : Option ℕ
  -- the discontinuities so far
  pub discontinuities : ℕ
  pub ended : Bool
  -- the duration of the next segment, in nanoseconds
  pub duration : Option ℕ
  -- the byte range of the next segment as it is written, and its position
  pub range : Option (List ℕ × Place)
  pub map : Option Part
  pub segments : List MediaSegment

abbrev pub nothing : State
nothing = record {
  target = None;
  sequence = None;
  first_section = None;
  discontinuities = 0;
  ended = false;
  duration = None;
  range = None;
  map = None;
  segments = [];
}
