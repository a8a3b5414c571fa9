-- The code's tracks as those of the definitions.
use Rattle.hls_presentation.specs.{declared.kept.Source.Source as Kept, Tracks.Source}

abbrev pub source_of : Kept → Source
source_of s = record { track = s.track.now; media = s.media.now }
