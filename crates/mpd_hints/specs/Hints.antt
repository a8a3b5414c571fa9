-- What an MPD says of its tracks for players: ISO/IEC 23009-1, 5.3 and 5.8. What is dropped from its presentation says nothing.
use Rattle.mpd_tree.specs.Trees.{Element}
use Rattle.mpd_rules.specs.Kept.{periods_of}
use Rattle.track_hints.specs.declared.hints.Hints.{Hints}
use Rattle.mpd_hints.specs.{declared.starts.Sap.Sap, Captions.has_captions}
use Rattle.mpd_hints.specs.{Starts.{asked_of, is_independent}, Tracks.{in_order, told_in_first}}

-- of each track, by the kept Representations of the first Period, and of the whole
unfoldable pub hints_of : Sap → (mpd : Element) → Hints
hints_of sap mpd = record {
  tracks = in_order (told_in_first (periods_of mpd));
  independent = is_independent (asked_of sap (told_in_first (periods_of mpd))) mpd;
  captions = has_captions mpd;
}
