use Rattle.std.proofs.Common.{◌≡◌, ◌++◌, drop}
use Rattle.std.specs.String.{string_bytes}
use Rattle.bridge_compare.specs.Lines.{track_lines}
use Rattle.bridge_compare.proofs.lines.push_tracks.Given as goal

abbrev pub invariant-loop-track : goal.invariant-loop-track
invariant-loop-track l = string_bytes l.text ++ track_lines l.track (drop l.track l.greatest)
    ≡ string_bytes l.fn.text ++ track_lines 0 l.greatest
