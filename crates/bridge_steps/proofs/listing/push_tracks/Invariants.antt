use Rattle.std.proofs.Common.{◌≡◌, ◌++◌, flat_map, length}
use Rattle.std.specs.String.{string_bytes}
use Rattle.presentation.specs.Counting.{tracks_of}
use Rattle.presentation.proofs.Counts.{from_on}
use Rattle.bridge_steps.specs.Listing.{track_lines}
use Rattle.bridge_steps.proofs.listing.push_tracks.Given as goal

abbrev pub invariant-loop-track : goal.invariant-loop-track
invariant-loop-track l = let text = track_lines l.digits l.presentation in
    string_bytes l.lines ++ flat_map text (from_on l.track (length l.presentation.tracks))
    ≡ string_bytes l.fn.lines ++ flat_map text (tracks_of l.presentation)
