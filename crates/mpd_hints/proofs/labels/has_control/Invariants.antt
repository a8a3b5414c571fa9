use Rattle.mpd_hints.proofs.labels.has_control.Given as goal
use Rattle.std.proofs.Common.{◌≡◌, ◌+◌, length}
use Rattle.track_hints.specs.Labels.{has_control}

abbrev pub invariant-loop : goal.invariant-loop
invariant-loop l = record { left : length l.rest + l.counter ≡ length l.text; so_far : has_control l.rest ≡ has_control l.text }
