use Rattle.mpd_hints.proofs.labels.ends_in_number.Given as goal
use Rattle.std.proofs.Common.{◌≡◌, ◌+◌, length}
use Rattle.track_hints.specs.Labels.{ends_in_number}

abbrev pub invariant-loop : goal.invariant-loop
invariant-loop l = record { left : length l.rest + l.counter ≡ length l.text; so_far : ends_in_number l.rest ≡ ends_in_number l.text }
