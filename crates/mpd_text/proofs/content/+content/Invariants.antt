use Rattle.mpd_text.proofs.content.+content.Given as goal
use Rattle.std.proofs.Common.{◌+◌, ◌*◌, ◌-◌}
use Rattle.std.specs.String.{string_bytes}
use Rattle.mpd_text.proofs.ContentLoop.{IsSoFar}

abbrev pub decreases-content_of : goal.decreases-content_of
decreases-content_of l = 3 * l.room + 1

abbrev pub decreases-inside_of : goal.decreases-inside_of
decreases-inside_of l = 3 * l.begun.room + 2

abbrev pub decreases-next_content : goal.decreases-next_content
decreases-next_content l = 3 * l.room

abbrev pub invariant-content_of-loop : goal.invariant-content_of-loop
invariant-content_of-loop l = IsSoFar l.room l.name l.bytes l.fn.kept l.kept (string_bytes l.text) (l.end - l.counter) l.rest
