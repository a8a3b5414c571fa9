use Rattle.std.proofs.Common.{◌≡◌, length, count_by}
use Rattle.hls_lines.specs.Lines.{is_uri}
use Rattle.hls_media.specs.Views.{state_of}
use Rattle.hls_media.proofs.Courses.{IsBefore}
use Rattle.hls_media.proofs.reader.read_lines.Given as goal

abbrev pub invariant-loop-line : goal.invariant-loop-line
invariant-loop-line l = (l.uris ≡ count_by is_uri l.lines) × IsBefore l.base l.fn.lines l.lines (state_of l.reader)

abbrev pub decreases-loop-line : goal.decreases-loop-line
decreases-loop-line l = length l.lines
