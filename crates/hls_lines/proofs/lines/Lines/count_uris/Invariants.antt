use Rattle.hls_lines.proofs.lines.Lines.count_uris.Given as goal
use Rattle.std.proofs.Common.{◌≡◌, ◌+◌, ◌≤◌, ◌^◌, length, count_by}
use denote.Shadow.{shadow}
use denote.Text.{Utf8}
use Rattle.hls_lines.specs.{Bounds.HasRoom, Lines.{is_uri, text_lines}}

abbrev pub invariant-loop-rest : goal.invariant-loop-rest
invariant-loop-rest l = shadow (Utf8 l.rest)
    × (l.count + count_by is_uri (text_lines l.place l.rest) ≡ count_by is_uri l.fn.self)
    × HasRoom l.place (length l.rest)
    × (count_by is_uri l.fn.self ≤ 2 ^ 63)

abbrev pub decreases-loop-rest : goal.decreases-loop-rest
decreases-loop-rest l = length l.rest
