use Rattle.std.proofs.Common.{length}
use denote.Shadow.{shadow}
use denote.Text.{Utf8}
use Rattle.hls_lines.specs.Pairs.{pairs_of}
use Rattle.hls_lines.proofs.AttributeLemmas.{GoesOn}
use Rattle.hls_lines.proofs.attributes.read_pairs.Given as goal

abbrev pub invariant-loop-found : goal.invariant-loop-found
invariant-loop-found l = shadow (Utf8 l.rest) × GoesOn l.fn.text (pairs_of l.pairs.items) l.rest

abbrev pub decreases-loop-found : goal.decreases-loop-found
decreases-loop-found l = length l.rest
