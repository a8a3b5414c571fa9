use Rattle.std.proofs.Common.{take, Ok}
use Rattle.bridge_io.specs.Adding.{Adds}
use Rattle.hls_writer.proofs.Listing.{codes_after}
use Rattle.hls_writer.proofs.attribute.push_further_codes.Given as goal

-- the codes so far are added
abbrev pub invariant-loop-code : goal.invariant-loop-code
invariant-loop-code g l =
    Adds {T = Unit {0}} g.F.Store (codes_after (take l.code-index l.codes)) l.initial.sheet l.sheet (Ok tt)
