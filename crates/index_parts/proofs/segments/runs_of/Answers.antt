use Rattle.index_parts.proofs.segments.runs_of.Goals as goal
use Rattle.std.proofs.Common.{subst}
use Rattle.bridge_io.specs.Answer.{Gives}
use Rattle.timeline.specs.{Expansions.SegmentTimeline, Faults.refusal}
use Rattle.index_parts.specs.Segments.{extents_in, parts_in, runs_of, ticks_of}
use Rattle.index_parts.proofs.Laid.{spans_told}

pub returns-clause-runs : goal.returns-clause-runs
unfolding runs_of
returns-clause-runs c =
    let index = c.args.index.now in
    let same = spans_told c.in_ok-spans.spans c.scale_of.result (parts_in c.args.address.now index) (ticks_of index) (extents_in index)
    c.in_ok-spans.ensures c.scale_of.ensures.ticks c.scale_of.ensures.offset c.scale_of.ensures.first in
    subst (λ told. Gives (λ (runs : SegmentTimeline). runs) refusal c.from_list.result told) same
    (rw (c.of_addresses-names.ensures, c.in_ok-parts_of.ensures) at c.from_list.ensures)
