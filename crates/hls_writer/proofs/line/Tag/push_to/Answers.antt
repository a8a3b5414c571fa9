use Rattle.std.proofs.Common.{append_assoc}
use Rattle.hls_writer.specs.Lines.{line_bytes}
use Rattle.hls_writer.proofs.line.Tag.push_to.Goals as goal

pub returns-in-Version : goal.returns-in-Version
unfolding line_bytes
returns-in-Version g c = rw c.in-Version.is c.push_numbered.ensures

pub returns-in-IndependentSegments : goal.returns-in-IndependentSegments
unfolding line_bytes
returns-in-IndependentSegments g c = rw c.in-IndependentSegments.is c.push_pieces-in-IndependentSegments.ensures

pub returns-in-TargetDuration : goal.returns-in-TargetDuration
unfolding line_bytes
returns-in-TargetDuration g c = rw c.in-TargetDuration.is c.push_numbered-in-TargetDuration.ensures

pub returns-in-MediaSequence : goal.returns-in-MediaSequence
unfolding line_bytes
returns-in-MediaSequence g c = rw c.in-MediaSequence.is c.push_numbered-in-MediaSequence.ensures

pub returns-in-DiscontinuitySequence : goal.returns-in-DiscontinuitySequence
unfolding line_bytes
returns-in-DiscontinuitySequence g c = rw c.in-DiscontinuitySequence.is c.push_numbered-in-DiscontinuitySequence.ensures

pub returns-in-OnDemand : goal.returns-in-OnDemand
unfolding line_bytes
returns-in-OnDemand g c = rw c.in-OnDemand.is c.push_pieces-in-OnDemand.ensures

pub returns-in-Discontinuity : goal.returns-in-Discontinuity
unfolding line_bytes
returns-in-Discontinuity g c = rw c.in-Discontinuity.is c.push_pieces-in-Discontinuity.ensures

pub returns-in-Map : goal.returns-in-Map
unfolding line_bytes
returns-in-Map g c = rw c.in-Map.is c.push_map.ensures

pub returns-in-ProgramDateTime : goal.returns-in-ProgramDateTime
unfolding line_bytes
returns-in-ProgramDateTime g c = rw (c.in-ProgramDateTime.is, ← c.write_instant_ms.ensures.text) c.push_pieces-in-ProgramDateTime.ensures

pub returns-in-ByteRange : goal.returns-in-ByteRange
unfolding line_bytes
returns-in-ByteRange g c = rw c.in-ByteRange.is (simp append_assoc c.push_pieces-in-ByteRange.ensures)

pub returns-in-EndList : goal.returns-in-EndList
unfolding line_bytes
returns-in-EndList g c = rw c.in-EndList.is c.push_pieces-in-EndList.ensures
