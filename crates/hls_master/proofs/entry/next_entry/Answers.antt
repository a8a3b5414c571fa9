use Rattle.std.proofs.Common.{ap}
use Rattle.hls_master.specs.Entries.{entries_of}
use Rattle.hls_master.proofs.entry.next_entry.Goals as goal

pub returns-in-Uri : goal.returns-in-Uri
returns-in-Uri c = (_, ap entries_of (rw c.in-Uri.is at c.in_ok-rest.ensures.line))

pub returns-in-Refused : goal.returns-in-Refused
returns-in-Refused c = (_, ap entries_of (rw c.in-Refused.is at c.in_ok-rest.ensures.line))
