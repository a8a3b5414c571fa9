use Rattle.std.proofs.Common.{take}
use Rattle.timeline.specs.Makers.{AreShortenedSlots}
use Rattle.timeline.proofs.short_names.shortened_slots.Given as goal

abbrev pub invariant-loop-slot : goal.invariant-loop-slot
invariant-loop-slot l = AreShortenedSlots l.in_path (take l.slot-index l.slots) l.short.items
