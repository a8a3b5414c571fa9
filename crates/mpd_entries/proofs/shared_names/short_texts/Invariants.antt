use Rattle.std.proofs.Common.{take}
use Rattle.mpd_entries.specs.Short.{AreShort}
use Rattle.mpd_entries.proofs.shared_names.short_texts.Given as goal

abbrev pub invariant-loop-part : goal.invariant-loop-part
invariant-loop-part l = AreShort (take l.part-index l.parts) l.short.items
