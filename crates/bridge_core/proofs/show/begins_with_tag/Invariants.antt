use Rattle.std.proofs.Common.{◌≡◌, drop}
use Rattle.bridge_core.specs.Show.{begins_with_tag}
use Rattle.bridge_core.proofs.show.begins_with_tag.Given as goal

abbrev pub invariant-loop-byte : goal.invariant-loop-byte
invariant-loop-byte l = begins_with_tag l.bytes ≡ begins_with_tag (drop l.byte-index l.bytes)
