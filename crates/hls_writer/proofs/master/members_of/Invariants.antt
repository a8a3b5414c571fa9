use Rattle.std.proofs.Common.{◌≡◌, ◌++◌, drop, flat_map}
use Rattle.std.specs.Prelude.{option_to_list}
use Rattle.hls_writer.proofs.master.members_of.Given as goal

abbrev pub invariant-loop-member : goal.invariant-loop-member
invariant-loop-member l = l.found ++ flat_map option_to_list (drop l.member-index l.group) ≡ flat_map option_to_list l.group
