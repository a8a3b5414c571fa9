use Rattle.std.proofs.Common.{◌≡◌, drop}
use Rattle.hls_writer.specs.Menus.{first_that, is_main}
use Rattle.hls_writer.proofs.menus.first_main.Given as goal

abbrev pub invariant-loop-member : goal.invariant-loop-member
invariant-loop-member l = first_that (is_main l.hints) (drop l.member-index l.members) ≡ first_that (is_main l.hints) l.members
