use Rattle.std.proofs.Common.{◌≡◌, drop}
use Rattle.hls_writer.specs.Menus.{first_that, is_like}
use Rattle.hls_writer.proofs.menus.first_like.Given as goal

abbrev pub invariant-loop-member : goal.invariant-loop-member
invariant-loop-member l = first_that (is_like l.tracks l.hints l.place) (drop l.member-index l.members)
    ≡ first_that (is_like l.tracks l.hints l.place) l.members
