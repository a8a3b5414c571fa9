use Rattle.hls_presentation.proofs.groups.Groups.of.Goals as goal
use Rattle.std.proofs.{Common.{sym, arith}, lemmas.List.Sums.prefix_len-le-length}
use Rattle.hls_presentation.specs.Sections.{is_of}
use Rattle.hls_presentation.proofs.Turns.{cut_off}

pub split_at-requires : goal.split_at-requires
split_at-requires c = omega (arith, c.count_of.ensures, prefix_len-le-length (is_of c.in-Some.first.now.section) c.loop-first.rest.now)

pub loop-first-preserved : goal.loop-first-preserved
loop-first-preserved c =
    rw c.in_ok-push.ensures.items
    (cut_off c.loop-first.groups.items c.split_at.result.0 c.count_of.result c.loop-first.rest.now c.split_at.result.1.now
    c.args.segments.now c.in-Some.first.now
    (sym c.in-Some.ensures.value) c.count_of.ensures c.split_at.ensures.front c.split_at.ensures.back c.loop-first.invariant)
