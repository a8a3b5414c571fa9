use Rattle.byte_scan.proofs.set.rows_of.Goals as goal
use Rattle.std.proofs.{Common.{◌∙◌, arith}, lemmas.List.length-set}
use Rattle.byte_scan.proofs.SetLemmas.{ascii_at, HasRows_more}

pub loop-member-preserved : goal.loop-member-preserved
loop-member-preserved c =
    let members = c.args.members.now in
    let i = c.loop-member.member-index in
    let known = c.loop-member.invariant in (
      length-set _ _ _ ∙ known.0,
      HasRows_more members i c.loop-member.rows (omega arith)
          (ascii_at members i c.requires (omega arith)) known.0 known.1 c.from.result c.from.ensures,
    )
