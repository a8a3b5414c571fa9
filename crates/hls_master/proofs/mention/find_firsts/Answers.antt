use Rattle.std.proofs.Common.{◌∙◌, [], ◌∷◌, arith, length-append}
use Rattle.hls_master.specs.SeenTracks.{mention_seen}
use Rattle.hls_master.proofs.Firsts.{not_first, first_more}
use Rattle.hls_master.proofs.mention.find_firsts.Goals as goal
use Rattle.hls_master.proofs.mention.find_firsts.Goals.{then-branch+else-len-eq-MAX_TRACKS+in_ok-push, else-branch}

pub loop-mention-preserved : goal.loop-mention-preserved
loop-mention-preserved c =
    let text = c.as_str.ensures.text ∙ c.address.ensures in
    let l = c.loop-mention in
    elim c.if-branch.branch [
      | then-branch+else-len-eq-MAX_TRACKS+in_ok-push w ↦ rw (w.firsts-is, w.in_ok-push.ensures.items) (
        omega (arith, length-append l.firsts.items (c.mention-item.result ∷ []), w.len.ensures, w.if-len-eq-MAX_TRACKS.false),
        first_more mention_seen c.args.mentions.now l.mention-index c.mention-item.result c.loop-mention-test.true c.mention-item.is
            l.addresses c.add.new.self l.firsts.items _ c.as_str.result.now text
            c.in_ok-add.field-0 c.in_ok-add.ensures.fresh l.invariant.1 w.if-branch.true c.in_ok-add.ensures.added,
      )
      | else-branch w ↦ rw w.firsts-is (
        l.invariant.0,
        not_first mention_seen c.args.mentions.now l.mention-index c.mention-item.result c.loop-mention-test.true c.mention-item.is
            l.addresses c.add.new.self l.firsts.items _ c.as_str.result.now text
            c.in_ok-add.field-0 c.in_ok-add.ensures.fresh l.invariant.1 w.if-branch.false
            (rw w.if-branch.false at c.in_ok-add.ensures.kept),
      )
    ]
