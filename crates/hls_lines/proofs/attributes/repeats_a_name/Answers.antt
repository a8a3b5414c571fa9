use Rattle.std.proofs.Common.{◌∙◌}
use Rattle.hls_lines.proofs.NameSets.{AreNames-more, repeated, others_same}
use Rattle.hls_lines.proofs.attributes.repeats_a_name.Goals as goal

pub returns-then-not-branch : goal.returns-then-not-branch
returns-then-not-branch c =
    repeated c.args.pairs.now c.loop-name.name-index _ c.as_bytes.result c.loop-name.seen.keys c.loop-name-test.true
    c.as_bytes.ensures.value c.loop-name.invariant.are
    c.in_ok-insert.field-0 c.in_ok-insert.ensures.added c.if-not-branch.true
    ∙ c.loop-name.invariant.others

pub loop-name-preserved : goal.loop-name-preserved
loop-name-preserved c = record {
  are = rw c.in_ok-insert.ensures.keys
      (AreNames-more c.args.pairs.now c.loop-name.name-index _ c.as_bytes.result c.loop-name.seen.keys c.loop-name-test.true
      c.as_bytes.ensures.value c.loop-name.invariant.are);
  others = others_same c.args.pairs.now c.loop-name.name-index _ c.as_bytes.result c.loop-name.seen.keys c.loop-name-test.true
      c.as_bytes.ensures.value c.loop-name.invariant.are
      c.in_ok-insert.field-0 c.in_ok-insert.ensures.added c.if-not-branch.false
      ∙ c.loop-name.invariant.others;
}
