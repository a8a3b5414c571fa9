use Rattle.std.proofs.Common.{◌+◌, arith, sym, ◌∙◌}
use Rattle.hls_lines.proofs.ScanLemmas.{begins_at, lead_found, lead_lacking, not_at}
use Rattle.hls_lines.proofs.clean.first_high_control.Goals as goal

pub returns-then-begins_with_high_control : goal.returns-then-begins_with_high_control
returns-then-begins_with_high_control c =
    sym (begins_at c.args.bytes.now (c.loop-passed.at + c.in-Some.passed) (sym c.begins_with_high_control.ensures
    ∙ c.if-begins_with_high_control.true))
    ∙ sym (lead_found c.args.bytes.now c.loop-passed.at c.in-Some.passed c.in-Some.ensures).1
    ∙ c.loop-passed.invariant.before

pub loop-passed-preserved : goal.loop-passed-preserved
loop-passed-preserved c = let found = lead_found c.args.bytes.now c.loop-passed.at c.in-Some.passed c.in-Some.ensures in record {
  within = omega (arith, found.0);
  before = sym (not_at c.args.bytes.now (c.loop-passed.at + c.in-Some.passed) (sym c.begins_with_high_control.ensures
      ∙ c.if-begins_with_high_control.false)) ∙ sym found.1 ∙ c.loop-passed.invariant.before;
}

pub returns : goal.returns
returns c = sym (lead_lacking c.args.bytes.now c.loop-passed.at c.in_default.ensures) ∙ c.loop-passed.invariant.before
