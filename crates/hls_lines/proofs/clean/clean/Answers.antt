use Rattle.std.proofs.Common.{sym, ◌∙◌}
use Rattle.hls_lines.proofs.ScanLemmas.{clean-bad, clean-control, clean-good, control_within}
use Rattle.hls_lines.proofs.clean.clean.Goals as goal

pub returns-in-Err : goal.returns-in-Err
returns-in-Err c = rw (c.place_at.ensures, c.valid_up_to.ensures, c.in-Err.ensures.valid_len)
    (clean-bad c.args.bytes.now c.in-Err.ensures.cases.0)

pub place_at-requires-in-Some : goal.place_at-requires-in-Some
place_at-requires-in-Some c = control_within c.args.bytes.now c.in-Some.at (sym c.first_control.ensures ∙ c.in-Some.is)

pub returns-in-None : goal.returns-in-None
returns-in-None c = rw c.in-Ok.ensures.cases.0 (clean-good c.args.bytes.now c.in-Ok.ensures.cases.1 (sym c.first_control.ensures
    ∙ c.in-None.is))

pub returns-in-Some : goal.returns-in-Some
returns-in-Some c = rw c.place_at-in-Some.ensures (clean-control c.args.bytes.now c.in-Some.at c.in-Ok.ensures.cases.1
    (sym c.first_control.ensures ∙ c.in-Some.is))
