use Rattle.hls_master.proofs.master.tracks_in.Goals as goal
use Rattle.std.proofs.{Common.{◌≡◌, Err}, lemmas.Result.err_from_is_err_and}
use Rattle.hls_master.specs.{Entries.{entries_of, known_lines}, Faults.refusal, Masters.master_in, Mentions.{nothing, reading}}
use Rattle.hls_master.specs.SeenMentions.{mentions_seen}
use Rattle.hls_master.proofs.{Answers.passed_on, Wholes.{line_fault, whole_is}}

pub returns-in_err-mentions : goal.returns-in_err-mentions
returns-in_err-mentions c =
    let fault = err_from_is_err_and c.from_residual.result c.from_residual.ensures.1 in
    let a = c.args in
    rw (fault.1, fault.2) (passed_on (refusal c.in_err-mentions.field-0.0)
    (λ f. reading a.base.now nothing (entries_of (known_lines a.lines)) ≡ Err f)
    (λ f. master_in a.base.now a.end a.lines ≡ Err f)
    (line_fault a.base.now a.end a.lines) c.in_err-mentions.ensures)

pub returns : goal.returns
returns c = rw (whole_is c.args.base.now c.args.end c.args.lines (mentions_seen c.in_ok-mentions.mentions) c.in_ok-mentions.ensures)
    c.tracks_of.ensures
