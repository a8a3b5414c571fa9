use Rattle.hls_master.proofs.mentions.read_mentions.Goals as goal
use Rattle.std.proofs.{Common.{◌≡◌, ◌∙◌, Err, [], ◌∷◌}, lemmas.Result.err_from_is_err_and}
use Rattle.hls_master.specs.{Entries.{entries_of, known_lines}, Faults.{answer, refusal}, Mentions.{entry_fault, mentions_behind, reading}}
use Rattle.hls_master.specs.{Mentions.nothing, Seen.entry_seen, SeenMentions.mentions_seen}
use Rattle.hls_master.proofs.{Answers.passed_on, Readings.{next_is_read, next_is_told, none_left}}

pub loop-entry-preserved : goal.loop-entry-preserved
loop-entry-preserved c =
    let next = next_is_read c.args.base.now (mentions_seen c.loop-entry.mentions) (mentions_seen c.add.new.self)
    (entry_seen c.in-Some.entry) _ _ c.in-Some.ensures c.in_ok-add.ensures.added in
    (c.in_ok-add.ensures.named, c.loop-entry.invariant.1 ∙ next.0)

pub loop-entry-smaller : goal.loop-entry-smaller
loop-entry-smaller c = (next_is_read c.args.base.now (mentions_seen c.loop-entry.mentions) (mentions_seen c.add.new.self)
    (entry_seen c.in-Some.entry) _ _ c.in-Some.ensures c.in_ok-add.ensures.added).1

pub returns-in_err-add : goal.returns-in_err-add
returns-in_err-add c =
    let fault = err_from_is_err_and c.from_residual.result c.from_residual.ensures.1 in
    let before = mentions_seen c.loop-entry.mentions in
    let entry = entry_seen c.in-Some.entry in
    rw (fault.1, fault.2) (passed_on (refusal c.in_err-add.field-0.0)
    (λ f. answer (entry_fault c.args.base.now before.renditions entry) (mentions_behind c.args.base.now before (entry ∷ [])) ≡ Err f)
    (λ f. reading c.args.base.now nothing (entries_of (known_lines c.args.lines)) ≡ Err f)
    (λ f told. c.loop-entry.invariant.1 ∙ next_is_told c.args.base.now before f entry _ _ c.in-Some.ensures told)
    c.in_err-add.ensures.added)

pub returns : goal.returns
returns c = c.loop-entry.invariant.1 ∙ rw c.in_default.ensures (none_left c.args.base.now (mentions_seen c.loop-entry.mentions))
