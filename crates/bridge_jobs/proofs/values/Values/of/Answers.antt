use Rattle.std.proofs.Common.{map, sym}
use Rattle.clap.specs.Words.{app_of, found_of, rows_of}
use Rattle.bridge_jobs.proofs.Taken.{refused, taken}
use Rattle.bridge_jobs.proofs.values.Values.of.Goals as goal

pub returns-in-Ok : goal.returns-in-Ok
returns-in-Ok c =
    sym (taken (app_of c.in_ok-syntax.field-0) c.args.verb (map (λ word. word.now) c.args.words.now)
    (rows_of (found_of c.in-Ok.matches)) c.in_ok-syntax.ensures
    c.in-Ok.ensures.kinds (λ simple. (c.in-Ok.ensures.matches simple).0))

pub returns : goal.returns
returns c =
    sym (refused (app_of c.in_ok-syntax.field-0) c.args.verb (map (λ word. word.now) c.args.words.now) c.kind.result c.in_ok-syntax.ensures
    (λ simple. rw (c.kind.ensures) (c.in-Err.ensures.kinds simple)) c.in_default.not-OutOfMemory)
