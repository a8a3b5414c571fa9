use Rattle.std.proofs.Common.{map}
use Rattle.clap.specs.Words.{app_of}
use Rattle.publish_core.proofs.Taken.{refused}
use Rattle.publish_core.proofs.words.Values.of.Goals as goal

pub returns : goal.returns
returns c =
    refused (app_of c.in_ok-syntax.field-0) (map (λ word. word.now) c.args.words.now) c.kind.result c.in_ok-syntax.ensures
    (λ simple. rw (c.kind.ensures) (c.in-Err.ensures.kinds simple)) c.in_default.not-OutOfMemory
