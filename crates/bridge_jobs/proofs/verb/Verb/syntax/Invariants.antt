use Rattle.bridge_jobs.proofs.verb.Verb.syntax.Given as goal
use Rattle.std.proofs.Common.{◌≡◌, take}
use Rattle.std.specs.List.{fold}
use Rattle.clap.specs.Words.{app_of, new_app}
use Rattle.bridge_jobs.specs.{Parameters.with_parameter, Verbs.word_of}

abbrev pub invariant-loop-parameter : goal.invariant-loop-parameter
invariant-loop-parameter l = app_of l.command ≡ fold with_parameter (new_app (word_of l.fn.self)) (take l.parameter-index l.parameter-items)
