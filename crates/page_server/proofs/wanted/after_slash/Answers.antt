use Rattle.std.proofs.Common.{arith}
use Rattle.std.proofs.lemmas.Str.Pattern.{strip_prefix_char}
use Rattle.page_server.proofs.Paths.{behind_slash}
use Rattle.page_server.proofs.wanted.after_slash.Goals as goal

pub returns : goal.returns
returns c = behind_slash c.args.path.now _ (strip_prefix_char 47 c.args.path.now _ c.strip_prefix.ensures.cases (omega arith))
