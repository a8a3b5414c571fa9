use Rattle.std.proofs.Common.{◌∙◌, ap₂}
use Rattle.clap.specs.Words.{with_rule}
use Rattle.publish_core.proofs.words.syntax.Goals as goal

pub returns : goal.returns
returns c =
    let new = c.in_ok-command.ensures.shape c.positional.ensures.local
    ∙ ap₂ with_rule c.new-command.ensures.app c.positional.ensures.rule in
    let served = c.in_ok-command-2.ensures.shape c.positional-2.ensures.local ∙ ap₂ with_rule new c.positional-2.ensures.rule in
    let target = c.in_ok-command-3.ensures.shape c.option.ensures.local ∙ ap₂ with_rule served c.option.ensures.rule in
    let end = c.in_ok-command-4.ensures.shape c.option-2.ensures.local ∙ ap₂ with_rule target c.option-2.ensures.rule in
    c.in_ok-command-5.ensures.shape c.option-3.ensures.local ∙ ap₂ with_rule end c.option-3.ensures.rule
