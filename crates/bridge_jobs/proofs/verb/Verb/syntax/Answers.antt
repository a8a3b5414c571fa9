use Rattle.bridge_jobs.proofs.verb.Verb.syntax.Goals as goal
use Rattle.std.proofs.{Common.{◌≡◌, ◌∙◌, List, [], ◌∷◌, map, refl, sym, ap, ap₂, arith}, lemmas.List.take_all, lemmas.List.Sums.fold_more}
use Rattle.std.specs.List.{fold}
use Rattle.clap.specs.Words.{App, new_app, with_rule}
use Rattle.bridge_jobs.specs.{declared.verb.Parameter.Parameter, Parameters.{rule_of_parameter, with_parameter}, Verbs.{app_with, word_of}}

rules_in_turn : (app : App) (parameters : List Parameter) → fold with_parameter app parameters
    ≡ fold with_rule app (map rule_of_parameter parameters)
rules_in_turn app [] = refl
rules_in_turn app (parameter ∷ rest) = rules_in_turn (with_parameter app parameter) rest

pub loop-parameter-preserved : goal.loop-parameter-preserved
loop-parameter-preserved c =
    c.in_ok-command.ensures.shape c.argument.ensures.local
    ∙ ap₂ with_rule c.loop-parameter.invariant c.argument.ensures.rule
    ∙ sym (fold_more with_parameter (new_app (word_of c.args.self)) c.parameters-parameter-items.result.now
    c.loop-parameter.parameter-index _ (omega arith))

pub returns : goal.returns
returns c =
    let items = c.parameters-parameter-items.result.now in
    c.loop-parameter.invariant
    ∙ ap (fold with_parameter (new_app (word_of c.args.self))) (take_all c.loop-parameter.parameter-index items (omega arith))
    ∙ rules_in_turn (new_app (word_of c.args.self)) items
    ∙ ap (app_with (word_of c.args.self)) c.parameters-parameter-items.ensures
