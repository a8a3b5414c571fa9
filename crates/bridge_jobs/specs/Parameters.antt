-- A parameter as `clap` reads it.
use Rattle.clap.specs.Words.{App, Rule, with_rule}
use Rattle.bridge_jobs.specs.{declared.verb.Parameter.Parameter, declared.verb.Parameter.TheVariants.{Positional, Required, Optional}}
use Rattle.bridge_jobs.specs.Verbs.{positional, required_option, option}

abbrev pub rule_of_parameter : Parameter → Rule
rule_of_parameter (Positional name) = positional name.now
rule_of_parameter (Required name) = required_option name.now
rule_of_parameter (Optional name) = option name.now

-- the command with one parameter more
abbrev pub with_parameter : App → Parameter → App
with_parameter app parameter = with_rule app (rule_of_parameter parameter)
