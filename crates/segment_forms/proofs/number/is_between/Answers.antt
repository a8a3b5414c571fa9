use Rattle.segment_forms.proofs.number.is_between.Goals as goal
use Rattle.segment_forms.proofs.AddressLemmas.{no_prefix, no_suffix, between}
use Rattle.std.proofs.{Common.{◌∙◌, decimal, None, Some}, lemmas.Slice.Eq.{strip_prefix_is, strip_suffix_is}}
use Rattle.std.proofs.lemmas.Bool.Decides.{Decides-eqb}
use Rattle.template_ids.specs.Templates.{padded}

pub returns-in_default : goal.returns-in_default
returns-in_default c = no_prefix c.args.address.now c.args.prefix.now c.args.suffix.now (padded c.args.width (decimal c.args.number))
    (strip_prefix_is Decides-eqb c.args.address.now c.args.prefix.now None c.in_default.ensures.cases)

pub returns-in_default-strip_suffix : goal.returns-in_default-strip_suffix
returns-in_default-strip_suffix c =
    no_suffix c.args.address.now c.args.prefix.now c.args.suffix.now (padded c.args.width (decimal c.args.number)) c.in-Some.rest.now
    (strip_prefix_is Decides-eqb c.args.address.now c.args.prefix.now (Some c.in-Some.rest) c.in-Some.ensures.cases)
    (strip_suffix_is Decides-eqb c.in-Some.rest.now c.args.suffix.now None c.in_default-strip_suffix.ensures.cases)

pub returns : goal.returns
returns c = c.is_number.ensures ∙ between c.args.address.now c.args.prefix.now c.args.suffix.now
    (padded c.args.width (decimal c.args.number)) c.in-Some.rest.now
    (strip_prefix_is Decides-eqb c.args.address.now c.args.prefix.now (Some c.in-Some.rest) c.in-Some.ensures.cases)
    c.in-Some-strip_suffix.digits.now
    (strip_suffix_is Decides-eqb c.in-Some.rest.now c.args.suffix.now (Some c.in-Some-strip_suffix.digits)
    c.in-Some-strip_suffix.ensures.cases)
