use Rattle.std.proofs.Common.{sym, ap, subst, ◌∙◌}
use Rattle.bridge_io.specs.Answer.{Gives}
use Rattle.url_parts.proofs.LongNames.{long_segment}
use Rattle.url_parts.specs.Addresses.{refusal, resolve}
use Rattle.mpd_presentation.proofs.told.named_address.Goals as goal

pub returns-then-is_too_long : goal.returns-then-is_too_long
returns-then-is_too_long c =
    let long = c.is_too_long.ensures c.if-is_too_long.true in
    sym (c.short_of-short.ensures c.args.base.now c.as_str.ensures.base)
    ∙ long_segment c.args.base.now _ c.as_str.ensures.base long.0 long.1

pub returns : goal.returns
returns c = subst (Gives (λ address. address) refusal c.address.result)
    (ap (resolve c.args.base.now) (c.as_str-2.ensures ∙ c.in_ok-name.ensures) ∙ c.short_of-short.ensures c.args.base.now c.as_str.ensures.base)
    c.address.ensures
