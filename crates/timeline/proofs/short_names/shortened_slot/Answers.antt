use Rattle.std.proofs.Common.{subst, sym, string_bytes}
use Rattle.timeline.specs.Makers.{IsShortened}
use Rattle.timeline.proofs.ShortNames.{slot_shortened}
use Rattle.timeline.proofs.short_names.shortened_slot.Goals as goal

pub returns : goal.returns
returns c =
    let text = subst (λ t. IsShortened c.args.in_path t (string_bytes c.in_ok-shortened_text.field-0)) c.as_str.ensures
    c.in_ok-shortened_text.ensures in
    slot_shortened c.args.in_path c.args.slot.now c.from-before.result
    (subst (λ t. IsShortened c.args.in_path c.args.slot.now.before t) (sym c.from-before.ensures) text)
