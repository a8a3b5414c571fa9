use Rattle.std.proofs.Common.{subst, string_bytes}
use Rattle.timeline.specs.Makers.{AreShortenedSlots, IsShortened}
use Rattle.timeline.proofs.ShortNames.{names_shortened}
use Rattle.timeline.proofs.short_names.shortened.Goals as goal

pub returns : goal.returns
returns c = names_shortened c.args.in_path c.args.names.now _
    (subst (λ t. IsShortened c.args.in_path t (string_bytes c.in_ok-front.front)) c.as_str.ensures.value c.in_ok-front.ensures)
    (subst (λ s. AreShortenedSlots c.args.in_path s c.in_ok-slots.slots.items) c.deref.ensures.value c.in_ok-slots.ensures)
    (subst (λ t. IsShortened c.args.in_path t (string_bytes c.in_ok-last.last)) c.as_str-2.ensures.value c.in_ok-last.ensures)
