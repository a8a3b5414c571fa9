use Rattle.std.proofs.{Common.{◌≡◌, take, subst, arith}, lemmas.Grind.common_steps}
use Rattle.timeline.specs.Makers.{AreShortenedSlots, IsShortenedSlot}
use Rattle.timeline.proofs.ShortNames.{again, slots_next}
use Rattle.timeline.proofs.short_names.shortened_slots.Goals as goal

pub loop-slot-init : goal.loop-slot-init
loop-slot-init c = rw c.in_ok-short.ensures.items (λ number time. again c.args.in_path _)

pub loop-slot-preserved : goal.loop-slot-preserved
loop-slot-preserved c = rw c.in_ok-push.ensures.items
    (slots_next c.args.in_path c.args.slots.now c.loop-slot.slot-index c.slot-item.result c.loop-slot.short.items
    c.in_ok-shortened_slot.field-0 c.loop-slot-test.true c.loop-slot.invariant
    (subst (λ s. IsShortenedSlot c.args.in_path s c.in_ok-shortened_slot.field-0) c.slot-item.is c.in_ok-shortened_slot.ensures))

pub returns : goal.returns
returns c =
    let all : take c.loop-slot.slot-index c.args.slots.now ≡ c.args.slots.now = grind (arith, common_steps) in
    subst (λ s. AreShortenedSlots c.args.in_path s c.loop-slot.short.items) all c.loop-slot.invariant
