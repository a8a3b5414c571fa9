use Rattle.std.proofs.Common.{subst, IfSome}
use Rattle.mpd_entries.specs.Short.{IsShortOf}
use Rattle.mpd_entries.proofs.Shorts.{short_next}
use Rattle.mpd_entries.proofs.shared_names.short_texts.Goals as goal

pub loop-part-preserved : goal.loop-part-preserved
loop-part-preserved c = rw c.in_ok-push.ensures.items
    (short_next c.args.parts.now c.loop-part.part-index c.part-item.result c.loop-part.short.items c.in_ok-short_text.field-0
    c.loop-part-test.true c.loop-part.invariant
    (subst (λ p. IfSome c.in_ok-short_text.field-0 (IsShortOf p)) c.part-item.is c.in_ok-short_text.ensures))
