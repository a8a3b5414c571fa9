use Rattle.std.proofs.Common.{◌∙◌, ap, arith}
use Rattle.exact_time.specs.Tick.{time_of}
use Rattle.live_session.proofs.Pushing.{keep_drop, remove_shown}
use Rattle.live_session.proofs.kept.remove.Goals as goal

pub returns-clause-shown : goal.returns-clause-shown
returns-clause-shown c =
    let t = c.args.track.now in let n = c.args.count in let some = c.requires.some in let paired = c.requires.paired in let len =
    c.len.ensures.len in
    remove_shown t.items.items _ t.facts.items _ (time_of t.begin) t.first n paired some
    (ap (λ b. b.items) c.truncate_front.ensures ∙ keep_drop _ n t.items.items (omega arith) (omega arith))
    (ap (λ b. b.items) c.truncate_front-2.ensures ∙ keep_drop _ n t.facts.items (omega arith) (omega arith))
