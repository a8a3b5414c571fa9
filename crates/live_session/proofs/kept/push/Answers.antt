use Rattle.std.proofs.Common.{◌++◌, ◌∷◌, [], ◌∙◌, ap, arith, length-append}
use Rattle.exact_time.specs.Tick.{time_of}
use Rattle.live_session.proofs.Pushing.{keep_fits, push_shown}
use Rattle.live_session.proofs.kept.push.Goals as goal

pub returns-clause-shown : goal.returns-clause-shown
returns-clause-shown c = let t = c.args.track.now in let made = c.args.made in let room = c.requires.room in
    push_shown t.items.items _ t.facts.items _ made.item made.fact (time_of t.begin) _ t.first c.requires.paired
    (ap (λ b. b.items) c.push_back.ensures.items
    ∙ keep_fits t.items.capacity (t.items.items ++ made.item ∷ [])
    (omega (arith, room.items, length-append t.items.items (made.item ∷ []))))
    (ap (λ b. b.items) c.push_back-2.ensures.items
    ∙ keep_fits t.facts.capacity (t.facts.items ++ made.fact ∷ [])
    (omega (arith, room.facts, length-append t.facts.items (made.fact ∷ []))))
    c.begin_with-track.ensures
