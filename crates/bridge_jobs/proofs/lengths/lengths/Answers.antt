use Rattle.std.proofs.Common.{◌≡◌, ◌∙◌, ℕ, Bor, true, false, List, Option, Some, None, refl, sym, arith}
use Rattle.std.specs.Option.{is_some, option_copied}
use Rattle.bridge_jobs.proofs.LengthsInTurn.{so_far_none, so_far_more, no_length, too_long, all_lengths}
use Rattle.bridge_jobs.proofs.lengths.lengths.Goals as goal

pub loop-track-init : goal.loop-track-init
loop-track-init c = rw c.new-lengths.ensures (so_far_none c.args.tracks (option_copied c.args.text))

pub returns-in_default-clause-lengths : goal.returns-in_default-clause-lengths
returns-in_default-clause-lengths c =
    let next = rw c.in_default.is at c.next_length.ensures.next in
    sym (no_length _ _ _ _ _ _ c.loop-track.invariant (omega arith) (sym next))

pub loop-track-preserved : goal.loop-track-preserved
loop-track-preserved c =
    let next = rw c.in-Some.is at c.next_length.ensures.next in
    rw c.in_ok-push.ensures.ok (so_far_more _ _ _ _ _ _ c.loop-track.invariant c.in-Some.length (option_copied c.in-Some.more)
    (omega arith) (sym next) (c.in-Some.ensures.small))

-- where no text is left, none is pointed to
none_pointed : (rest : Option (Bor (List ℕ))) → is_some rest ≡ false → option_copied rest ≡ None
none_pointed None is = refl
none_pointed (Some text) is = absurd (cc)

some_pointed : (rest : Option (Bor (List ℕ))) → is_some rest ≡ true → (text : List ℕ) × (option_copied rest ≡ Some text)
some_pointed None is = absurd (cc)
some_pointed (Some text) is = (text.now, refl)

pub returns-then-is_some-clause-lengths : goal.returns-then-is_some-clause-lengths
returns-then-is_some-clause-lengths c =
    let left = some_pointed c.loop-track.rest (sym c.is_some.ensures ∙ c.if-is_some.true) in
    sym (too_long _ _ _ _ _ _ c.loop-track.invariant left.0 c.loop-track-test.false left.1)

pub returns-clause-lengths : goal.returns-clause-lengths
returns-clause-lengths c =
    let left = none_pointed c.loop-track.rest (sym c.is_some.ensures ∙ c.if-is_some.false) in
    sym (all_lengths _ _ _ _ _ _ c.loop-track.invariant c.loop-track-test.false left)

pub returns-clause-small : goal.returns-clause-small
returns-clause-small c = let so_far = c.loop-track.invariant in omega (arith, so_far.small)

pub returns-clause-count : goal.returns-clause-count
returns-clause-count c = let so_far = c.loop-track.invariant in omega (arith, so_far.count)
