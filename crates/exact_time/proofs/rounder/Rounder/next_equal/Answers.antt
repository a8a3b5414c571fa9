use Rattle.exact_time.proofs.EqualSteps as equal
use Rattle.exact_time.proofs.rounder.Rounder.next_equal.Goals as goal
use Rattle.std.proofs.{Common.{◌≡◌, ◌*◌, ℕ, ap, subst, sym, arith}, Math.Nat.mul-le-mul_left}
use Rattle.exact_time.specs.{Time.{Time, IsAtMost}, Rounding.Rounding, Equal.ticks_after}
use Rattle.exact_time.proofs.Roundings.{begun_of}

end_of : (end kept former : Time) (count step n m : ℕ) → end ≡ ticks_after kept (n * m) → kept ≡ former → n ≡ count → m ≡ step →
    end ≡ ticks_after former (count * step)
end_of end kept former count step n m end_is same count_is step_is = cc

moved : (r new : Rounding) (end : Time) (ticks : ℕ) → new ≡ record r { former = end } → end ≡ ticks_after r.former ticks →
    new ≡ record r { former = ticks_after r.former ticks }
moved r new end ticks new_is end_is = cc

pub pass-total-requires : goal.pass-total-requires
pass-total-requires c =
    let former = ap (λ (s : Rounding). s.former) c.self.view_is in
    subst (λ (t : Time). IsAtMost c.args.self.now.former t)
    (sym (end_of _ _ _ _ _ _ _ c.later-end.ensures former c.from.ensures c.from-2.ensures))
    (equal.IsAtMost-ticks_after _ c.args.self.now.former)

pub returns-clause-kept : goal.returns-clause-kept
returns-clause-kept c =
    let former = ap (λ (s : Rounding). s.former) c.self.view_is in
    moved c.args.self.now _ _ _ c.pass-total.ensures.kept (end_of _ _ _ _ _ _ _ c.later-end.ensures former c.from.ensures c.from-2.ensures)

pub returns-clause-calls : goal.returns-clause-calls
returns-clause-calls c =
    equal.calls c.args.self.now (begun_of c.self.inside c.args.self.now c.self.invariant c.self.view_is) c.args.step c.args.count
    c.requires.near
    c.pass-total.new.self (returns-clause-kept c) c.pass-total.result c.pass-total.ensures.printed

pub returns-clause-durations : goal.returns-clause-durations
returns-clause-durations c =
    rw (c.longest_of.ensures, c.whole_units-least.ensures)
    (equal.summed c.args.self.now (begun_of c.self.inside c.args.self.now c.self.invariant c.self.view_is) c.args.step c.args.count
    c.requires.near
    c.pass-total.new.self (returns-clause-kept c) c.pass-total.result c.pass-total.ensures.printed)

pub returns-clause-even : goal.returns-clause-even
returns-clause-even c =
    rw (c.longest_of.ensures, c.whole_units-least.ensures)
    (equal.even c.args.self.now (begun_of c.self.inside c.args.self.now c.self.invariant c.self.view_is) c.args.step c.args.count
    c.requires.near
    c.pass-total.new.self (returns-clause-kept c) c.pass-total.result c.pass-total.ensures.printed)

pub longest_of-requires : goal.longest_of-requires
longest_of-requires c = λ some.
    let is = begun_of c.self.inside c.args.self.now c.self.invariant c.self.view_is in
    omega (
      arith,
      c.whole_units-least.ensures,
      equal.few_units c.args.self.now c.args.step c.args.count is.former_is c.requires.near
          some,
      mul-le-mul_left 2000000 c.pass-total.ensures.unit,
    )
