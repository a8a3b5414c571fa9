use Rattle.timeline.proofs.runs.Runs.count.Goals as goal
use Rattle.std.proofs.{Common.{ℕ, Ok, Err, Result, length, sym, ap, ◌∙◌, arith}, lemmas.Bool.cond-false}
use Rattle.timeline.specs.{declared.fault.TimeFault.TimeFault, declared.fault.TimeFault.TheVariants.Range, Listed.IsReached}
use Rattle.timeline.specs.Listed.{is_out_of_range, listed, expansion}
use Rattle.timeline.proofs.RunsLemmas.{count_from_is}

pub returns : goal.returns
returns c =
    let reached : IsReached c.args.self.now c.args.window.now = sym c.is_broken.ensures ∙ c.if-is_broken.false in
    let same = count_from_is c.self.invariant c.self.view_is c.args.window.now c.requires reached c.low.result c.low.ensures 0
    c.place.result c.saturating_sub.result (omega (arith, c.place.ensures)) (cc (c.saturating_sub.ensures, c.finish-finish.ensures)) in
    let answer : Result ℕ TimeFault = Ok (length (listed c.args.window.now (expansion c.args.self.now c.args.window.now))) in
    let made : ℕ → Result ℕ TimeFault = λ k. Ok k in
    ap made same ∙ sym (cond-false (is_out_of_range c.args.self.now c.args.window.now) (Err Range) answer reached)
