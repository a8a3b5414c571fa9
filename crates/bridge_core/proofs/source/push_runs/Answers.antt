use Rattle.std.proofs.Common.{◌≡◌, ◌+◌, ◌++◌, flat_map, ap, ◌∙◌, subst, arith}
use Rattle.std.specs.String.{string_bytes}
use Rattle.presentation.proofs.Counts.{from_on}
use Rattle.bridge_core.specs.Source.{run_at, run_text, runs_text, ticks_of}
use Rattle.bridge_steps.proofs.Pushing.{one_more, no_more}
use Rattle.bridge_core.proofs.source.push_runs.Goals as goal

pub loop-run-preserved : goal.loop-run-preserved
loop-run-preserved c =
    let l = c.loop-run in let side = c.args.side in let before = string_bytes l.text in
    let added : string_bytes c.push_run.new.text ≡ before ++ run_at side c.args.seed l.run =
    c.in_ok-push_run.ensures ∙ ap (λ ticks. before ++ run_text ticks) c.ticks.ensures
    ∙ ap (λ seed. before ++ run_text (ticks_of side (seed + l.run))) c.from.ensures in
    ap (λ text. text ++ flat_map (run_at side c.args.seed) (from_on (l.run + 1) c.args.count)) added
    ∙ one_more (run_at side c.args.seed) _ before l.run c.args.count c.loop-run-test.true l.invariant

pub returns : goal.returns
returns c =
    let l = c.loop-run in let count = c.args.count in let runs = run_at c.args.side c.args.seed in
    let all : l.run ≡ count = omega (arith, l.auto.run-end, c.loop-run-test.false) in
    no_more runs _ (string_bytes l.text) count (subst (λ run. string_bytes l.text ++ flat_map runs (from_on run count) ≡ string_bytes
    c.args.text.now ++ runs_text c.args.side c.args.seed count) all l.invariant)
