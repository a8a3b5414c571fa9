use Rattle.timeline.proofs.builder.RunsBuilder.is_apart.Goals as goal
use Rattle.std.proofs.{Common.{◌≡◌, ◌+◌, inl, inr, sym, arith}, lemmas.Bool.cases_lt}
use Rattle.std.specs.Prelude.{◌⊎◌}
use Rattle.timeline.proofs.Judged.{is_apart-in, former_end-some}

pub returns-then-self-gt0 : goal.returns-then-self-gt0
returns-then-self-gt0 c =
    let s = c.args.self.now in
    let between : (c.args.start ≡ s.former + c.abs_diff.result) ⊎ (s.former ≡ c.args.start + c.abs_diff.result) =
    elim (cases_lt s.former c.args.start) [ inl late ↦ inl (omega arith) | inr early ↦ inr (omega arith) ] in
    rw (former_end-some s c.if-self-gt0.true, c.from.ensures)
    (sym (is_apart-in s.limits c.args.start c.args.step s.former c.abs_diff.result s.limits.positive between))
