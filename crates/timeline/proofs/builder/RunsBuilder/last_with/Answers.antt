use Rattle.timeline.proofs.builder.RunsBuilder.last_with.Goals as goal
use Rattle.std.proofs.Common.{◌≡◌, ℕ, ◌-◌, List, ◌∷◌, ◌++◌, length, take, refl, sym, ◌∙◌, ap, arith, []}
use Rattle.timeline.specs.{declared.run_table.RunTable.RunTable, declared.run.Run.Run, Building.runs_in, RunSegments.{one_extent, timed}}
use Rattle.timeline.proofs.Laid.{at_last, begun, last_is, last_split, lengthened, pushed_own}
use Rattle.timeline.proofs.builder.RunsBuilder.last_with.Goals.{in-Some+in_default-longer, in_default}

pub longer-requires : goal.longer-requires
longer-requires c =
    let was = last_is c.args.self.now c.in-Some.last.now c.requires.laid (at_last _ _ _ c.deref.ensures.value c.in-Some.ensures.value) in
    record { is = was.0; countable = omega (arith, was.1) }

pub returns-in-Some-longer : goal.returns-in-Some-longer
returns-in-Some-longer c =
    let old = c.args.self.now in
    let last = c.in-Some.last.now in
    let table : RunTable = record { laid = old.table.laid; own = c.pop.new.self } in
    let split = last_split old.table.own.items last (at_last _ _ _ c.deref.ensures.value c.in-Some.ensures.value) in
    let number = sym c.deref.ensures.len ∙ ap length c.deref.ensures.value in
    let front = c.pop.ensures.rest ∙ ap (λ (n : ℕ). take (n - 1) old.table.own.items) number in
    let pushed = pushed_own old.limits.ticks old.limits.origin table old.table last refl (split
    ∙ ap (λ (rs : List Run). rs ++ last ∷ []) (sym front)) in
    let more = lengthened (runs_in old) _ (one_extent c.args.start c.args.end) old.total c.requires.laid.laid (timed last)
    (timed c.in-Some-longer.run') pushed c.in-Some-longer.ensures in
    record { laid = more.0; extents = more.1; total_is = refl; limits_are = refl; endless_is = refl }

pub returns : goal.returns
returns c =
    let old = c.args.self.now in
    let self : c.match-last.self ≡ old = elim c.match-last.branch [ in-Some+in_default-longer w ↦ w.self-is | in_default w ↦ w.self-is ] in
    let more = begun (runs_in old) [] (one_extent c.args.start c.args.end) old.total c.requires.laid.laid (timed c.one.result)
    (rw self at c.one.ensures) in
    rw self (record { laid = more.0; extents = more.1; total_is = refl; limits_are = refl; endless_is = refl })
