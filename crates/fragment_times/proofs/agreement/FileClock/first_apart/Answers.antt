use Rattle.fragment_times.proofs.agreement.FileClock.first_apart.Goals as goal
use Rattle.std.proofs.{Common.{◌≡◌, [], drop, sym, ap, ◌∙◌, arith}, lemmas.List.drop_all}
use Rattle.exact_time.specs.Tick.{time_of}
use Rattle.fragment_times.specs.Agreeing.{apart_from}
use Rattle.fragment_times.proofs.Apart.{no_starts}

pub returns : goal.returns
returns c =
    let l = c.loop-start in let told = c.args.self in
    let none : drop l.start-index c.args.starts.now ≡ [] = drop_all l.start-index c.args.starts.now (omega arith) in
    sym (no_starts l.at (time_of told.offset) told.scale l.walk)
    ∙ ap (λ starts. apart_from l.at (time_of told.offset) told.scale l.walk starts) (sym none) ∙ l.invariant.told
