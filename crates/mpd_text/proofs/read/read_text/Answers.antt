use Rattle.mpd_text.proofs.read.read_text.Goals as goal
use Rattle.std.proofs.Common.{◌≡◌, subst, ◌∙◌}
use Rattle.mpd_tree.specs.Nodes.{root_in}
use Rattle.mpd_text.proofs.TreeReading.{finished, stopped}

pub returns-in-Ok-clause-reading : goal.returns-in-Ok-clause-reading
returns-in-Ok-clause-reading c =
    let x = c.in-Ok.ensures.read in
    let same = c.in-Ok.ensures.same ∙ c.new-kept.ensures.source in
    finished c.args.text.now x.0 _ c.requires (rw c.as_bytes.ensures.value at x.1)
    (subst (λ s. root_in s c.finish.result ≡ x.0) same (c.finish.ensures.root x.0 x.2))

pub returns-in-Err-clause-reading : goal.returns-in-Err-clause-reading
returns-in-Err-clause-reading c =
    let h = rw c.as_bytes.ensures.value at c.in-Err.ensures.read in
    rw (c.told.ensures, c.as_bytes-in-Err.ensures.value) (stopped c.args.text.now c.in-Err.stop c.requires h)
