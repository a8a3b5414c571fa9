use Rattle.publish_core.proofs.written.write_files.Goals as goal
use Rattle.std.proofs.{Common.{◌≡◌, ◌+◌, ◌++◌, ◌∷◌, [], take, ◌∙◌, ap, sym, subst, arith}, lemmas.List.take_more}
use Rattle.bridge_io.specs.Outside.{Changes}
use Rattle.publish_core.specs.Placed.{all_placed}
use Rattle.publish_core.proofs.Placing.{place_next}

pub loop-file-preserved : goal.loop-file-preserved
loop-file-preserved g c =
    let store = g.F.Store in let l = c.loop-file in let all = c.args.files.now in let i = l.file-index in let file = c.file-item.result in
    let before = store.files c.args.store.now in let after = store.files c.write_file.new.store in
    let one_more : take (i + 1) all ≡ take i all ++ file ∷ [] =
    take_more all i file c.loop-file-test.true ∙ ap (λ f. take i all ++ f ∷ []) (sym c.file-item.is) in
    record {
      placed = subst (λ taken. Changes (all_placed c.args.pending.now taken) before after) (sym one_more)
          (place_next c.args.pending.now (take i all) file before (store.files l.store) after l.invariant.placed
          c.in_ok-write_file.ensures.ok);
      never_falls = omega (arith, l.invariant.never_falls, c.in_ok-write_file.ensures.cause.never_falls);
      reads = c.in_ok-write_file.ensures.reads ∙ l.invariant.reads;
    }
