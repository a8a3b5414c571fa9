use Rattle.bridge_io.proofs.whole_file.slurp.Goals as goal
use Rattle.std.proofs.Common.{◌≡◌, ◌∙◌, sym, ap, Err, arith}
use Rattle.bridge_io.specs.{Slurped.Long, Places.place_of}
use Rattle.bridge_io.proofs.WholeFile.{absent_file, whole_read, long_read}

pub returns-then-not-branch-clause-file : goal.returns-then-not-branch-clause-file
returns-then-not-branch-clause-file g c = λ files told.
    absent_file c.args.limit (files c.args.name.now) (sym (c.in_ok-has.ensures.found files told) ∙ c.if-not-branch.true)

pub returns-then-branch-eq0-clause-file : goal.returns-then-branch-eq0-clause-file
returns-then-branch-eq0-clause-file g c = λ files told.
    let known = c.loop-store.invariant.front files told in
    let front = c.in_ok-read_more.ensures.file files (c.loop-store.invariant.files ∙ told) known.1 in
    whole_read c.args.limit (files c.args.name.now) c.read_more.new.bytes known.0 (front.1 c.if-branch-eq0.true)
    (omega (arith, c.in_ok-read_more.ensures.count))

pub returns-clause-file : goal.returns-clause-file
returns-clause-file g c = λ files told.
    let known = c.loop-store.invariant.front files told in
    let at : c.place_in.result ≡ place_of c.loop-store.bytes c.args.limit = rw c.as_slice.ensures at c.place_in.ensures in
    long_read c.args.limit (files c.args.name.now) c.loop-store.bytes known.0 known.1 (omega arith)
    ∙ ap (λ place. Err (Long place)) (sym at)
