use Rattle.live_session.proofs.change.made_of.Goals as goal
use Rattle.std.{proofs.Common.{rules, ◌≡◌, ◌<◌, false, true, arith}, proofs.lemmas.Result.err_from_is_err_and}
use Rattle.live_judge.specs.Coming.{coming_of}
use Rattle.live_session.{specs.Changes.new_in_all, proofs.NewTracks.{makeable, none_made}}

pub returns-then-not-has_new : goal.returns-then-not-has_new
returns-then-not-has_new g c =
    let n = c.args.next.now in
    let off : c.has_new.result ≡ false = search rules in
    rw c.new.ensures.items (none_made n c.requires.next c.args.steps.now (c.has_new.ensures.none off))

pub make_all-requires-clause-tracks : goal.make_all-requires-clause-tracks
make_all-requires-clause-tracks g c =
    makeable c.args.next.now c.requires.next c.maker_of.result c.maker_of.ensures.made_for c.requires.joined

pub returns-in_err-make_all : goal.returns-in_err-make_all
returns-in_err-make_all g c =
    let n = c.args.next.now in
    let on : c.has_new.result ≡ true = search rules in
    let p = err_from_is_err_and c.from_residual.result c.from_residual.ensures.1 in
    rw (p.1, p.2) (record {
      unmade = c.in_err-make_all.ensures.made (coming_of n) c.maker_of.ensures.made_for;
      some = c.has_new.ensures.some on;
    })

pub returns : goal.returns
returns g c =
    let n = c.args.next.now in
    let on : c.has_new.result ≡ true = search rules in
    let some : 0 < new_in_all n = c.has_new.ensures.some on in
    record {
      made = c.in_ok-make_all.ensures.made (coming_of n) c.maker_of.ensures.made_for;
      many = omega (arith, c.in_ok-make_all.ensures.many);
      none = λ none. absurd (omega (arith, some, none));
    }
