use Rattle.mpd_text.proofs.attributes.new_name_of.Goals as goal
use Rattle.std.proofs.Common.{refl}

pub returns-then-branch-clause-read : goal.returns-then-branch-clause-read
unfolding Rattle.mpd_tree.specs.Grammar.new_name
returns-then-branch-clause-read c =
    let is = rw c.name_of.ensures.name at c.in_ok-is_repeated.ensures.read.0 in
    rw (c.decided.ensures, c.name_of.ensures.rest, ← is, c.if-branch.true) refl

pub returns-clause-read : goal.returns-clause-read
unfolding Rattle.mpd_tree.specs.Grammar.new_name
returns-clause-read c =
    rw (c.name_of.ensures.rest, ← (rw c.name_of.ensures.name at c.in_ok-is_repeated.ensures.read.0), c.if-branch.false) refl

pub returns-clause-is_new : goal.returns-clause-is_new
returns-clause-is_new c = record {
  rest_is = c.name_of.ensures.rest;
  from = c.is_repeated.ensures.from;
  prepared = rw c.name_of.ensures.name at (c.in_ok-is_repeated.ensures.read.1 c.if-branch.false);
}
