use Rattle.bridge_ends.proofs.shelf.put_in_place.Goals as goal
use Rattle.std.proofs.Common.{◌≡◌, ◌∙◌, ap, sym, None, false, bytes_eq, arith, rules}
use Rattle.std.specs.BTreeMap.{get_by_text}
use Rattle.bridge_ends.specs.Moved.{without}
use Rattle.bridge_ends.proofs.Moves.{moved_none, moved_some}

pub returns-in_default-clause-ok : goal.returns-in_default-clause-ok
returns-in_default-clause-ok c =
    let none : get_by_text c.args.files.now c.args.from.now ≡ None =
    first_of (cc (c.in_default.ensures.value, c.in_default.is), grind (arith, c.in_default.ensures.value, c.in_default.is)) in
    c.unset.ensures ∙ moved_none c.args.from.now c.args.to.now (get_by_text c.args.files.now) none

pub returns-clause-ok : goal.returns-clause-ok
returns-clause-ok c =
    let same : c.extend.new.self ≡ c.in-Some.bytes.now =
    first_of (cc (c.in_ok-extend.ensures.ok, c.as_slice.ensures, c.new-copy.ensures), search rules) in
    let other : bytes_eq c.args.from.now c.args.to.now ≡ false =
    first_of (cc (c.eq.ensures, c.if-eq.false), search (rules, c.eq.ensures, c.if-eq.false)) in
    c.unset-2.ensures ∙ ap (without c.args.from.now) (rw same at c.in_ok-set.ensures.ok)
    ∙ moved_some c.args.from.now c.args.to.now c.in-Some.bytes.now (get_by_text c.args.files.now) (sym c.in-Some.ensures.value) other
