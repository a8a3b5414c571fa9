use Rattle.dash_writer.proofs.escape.push_escaped.Goals as goal
use Rattle.std.proofs.{Common.{drop, sym, ◌∙◌, arith}, lemmas.List.{append-nil, take_rest}}
use Rattle.mpd_tree.specs.Escapes.{escape_all}
use Rattle.bridge_io.proofs.Adding.{adds_same}
use Rattle.dash_writer.proofs.{Escaping.{first_parts, found_at, none_escaped}, Progress.{ends, fails, further, nothing_yet}}

pub loop-place-init : goal.loop-place-init
loop-place-init g c = nothing_yet _ _

pub split_at-requires : goal.split_at-requires
split_at-requires g c = let first = rw c.new-escaped.ensures at (sym c.first_of_set.ensures ∙ c.in-Some.is) in
    omega (arith, (found_at c.loop-place.rest.now c.in-Some.place first).0)

pub reference_to-reference-requires : goal.reference_to-reference-requires
reference_to-reference-requires g c = let first = rw c.new-escaped.ensures at (sym c.first_of_set.ensures ∙ c.in-Some.is) in
    rw c.split_at.ensures.back (found_at c.loop-place.rest.now c.in-Some.place first).1

pub returns-in_err-push_pieces : goal.returns-in_err-push_pieces
returns-in_err-push_pieces g c = let halves = c.split_at.ensures in let back = c.split_at.result.1.now in
    let first = rw c.new-escaped.ensures at (sym c.first_of_set.ensures ∙ c.in-Some.is) in
    fails c.loop-place.invariant _ (escape_all (drop 1 back))
    (first_parts c.loop-place.rest.now c.split_at.result.0.now back c.in-Some.place first halves.front halves.back)
    c.from_residual.result c.from_residual.ensures.1 (rw c.reference_to-reference.ensures at c.in_err-push_pieces.ensures)

pub loop-place-preserved : goal.loop-place-preserved
loop-place-preserved g c = let halves = c.split_at.ensures in let back = c.split_at.result.1.now in
    let first = rw c.new-escaped.ensures at (sym c.first_of_set.ensures ∙ c.in-Some.is) in
    rw (take_rest back 1) (further c.loop-place.invariant _ (escape_all (drop 1 back))
    (first_parts c.loop-place.rest.now c.split_at.result.0.now back c.in-Some.place first halves.front halves.back)
    (rw c.reference_to-reference.ensures at c.in_ok-push_pieces.ensures))

pub returns : goal.returns
returns g c = let rest = c.loop-place.rest.now in
    let none = none_escaped rest (rw c.new-escaped.ensures at (sym c.first_of_set.ensures ∙ c.in_default.is)) in
    ends c.loop-place.invariant (adds_same (append-nil rest ∙ sym none) c.push_pieces-2.ensures)
