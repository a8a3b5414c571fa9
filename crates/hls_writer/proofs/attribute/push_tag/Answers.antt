use Rattle.hls_writer.proofs.attribute.push_tag.Goals as goal
use Rattle.std.proofs.Common.{◌≡◌, ℕ, List, [], ◌∷◌, ◌++◌, append_assoc, append-nil}
use Rattle.hls_writer.specs.{Attributes.{attribute_bytes, further_bytes}, AttributeRows.{told, all_told}}
use Rattle.bridge_io.proofs.Adding.{adds_same, adds_then, adds_stop, adds_stop_at}

whole : (tag first others : List ℕ) → (((tag ++ []) ++ first) ++ others) ++ 10 ∷ [] ≡ tag ++ (first ++ others) ++ 10 ∷ []
whole tag first others = simp (append_assoc, append-nil)

pub returns-in_err-push_pieces : goal.returns-in_err-push_pieces
returns-in_err-push_pieces g c =
    adds_same (whole c.args.tag.now (attribute_bytes (told c.args.first)) (further_bytes (all_told c.args.others.now)))
    (adds_stop_at _ c.from_residual.result c.from_residual.ensures.1
    (adds_stop {T = Unit {0}} _ (adds_stop {T = Unit {0}} _ c.in_err-push_pieces.ensures)))

pub returns-in_err-push_to : goal.returns-in_err-push_to
returns-in_err-push_to g c =
    adds_same (whole c.args.tag.now (attribute_bytes (told c.args.first)) (further_bytes (all_told c.args.others.now)))
    (adds_stop_at _ c.from_residual-in_err-push_to.result c.from_residual-in_err-push_to.ensures.1
    (adds_stop {T = Unit {0}} _ (adds_then _ c.in_ok-push_pieces.ensures c.in_err-push_to.ensures)))

pub returns-in_err-push_further : goal.returns-in_err-push_further
returns-in_err-push_further g c =
    adds_same (whole c.args.tag.now (attribute_bytes (told c.args.first)) (further_bytes (all_told c.args.others.now)))
    (adds_stop_at _ c.from_residual-in_err-push_further.result c.from_residual-in_err-push_further.ensures.1
    (adds_then _ (adds_then _ c.in_ok-push_pieces.ensures c.in_ok-push_to.ensures) c.in_err-push_further.ensures))

pub returns : goal.returns
returns g c =
    adds_same (whole c.args.tag.now (attribute_bytes (told c.args.first)) (further_bytes (all_told c.args.others.now)))
    (adds_then _ (adds_then _ (adds_then _ c.in_ok-push_pieces.ensures c.in_ok-push_to.ensures) c.in_ok-push_further.ensures)
    c.push_pieces-2.ensures)
