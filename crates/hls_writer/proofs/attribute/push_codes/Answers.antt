use Rattle.hls_writer.proofs.attribute.push_codes.Goals as goal
use Rattle.std.proofs.Common.{◌≡◌, ℕ, List, [], ◌∷◌, ◌++◌, codes, append_assoc}
use Rattle.hls_writer.specs.{Attributes.{attribute_bytes, codes_bytes}, AttributeRows.texts_of}
use Rattle.bridge_io.proofs.Adding.{adds_same, adds_then, adds_stop, adds_stop_at}

whole : (list : List ℕ) → (codes "CODECS=\"" ++ list) ++ 34 ∷ [] ≡ codes "CODECS=" ++ 34 ∷ list ++ 34 ∷ []
whole list = simp append_assoc

pub returns-in_err-push_pieces : goal.returns-in_err-push_pieces
unfolding attribute_bytes
returns-in_err-push_pieces g c =
    adds_same (whole (codes_bytes (texts_of c.args.codes.now)))
    (adds_stop_at (34 ∷ []) c.from_residual.result c.from_residual.ensures.1
    (adds_stop {T = Unit {0}} (codes_bytes (texts_of c.args.codes.now)) c.in_err-push_pieces.ensures))

pub returns-in_err-push_list : goal.returns-in_err-push_list
unfolding attribute_bytes
returns-in_err-push_list g c =
    adds_same (whole (codes_bytes (texts_of c.args.codes.now)))
    (adds_stop_at (34 ∷ []) c.from_residual-in_err-push_list.result c.from_residual-in_err-push_list.ensures.1
    (adds_then (codes_bytes (texts_of c.args.codes.now)) c.in_ok-push_pieces.ensures c.in_err-push_list.ensures))

pub returns : goal.returns
unfolding attribute_bytes
returns g c =
    adds_same (whole (codes_bytes (texts_of c.args.codes.now)))
    (adds_then (34 ∷ []) (adds_then (codes_bytes (texts_of c.args.codes.now)) c.in_ok-push_pieces.ensures c.in_ok-push_list.ensures)
    c.push_pieces-2.ensures)
