use Rattle.hls_writer.proofs.attribute.push_list.Goals as goal
use Rattle.std.proofs.{Common.{◌≡◌, ℕ, List, ◌∷◌, ap, ◌∙◌, sym, flat_map}, lemmas.List.append-nil}
use Rattle.std.specs.Borrow.{Bor}
use Rattle.hls_writer.specs.{Attributes.codes_bytes, AttributeRows.texts_of}
use Rattle.bridge_io.proofs.Adding.{adds_same, adds_then, adds_stop_at}

-- the codes are the first one and the others
all : (codes others : List (Bor (List ℕ))) (first : Bor (List ℕ)) → codes ≡ first ∷ others
    → codes_bytes (first.now ∷ texts_of others) ≡ codes_bytes (texts_of codes)
all codes others first is = ap (λ xs. codes_bytes (texts_of xs)) (sym is)

pub returns-in_err-push_pieces : goal.returns-in_err-push_pieces
returns-in_err-push_pieces g c =
    let others = c.in-Some.others.now in let first = c.in-Some.first.now in
    adds_same (all c.args.codes.now others first c.in-Some.ensures.cases.0)
    (adds_stop_at (flat_map (λ code. 44 ∷ code) (texts_of others)) c.from_residual.result c.from_residual.ensures.1
    (adds_same (append-nil c.as_bytes.result.now ∙ c.as_bytes.ensures.value) c.in_err-push_pieces.ensures))

pub returns : goal.returns
returns g c =
    let others = c.in-Some.others.now in let first = c.in-Some.first.now in
    adds_same (all c.args.codes.now others first c.in-Some.ensures.cases.0)
    (adds_then (flat_map (λ code. 44 ∷ code) (texts_of others)) (adds_same (append-nil c.as_bytes.result.now
    ∙ c.as_bytes.ensures.value) c.in_ok-push_pieces.ensures) c.push_further_codes.ensures)
