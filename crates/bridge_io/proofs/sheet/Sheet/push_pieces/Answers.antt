use Rattle.std.proofs.lemmas.List.{take_all}
use Rattle.bridge_io.specs.Pieces.{piece_text}
use Rattle.bridge_io.proofs.Adding.{adds_none, adds_more, adds_until}
use Rattle.bridge_io.proofs.sheet.Sheet.push_pieces.Goals as goal

pub loop-piece-init : goal.loop-piece-init
loop-piece-init g c = adds_none _

pub loop-piece-preserved : goal.loop-piece-preserved
loop-piece-preserved g c = adds_more piece_text c.args.pieces.now c.loop-piece.piece-index _ c.loop-piece-test.true c.loop-piece.invariant
    c.in_ok-push_piece.ensures

pub returns-in_err-push_piece : goal.returns-in_err-push_piece
returns-in_err-push_piece g c = adds_until piece_text c.args.pieces.now c.loop-piece.piece-index _ c.loop-piece-test.true
    c.loop-piece.invariant c.from_residual.result c.from_residual.ensures.1 c.in_err-push_piece.ensures

pub returns : goal.returns
returns g c = rw (take_all c.loop-piece.piece-index c.args.pieces.now c.loop-piece-test.false) at c.loop-piece.invariant
