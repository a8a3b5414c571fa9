use Rattle.hls_writer.proofs.items.push_slices.Goals as goal
use Rattle.std.proofs.{Common.{None, refl, ◌∙◌}, lemmas.List.append-nil}
use Rattle.bridge_io.proofs.Adding.{adds_same, adds_answered, adds_then, adds_stop_at}
use Rattle.hls_writer.proofs.Following.{joined}

pub returns-in_err-former : goal.returns-in_err-former
returns-in_err-former g c =
    adds_same (joined c.args.spelling.now c.args.digits None _ c.args.front.now c.args.back.now refl)
    (adds_stop_at _ c.from_residual.result c.from_residual.ensures.1 c.in_err-former.ensures.adds)

pub returns-in_err-push_items : goal.returns-in_err-push_items
returns-in_err-push_items g c =
    adds_same (append-nil _ ∙ joined c.args.spelling.now c.args.digits None _ c.args.front.now c.args.back.now c.in_ok-former.ensures.last)
    (adds_stop_at _ c.from_residual-in_err-push_items.result c.from_residual-in_err-push_items.ensures.1
    (adds_then _ c.in_ok-former.ensures.adds c.in_err-push_items.ensures.adds))

pub returns : goal.returns
returns g c =
    adds_same (joined c.args.spelling.now c.args.digits None _ c.args.front.now c.args.back.now c.in_ok-former.ensures.last)
    (adds_answered tt (adds_then _ c.in_ok-former.ensures.adds c.in_ok-push_items.ensures.adds))
