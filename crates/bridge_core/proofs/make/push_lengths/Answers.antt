use Rattle.bridge_core.proofs.Lengths.{lengths_pushed}
use Rattle.bridge_core.proofs.make.push_lengths.Goals as goal

pub returns : goal.returns
returns c =
    lengths_pushed _ _ _ _ _ _ c.args.digits c.args.video c.args.audio c.in_ok-push_str.ensures.bytes c.in_ok-push_seconds.ensures
    c.in_ok-push_str-2.ensures.bytes c.in_ok-push_seconds-2.ensures
    c.in_ok-push_str-3.ensures.bytes
