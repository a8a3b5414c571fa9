use Rattle.std.proofs.Common.{◌∙◌, ap, Some}
use Rattle.hls_master.specs.Codes.{selected}
use Rattle.hls_master.proofs.Joined.{joined_is}
use Rattle.hls_master.proofs.codes.select_codes.Goals as goal

pub returns : goal.returns
unfolding selected
returns c = ap Some (rw c.deref.ensures.value at (c.from.ensures ∙ c.in_ok-join.ensures.ok))
    ∙ joined_is c.in_ok-chosen.chosen.items _ (rw c.in_ok-chosen.chosen.ok.0 at c.if-is_empty.ensures) c.in_ok-chosen.ensures
