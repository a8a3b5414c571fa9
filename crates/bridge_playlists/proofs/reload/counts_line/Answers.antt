use Rattle.std.proofs.Common.{◌∙◌, append_assoc}
use Rattle.bridge_playlists.specs.Reload.{counts_line}
use Rattle.bridge_playlists.proofs.reload.counts_line.Goals as goal

pub returns : goal.returns
unfolding counts_line
returns c = c.from.ensures ∙ simp append_assoc (c.in_ok-format.ensures.ok)
