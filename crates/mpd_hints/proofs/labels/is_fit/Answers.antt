use Rattle.mpd_hints.proofs.labels.is_fit.Goals as goal
use Rattle.std.proofs.{Common.{◌∙◌, ap}, lemmas.Str.is_utf8-from_IsUtf8}
use Rattle.track_hints.specs.Labels.{are_fit}

pub returns : goal.returns
returns c = rw (is_utf8-from_IsUtf8 c.args.text.now c.utf8.text) (c.are_fit.ensures ∙ ap are_fit c.as_bytes.ensures.value)
