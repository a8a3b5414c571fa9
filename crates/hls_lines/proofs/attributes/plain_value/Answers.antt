use Rattle.std.proofs.Common.{ap, ◌∙◌}
use Rattle.std.specs.List.{position}
use Rattle.hls_lines.specs.Attributes.{ends_value}
use Rattle.hls_lines.proofs.ScanLemmas.{value_boundary}
use Rattle.hls_lines.proofs.attributes.plain_value.Goals as goal

pub split_at-requires : goal.split_at-requires
split_at-requires c = rw c.unwrap_or-len.ensures (value_boundary c.args.text.now _ (c.value_end.ensures
    ∙ ap (position ends_value) c.as_bytes.ensures.value))
