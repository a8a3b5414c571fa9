use Rattle.std.proofs.Common.{sym, ◌∙◌}
use Rattle.url_parts.proofs.InLine.{in_line_dropped}
use Rattle.url_parts.proofs.alike.keep.Goals as goal

pub returns-else-not-is_line_byte : goal.returns-else-not-is_line_byte
returns-else-not-is_line_byte c = in_line_dropped c.args.kept.now.items c.args.byte (sym c.is_line_byte.ensures
    ∙ c.if-not-is_line_byte.false)
