use Rattle.mpd_text.proofs.many_names.is_name_of_any.Given as goal
use Rattle.std.proofs.Common.{◌≡◌, drop}
use Rattle.bridge_io.specs.Texts.{is_among}
use Rattle.mpd_text.specs.Names.{names_in}

abbrev pub invariant-loop-row : goal.invariant-loop-row
invariant-loop-row l = is_among l.name (names_in l.bytes (drop l.row-index l.rows)) ≡ is_among l.name (names_in l.bytes l.rows)
