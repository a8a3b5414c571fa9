use Rattle.mpd_text.proofs.many_names.ManyNames.add_all.Given as goal
use Rattle.std.proofs.Common.{[], take}
use Rattle.mpd_text.specs.{ManyNames.HasNames, Names.names_in}

abbrev pub invariant-loop-row : goal.invariant-loop-row
invariant-loop-row l = HasNames l.fn.self [] → HasNames l.self (names_in l.bytes (take l.row-index l.rows))
