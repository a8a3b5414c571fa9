use Rattle.mpd_text.proofs.attributes.next_of.Goals as goal
use Rattle.std.proofs.Common.{arith}
use Rattle.mpd_text.proofs.Rests.{white_behind}

pub attribute_of-requires-clause-rest : goal.attribute_of-requires-clause-rest
attribute_of-requires-clause-rest c = white_behind _ c.args.bytes.now _ c.requires.rest c.after_white-rest.ensures (omega arith)
