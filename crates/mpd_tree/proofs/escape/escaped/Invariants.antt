use Rattle.mpd_tree.proofs.escape.escaped.Given as goal
use Rattle.std.proofs.Common.{◌≡◌, ◌++◌}
use Rattle.std.specs.{String.string_bytes, Str.Iter.chars_rest}
use Rattle.mpd_tree.specs.Escapes.{escape_all}

abbrev pub invariant-loop-character : goal.invariant-loop-character
invariant-loop-character l = string_bytes l.written ++ escape_all (chars_rest l.character-iterator) ≡ escape_all l.text
