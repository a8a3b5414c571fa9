use Rattle.laws_of_playlists.proofs.WrittenLines.{written_are_read}
use Rattle.laws_of_playlists.proofs.lines.written_lines_are_read.Goals as goal

pub returns : goal.returns
returns c = written_are_read
