use Rattle.laws_of_playlists.proofs.master.written_masters_are_read.Goals as goal
use Rattle.laws_of_playlists.proofs.{MasterRead.master_is_read, WrittenLines.written_are_read}

pub returns : goal.returns
returns c = master_is_read written_are_read
