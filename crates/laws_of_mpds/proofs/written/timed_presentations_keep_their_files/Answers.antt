use Rattle.laws_of_mpds.proofs.TimedEntries as timed
use Rattle.laws_of_mpds.proofs.written.timed_presentations_keep_their_files.Goals as goal

pub returns-clause-files : goal.returns-clause-files
returns-clause-files c = timed.keep_their_files

pub returns-clause-begin : goal.returns-clause-begin
returns-clause-begin c = timed.begin_in_row
