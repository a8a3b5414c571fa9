use Rattle.std.proofs.Common.{rules}
use Rattle.hls_writer.proofs.finished.write_playlist.Goals as goal

pub returns-in_err-flush-clause-err : goal.returns-in_err-flush-clause-err
returns-in_err-flush-clause-err g c = let behind = c.in_ok-push_playlist.ensures.behind _ _ c.in_ok-writer.ensures.ok in search rules
