use Rattle.hls_lines.proofs.ScanLemmas.{first_place}
use Rattle.hls_lines.proofs.marks.find_mark.Goals as goal

pub returns : goal.returns
returns c = first_place _ c.args.bytes.now c.memchr.result c.memchr.ensures
