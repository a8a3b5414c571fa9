use Rattle.hls_media.proofs.Bounded.{read_is_meant}
use Rattle.hls_media.proofs.laws.what_is_read_is_meant.Goals as goal

pub returns : goal.returns
returns c = read_is_meant
