use Rattle.std.proofs.Common.{refl}
use Rattle.hls_master.proofs.Addresses.{given_is_value}
use Rattle.hls_master.proofs.address.read_address.Goals as goal

pub returns-in-Ok : goal.returns-in-Ok
returns-in-Ok c = rw (c.in-Ok.ensures, given_is_value _ _ _ c.in-Ok.ensures) refl
