use Rattle.std.proofs.Common.{refl}
use Rattle.bridge_io.proofs.Adding.{adds_same}
use Rattle.dash_writer.proofs.Escaping.{alone_stays, number_stays, seconds_stay}
use Rattle.dash_writer.proofs.attribute.Value.push_to.Goals as goal

pub returns-in-Number : goal.returns-in-Number
returns-in-Number g c = rw c.in-Number.is (adds_same (alone_stays c.in-Number.number) c.push_pieces.ensures)

pub returns-in-Wide : goal.returns-in-Wide
returns-in-Wide g c = rw c.in-Wide.is (adds_same (alone_stays c.in-Wide.number) c.push_pieces-in-Wide.ensures)

pub returns-in-Id : goal.returns-in-Id
returns-in-Id g c = rw c.in-Id.is (adds_same (number_stays 116 c.in-Id.place refl) c.push_pieces-in-Id.ensures)

pub returns-in-Seconds : goal.returns-in-Seconds
returns-in-Seconds g c = rw c.in-Seconds.is (adds_same (seconds_stay c.in-Seconds.number) c.push_pieces-in-Seconds.ensures)
