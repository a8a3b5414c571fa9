use Rattle.std.proofs.Common.{refl}
use Rattle.hls_media.proofs.Meanings.{map_told}
use Rattle.hls_media.proofs.state.Reader.read_map.Goals as goal

pub returns : goal.returns
returns c =
    let told = map_told c.args.base.now c.args.rest.now c.args.place c.in_ok-map.map.part c.in_ok-map.ensures in
    (rw c.in_ok-map.ensures refl, rw told refl)
