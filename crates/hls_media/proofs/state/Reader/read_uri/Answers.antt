use Rattle.hls_media.proofs.state.Reader.read_uri.Goals as goal
use Rattle.std.proofs.Common.{◌++◌, [], ◌∷◌, None, refl, ap}
use Rattle.hls_media.specs.{States.State, Views.state_of}
use Rattle.hls_media.proofs.Meanings.{segment_told}

pub returns : goal.returns
returns c =
    let segment = c.in_ok-segment.segment in
    let told = segment_told c.args.base.now (state_of c.args.self.now) c.args.text.now c.args.place segment
    c.in_ok-segment.ensures.segment in
    let same = ap (λ (s : State). record s { duration = None; range = None; segments = s.segments ++ segment ∷ [] })
    c.in_ok-segment.ensures.state in
    (rw c.in_ok-segment.ensures.segment refl, rw (c.in_ok-push.ensures.items, told) same)
