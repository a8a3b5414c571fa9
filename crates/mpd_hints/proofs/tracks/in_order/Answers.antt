use Rattle.mpd_hints.proofs.tracks.in_order.Goals as goal
use Rattle.std.proofs.lemmas.List.{map-append}

pub returns : goal.returns
returns c =
    let by_kind = c.in_ok-video.ensures in
    rw (c.in_ok-add_all-2.ensures, c.in_ok-add_all.ensures, by_kind.video, by_kind.audio, by_kind.text) (simp map-append)
