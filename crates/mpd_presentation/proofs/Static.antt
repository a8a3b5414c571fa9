-- What came from a static MPD is finished.
use Rattle.std.proofs.Common.{◌≡◌, Bool, true, false, Some, None, refl, sym, ◌∙◌, ap}
use Rattle.std.specs.Prelude.{if◌then◌else◌, is_none}
use Rattle.presentation.specs.Presented.{Following, is_finished}
use Rattle.mpd_presentation.specs.Origins.{StaticAreFinished}
use Rattle.mpd_presentation.proofs.FromMpd.{is_told}

not_followed : (live : Bool) (f : Following) → live ≡ false → is_none (if live then Some f else None) ≡ true
not_followed true f off = absurd (cc)
not_followed false f off = refl

pub static_are_finished : StaticAreFinished
static_are_finished p from =
    ap is_finished (sym (is_told from.mpd from.url from.now p from.presented).is) ∙ not_followed from.mpd.facts.live _ from.static
