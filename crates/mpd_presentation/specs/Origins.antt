-- Where presentations of MPDs come from.
use Rattle.std.specs.Prelude.{◌≡◌, ℕ, ℤ, true, false, List, Option, Ok}
use Rattle.mpd_levels.specs.Segments.{Segments}
use Rattle.mpd_rules.specs.{Rules.typed_mpd_of, Typed.TypedMpd}
use Rattle.mpd_tree.specs.Trees.{Element}
use Rattle.presentation.specs.Presented.{Presented, is_finished}
use Rattle.mpd_presentation.specs.Told.{presented_of}

-- from a valid static MPD
pub record CameFromStaticMpd (p : Presented) : Type 0 where
  pub tree : Element
  pub mpd : TypedMpd (Option Segments)
  pub url : List ℕ
  pub now : Option ℤ
  pub typed : typed_mpd_of tree ≡ Ok mpd
  pub static : mpd.facts.live ≡ false
  pub presented : presented_of mpd url now ≡ Ok p

-- it is VOD
abbrev pub StaticAreFinished : Type 0
StaticAreFinished = (p : Presented) → CameFromStaticMpd p → is_finished p ≡ true
