-- Presentations of MPDs whose segments can be listed.
use Rattle.std.specs.Prelude.{◌≡◌, ℕ, List, Ok}
use Rattle.presentation.specs.{Presented.Presented, Verifying.verified, Listable.AreListable}
use Rattle.mpd_presentation.specs.Origins.{CameFromStaticMpd}

-- those of a static MPD, once each segment is verified
abbrev pub VerifiedAreListable : Type 0
VerifiedAreListable = (p : Presented) (unit : ℕ) (longest : List ℕ) → CameFromStaticMpd p → verified p unit ≡ Ok longest → AreListable p
