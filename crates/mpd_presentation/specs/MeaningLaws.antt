-- Laws of the meanings of presentations of MPDs.
use Rattle.std.specs.Prelude.{◌≡◌, ℕ, ℤ, List, Option, Some, Ok}
use Rattle.mpd_levels.specs.Segments.{Segments}
use Rattle.mpd_rules.specs.{Rules.typed_mpd_of, Typed.TypedMpd}
use Rattle.mpd_tree.specs.{Trees.Element, Meaning.reading_of}
use Rattle.presentation.specs.{Presented.Presented, Meanings.meaning_of}
use Rattle.mpd_presentation.specs.{Told.presented_of, Meanings.{mpd_meaning, dash_meaning}}

-- the presentation of an MPD means what the MPD means
abbrev pub PresentedAreMeant : Type 0
PresentedAreMeant = (mpd : TypedMpd (Option Segments)) (url : List ℕ) (now : Option ℤ) (p : Presented) → presented_of mpd url now ≡ Ok p
    → mpd_meaning mpd url now ≡ meaning_of p

-- which is what its text means
abbrev pub TextsAreMeant : Type 0
TextsAreMeant = (bytes url : List ℕ) (now : Option ℤ) (tree : Element) (mpd : TypedMpd (Option Segments)) (p : Presented)
    → reading_of bytes ≡ Ok tree → typed_mpd_of tree ≡ Ok mpd → presented_of mpd url now ≡ Ok p
    → dash_meaning bytes url now ≡ Some (meaning_of p)
