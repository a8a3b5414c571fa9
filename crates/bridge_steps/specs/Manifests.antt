-- From the bytes of an MPD to a presentation whose segments all have URLs.
use Rattle.bridge_report.specs.declared.refusal.Refusal.TheVariants as refusal
use Rattle.std.specs.Prelude.{ℕ, ℤ, List, if◌then◌else◌, Option, Some, None, Result, Ok, Err}
use Rattle.bridge_io.specs.{Answer.{and_then, told_as}, Outside.Files}
use Rattle.mpd_tree.specs.Meaning.{reading_of}
use Rattle.mpd_levels.specs.Segments.{Segments}
use Rattle.mpd_rules.specs.{Typed.TypedMpd, Rules.typed_mpd_of}
use Rattle.presentation.specs.{Presented.Presented, Verifying.verified}
use Rattle.mpd_presentation.specs.Told.{presented_of}
use Rattle.bridge_report.specs.{declared.refusal.Refusal.Refusal, Reading.{Named, content_of, of_file}}
use Rattle.bridge_playlists.specs.declared.place.StorePlace.{StorePlace}

-- a live MPD is rejected with this error, if one is given
abbrev pub unless_live : (live : Option Refusal) → TypedMpd (Option Segments) → Result (TypedMpd (Option Segments)) Refusal
unless_live None mpd = Ok mpd
unless_live (Some live) mpd = if mpd.facts.live then Err live else Ok mpd

-- the values of the tree that bytes spell, or the first error
unfoldable pub values_of : List ℕ → Result (TypedMpd (Option Segments)) Refusal
values_of bytes = and_then (told_as refusal.Text (reading_of bytes)) (λ root. told_as refusal.Rules (typed_mpd_of root))

-- the same, where a live MPD may be rejected
unfoldable pub mpd_of : (live : Option Refusal) → List ℕ → Result (TypedMpd (Option Segments)) Refusal
mpd_of live bytes = and_then (values_of bytes) (unless_live live)

-- each listed segment has a URL
unfoldable pub checked : (unit : ℕ) → Presented → Result Presented Refusal
checked unit p = and_then (told_as refusal.Presentation (verified p unit)) (λ longest. Ok p)

-- the presentation of an MPD at a URL, or the first error
unfoldable pub ready_of : (unit : ℕ) (url : List ℕ) (now : Option ℤ) → TypedMpd (Option Segments) → Result Presented Refusal
ready_of unit url now mpd = and_then (told_as refusal.Presentation (presented_of mpd url now)) (checked unit)

unfoldable pub checked_presentation : (live : Option Refusal) (unit : ℕ) (url : List ℕ) (now : Option ℤ) (bytes : List ℕ)
    → Result Presented Refusal
checked_presentation live unit url now bytes = and_then (mpd_of live bytes) (ready_of unit url now)

-- the same for the file at a location, given its bytes
abbrev pub mpd_in : (live : Option Refusal) (unit : ℕ) (now : Option ℤ) → StorePlace → (bytes : List ℕ) → Result Presented Named
mpd_in live unit now place bytes = of_file place.file (checked_presentation live unit place.url now bytes)

unfoldable pub mpd_at : (live : Option Refusal) (unit : ℕ) (now : Option ℤ) → StorePlace → Files → Result Presented Named
mpd_at live unit now place files = and_then (content_of place.file files) (mpd_in live unit now place)
