-- What the text of a written MPD means.
use Rattle.std.specs.{Prelude.{◌≡◌, ℕ, ℤ, nat_le, IsTrue, List, All, Option, Some, IfSome}, List.list_all}
use Rattle.mpd_tree.specs.Grammar.{IsClean}
use Rattle.presentation.specs.{declared.track.Track.Track, Presented.Presented, Meanings.meaning_of}
use Rattle.mpd_presentation.specs.Meanings.{dash_meaning}
use Rattle.segment_forms.specs.declared.form.Form.{Form}
use Rattle.dash_writer.specs.Manifest.{manifest_text}
use Rattle.laws_of_mpds.specs.Meant.{IsWritable}

-- a text that a value can contain: only allowed characters, without tab, LF and CR
pub record IsCarried (text : List ℕ) : Type 0 where
  pub clean : IsClean text
  pub no_controls : IsTrue (list_all (λ b. nat_le 32 b) text)

pub record IsTellable (track : Track) : Type 0 where
  pub language : IfSome track.language IsCarried
  pub codecs : IfSome track.codecs IsCarried

-- at any URL and time
abbrev pub TextsMean : Type 0
TextsMean = (form : Form) (p : Presented) (url : List ℕ) (now : Option ℤ) → IsWritable p → All IsTellable p.tracks
    → dash_meaning (manifest_text form p) url now ≡ Some (meaning_of p)
