-- What a written MPD means is what its presentation means.
use Rattle.std.specs.Prelude.{◌≡◌, ℕ, ◌<◌, ℤ, Bool, true, false, List, [], ◌∷◌, length, map, All, Option, Some, None}
use Rattle.bridge_io.specs.{declared.media.Kind.Kind, declared.media.Kind.TheVariants.{Video, Audio, Text}}
use Rattle.mpd_rules.specs.Rules.{dash_values}
use Rattle.presentation.specs.{declared.track.Track.Track, Presented.{Presented, AreFilled}, Meanings.meaning_of}
use Rattle.mpd_presentation.specs.Meanings.{meaning_if_counted}
use Rattle.mpd_tree.specs.Placed.{root_place}
use Rattle.segment_forms.specs.declared.form.Form.{Form}
use Rattle.dash_writer.specs.Manifest.{root_of}
use Rattle.laws_of_mpds.specs.{Told.read_at, Contents.IsPlain}

-- ---- presentations that are written and read back

abbrev pub are_text : List Kind → Bool
are_text [] = true
are_text (Text ∷ kinds) = are_text kinds
are_text (Audio ∷ kinds) = false
are_text (Video ∷ kinds) = false

abbrev pub are_audio_then_text : List Kind → Bool
are_audio_then_text [] = true
are_audio_then_text (Audio ∷ kinds) = are_audio_then_text kinds
are_audio_then_text (Text ∷ kinds) = are_text kinds
are_audio_then_text (Video ∷ kinds) = false

-- video, then audio, then text
abbrev pub are_in_order : List Kind → Bool
are_in_order [] = true
are_in_order (Video ∷ kinds) = are_in_order kinds
are_in_order (Audio ∷ kinds) = are_audio_then_text kinds
are_in_order (Text ∷ kinds) = are_text kinds

pub record IsWritable (p : Presented) : Type 0 where
  pub finished : p.following ≡ None
  pub some : 0 < length p.sections
  pub filled : AreFilled (length p.sections) (length p.tracks) (length p.contents)
  pub plain : All IsPlain p.contents
  pub ordered : are_in_order (map (λ (track : Track). track.kind) p.tracks) ≡ true

-- at any URL and time
abbrev pub TreesMean : Type 0
TreesMean = (form : Form) (p : Presented) (url : List ℕ) (now : Option ℤ) → IsWritable p
    → meaning_if_counted (dash_values (read_at root_place (root_of form p))) url now ≡ Some (meaning_of p)
