-- What is read of an MPD and its media files came from them.
use Rattle.bridge_report.specs.declared.refusal.Refusal.TheVariants as refusal
use Rattle.std.proofs.Common.{◌≡◌, ℕ, List, Option, Ok, refl}
use Rattle.bridge_io.proofs.AndThen.{steps_of}
use Rattle.bridge_io.specs.{Outside.Files, Answer.told_as}
use Rattle.index_parts.specs.Presented.{indexed_of}
use Rattle.laws_of_playlists.specs.IndexOrigins.{CameFromIndexes}
use Rattle.mpd_levels.specs.declared.indexed.IndexRow.{IndexRow}
use Rattle.mpd_rules.specs.{Rules.indexed_mpd_of, Typed.TypedMpd}
use Rattle.mpd_tree.specs.{Meaning.reading_of, Trees.Element}
use Rattle.presentation.proofs.Filling.{ok_under}
use Rattle.presentation.specs.{Presented.Presented, Verifying.verified}
use Rattle.bridge_playlists.specs.declared.place.StorePlace.{StorePlace}
use Rattle.bridge_report.specs.Reading.{content_of}
use Rattle.bridge_steps.specs.Manifests.{checked}
use Rattle.bridge_reach.specs.Index.{checked_in, presented_by, presented_in, ready_in, told_at, told_in, values_in, values_of, with_players}
use Rattle.bridge_steps.specs.Players.{players_in}
use Rattle.mpd_hints.specs.declared.starts.Sap.TheVariants.{Subsegments}
use Rattle.segment_forms.specs.declared.form.Form.{Form}
use Rattle.track_hints.specs.declared.hints.Hints.{Hints}

-- the bytes of the MPD at a place, what they spell, and the presentation of that and of the files, with addresses
pub record IsIndexed (unit : ℕ) (place : StorePlace) (files : Files) (p : Presented) : Type 0 where
  pub bytes : List ℕ
  pub there : content_of place.file files ≡ Ok bytes
  pub tree : Element
  pub spelled : reading_of bytes ≡ Ok tree
  pub mpd : TypedMpd (Option IndexRow)
  pub typed : indexed_mpd_of tree ≡ Ok mpd
  pub presented : indexed_of place.url place.folder files mpd ≡ Ok p
  pub longest : List ℕ
  pub verified : verified p unit ≡ Ok longest

is_indexed : (unit : ℕ) (place : StorePlace) (files : Files) (bytes : List ℕ) (p : Presented) → content_of place.file files ≡ Ok bytes
    → ready_in unit place files bytes ≡ Ok p
    → IsIndexed unit place files p
unfolding ready_in presented_in values_of checked
is_indexed unit place files bytes p there is =
    let made = steps_of (presented_in place files bytes) (checked_in unit place) p is in
    let values = steps_of (values_in place bytes) (presented_by place files) made.value made.first in
    let spelled = steps_of (told_as refusal.Text (reading_of bytes)) (λ root. told_as refusal.Rules (indexed_mpd_of root)) values.value
    (ok_under _ (values_of bytes) values.value values.first) in
    let found = steps_of (told_as refusal.Presentation (verified made.value unit)) (λ longest. Ok made.value) p
    (ok_under _ (checked unit made.value) p made.then) in
    let same : made.value ≡ p = cc in
    rw (← same) (record {
      bytes = bytes;
      there = there;
      tree = spelled.value;
      spelled = ok_under _ (reading_of bytes) spelled.value spelled.first;
      mpd = values.value;
      typed = ok_under _ (indexed_mpd_of spelled.value) values.value spelled.then;
      presented = ok_under _ (indexed_of place.url place.folder files values.value) made.value values.then;
      longest = found.value;
      verified = ok_under _ (verified made.value unit) found.value found.first;
    })

-- the same with what the MPD says for players
pub record IsTold (form : Form) (unit : ℕ) (place : StorePlace) (files : Files) (told : Presented × Option Hints) : Type 0 where
  pub indexed : IsIndexed unit place files told.0
  pub bytes : List ℕ
  pub players : told.1 ≡ players_in form Subsegments bytes

pub is_told : (form : Form) (unit : ℕ) (place : StorePlace) (files : Files) (told : Presented × Option Hints)
    → told_at form unit place files ≡ Ok told
    → IsTold form unit place files told
unfolding told_at told_in
is_told form unit place files told is =
    let read = steps_of (content_of place.file files) (told_in form unit place files) told is in
    let made = steps_of (ready_in unit place files read.value) (with_players (players_in form Subsegments read.value)) told read.then in
    let same : (made.value, players_in form Subsegments read.value) ≡ told = cc in
    rw (← same)
    (record { indexed = is_indexed unit place files read.value made.value read.first made.first; bytes = read.value; players = refl })

abbrev pub came_from : (unit : ℕ) (place : StorePlace) (files : Files) (p : Presented) → IsIndexed unit place files p → CameFromIndexes p
came_from unit place files p is = record {
  tree = is.tree;
  mpd = is.mpd;
  url = place.url;
  folder = place.folder;
  files = files;
  typed = is.typed;
  presented = is.presented;
}
