-- A folder whose files are as before is read as before.
use Rattle.std.proofs.Common.{◌≡◌, ℕ, true, not, List, [], ◌∷◌, ◌++◌, Option, None, Some, Result, Ok, refl, sym, ◌∙◌, ap}
use Rattle.std.proofs.lemmas.Bool.{and_parts}
use Rattle.std.specs.List.{list_any}
use Rattle.bridge_io.specs.{Answer.and_then, Outside.Files}
use Rattle.bridge_io.proofs.AndThen.{steps_of}
use Rattle.followed_text.specs.declared.followed.FollowedText.{FollowedText}
use Rattle.hls_master.specs.declared.track.MasterTrack.{MasterTrack}
use Rattle.publish_core.specs.{Names.{is_track_file, master_file, name_in}, Refusals.Named}
use Rattle.publish_core.specs.Sides.{FileName, content_of, is_named, is_own_file, list_at, list_in, side_at, side_of, side_with, track_at}
use Rattle.publish_core.specs.Sides.{track_named, track_with, tracks_from, tracks_with, within_limit}
use Rattle.publish_core.specs.declared.side.{Side.Side, SideTrack.SideTrack}
use Rattle.publish_core.proofs.{Apart.{AreOwn, names_in_folder}, Elsewhere.{AreKept, IsFlat, flat_track}}
use Rattle.publish_core.proofs.Read.{reading_of, side_by_steps}

module _ (folder file : List ℕ) (before after : Files) (kept : AreKept folder before after) where
  same_content : (own name : List ℕ) → IsFlat own → name_in folder own ≡ Some name → content_of name after ≡ content_of name before
  same_content own name flat is = ap (λ (o : Option (List ℕ)). content_of name (λ q. o)) (kept own name flat is)

  same_list : (own name url : List ℕ) → IsFlat own → name_in folder own ≡ Some name → list_at name url after ≡ list_at name url before
  unfolding list_at
  same_list own name url flat is = ap (λ (r : Result (List ℕ) Named). and_then r (list_in name url)) (same_content own name flat is)

  named_track : (own : List ℕ) (track : MasterTrack) (name : Option (List ℕ)) → IsFlat own → name_in folder own ≡ name
      → track_named file own after track name ≡ track_named file own before track name
  named_track own track None flat is = refl
  named_track own track (Some name) flat is =
      ap (λ (r : Result FollowedText Named). and_then r (λ list. Ok (track_with track own name list)))
      (same_list own name track.address flat is)

  same_track : (earlier : List FileName) (track : MasterTrack) (name : FileName) → is_own_file earlier name ≡ true
      → track_at folder file after track name ≡ track_at folder file before track name
  same_track earlier track None own = refl
  same_track earlier track (Some name) own =
      let is = (and_parts (is_track_file name) (not (list_any (is_named name) earlier)) own).0 in
      named_track name track (name_in folder name) (flat_track name is) refl

  same_with : (earlier : List FileName) (lists : List SideTrack) (track : MasterTrack) (name : FileName) → is_own_file earlier name ≡ true
      → tracks_with folder file after lists track name ≡ tracks_with folder file before lists track name
  unfolding tracks_with
  same_with earlier lists track name own =
      ap (λ (r : Result SideTrack Named). and_then r (λ list. within_limit file (lists ++ list ∷ [])))
      (same_track earlier track name own)

  same_tracks : (earlier : List FileName) (lists : List SideTrack) (tracks : List MasterTrack) (names : List FileName)
      (found : List SideTrack) → AreOwn earlier names → tracks_from folder file before lists tracks names ≡ Ok found
      → tracks_from folder file after lists tracks names ≡ Ok found
  same_tracks earlier lists [] names found own is = is
  same_tracks earlier lists (track ∷ tracks) [] found own is = is
  same_tracks earlier lists (track ∷ tracks) (name ∷ names) found own is =
      let steps = steps_of (tracks_with folder file before lists track name)
      (λ next. tracks_from folder file before next tracks names) found is in
      ap (λ (r : Result (List SideTrack) Named). and_then r (λ next. tracks_from folder file after next tracks names))
      (same_with earlier lists track name own.0 ∙ steps.first)
      ∙ same_tracks (earlier ++ name ∷ []) steps.value tracks names found own.1 steps.then

  same_side : (side : Side) → name_in folder master_file ≡ Some file → side_of folder file before ≡ Ok side
      → side_of folder file after ≡ Ok side
  same_side side file_is is =
      let read = reading_of folder file before side is in
      let own = names_in_folder folder file read.found read.names read.named in
      side_by_steps folder file after side.text read.found read.names side.tracks
      (same_content master_file file refl file_is ∙ read.content) read.master read.named
      (same_tracks [] [] read.found read.names side.tracks own.0 read.tracks)
      ∙ ap (λ (name : List ℕ). Ok (side_with name side.text side.tracks)) (sym read.file_is)

-- the playlists of the folder are as before
pub stays : (folder : List ℕ) (before after : Files) → AreKept folder before after → (file : Option (List ℕ)) (side : Side)
    → name_in folder master_file ≡ file → side_at folder before file ≡ Ok side → side_at folder after file ≡ Ok side
stays folder before after kept None side of is = absurd (cc)
stays folder before after kept (Some file) side of is = same_side folder file before after kept side of is
