-- The playlists of a folder that is read have segments, in the order of their sections.
use Rattle.publish_core.specs.declared.refusal.Refused.TheVariants as refused
use Rattle.bridge_report.specs.declared.refusal.Refusal.TheVariants as refusal
use Rattle.std.proofs.Common.{◌≡◌, ℕ, Bool, true, false, List, [], ◌∷◌, ◌++◌, All, Option, Some, None, Result, Ok, Err, refl, subst}
use Rattle.std.proofs.lemmas.List.Elements.{All-cons, All-head, All-nil, All-push, All-tail}
use Rattle.std.specs.Prelude.{nat_lt, if◌then◌else◌}
use Rattle.bridge_io.specs.{Answer.{and_then, told_as}, Outside.Files}
use Rattle.bridge_io.proofs.AndThen.{steps_of}
use Rattle.followed_text.specs.{Followed.followed_of, declared.fault.FollowedFault.FollowedFault}
use Rattle.followed_text.specs.declared.followed.FollowedText.{FollowedText}
use Rattle.hls_master.specs.declared.track.MasterTrack.{MasterTrack}
use Rattle.laws_of_publishing.specs.Laws.{IsTrack}
use Rattle.publish_core.specs.{Decisions.paired, Names.name_in}
use Rattle.publish_core.specs.Sides.{FileName, content_of, list_at, list_in, master_in, names_in, of_file, refused_by, segment_limit}
use Rattle.publish_core.specs.Sides.{segments_of, side_at, side_by, side_of, side_with, track_at, track_named, track_with, tracks_from}
use Rattle.publish_core.specs.Sides.{tracks_with, within_limit}
use Rattle.publish_core.specs.declared.side.{Side.Side, SideTrack.SideTrack}
use Rattle.publish_core.proofs.Ordered.{IsInOrder, ReadIsInOrder}

-- what is chosen where the other is refused
pub chosen : {X E : Type 0} (b : Bool) (x y : X) (e : E) → (if b then Err e else Ok x) ≡ Ok y → x ≡ y
chosen true x y e is = absurd (cc)
chosen false x y e is = cc

abbrev IsRead : SideTrack → Type 0
IsRead track = IsInOrder track.list

module _ (reads : ReadIsInOrder) where
  read_list : (name url bytes : List ℕ) (list : FollowedText) → list_in name url bytes ≡ Ok list → IsInOrder list
  read_list name url bytes list is = go (followed_of bytes url) refl is
    where
      go : (r : Result FollowedText FollowedFault) → followed_of bytes url ≡ r → of_file name (told_as refused_by r) ≡ Ok list
          → IsInOrder list
      go (Ok read) same one = (let e : read ≡ list = cc in subst IsInOrder e (reads bytes url read same))
      go (Err f) same one = absurd (cc)

  list_at_name : (name url : List ℕ) (files : Files) (list : FollowedText) → list_at name url files ≡ Ok list → IsInOrder list
  unfolding list_at
  list_at_name name url files list is = let steps = steps_of (content_of name files) (list_in name url) list is in
      read_list name url steps.value list steps.then

  named_track : (file own : List ℕ) (files : Files) (track : MasterTrack) (name : Option (List ℕ)) (found : SideTrack)
      → track_named file own files track name ≡ Ok found → IsRead found
  named_track file own files track None found is = absurd (cc)
  named_track file own files track (Some name) found is =
      let steps = steps_of (list_at name track.address files) (λ list. Ok (track_with track own name list)) found is in
      let same : track_with track own name steps.value ≡ found = (let e = steps.then in cc) in
      subst IsRead same (list_at_name name track.address files steps.value steps.first)

  track_of : (folder file : List ℕ) (files : Files) (track : MasterTrack) (own : FileName) (found : SideTrack)
      → track_at folder file files track own ≡ Ok found → IsRead found
  track_of folder file files track None found is = absurd (cc)
  track_of folder file files track (Some own) found is = named_track file own files track (name_in folder own) found is

  more_tracks : (folder file : List ℕ) (files : Files) (lists : List SideTrack) (track : MasterTrack) (name : FileName)
      (next : List SideTrack) → All IsRead lists → tracks_with folder file files lists track name ≡ Ok next → All IsRead next
  unfolding tracks_with
  more_tracks folder file files lists track name next all is =
      let steps = steps_of (track_at folder file files track name) (λ list. within_limit file (lists ++ list ∷ [])) next is in
      let same : lists ++ steps.value ∷ [] ≡ next =
      chosen (nat_lt segment_limit (segments_of (lists ++ steps.value ∷ []))) (lists ++ steps.value ∷ []) next
      (file, refused.Read refusal.TooManySegments) steps.then in
      subst (All IsRead) same (All-push IsRead lists steps.value all (track_of folder file files track name steps.value steps.first))

  all_tracks : (folder file : List ℕ) (files : Files) (lists : List SideTrack) (tracks : List MasterTrack) (names : List FileName)
      (found : List SideTrack) → All IsRead lists → tracks_from folder file files lists tracks names ≡ Ok found → All IsRead found
  all_tracks folder file files lists [] names found all is = (let same : lists ≡ found = cc in subst (All IsRead) same all)
  all_tracks folder file files lists (track ∷ tracks) [] found all is = (let same : lists ≡ found = cc in subst (All IsRead) same all)
  all_tracks folder file files lists (track ∷ tracks) (name ∷ names) found all is =
      let steps = steps_of (tracks_with folder file files lists track name) (λ next. tracks_from folder file files next tracks names) found
      is in
      all_tracks folder file files steps.value tracks names found
      (more_tracks folder file files lists track name steps.value all steps.first) steps.then

  side_in : (folder file : List ℕ) (files : Files) (text : List ℕ) (side : Side) → side_by folder file files text ≡ Ok side
      → All IsRead side.tracks
  side_in folder file files text side is =
      let masters = steps_of (master_in file text) (λ master. and_then (names_in folder file master)
      (λ names. and_then (tracks_from folder file files [] master names) (λ tracks. Ok (side_with file text tracks)))) side is in
      let names = steps_of (names_in folder file masters.value)
      (λ names. and_then (tracks_from folder file files [] masters.value names) (λ tracks. Ok (side_with file text tracks))) side
      masters.then in
      let tracks = steps_of (tracks_from folder file files [] masters.value names.value) (λ tracks. Ok (side_with file text tracks)) side
      names.then in
      let same : side_with file text tracks.value ≡ side = (let e = tracks.then in cc) in
      subst (λ (s : Side). All IsRead s.tracks) same
      (all_tracks folder file files [] masters.value names.value tracks.value (All-nil IsRead) tracks.first)

  side_of_file : (folder file : List ℕ) (files : Files) (side : Side) → side_of folder file files ≡ Ok side → All IsRead side.tracks
  unfolding side_of
  side_of_file folder file files side is = let steps = steps_of (content_of file files) (side_by folder file files) side is in
      side_in folder file files steps.value side steps.then

  pub side_in_order : (folder : List ℕ) (files : Files) (file : Option (List ℕ)) (side : Side) → side_at folder files file ≡ Ok side
      → All (λ (track : SideTrack). IsInOrder track.list) side.tracks
  side_in_order folder files None side is = absurd (cc)
  side_in_order folder files (Some file) side is = side_of_file folder file files side is

pub are_tracks : (new served : List SideTrack) → All (λ (track : SideTrack). IsInOrder track.list) new
    → All (λ (track : SideTrack). IsInOrder track.list) served → All IsTrack (paired new served)
are_tracks [] served news olds = All-nil IsTrack
are_tracks (new ∷ more) [] news olds = All-nil IsTrack
are_tracks (new ∷ more) (old ∷ rest) news olds =
    let a : IsRead new = All-head IsRead new more news in let b : IsRead old = All-head IsRead old rest olds in
    All-cons IsTrack _ _ (record { joint = refl; some_served = b.some; some_new = a.some; served = b.sections; new = a.sections })
    (are_tracks more rest (All-tail IsRead new more news) (All-tail IsRead old rest olds))
