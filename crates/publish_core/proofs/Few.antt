-- What is read of a folder has no more segments than a publication may have.
use Rattle.bridge_report.specs.declared.refusal.Refusal.TheVariants as refusal
use Rattle.publish_core.specs.declared.refusal.Refused.TheVariants as refused
use Rattle.std.proofs.Common.{◌≡◌, ℕ, ◌≤◌, List, [], ◌∷◌, ◌++◌, Option, None, Some, Ok, subst, arith}
use Rattle.std.proofs.lemmas.Bool.{ltb-false}
use Rattle.std.specs.Prelude.{nat_lt}
use Rattle.bridge_io.specs.{Outside.Files}
use Rattle.bridge_io.proofs.AndThen.{steps_of}
use Rattle.hls_master.specs.declared.track.MasterTrack.{MasterTrack}
use Rattle.publish_core.specs.Sides.{FileName, segment_limit, segments_of, side_at, track_at, tracks_from, tracks_with, within_limit}
use Rattle.publish_core.specs.declared.side.{Side.Side, SideTrack.SideTrack}
use Rattle.publish_core.proofs.{Going.passed, InOrder.chosen, Read.reading_of}

abbrev AreFew : List SideTrack → Type 0
AreFew tracks = segments_of tracks ≤ segment_limit

module _ (folder file : List ℕ) (files : Files) where
  few_within : (tracks next : List SideTrack) → within_limit file tracks ≡ Ok next → AreFew next
  few_within tracks next is =
      let many = nat_lt segment_limit (segments_of tracks) in
      subst AreFew (chosen many tracks next (file, refused.Read refusal.TooManySegments) is)
      (ltb-false segment_limit (segments_of tracks) (passed many tracks next (file, refused.Read refusal.TooManySegments) is))

  few_with : (lists : List SideTrack) (track : MasterTrack) (name : FileName) (next : List SideTrack)
      → tracks_with folder file files lists track name ≡ Ok next → AreFew next
  unfolding tracks_with
  few_with lists track name next is =
      let steps = steps_of (track_at folder file files track name) (λ list. within_limit file (lists ++ list ∷ [])) next is in
      few_within (lists ++ steps.value ∷ []) next steps.then

  few_from : (lists : List SideTrack) (tracks : List MasterTrack) (names : List FileName) (found : List SideTrack) → AreFew lists
      → tracks_from folder file files lists tracks names ≡ Ok found → AreFew found
  few_from lists [] names found few is = (let same : lists ≡ found = cc in subst AreFew same few)
  few_from lists (track ∷ tracks) [] found few is = (let same : lists ≡ found = cc in subst AreFew same few)
  few_from lists (track ∷ tracks) (name ∷ names) found few is =
      let steps = steps_of (tracks_with folder file files lists track name) (λ next. tracks_from folder file files next tracks names) found
      is in
      few_from steps.value tracks names found (few_with lists track name steps.value steps.first) steps.then

pub few_in : (folder : List ℕ) (files : Files) (file : Option (List ℕ)) (side : Side) → side_at folder files file ≡ Ok side
    → segments_of side.tracks ≤ segment_limit
few_in folder files None side is = absurd (cc)
few_in folder files (Some file) side is =
    let read = reading_of folder file files side is in
    few_from folder file files [] read.found read.names side.tracks (omega arith) read.tracks
