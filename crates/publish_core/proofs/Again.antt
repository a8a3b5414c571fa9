-- After a publication what is served is read as what it became.
use Rattle.std.proofs.Common.{◌≡◌, ℕ, ◌<◌, false, List, ◌++◌, All, length, bytes_eq, slice_get}
use Rattle.std.proofs.Common.{Option, Some, None, IfSome}
use Rattle.std.proofs.Common.{Ok, refl, sym, ◌∙◌, ap, subst, inl, inr, unwrap_or}
use Rattle.std.proofs.lemmas.{Bool.cases_Bool, Option.{slice_get_within}, Slice.Eq.bytes_eq-Decides}
use Rattle.bridge_io.specs.Outside.{Files}
use Rattle.bridge_io.proofs.Texts.{same_bytes}
use Rattle.followed_text.specs.{Followed.{followed_of, text_of}, declared.followed.FollowedText.FollowedText}
use Rattle.publish_law.specs.{declared.track.{Change.Change, Track.Track}}
use Rattle.laws_of_publishing.specs.Laws.{Accepted, Replaced}
use Rattle.laws_of_publishing.proofs.Tails.{at_place}
use Rattle.laws_of_published_texts.specs.Laws.{IsRead}
use Rattle.laws_of_taken_texts.specs.Laws.{PublishedTextsAreTaken, ReadTextsAreTaken}
use Rattle.publish_core.specs.Decisions.{list_after, master_if, names_of, paired}
use Rattle.publish_core.specs.{Names.{master_file, name_in, pending_file}, Placed.all_placed, Sides.{content_of, list_at}}
use Rattle.publish_core.specs.declared.{decision.NewFile.NewFile, side.{Side.Side, SideTrack.SideTrack}}
use Rattle.publish_core.proofs.After.{AreWithin, IsNamedOther, IsWithin, files_of, last-append, last_text, none_named, otherwise}
use Rattle.publish_core.proofs.After.{placed_text, text_after, text_at}
use Rattle.publish_core.proofs.{Apart.{IsSideIn, IsTrackIn}, Within.small_list}
use Rattle.publish_core.proofs.Served.{HasBytes, IsPair, bytes_of, content, few_of, named_apart, none_is, not_master}
use Rattle.publish_core.proofs.Served.{not_pending, other_name}
use Rattle.publish_core.proofs.Served.{pair_at, read_as, read_whole, within_at}

module _ (reads : ReadTextsAreTaken) (takes : PublishedTextsAreTaken) (own other : List ℕ) (files : Files) (new served : Side)
    (new_file_name file pending : List ℕ) (file_is : name_in own master_file ≡ Some file)
    (pending_is : name_in own pending_file ≡ Some pending)
    (news : IsSideIn other new_file_name files new) (olds : IsSideIn own file files served)
    (a : Accepted) (tracks_are : a.tracks ≡ paired new.tracks served.tracks)
    (within : AreWithin (names_of new.tracks served.tracks) a.publication.changes) where
  abbrev lists : List NewFile
  lists = files_of (names_of new.tracks served.tracks) a.publication.changes

  abbrev placed : Files
  placed = all_placed pending (lists ++ master_if new served) files

  no_master : All (IsNamedOther file) served.tracks
  no_master = none_is own master_file file file_is not_master files served.tracks olds.each olds.apart

  no_pending : All (IsNamedOther pending) served.tracks
  no_pending = none_is own pending_file pending pending_is not_pending files served.tracks olds.each olds.apart

  master_other : (name : List ℕ) (old : Option (List ℕ)) → bytes_eq file name ≡ false → last_text name (master_if new served) old ≡ old
  master_other name old differs = elim (cases_Bool (bytes_eq new.text served.text)) [
    | inl same ↦ rw same refl
    | inr text ↦ rw (text, olds.file_is, differs) refl
  ]

  module _ (place : ℕ) (track : SideTrack) (both : Track) (change : Change) (track_is : slice_get served.tracks place ≡ Some track)
      (both_is : slice_get a.tracks place ≡ Some both) (change_is : slice_get a.publication.changes place ≡ Some change) where
    pair : IsPair new.tracks place track both
    pair = pair_at place new.tracks served.tracks track both track_is
        (subst (λ (l : List Track). slice_get l place ≡ Some both) tracks_are both_is)

    had : HasBytes files track
    had = bytes_of own files track (at_place (IsTrackIn own files) served.tracks place track olds.each track_is)

    came : HasBytes files pair.new
    came = bytes_of other files pair.new (at_place (IsTrackIn other files) new.tracks place pair.new news.each pair.new_is)

    less : place < length new.tracks
    less = slice_get_within new.tracks place pair.new pair.new_is

    there : placed track.name ≡ text_after change.list (files track.name)
    there =
        let name = track.name in
        let by_pending = otherwise name pending (at_place (IsNamedOther pending) served.tracks place track no_pending track_is) in
        let by_master = otherwise name file (at_place (IsNamedOther file) served.tracks place track no_master track_is) in
        placed_text pending name by_pending (lists ++ master_if new served) files
        ∙ last-append name lists (master_if new served) (files name) ∙ master_other name (last_text name lists (files name)) by_master
        ∙ text_at place new.tracks served.tracks a.publication.changes track change (files name)
        (named_apart own files served.tracks olds.each olds.apart) track_is change_is less

    stays : change.list ≡ None → (url : List ℕ) → list_at track.name url placed ≡ Ok track.list
    stays none url =
        let was = content track.name files had.bytes had.content_is in
        let same : placed track.name ≡ Some had.bytes =
        there ∙ ap (λ (o : Option FollowedText). text_after o (files track.name)) none ∙ was.there in
        let read : followed_of had.bytes url ≡ Ok track.list =
        subst (λ (t : List ℕ). followed_of t url ≡ Ok track.list) had.text (reads track.list had.read url) in
        read_as track.name url placed had.bytes track.list (read_whole track.name placed had.bytes same was.few) read

    becomes : (list : FollowedText) → change.list ≡ Some list → (url : List ℕ) → list_at track.name url placed ≡ Ok list
    becomes list is url =
        let limits = few_of list (subst (λ (o : Option FollowedText). IfSome o IsWithin) is
        (within_at place new.tracks served.tracks a.publication.changes track change within track_is change_is less)) in
        let fits = subst (λ (o : Option FollowedText). IfSome o IsWithin) is
        (within_at place new.tracks served.tracks a.publication.changes track change within track_is change_is less) in
        let r : Replaced a = record {
          place = place;
          track = both;
          change = change;
          list = list;
          track_is = both_is;
          change_is = change_is;
          list_is = is;
          small = small_list list (length (text_of list)) fits;
        } in
        let old = subst IsRead (sym (ap (λ (t : Track). t.served) pair.track_is)) had.read in
        let more = subst IsRead (sym (ap (λ (t : Track). t.new) pair.track_is)) came.read in
        let same : placed track.name ≡ Some (text_of list) =
        there ∙ ap (λ (o : Option FollowedText). text_after o (files track.name)) is in
        read_as track.name url placed (text_of list) list (read_whole track.name placed (text_of list) same limits.1)
        (takes a r old more limits.0 url)

    by_list : (o : Option FollowedText) → change.list ≡ o → (url : List ℕ)
        → list_at track.name url placed ≡ Ok (unwrap_or change.list both.served)
    by_list None none url =
        let list : track.list ≡ unwrap_or change.list both.served =
        sym (ap (λ (t : Track). t.served) pair.track_is) ∙ ap (λ (o : Option FollowedText). unwrap_or o both.served) (sym none) in
        stays none url ∙ ap Ok list
    by_list (Some list) is url = becomes list is url ∙ ap Ok (ap (λ (o : Option FollowedText). unwrap_or o both.served) (sym is))

    pub list_is_read : (url : List ℕ) → list_at track.name url placed ≡ Ok (list_after both change)
    list_is_read = by_list change.list refl

  pub master_is_read : content_of file placed ≡ Ok new.text
  master_is_read =
      let new_text = content new_file_name files new.text news.text in
      let apart = other_name own pending_file master_file pending file pending_is file_is refl in
      let at_last = placed_text pending file apart (lists ++ master_if new served) files
      ∙ last-append file lists (master_if new served) (files file)
      ∙ ap (last_text file (master_if new served))
      (none_named file new.tracks served.tracks a.publication.changes (files file) no_master) in
      let last : last_text file (master_if new served) (files file) ≡ Some new.text = elim (cases_Bool (bytes_eq new.text served.text)) [
        | inl same ↦ rw same ((content file files served.text olds.text).there ∙ ap Some (sym (same_bytes new.text served.text same)))
        | inr text ↦ rw (text, olds.file_is, (bytes_eq-Decides file file).1 refl) refl
      ] in
      read_whole file placed new.text (at_last ∙ last) new_text.few
