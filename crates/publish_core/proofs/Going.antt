-- What is written where something is served.
use Rattle.publish_core.specs.declared.refusal.Refused.TheVariants as refused
use Rattle.std.proofs.Common.{◌≡◌, ℕ, zero, suc, Bool, true, false, List, [], ◌∷◌, ◌++◌, All, length, drop}
use Rattle.std.proofs.Common.{slice_get, Option, Some, None}
use Rattle.std.proofs.Common.{Result, Ok, Err, ap, refl, sym, subst, ◌∙◌}
use Rattle.std.proofs.lemmas.{List.Elements.{All-nil, All-push}}
use Rattle.std.specs.{Prelude.{nat_lt, if◌then◌else◌}}
use Rattle.bridge_io.specs.{Answer.and_then, Outside.Files}
use Rattle.bridge_io.proofs.AndThen.{steps_of}
use Rattle.followed_text.specs.{Followed.text_of, declared.followed.FollowedText.FollowedText}
use Rattle.laws_of_publishing.specs.Laws.{Accepted}
use Rattle.publish_law.specs.{Plans.published, declared.fault.PublishFault.PublishFault, declared.plan.Publication.Publication}
use Rattle.publish_law.specs.declared.track.{Change.Change, Track.Track}
use Rattle.publish_core.specs.Decisions.{changed_file, changed_files, decided_with, decision_of, decision_with, first_of, is_there}
use Rattle.publish_core.specs.Taken.{is_taken}
use Rattle.publish_core.specs.Decisions.{is_within_limits}
use Rattle.publish_core.specs.Decisions.{master_if, names_of, new_file, next_by, next_files, next_of, paired, segments_after}
use Rattle.publish_core.specs.Decisions.{text_within, unless_many, with_list}
use Rattle.publish_core.specs.{Laws.{Decided, PublicationsWriteLists, WritesList}, Names.{master_file, name_in}}
use Rattle.publish_core.specs.Sides.{are_same_tracks, segment_limit, side_at}
use Rattle.publish_core.specs.declared.{decision.{Decision.Decision, NewFile.NewFile}, job.PublishJob.PublishJob, next.FileNames.FileNames}
use Rattle.publish_core.specs.declared.side.{Side.Side, SideTrack.SideTrack}
use Rattle.publish_core.proofs.{InOrder.{are_tracks, chosen, side_in_order}, Ordered.ReadIsInOrder, Within.{Taken, small_list, taken}}

-- ---- choices

pub if_true : {X : Type 0} (b : Bool) (x y z : X) → b ≡ true → (if b then x else y) ≡ z → x ≡ z
if_true true x y z is whole = whole
if_true false x y z is whole = absurd (cc)

next_is : {X Y E : Type 0} (r : Result X E) (x : X) (next : X → Result Y E) (y : Result Y E) → r ≡ Ok x → and_then r next ≡ y → next x ≡ y
next_is r x next y is whole = subst (λ q. and_then q next ≡ y) is whole

-- what isn't refused
pub passed : {X E : Type 0} (b : Bool) (x y : X) (e : E) → (if b then Err e else Ok x) ≡ Ok y → b ≡ false
passed true x y e is = absurd (cc)
passed false x y e is = refl

drop_next : {X : Type 0} (n : ℕ) (ys : List X) (x : X) (xs : List X) → x ∷ xs ≡ drop n ys
    → (slice_get ys n ≡ Some x) × (xs ≡ drop (suc n) ys)
drop_next zero [] x xs is = absurd (cc)
drop_next zero (y ∷ ys) x xs is = (cc, cc)
drop_next (suc n) [] x xs is = absurd (cc)
drop_next (suc n) (y ∷ ys) x xs is = drop_next n ys x xs is

-- ---- the lists

module _ (a : Accepted) (served : List SideTrack) where
  one_more : (place : ℕ) (files : List NewFile) (new old : SideTrack) (change : Change) (track : Track) (list : FollowedText)
      (next : List NewFile) → slice_get a.tracks place ≡ Some track → slice_get served place ≡ Some old
      → slice_get a.publication.changes place ≡ Some change → change.list ≡ Some list → All (WritesList a served) files
      → with_list files (record { new = new.name; served = old.name }) (Some list) ≡ Ok next → All (WritesList a served) next
  one_more place files new old change track list next track_is old_is change_is list_is all is =
      let names : FileNames = record { new = new.name; served = old.name } in
      let steps = steps_of (changed_file names list) (λ file. Ok (files ++ file ∷ [])) next is in
      let text = steps_of (text_within names.new list) (λ text. Ok (new_file names.served text)) steps.value steps.first in
      let small = taken (is_within_limits list (length (text_of list))) (Ok (text_of list)) (names.new, refused.Limit) text.value
      text.first in
      let same : files ++ steps.value ∷ [] ≡ next = (let e = steps.then in cc) in
      let file : new_file old.name text.value ≡ steps.value = (let e = text.then in cc) in
      let written : text.value ≡ text_of list = (let e = small.value in cc) in
      subst (All (WritesList a served)) same (All-push (WritesList a served) files steps.value all (record {
        replaced = record {
          place = place;
          track = track;
          change = change;
          list = list;
          track_is = track_is;
          change_is = change_is;
          list_is = list_is;
          small = small_list list (length (text_of list)) small.holds;
        };
        track = old;
        at = old_is;
        name = ap (λ (f : NewFile). f.name) (sym file);
        text = ap (λ (f : NewFile). f.text) (sym file) ∙ written;
      }))

  changed_more : (place : ℕ) (files : List NewFile) (new old : SideTrack) (change : Change) (track : Track) (found : Option FollowedText)
      (next : List NewFile) → slice_get a.tracks place ≡ Some track → slice_get served place ≡ Some old
      → slice_get a.publication.changes place ≡ Some change → change.list ≡ found → All (WritesList a served) files
      → with_list files (record { new = new.name; served = old.name }) found ≡ Ok next → All (WritesList a served) next
  changed_more place files new old change track None next track_is old_is change_is found_is all is =
      (let same : files ≡ next = cc in subst (All (WritesList a served)) same all)
  changed_more place files new old change track (Some list) next track_is old_is change_is found_is all is =
      one_more place files new old change track list next track_is old_is change_is found_is all is

  all_lists : (place : ℕ) (files : List NewFile) (news olds : List SideTrack) (changes : List Change) (lists : List NewFile)
      → paired news olds ≡ drop place a.tracks → olds ≡ drop place served → changes ≡ drop place a.publication.changes
      → All (WritesList a served) files → changed_files files (names_of news olds) changes ≡ Ok lists → All (WritesList a served) lists
  all_lists place files [] olds changes lists tracks_are olds_are changes_are all is =
      (let same : files ≡ lists = cc in subst (All (WritesList a served)) same all)
  all_lists place files (new ∷ news) [] changes lists tracks_are olds_are changes_are all is =
      (let same : files ≡ lists = cc in subst (All (WritesList a served)) same all)
  all_lists place files (new ∷ news) (old ∷ olds) [] lists tracks_are olds_are changes_are all is =
      (let same : files ≡ lists = cc in subst (All (WritesList a served)) same all)
  all_lists place files (new ∷ news) (old ∷ olds) (change ∷ changes) lists tracks_are olds_are changes_are all is =
      let names : FileNames = record { new = new.name; served = old.name } in
      let steps = steps_of (with_list files names change.list) (λ next. changed_files next (names_of news olds) changes) lists is in
      let track = drop_next place a.tracks _ (paired news olds) tracks_are in
      let here = drop_next place served old olds olds_are in
      let becomes = drop_next place a.publication.changes change changes changes_are in
      all_lists (suc place) steps.value news olds changes lists track.1 here.1 becomes.1
      (changed_more place files new old change _ change.list steps.value track.0 here.0 becomes.0 refl all steps.first) steps.then

-- ---- the decision

pub record Parts (p : Decided) : Type 0 where
  pub same : are_same_tracks p.new.tracks p.served.tracks ≡ true
  pub publication : Publication
  pub is : published p.job.options (paired p.new.tracks p.served.tracks) ≡ Ok publication
  pub lists : List NewFile
  pub changed : changed_files [] (names_of p.new.tracks p.served.tracks) publication.changes ≡ Ok lists
  pub few : nat_lt segment_limit (segments_after (paired p.new.tracks p.served.tracks) publication.changes) ≡ false
  pub files : p.decision.files ≡ lists ++ master_if p.new p.served

parts_by : (p : Decided) (r : Result Publication PublishFault) → are_same_tracks p.new.tracks p.served.tracks ≡ true
    → published p.job.options (paired p.new.tracks p.served.tracks) ≡ r
    → next_by p.new p.served (names_of p.new.tracks p.served.tracks) (paired p.new.tracks p.served.tracks) r ≡ Ok p.decision → Parts p
parts_by p (Err f) same_tracks read is = absurd (cc)
parts_by p (Ok publication) same_tracks read is =
    let names = names_of p.new.tracks p.served.tracks in
    let tracks = paired p.new.tracks p.served.tracks in
    let steps = steps_of (next_files p.new.file names tracks publication.changes)
    (λ files. Ok (decided_with (files ++ master_if p.new p.served) publication)) p.decision is in
    let changed = steps_of (changed_files [] names publication.changes) (unless_many p.new.file (segments_after tracks publication.changes))
    steps.value steps.first in
    let kept : changed.value ≡ steps.value = chosen (nat_lt segment_limit (segments_after tracks publication.changes)) changed.value
    steps.value (p.new.file, refused.Limit) changed.then in
    let same : decided_with (steps.value ++ master_if p.new p.served) publication ≡ p.decision = (let e = steps.then in cc) in
    record {
      same = same_tracks;
      publication = publication;
      is = read;
      lists = steps.value;
      changed = changed.first ∙ ap Ok kept;
      few = passed (nat_lt segment_limit (segments_after tracks publication.changes)) changed.value steps.value (p.new.file, refused.Limit)
          changed.then;
      files = ap (λ (d : Decision). d.files) (sym same);
    }

-- the new master is taken
pub new_taken : (job : PublishJob) (files : Files) (new : Side) (decision : Decision)
    → side_at job.new files (name_in job.new master_file) ≡ Ok new → decision_of job files ≡ Ok decision
    → Taken (is_taken job new) (decision_with job files new) decision
unfolding decision_of
new_taken job files new decision new_is is = taken (is_taken job new) (decision_with job files new) (new.file, refused.Form) decision
    (next_is (side_at job.new files (name_in job.new master_file)) new
    (λ side. if is_taken job side then decision_with job files side else Err (side.file, refused.Form)) (Ok decision) new_is is)

pub decided_next : (p : Decided) → next_of p.job p.new p.served ≡ Ok p.decision
decided_next p =
    let file = name_in p.job.served master_file in
    let read = and_then (side_at p.job.served p.files file) (next_of p.job p.new) in
    next_is (side_at p.job.served p.files file) p.served (next_of p.job p.new) (Ok p.decision) p.served_is
    (if_true (is_there p.files file) read (first_of p.job p.new) (Ok p.decision) p.there
    (new_taken p.job p.files p.new p.decision p.new_is p.is).value)

pub parts_of : (p : Decided) → next_of p.job p.new p.served ≡ Ok p.decision → Parts p
unfolding next_of
parts_of p is =
    let names = names_of p.new.tracks p.served.tracks in
    let tracks = paired p.new.tracks p.served.tracks in
    let whole = taken (are_same_tracks p.new.tracks p.served.tracks)
    (next_by p.new p.served names tracks (published p.job.options tracks)) (p.new.file, refused.Tracks) p.decision is in
    parts_by p (published p.job.options tracks) whole.holds refl whole.value

-- the lists of both folders
abbrev pub accepted_of : ReadIsInOrder → (p : Decided) → Parts p → Accepted
accepted_of reads p parts = record {
  options = p.job.options;
  tracks = paired p.new.tracks p.served.tracks;
  publication = parts.publication;
  is = parts.is;
  are_tracks = are_tracks p.new.tracks p.served.tracks
      (side_in_order reads p.job.new p.files (name_in p.job.new master_file) p.new p.new_is)
      (side_in_order reads p.job.served p.files (name_in p.job.served master_file) p.served p.served_is);
}

pub write_lists : ReadIsInOrder → PublicationsWriteLists
write_lists reads p =
    let parts = parts_of p (decided_next p) in
    let a = accepted_of reads p parts in
    record {
      accepted = a;
      options = refl;
      tracks = refl;
      lists = parts.lists;
      files = parts.files;
      each = all_lists a p.served.tracks zero [] p.new.tracks p.served.tracks parts.publication.changes parts.lists refl refl refl
          (All-nil (WritesList a p.served.tracks)) parts.changed;
    }
