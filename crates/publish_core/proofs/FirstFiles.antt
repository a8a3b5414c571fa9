-- What a first publication writes.
use Rattle.publish_core.specs.declared.refusal.Refused.TheVariants as refused
use Rattle.std.proofs.Common.{◌≡◌, ℕ, ◌+◌, Bool, true, false, ◌&&◌, List, [], ◌∷◌, ◌++◌, All, length, map, bytes_eq, get_or}
use Rattle.std.proofs.Common.{Option, Some, None, Ok, refl, sym, ◌∙◌, ap, append_assoc}
use Rattle.std.proofs.lemmas.{List.append-nil, List.Elements.{All-cons, All-head, All-nil, All-tail}}
use Rattle.std.proofs.lemmas.List.Sums.{sum_by-cons}
use Rattle.std.specs.Prelude.{if◌then◌else◌}
use Rattle.bridge_io.proofs.{AndThen.steps_of, Texts.equals_itself}
use Rattle.bridge_io.specs.Answer.{and_then}
use Rattle.followed_text.specs.Followed.{text_of}
use Rattle.publish_core.specs.Decisions.{all_ended, all_first, first_file, first_files, first_list, first_of, first_with, is_within_limits}
use Rattle.publish_core.specs.Decisions.{name_or_form, new_file, served_name, text_within}
use Rattle.publish_core.specs.{Laws.{DecidedFirst, first_track}, Names.{master_file, name_in}}
use Rattle.publish_core.specs.Sides.{are_same_tracks, segments_of}
use Rattle.publish_core.specs.declared.{decision.{Decision.Decision, NewFile.NewFile}, job.PublishJob.PublishJob}
use Rattle.publish_core.specs.declared.side.{SideTrack.SideTrack}
use Rattle.publish_core.proofs.After.{IsWithin, last_text, otherwise}
use Rattle.publish_core.proofs.{Alike.same_itself, Apart.{AreApart}, Read.count_of, Served.{named, other_name}, Within.taken}

-- ---- the tracks

named_so : (master : List ℕ) (found : Option (List ℕ)) (name : List ℕ) → name_or_form master found ≡ Ok name → found ≡ Some name
named_so master None name is = absurd (cc)
named_so master (Some own) name is = (let same : own ≡ name = cc in ap Some same)

module _ (job : PublishJob) (ended : Bool) where
  abbrev pub first : SideTrack → SideTrack
  first track = first_track job ended track

  abbrev pub file_of_first : SideTrack → NewFile
  file_of_first track = new_file (first track).name (text_of (first track).list)

  -- a track can be written
  pub record CanBeFirst (track : SideTrack) : Type 0 where
    pub name : name_in job.served track.file ≡ Some (first track).name
    pub within : IsWithin (first track).list

  one_first : (master : List ℕ) (track : SideTrack) (file : NewFile) → first_file job master ended track ≡ Ok file
      → (file ≡ file_of_first track) × CanBeFirst track
  unfolding first_file
  one_first master track file is =
      let list = first_list job ended track.list in
      let name = steps_of (served_name job master track.file)
      (λ name. and_then (text_within track.name list) (λ text. Ok (new_file name text))) file is in
      let text = steps_of (text_within track.name list) (λ text. Ok (new_file name.value text)) file name.then in
      let small = taken (is_within_limits list (length (text_of list))) (Ok (text_of list)) (track.name, refused.Limit) text.value
      text.first in
      let name_is = named_so master (name_in job.served track.file) name.value name.first in
      let whole = named job.served track.file name.value name_is in
      let written : text_of list ≡ text.value = (let e = small.value in cc) in
      let same : new_file name.value text.value ≡ file = (let e = text.then in cc) in (
        sym same ∙ ap (λ (t : List ℕ). new_file name.value t) (sym written) ∙ ap (λ (n : List ℕ). new_file n (text_of list)) whole,
        record { name = name_is ∙ ap Some whole; within = small.holds },
      )

  pub all_first_files : (master : List ℕ) (files : List NewFile) (tracks : List SideTrack) (found : List NewFile)
      → first_files job master ended files tracks ≡ Ok found
      → (found ≡ files ++ map file_of_first tracks) × All CanBeFirst tracks
  all_first_files master files [] found is =
      let same : files ≡ found = cc in (sym same ∙ sym (append-nil files), All-nil CanBeFirst)
  all_first_files master files (track ∷ tracks) found is =
      let steps = steps_of (first_file job master ended track) (λ file. first_files job master ended (files ++ file ∷ []) tracks) found
      is in
      let one = one_first master track steps.value steps.first in
      let more = all_first_files master (files ++ steps.value ∷ []) tracks found steps.then in (
        more.0 ∙ ap (λ (f : NewFile). (files ++ f ∷ []) ++ map file_of_first tracks) one.0
            ∙ append_assoc files (file_of_first track ∷ []) (map file_of_first tracks),
        All-cons CanBeFirst track tracks one.1 more.1,
      )

  -- ---- texts

  pub none_first : (name : List ℕ) (tracks : List SideTrack) (old : Option (List ℕ))
      → All (λ (t : SideTrack). bytes_eq (first t).name name ≡ false) tracks → last_text name (map file_of_first tracks) old ≡ old
  none_first name [] old all = refl
  none_first name (track ∷ tracks) old all =
      let other = All-head (λ (t : SideTrack). bytes_eq (first t).name name ≡ false) track tracks all in
      let here : (if bytes_eq (first track).name name then Some (text_of (first track).list) else old) ≡ old = rw other refl in
      ap (last_text name (map file_of_first tracks)) here
      ∙ none_first name tracks old (All-tail (λ (t : SideTrack). bytes_eq (first t).name name ≡ false) track tracks all)

  -- what a track's file has after some took their places
  abbrev pub IsWritten : List NewFile → SideTrack → Type 0
  IsWritten files track = (old : Option (List ℕ)) → last_text (first track).name files old ≡ Some (text_of (first track).list)

  own_text : (track : SideTrack) (old : Option (List ℕ)) → (if bytes_eq (first track).name (first track).name
      then Some (text_of (first track).list) else old) ≡ Some (text_of (first track).list)
  own_text track old = rw (equals_itself (first track).name) refl

  pub first_texts : (tracks : List SideTrack) → All CanBeFirst tracks → AreApart tracks
      → All (IsWritten (map file_of_first tracks)) tracks
  first_texts [] all apart = All-nil (IsWritten [])
  first_texts (track ∷ tracks) all apart =
      let can = All-head CanBeFirst track tracks all in
      let more = All-tail CanBeFirst track tracks all in
      let others : All (λ (t : SideTrack). bytes_eq (first t).name (first track).name ≡ false) tracks = λ k d within.
      let other = get_or tracks k d in
      other_name job.served other.file track.file (first other).name (first track).name (more k d within).name can.name
      (otherwise track.file other.file (apart.1 k d within)) in
      let rest = first_texts tracks more apart.2 in
      All-cons (IsWritten (map file_of_first (track ∷ tracks))) track tracks
      (λ old. ap (last_text (first track).name (map file_of_first tracks)) (own_text track old)
      ∙ none_first (first track).name tracks (Some (text_of (first track).list)) others) (λ k d within old. rest k d within _)

  -- ---- the side

  pub same_first : (tracks : List SideTrack) → are_same_tracks tracks (map first tracks) ≡ true
  same_first [] = refl
  same_first (track ∷ tracks) = rw (same_itself track, same_first tracks) refl

  pub count_first : (tracks : List SideTrack) → segments_of (map first tracks) ≡ segments_of tracks
  count_first [] = refl
  count_first (track ∷ tracks) = sum_by-cons count_of (first track) (map first tracks) ∙ ap (λ n. count_of track + n) (count_first tracks)
      ∙ sym (sum_by-cons count_of track tracks)

-- ---- the decision

pub record FirstParts (p : DecidedFirst) : Type 0 where
  pub file : List ℕ
  pub file_is : name_in p.job.served master_file ≡ Some file
  pub each : All (CanBeFirst p.job (p.job.options.end && all_ended p.new.tracks)) p.new.tracks
  pub files : p.decision.files
      ≡ map (file_of_first p.job (p.job.options.end && all_ended p.new.tracks)) p.new.tracks ++ new_file file p.new.text ∷ []

pub first_parts : (p : DecidedFirst) → first_of p.job p.new ≡ Ok p.decision → FirstParts p
unfolding first_of all_first
first_parts p is =
    let ended = p.job.options.end && all_ended p.new.tracks in
    let whole = steps_of (all_first p.job ended p.new) (λ files. Ok (first_with p.new files)) p.decision is in
    let lists = steps_of (first_files p.job p.new.file ended [] p.new.tracks)
    (λ files. and_then (served_name p.job p.new.file master_file) (λ name. Ok (files ++ new_file name p.new.text ∷ []))) whole.value
    whole.first in
    let master = steps_of (served_name p.job p.new.file master_file) (λ name. Ok (lists.value ++ new_file name p.new.text ∷ []))
    whole.value lists.then in
    let all = all_first_files p.job ended p.new.file [] p.new.tracks lists.value lists.first in
    let made : lists.value ++ new_file master.value p.new.text ∷ [] ≡ whole.value = (let e = master.then in cc) in
    let same : first_with p.new whole.value ≡ p.decision = (let e = whole.then in cc) in record {
      file = master.value;
      file_is = named_so p.new.file (name_in p.job.served master_file) master.value master.first;
      each = all.1;
      files = ap (λ (d : Decision). d.files) (sym same) ∙ sym made
          ∙ ap (λ (l : List NewFile). l ++ new_file master.value p.new.text ∷ []) all.0;
    }
