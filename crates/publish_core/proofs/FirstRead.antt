-- After a first publication the served folder is read.
use Rattle.std.proofs.Common.{◌≡◌, ℕ, ◌^◌, ◌<◌, max, Bool, true, false, ◌&&◌, List, [], ◌∷◌, ◌++◌, All, map, bytes_eq, get_or}
use Rattle.std.proofs.Common.{Some, Ok, refl, sym, ◌∙◌, ap, arith}
use Rattle.std.proofs.lemmas.List.Elements.{All-cons, All-map, All-nil}
use Rattle.std.proofs.Math.Nat.{le-max_left}
use Rattle.std.specs.Prelude.{if◌then◌else◌}
use Rattle.bridge_io.specs.Outside.{Files}
use Rattle.bridge_io.proofs.Texts.{equals_itself}
use Rattle.followed_text.specs.{Followed.text_of, declared.followed.FollowedText.FollowedText}
use Rattle.hls_media.specs.Laws.{ReadIsBounded}
use Rattle.laws_of_mpds.specs.Written.{TracksAreOfBytes}
use Rattle.laws_of_published_texts.specs.Laws.{IsRead}
use Rattle.laws_of_published_texts.proofs.Given.{given}
use Rattle.laws_of_taken_texts.specs.Laws.{FirstTextsAreTaken}
use Rattle.publish_core.specs.Decisions.{all_ended, first_of, is_there, new_file}
use Rattle.publish_core.specs.Laws.{DecidedFirst, FirstFoldersAreRead, first_side}
use Rattle.publish_core.specs.{Names.{is_track_file, master_file, name_in, pending_file}, Placed.all_placed, Taken.is_taken_as}
use Rattle.publish_core.specs.Sides.{side_at}
use Rattle.publish_core.specs.declared.{decision.NewFile.NewFile, job.PublishJob.PublishJob, side.{SideTrack.SideTrack}}
use Rattle.publish_core.proofs.After.{last-append, last_text, otherwise, placed_text}
use Rattle.publish_core.proofs.{Apart.{AreApart, IsTrackIn}, Few.few_in, Read.{IsThere, read_alike, side_read}}
use Rattle.publish_core.proofs.FirstFiles.{CanBeFirst, count_first, file_of_first, first, first_parts, first_texts}
use Rattle.publish_core.proofs.FirstFiles.{same_first}
use Rattle.publish_core.proofs.{Going.new_taken, Served.{bytes_of, content, few_of, named, not_master, not_pending, other_name, read_as}}
use Rattle.publish_core.proofs.{Served.read_whole, Whole.{of_bytes, side_is}}

if_false : {X : Type 0} (b : Bool) (x y z : X) → b ≡ false → (if b then x else y) ≡ z → y ≡ z
if_false true x y z is whole = absurd (cc)
if_false false x y z is whole = whole

pub decided_first : (p : DecidedFirst) → first_of p.job p.new ≡ Ok p.decision
decided_first p =
    let file = name_in p.job.served master_file in
    if_false (is_there p.files file) _ (first_of p.job p.new) (Ok p.decision) p.none_there
    (new_taken p.job p.files p.new p.decision p.new_is p.is).value

-- each track's file lies in no folder, and is neither the master nor the pending file
pub track_files : (tracks : List SideTrack) → AreApart tracks → All (λ (t : SideTrack). is_track_file t.file ≡ true) tracks
track_files [] apart = All-nil (λ (t : SideTrack). is_track_file t.file ≡ true)
track_files (track ∷ tracks) apart =
    All-cons (λ (t : SideTrack). is_track_file t.file ≡ true) track tracks apart.0 (track_files tracks apart.2)

-- the target duration that is written is one that a playlist may have
small_target : ReadIsBounded → (list : FollowedText) (target : ℕ) → IsRead list → target < 2 ^ 31 → max list.head.target target < 2 ^ 31
small_target bounded list target read small =
    let is = given read.bytes read.url list read.is in
    let own = (bounded read.bytes read.url is.media is.media_is).target in omega (arith, own, small, is.target)

-- the files of a first publication took their places
record ArePlaced (job : PublishJob) (ended : Bool) (tracks : List SideTrack) (text pending : List ℕ) (files after : Files) : Type 0 where
  file : List ℕ
  file_is : name_in job.served master_file ≡ Some file
  pending_is : name_in job.served pending_file ≡ Some pending
  can : All (CanBeFirst job ended) tracks
  apart : AreApart tracks
  after_is : after ≡ all_placed pending (map (file_of_first job ended) tracks ++ new_file file text ∷ []) files

module _ (job : PublishJob) (ended : Bool) (tracks : List SideTrack) (text pending : List ℕ) (files after : Files)
    (are : ArePlaced job ended tracks text pending files after) where
  abbrev lists : List NewFile
  lists = map (file_of_first job ended) tracks

  -- a name has what was written last
  last_is : (name : List ℕ) → bytes_eq pending name ≡ false
      → after name ≡ last_text name (new_file are.file text ∷ []) (last_text name lists (files name))
  last_is name other =
      ap (λ (f : Files). f name) are.after_is
      ∙ placed_text pending name other (lists ++ new_file are.file text ∷ []) files
      ∙ last-append name lists (new_file are.file text ∷ []) (files name)

  -- the names of the tracks are others
  others : (own name : List ℕ) → name_in job.served own ≡ Some name
      → ((track : List ℕ) → is_track_file track ≡ true → bytes_eq track own ≡ false)
      → All (λ (t : SideTrack). bytes_eq (first job ended t).name name ≡ false) tracks
  others own name name_is differs k d within =
      let track = get_or tracks k d in
      other_name job.served track.file own (first job ended track).name name (are.can k d within).name name_is
      (differs track.file (track_files tracks are.apart k d within))

  master_there : after are.file ≡ Some text
  master_there =
      let apart = other_name job.served pending_file master_file pending are.file are.pending_is are.file_is refl in
      last_is are.file apart ∙ rw (equals_itself are.file) refl

  text_there : All (λ (t : SideTrack). after (first job ended t).name ≡ Some (text_of (first job ended t).list)) tracks
  text_there k d within =
      let track = get_or tracks k d in
      let name = (first job ended track).name in
      let by_pending = otherwise name pending (others pending_file pending are.pending_is not_pending k d within) in
      let by_master = otherwise name are.file (others master_file are.file are.file_is not_master k d within) in
      last_is name by_pending
      ∙ rw by_master (first_texts job ended tracks are.can are.apart k d within (files name))

  module _ (bounded : ReadIsBounded) (takes : FirstTextsAreTaken) (small : job.target < 2 ^ 31) where
    track_there : (track : SideTrack) → IsTrackIn job.new files track → CanBeFirst job ended track
        → after (first job ended track).name ≡ Some (text_of (first job ended track).list)
        → IsThere job.served after (first job ended track)
    track_there track is own there =
        let name = (first job ended track).name in
        let list = (first job ended track).list in
        let read = (bytes_of job.new files track is).read in record {
          name = own.name;
          list = λ url. read_as name url after (text_of list) list (read_whole name after (text_of list) there (few_of list own.within).1)
              (takes track.list (max track.list.head.target job.target) ended read (le-max_left track.list.head.target job.target)
              (small_target bounded track.list job.target read small) url);
        }

    all_there : All (IsTrackIn job.new files) tracks → All (IsThere job.served after) (map (first job ended) tracks)
    all_there all = All-map (IsThere job.served after) (first job ended) tracks
        (λ k d within. track_there (get_or tracks k d) (all k d within) (are.can k d within) (text_there k d within))

pub first_read : TracksAreOfBytes → ReadIsBounded → FirstTextsAreTaken → FirstFoldersAreRead
first_read tracks bounded takes p pending small pending_is =
    let ended = p.job.options.end && all_ended p.new.tracks in
    let parts = first_parts p (decided_first p) in
    let news = side_is (of_bytes tracks) p.job.new p.files p.new (name_in p.job.new master_file) refl p.new_is in
    let after = all_placed pending p.decision.files p.files in
    let are : ArePlaced p.job ended p.new.tracks p.new.text pending p.files after = record {
      file = parts.file;
      file_is = parts.file_is;
      pending_is = pending_is;
      can = parts.each;
      apart = news.is.apart;
      after_is = ap (λ (l : List NewFile). all_placed pending l p.files) parts.files;
    } in
    let was = content news.file p.files p.new.text news.is.text in
    let there = master_there p.job ended p.new.tracks p.new.text pending p.files after are in
    let alike = read_alike p.job.served parts.file p.new
    (ap (is_taken_as p.job.served p.new) (sym parts.file_is) ∙ (new_taken p.job p.files p.new p.decision p.new_is p.is).holds) in
    let few = few_in p.job.new p.files (name_in p.job.new master_file) p.new p.new_is in
    ap (side_at p.job.served after) parts.file_is
    ∙ side_read p.job.served parts.file p.new after (map (first p.job ended) p.new.tracks) alike
    (read_whole parts.file after p.new.text there was.few) (same_first p.job ended p.new.tracks)
    (all_there p.job ended p.new.tracks p.new.text pending p.files after are bounded takes small news.is.each)
    (omega (arith, few, count_first p.job ended p.new.tracks))
    ∙ ap (λ (name : List ℕ). Ok (record (first_side p.job p.new) { file = name }))
    (named p.job.served master_file parts.file parts.file_is)
