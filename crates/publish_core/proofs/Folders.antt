-- After a publication the served folder is read.
use Rattle.std.proofs.Common.{◌≡◌, ℕ, zero, suc, ◌+◌, true, List, [], ◌∷◌, All, length, slice_get, Some, Ok, refl, sym, ◌∙◌, ap}
use Rattle.std.proofs.Common.{arith, unwrap_or}
use Rattle.std.proofs.lemmas.{Bool.{and_parts, ltb-false}, List.length-map, List.Elements.{All-cons, All-head, All-nil, All-tail}}
use Rattle.std.proofs.lemmas.List.Sums.{sum_by-cons}
use Rattle.bridge_io.specs.Outside.{Files}
use Rattle.laws_of_mpds.specs.Written.{TracksAreOfBytes}
use Rattle.publish_law.specs.{Lists.track_of, Plans.published, declared.track.{Change.Change, Track.Track}}
use Rattle.publish_law.specs.declared.plan.{Options.Options, Publication.Publication}
use Rattle.laws_of_publishing.specs.Laws.{Accepted}
use Rattle.laws_of_publishing.proofs.Planned.{planned_of}
use Rattle.publish_core.specs.Decisions.{list_after, paired, segments_after}
use Rattle.publish_core.specs.Laws.{Decided, IsReadAs, PublicationsAreServed, ServedFoldersAreRead, served_after, side_after}
use Rattle.publish_core.specs.{Names.{master_file, name_in}, Placed.all_placed, Taken.{is_taken_as}}
use Rattle.publish_core.specs.Sides.{are_same_tracks, content_of, is_same_track, segment_limit, segments_of, side_at}
use Rattle.publish_core.specs.declared.side.{SideTrack.SideTrack}
use Rattle.publish_core.proofs.{Apart.IsTrackIn, Read.{IsThere, count_of, read_alike, side_read}}
use Rattle.publish_core.proofs.{Going.{Parts, decided_next, new_taken, parts_of}, Whole.{of_bytes, side_is}}

-- ---- the tracks

-- as many changes as tracks
pub count_changes : (options : Options) (tracks : List Track) (publication : Publication) → published options tracks ≡ Ok publication
    → length publication.changes ≡ length tracks
count_changes options tracks publication is =
    let plan = planned_of options tracks publication is in
    ap (λ (l : List Change). length l) plan.changes ∙ length-map tracks _

-- the tracks are still the same ones
pub same_after : (news olds : List SideTrack) (changes : List Change) → are_same_tracks news olds ≡ true
    → length changes ≡ length (paired news olds) → are_same_tracks news (served_after olds changes) ≡ true
same_after [] [] changes same many = refl
same_after [] (old ∷ olds) changes same many = absurd (cc)
same_after (new ∷ news) [] changes same many = absurd (cc)
same_after (new ∷ news) (old ∷ olds) [] same many = absurd (omega (arith, many))
same_after (new ∷ news) (old ∷ olds) (change ∷ changes) same many =
    let both = and_parts (is_same_track new old) (are_same_tracks news olds) same in
    rw (both.0, same_after news olds changes both.1 (omega (arith, many))) refl

-- as many segments are served as were counted
pub count_after : (news olds : List SideTrack) (changes : List Change) → are_same_tracks news olds ≡ true
    → length changes ≡ length (paired news olds) → segments_of (served_after olds changes) ≡ segments_after (paired news olds) changes
count_after [] [] changes same many = refl
count_after [] (old ∷ olds) changes same many = absurd (cc)
count_after (new ∷ news) [] changes same many = absurd (cc)
count_after (new ∷ news) (old ∷ olds) [] same many = absurd (omega (arith, many))
count_after (new ∷ news) (old ∷ olds) (change ∷ changes) same many =
    let both = and_parts (is_same_track new old) (are_same_tracks news olds) same in
    let list = unwrap_or change.list old.list in
    sum_by-cons count_of (record old { list = list }) (served_after olds changes)
    ∙ ap (λ n. length list.items + n) (count_after news olds changes both.1 (omega (arith, many)))

module _ (folder : List ℕ) (before after : Files) where
  -- the files of the tracks are read as the lists that are served then
  abbrev pub AreReadAfter : (news olds : List SideTrack) → List Change → Type 0
  AreReadAfter news olds changes = (place : ℕ) (served : SideTrack) (track : Track) (change : Change)
      → slice_get olds place ≡ Some served → slice_get (paired news olds) place ≡ Some track → slice_get changes place ≡ Some change
      → IsReadAs after served.name (list_after track change)

  pub all_there : (news olds : List SideTrack) (changes : List Change) → are_same_tracks news olds ≡ true
      → length changes ≡ length (paired news olds) → All (IsTrackIn folder before) olds → AreReadAfter news olds changes
      → All (IsThere folder after) (served_after olds changes)
  all_there [] [] changes same many were read = All-nil (IsThere folder after)
  all_there [] (old ∷ olds) changes same many were read = absurd (cc)
  all_there (new ∷ news) [] changes same many were read = absurd (cc)
  all_there (new ∷ news) (old ∷ olds) [] same many were read = absurd (omega (arith, many))
  all_there (new ∷ news) (old ∷ olds) (change ∷ changes) same many were read =
      let both = and_parts (is_same_track new old) (are_same_tracks news olds) same in
      let was = All-head (IsTrackIn folder before) old olds were in
      All-cons (IsThere folder after) (record old { list = unwrap_or change.list old.list }) (served_after olds changes)
      (record { name = was.name; list = read zero old (track_of old.list new.list) change refl refl refl })
      (all_there news olds changes both.1 (omega (arith, many)) (All-tail (IsTrackIn folder before) old olds were)
      (λ place served track next. read (suc place) served track next))

-- ---- the folder

-- what is published is one publication
pub same_publication : (p : Decided) (parts : Parts p) (a : Accepted) → a.options ≡ p.job.options
    → a.tracks ≡ paired p.new.tracks p.served.tracks → a.publication ≡ parts.publication
same_publication p parts a options tracks =
    let one : published p.job.options (paired p.new.tracks p.served.tracks) ≡ Ok a.publication = rw (← options, ← tracks) a.is in
    let other = parts.is in cc

pub are_read : TracksAreOfBytes → PublicationsAreServed → ServedFoldersAreRead
are_read tracks serves p pending pending_is =
    let served = serves p pending pending_is in
    let a = served.accepted in
    let parts = parts_of p (decided_next p) in
    let olds = side_is (of_bytes tracks) p.job.served p.files p.served (name_in p.job.served master_file) refl p.served_is in
    let after = all_placed pending p.decision.files p.files in
    let changes = a.publication.changes in
    let many : length changes ≡ length (paired p.new.tracks p.served.tracks) =
    count_changes a.options a.tracks a.publication a.is ∙ ap (λ (l : List Track). length l) served.tracks in
    let alike = read_alike p.job.served olds.file p.new
    (ap (is_taken_as p.job.served p.new) (sym olds.file_is) ∙ (new_taken p.job p.files p.new p.decision p.new_is p.is).holds) in
    let content : content_of olds.file after ≡ Ok p.new.text = ap (λ (name : List ℕ). content_of name after) (sym olds.is.file_is)
    ∙ served.master in
    let all = all_there p.job.served p.files after p.new.tracks p.served.tracks changes parts.same many olds.is.each
    (λ place old track change old_is track_is. served.lists place old track change old_is
    (ap (λ (l : List Track). slice_get l place) served.tracks ∙ track_is)) in
    let counted = ap (λ (q : Publication). segments_after (paired p.new.tracks p.served.tracks) q.changes)
    (same_publication p parts a served.options served.tracks) in
    let few = ltb-false segment_limit (segments_after (paired p.new.tracks p.served.tracks) parts.publication.changes) parts.few in
    let same = same_after p.new.tracks p.served.tracks changes parts.same many in
    let count = count_after p.new.tracks p.served.tracks changes parts.same many in
    record {
      accepted = a;
      options = served.options;
      tracks = served.tracks;
      side = ap (side_at p.job.served after) olds.file_is
          ∙ side_read p.job.served olds.file p.new after (served_after p.served.tracks changes) alike content same all
          (omega (arith, count, counted, few))
          ∙ ap (λ (name : List ℕ). Ok (record (side_after p.new p.served changes) { file = name })) (sym olds.is.file_is);
    }
