-- After a publication the same one changes nothing.
use Rattle.std.proofs.Common.{◌≡◌, List, [], ◌∷◌, ◌++◌, All, length, refl, sym, ◌∙◌, ap, subst, unwrap_or, arith}
use Rattle.laws_of_mpds.specs.Written.{TracksAreOfBytes}
use Rattle.publish_law.specs.{Lists.track_of, declared.track.{Change.Change, Track.Track}}
use Rattle.publish_law.specs.declared.plan.Options.{Options}
use Rattle.laws_of_publishing.specs.Laws.{AgainIsUnchanged, tracks_after}
use Rattle.publish_core.specs.Decisions.{master_if, names_of, paired}
use Rattle.publish_core.specs.Laws.{Decided, PublicationsAgainAreUnchanged, ServedFoldersAreRead, served_after, side_after}
use Rattle.publish_core.specs.{Names.{master_file, name_in}, Placed.all_placed}
use Rattle.publish_core.specs.declared.{decision.NewFile.NewFile, side.SideTrack.SideTrack}
use Rattle.publish_core.proofs.{After.{changed_are}, Elsewhere.{IsFileIn, others_kept, written_in}, Few.few_in}
use Rattle.publish_core.proofs.{Folders.{count_changes, same_after}, Going.{decided_next, new_taken, parts_of}}
use Rattle.publish_core.proofs.{Repeated.{IsStill, decides, next_again}, Stays.stays, Whole.{of_bytes, side_is}}

pairs_after : (news olds : List SideTrack) (changes : List Change) → length changes ≡ length (paired news olds)
    → tracks_after (paired news olds) changes ≡ paired news (served_after olds changes)
pairs_after [] olds changes many = refl
pairs_after (new ∷ news) [] changes many = refl
pairs_after (new ∷ news) (old ∷ olds) [] many = absurd (omega (arith, many))
pairs_after (new ∷ news) (old ∷ olds) (change ∷ changes) many =
    ap (λ (l : List Track). track_of (unwrap_or change.list old.list) new.list ∷ l)
    (pairs_after news olds changes (omega (arith, many)))

-- all files of a publication are the served folder's
files_in : TracksAreOfBytes → (p : Decided) → All (IsFileIn p.job.served) p.decision.files
files_in tracks p =
    let parts = parts_of p (decided_next p) in
    let olds = side_is (of_bytes tracks) p.job.served p.files p.served (name_in p.job.served master_file) refl p.served_is in
    let changed = changed_are [] (names_of p.new.tracks p.served.tracks) parts.publication.changes parts.lists parts.changed in
    let files = parts.files ∙ ap (λ (l : List NewFile). l ++ master_if p.new p.served) changed.0 in
    subst (All (IsFileIn p.job.served)) (sym files)
    (written_in p.job.served olds.file p.files p.new p.served parts.publication.changes olds.file_is olds.is)

pub are_unchanged : TracksAreOfBytes → ServedFoldersAreRead → AgainIsUnchanged → PublicationsAgainAreUnchanged
are_unchanged tracks reads again p pending proper pending_is =
    let read = reads p pending pending_is in
    let a = read.accepted in
    let changes = a.publication.changes in
    let parts = parts_of p (decided_next p) in
    let after = all_placed pending p.decision.files p.files in
    let served = side_after p.new p.served changes in
    let kept = others_kept p.job.served p.job.new pending p.decision.files p.files proper.apart pending_is (files_in tracks p) in
    let new_is = stays p.job.new p.files after kept (name_in p.job.new master_file) p.new refl p.new_is in
    let many : length changes ≡ length (paired p.new.tracks p.served.tracks) =
    count_changes a.options a.tracks a.publication a.is ∙ ap (λ (l : List Track). length l) read.tracks in
    let still : IsStill p.job.options (paired p.new.tracks (served_after p.served.tracks changes)) =
    subst (λ (l : List Track). IsStill p.job.options l)
    (ap (λ (l : List Track). tracks_after l changes) read.tracks ∙ pairs_after p.new.tracks p.served.tracks changes many)
    (subst (λ (o : Options). IsStill o (tracks_after a.tracks changes)) read.options (again a)) in
    record {
      accepted = a;
      options = read.options;
      tracks = read.tracks;
      again = decides p.job after p.new served new_is (new_taken p.job p.files p.new p.decision p.new_is p.is).holds read.side
          ∙ next_again p.job p.new served (same_after p.new.tracks p.served.tracks changes parts.same many) refl
          (few_in p.job.served after (name_in p.job.served master_file) served read.side) still;
    }
