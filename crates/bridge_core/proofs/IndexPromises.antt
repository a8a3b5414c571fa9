-- What is written means what an MPD and the indexes of its media files mean.
use Rattle.bridge_jobs.specs.declared.jobs.Job.TheVariants as jobs
use Rattle.bridge_courses.specs.declared.status.Status.TheVariants as status
use Rattle.std.proofs.Common.{◌≡◌, ℕ, ◌^◌, List, [], ◌∷◌, ◌++◌, length, Some, option_map, IfSome, sym, ◌∙◌, ap, subst, append_assoc}
use Rattle.std.proofs.lemmas.List.{append-nil}
use Rattle.bridge_io.specs.{InOrder.put_all, Outside.Files}
use Rattle.bridge_jobs.specs.Laws.{FoldersHoldTheirFiles}
use Rattle.bridge_jobs.specs.declared.jobs.IndexJob.{IndexJob}
use Rattle.bridge_courses.specs.{Courses.{Course, World, files_of}, Laws.{DoneIsWhole, VerdictKeepsSteps}, Executions.IsExecution}
use Rattle.hls_meaning.specs.Meanings.{hls_meaning}
use Rattle.hls_writer.specs.Verified.{IsVerified}
use Rattle.index_parts.specs.Meanings.{indexed_meaning}
use Rattle.laws_of_playlists.specs.{IndexMeant.IndexedTextsAreMeant, IndexOrigins.IndexedAreFew, IndexWritten.WrittenMeansTheIndex}
use Rattle.laws_of_playlists.specs.{Origins.{IsFound, OwnTextsAreAddresses, ReadingsAreOfBytes}, SameFiles.{AreWritten, FoldersHoldFiles}}
use Rattle.laws_of_playlists.specs.SameFiles.{master_name}
use Rattle.presentation.specs.Meanings.{meaning_of}
use Rattle.bridge_playlists.specs.Places.{store_place_of}
use Rattle.bridge_steps.specs.{Done.done_line, Playlists.{playlists, spelling_in}}
use Rattle.bridge_reach.specs.{Index.{files_of as playlists_of, index_outcome, line_of, outcome_of, output_of_job, presented}}
use Rattle.bridge_reach.proofs.Came.{came_from, is_told}
use Rattle.bridge_core.proofs.Fitting.{players_fit}
use Rattle.laws_of_playlists.specs.Master.{IsFitFor}
use Rattle.mpd_hints.specs.{Laws.ToldLabelsAreFit, declared.starts.Sap.TheVariants.Subsegments}
use Rattle.bridge_core.specs.{Courses.{course_of, course_of_job}, IndexPromises.{IndexMeansTheSame, WrittenMeansTheIndexes}}
use Rattle.bridge_core.proofs.{Asked.{IsBounded, bounded}, DoneAt.{IsDoneAt, done_at}, FileNames.{are_written, spells_in}}
use Rattle.bridge_core.proofs.Lies.{content_read, lies_of}
use Rattle.bridge_core.proofs.Promises.{base_folder, holds, spelled_bytes}

module _ (done : DoneIsWhole) (keeps : VerdictKeepsSteps) (names : FoldersHoldTheirFiles) (hold : FoldersHoldFiles)
    (meant : IndexedTextsAreMeant) (same : WrittenMeansTheIndex) (fit : ToldLabelsAreFit)
    (reads : ReadingsAreOfBytes) (own : OwnTextsAreAddresses) (fewer : IndexedAreFew) where
  promised : (job : IndexJob) (course : Course) (before after : World) (first last : Files) → IsBounded (jobs.HlsIndex job)
      → before.files ≡ Some first → after.files ≡ Some last
      → IsDoneAt (outcome_of job) (presented job) (store_place_of job.base job.mpd) first course
      → IsExecution course status.Done before after
      → IndexMeansTheSame job first last
  promised job course before after first last few_digits was is by run =
      let place = by.found in let p = by.value.0 in let players = by.value.1 in
      let lies = lies_of job.base job.mpd place by.at in
      let told = is_told job.form (10 ^ job.digits) place first by.value by.is in let read = told.indexed in
      let came = came_from (10 ^ job.digits) place first p read in
      let there : first job.mpd ≡ Some read.bytes = ap first (sym lies.file) ∙ content_read place.file first read.bytes read.there in
      let few = fewer p came in
      let pieces : List (List ℕ × List ℕ) = playlists (output_of_job job) players job.digits p in
      let files : files_of course ≡ pieces = ap files_of by.goes ∙ append-nil pieces in
      let left : Some last ≡ Some (put_all pieces first) =
      sym is ∙ (done course before after run).files ∙ ap (λ fs. option_map (put_all fs) before.files) files
      ∙ ap (option_map (put_all pieces)) was in
      let last_is : last ≡ put_all pieces first = cc in
      let found : IsFound came.tree came.url = record {
        tree = reads read.bytes read.tree (spelled_bytes read.bytes read.tree read.spelled) read.spelled;
        url = own place.url lies.own;
      } in
      let verified : IsVerified p job.digits = record { longest = read.longest; is = read.verified } in
      let written : AreWritten last (job.out ++ 47 ∷ []) (spelling_in (output_of_job job)) players p job.digits =
      rw last_is (are_written (output_of_job job) players job.digits p first few) in
      let meaning = same p job.digits last job.base (job.out ++ 47 ∷ []) (spelling_in (output_of_job job)) players came
      (subst IsFitFor (sym told.players) (players_fit fit Subsegments job.form told.bytes)) found verified
      few_digits.1 (base_folder job.base lies.is_base) (holds names hold job.out (length p.tracks) few_digits.0 few)
      (λ t less. spells_in job.addresses job.base job.out t) written in
      record {
        bytes = read.bytes;
        url = place.url;
        there = there;
        at = lies.at;
        indexes = meaning_of p;
        means = subst (λ folder. indexed_meaning read.bytes place.url folder first ≡ Some (meaning_of p)) lies.folder
            (meant read.bytes place.url place.folder first read.tree read.mpd p read.spelled read.typed read.presented);
        playlists = meaning.0;
        written = ap (λ text. hls_meaning last job.base (job.base ++ text)) (sym (append_assoc job.out (47 ∷ []) master_name))
            ∙ meaning.1.0;
        same = meaning.1.1;
      }

  pub written_means : WrittenMeansTheIndexes
  unfolding course_of index_outcome
  written_means words job input course before after first last asks was is goes run =
      let asked : IfSome (Some (jobs.HlsIndex job)) IsBounded = subst (λ asked. IfSome asked IsBounded) asks (bounded words) in
      let by = done_at (playlists_of (output_of_job job) job.digits) line_of (presented job) keeps before after
      (store_place_of job.base job.mpd) first course
      (subst (λ asked. course_of_job asked (Some first) input ≡ Some course) asks goes) run in
      promised job course before after first last asked was is by run
