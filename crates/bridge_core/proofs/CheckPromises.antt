-- What `check` promises, from what its parts say.
use Rattle.bridge_jobs.specs.declared.jobs.Job.TheVariants as jobs
use Rattle.bridge_courses.specs.declared.status.Verdict.TheVariants as verdict
use Rattle.std.proofs.Common.{◌≡◌, ◌^◌, ℕ, List, IsTrue, Option, None, Some, IfSome, option_map, Ok, refl, sym, ◌∙◌, ap}
use Rattle.std.proofs.Common.{subst}
use Rattle.std.specs.Prelude.{◌↔◌}
use Rattle.bridge_io.proofs.AndThen.{steps_of}
use Rattle.bridge_io.specs.{Names.is_name, Outside.Files}
use Rattle.bridge_jobs.specs.declared.jobs.CheckJob.{CheckJob}
use Rattle.laws_of_mpds.specs.{PresentedFiles.PresentedMeanTheirFiles, Written.ReadHaveRates}
use Rattle.meaning.specs.{Differences.first_difference, Meanings.Meaning, Same.Agrees, declared.difference.Difference.Difference}
use Rattle.presentation.proofs.Filling.{ok_under}
use Rattle.presentation.specs.{Meanings.meaning_of, Presented.Presented}
use Rattle.mpd_presentation.specs.{MeaningLaws.TextsAreMeant, Meanings.dash_meaning, Told.presented_of}
use Rattle.bridge_courses.specs.{Courses.Course, Laws.VerdictKeepsSteps, declared.status.Verdict.Verdict}
use Rattle.bridge_report.specs.{Outcomes.course_by, Reading.content_of}
use Rattle.bridge_report.specs.declared.refusal.Refusal.TheVariants.{NotStatic}
use Rattle.bridge_playlists.specs.Playlists.{presented_at}
use Rattle.bridge_compare.specs.Check.{check_outcome, compared, differ_line, judged, places_of, verdict_of}
use Rattle.bridge_core.specs.{Courses.{course_of, course_of_job, outcome_of_job}, Promises.{AreMeant, DifferIsApart, DoneIsAgreed}}
use Rattle.bridge_steps.specs.Manifests.{checked_presentation, mpd_at, mpd_in}
use Rattle.meaning.proofs.AlikeLemmas.{first_alike}
use Rattle.bridge_core.proofs.{Asked.{IsBounded, bounded}, Compared.{IsCompared, by_places}, Lies.{content_read, in_folder_is, lies_of}}
use Rattle.bridge_core.proofs.MpdPromises.{presentation_read}
use Rattle.bridge_steps.proofs.Static.{static_read}

-- both are read, and the first difference is told of them
abbrev IsChecked : CheckJob → Files → Course → Type 0
IsChecked job files course =
    IsCompared job (mpd_at (Some NotStatic) (10 ^ job.digits) None) presented_at (compared (10 ^ job.digits)) files course

-- ---- what is told of two presentations

done_none : (p : Presented) (d : Option Difference) → verdict.Done ≡ (verdict_of p d).0 → d ≡ None
done_none p None is = refl
done_none p (Some d) is = absurd (cc)

record IsFirst (d : Option Difference) (line : List ℕ) : Type 0 where
  first : Difference
  is : d ≡ Some first
  told : line ≡ differ_line first

differ_some : (p : Presented) (d : Option Difference) → verdict.Differ ≡ (verdict_of p d).0 → IsFirst d (verdict_of p d).1
differ_some p None is = absurd (cc)
differ_some p (Some d) is = record { first = d; is = refl; told = refl }

-- ---- the promises

record IsMeant (job : CheckJob) (files : Files) (p q : Presented) : Type 0 where
  playlists : Meaning
  meant : AreMeant job files (meaning_of p) playlists
  alike : (unit : ℕ) (a : Meaning) → first_difference unit a playlists ≡ first_difference unit a (meaning_of q)

module _ (keeps : VerdictKeepsSteps) (texts : TextsAreMeant) (rates : ReadHaveRates) (meant : PresentedMeanTheirFiles)
    (tells : (unit : ℕ) (a b : Meaning) → Agrees unit a b ↔ (first_difference unit a b ≡ None)) where
  text_meant : (job : CheckJob) (url bytes : List ℕ) (p : Presented)
      → checked_presentation (Some NotStatic) (10 ^ job.digits) url None bytes ≡ Ok p
      → dash_meaning bytes url None ≡ Some (meaning_of p)
  text_meant job url bytes p is =
      let read = static_read NotStatic (10 ^ job.digits) url None bytes p is in
      texts bytes url None read.came.tree read.came.mpd p read.spelled read.came.typed
      (subst (λ u. presented_of read.came.mpd u None ≡ Ok p) read.at (subst (λ now. presented_of read.came.mpd read.came.url now ≡ Ok p)
      read.instant read.came.presented))

  are_meant : (job : CheckJob) (files : Files) (course : Course) → IsTrue (is_name job.master) → (by : IsChecked job files course)
      → IsMeant job files by.mpd by.playlists
  unfolding mpd_at
  are_meant job files course named by =
      let source = lies_of job.base job.mpd by.source by.source_at in
      let master = lies_of job.base job.master by.master by.master_at in
      let text = steps_of (content_of by.source.file files) (mpd_in (Some NotStatic) (10 ^ job.digits) None by.source) by.mpd by.mpd_read in
      let read = presentation_read rates by.master files by.playlists (subst (λ name. IsTrue (is_name name)) (sym master.file) named)
      (in_folder_is job.base job.master by.master master) by.playlists_read in
      let meaning = meant files by.master.folder by.master.url read.tracks read.medias by.playlists read.master read.playlists
      read.presented in
      record {
        playlists = meaning.0;
        meant = record {
          source = by.source;
          source_at = by.source_at;
          bytes = text.value;
          there = ap files (sym source.file) ∙ content_read by.source.file files text.value text.first;
          means =
              text_meant job by.source.url text.value by.mpd (ok_under _ (checked_presentation (Some NotStatic) (10 ^ job.digits)
              by.source.url None text.value) by.mpd text.then);
          master = by.master;
          master_at = by.master_at;
          told = meaning.1.0;
        };
        alike = λ unit a. first_alike unit a meaning.0 (meaning_of by.playlists) meaning.1.1;
      }

  ended : (job : CheckJob) (course : Course) (v : Verdict) (files : Files)
      → option_map course_by (outcome_of_job (Some (jobs.Check job)) (Some files)) ≡ Some course → v ≡ course.end.verdict
      → (v ≡ verdict.Refused → ⊥) → IsChecked job files course
  unfolding check_outcome judged
  ended job course v files goes ends is_open =
      by_places job (mpd_at (Some NotStatic) (10 ^ job.digits) None) presented_at (compared (10 ^ job.digits)) files course (places_of job)
      refl goes (λ refused. is_open (ends ∙ refused))

  pub done_agrees : DoneIsAgreed
  unfolding course_of
  done_agrees words job input course before after files asks was goes run =
      let asked : IfSome (Some (jobs.Check job)) IsBounded = subst (λ asked. IfSome asked IsBounded) asks (bounded words) in
      let ends = (keeps course verdict.Done before after run).0 in
      let by = ended job course verdict.Done files (subst (λ asked. course_of_job asked (Some files) input ≡ Some course)
      asks goes) ends (λ is. absurd (cc)) in
      let are = are_meant job files course asked by in
      let none = done_none by.mpd (first_difference (10 ^ job.digits) (meaning_of by.mpd) (meaning_of by.playlists)) (ends ∙ by.verdict) in
      record {
        mpd = meaning_of by.mpd;
        playlists = are.playlists;
        meant = are.meant;
        agree = (tells (10 ^ job.digits) (meaning_of by.mpd) are.playlists).1 (are.alike (10 ^ job.digits) (meaning_of by.mpd) ∙ none);
      }

  pub differ_is_apart : DifferIsApart
  unfolding course_of
  differ_is_apart words job input course before after files asks was goes run =
      let asked : IfSome (Some (jobs.Check job)) IsBounded = subst (λ asked. IfSome asked IsBounded) asks (bounded words) in
      let ends = (keeps course verdict.Differ before after run).0 in
      let by = ended job course verdict.Differ files (subst (λ asked. course_of_job asked (Some files) input ≡ Some course) asks goes) ends
      (λ is. absurd (cc)) in
      let are = are_meant job files course asked by in
      let some = differ_some by.mpd (first_difference (10 ^ job.digits) (meaning_of by.mpd) (meaning_of by.playlists)) (ends ∙ by.verdict)
      in
      let found : first_difference (10 ^ job.digits) (meaning_of by.mpd) are.playlists ≡ Some some.first = are.alike (10 ^ job.digits)
      (meaning_of by.mpd) ∙ some.is in
      record {
        mpd = meaning_of by.mpd;
        playlists = are.playlists;
        meant = are.meant;
        apart = λ agree. (let none = (tells (10 ^ job.digits) (meaning_of by.mpd) are.playlists).0 agree in absurd (cc));
        first = some.first;
        found = found;
        told = by.line ∙ some.told;
      }
