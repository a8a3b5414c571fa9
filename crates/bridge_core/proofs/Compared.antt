-- An MPD and playlists that are both read, and what is told of them.
use Rattle.bridge_courses.specs.declared.status.Verdict.TheVariants as verdict
use Rattle.std.proofs.Common.{◌≡◌, ℕ, List, Option, None, Some, option_map, Result, Ok, Err, refl, sym, ◌∙◌, ap}
use Rattle.bridge_io.proofs.AndThen.{steps_of}
use Rattle.bridge_io.specs.{Answer.and_then, Outside.Files}
use Rattle.bridge_jobs.specs.declared.jobs.CheckJob.{CheckJob}
use Rattle.presentation.specs.Presented.{Presented}
use Rattle.bridge_courses.specs.{Courses.Course, declared.status.Verdict.Verdict}
use Rattle.bridge_report.specs.{Outcomes.{Outcome, base_refused, course_by, outcome_told}, Reading.Named}
use Rattle.bridge_playlists.specs.{Places.store_place_of, declared.place.StorePlace.StorePlace}
use Rattle.bridge_compare.specs.Check.{both_with, places_of}
use Rattle.bridge_steps.specs.Endings.{placed}

-- ---- a course that isn't refused

abbrev pub IsOpen : Course → Type 0
IsOpen course = course.end.verdict ≡ verdict.Refused → ⊥

record IsTold (r : Result (Verdict × List ℕ) Named) (course : Course) : Type 0 where
  what : Verdict × List ℕ
  is : r ≡ Ok what
  verdict : course.end.verdict ≡ what.0
  line : course.end.lines ≡ what.1

by_told : (r : Result (Verdict × List ℕ) Named) (course : Course) → course ≡ course_by (outcome_told r) → IsOpen course → IsTold r course
by_told (Ok what) course goes is_open =
    record { what = what; is = refl; verdict = ap (λ (c : Course). c.end.verdict) goes; line = ap (λ (c : Course). c.end.lines) goes }
by_told (Err named) course goes is_open = absurd (is_open (ap (λ (c : Course). c.end.verdict) goes))

-- where both lie
placed_by : (job : CheckJob) (places : StorePlace × StorePlace) (mpd master : Option StorePlace) → store_place_of job.base job.mpd ≡ mpd
    → store_place_of job.base job.master ≡ master
    → places_of job ≡ Some places → (store_place_of job.base job.mpd ≡ Some places.0) × (store_place_of job.base job.master ≡ Some places.1)
unfolding places_of
placed_by job places None master at there is = absurd (let e = rw at at is in cc)
placed_by job places (Some mpd) None at there is = absurd (let e = rw (at, there) at is in cc)
placed_by job places (Some mpd) (Some master) at there is =
    let same : both_with mpd master ≡ places = (let e = rw (at, there) at is in cc) in
    (at ∙ ap (λ (p : StorePlace × StorePlace). Some p.0) same, there ∙ ap (λ (p : StorePlace × StorePlace). Some p.1) same)

-- ---- both are read, and this is told of them

abbrev Reads : Type 0
Reads = StorePlace → Files → Result Presented Named

abbrev Tells : Type 0
Tells = (mpd playlists : Presented) → Verdict × List ℕ

pub record IsCompared (job : CheckJob) (mpd_by playlists_by : Reads) (told : Tells) (files : Files) (course : Course) : Type 0 where
  pub source : StorePlace
  pub source_at : store_place_of job.base job.mpd ≡ Some source
  pub master : StorePlace
  pub master_at : store_place_of job.base job.master ≡ Some master
  pub mpd : Presented
  pub mpd_read : mpd_by source files ≡ Ok mpd
  pub playlists : Presented
  pub playlists_read : playlists_by master files ≡ Ok playlists
  pub verdict : course.end.verdict ≡ (told mpd playlists).0
  pub line : course.end.lines ≡ (told mpd playlists).1

module _ (job : CheckJob) (mpd_by playlists_by : Reads) (told : Tells) (files : Files) (course : Course) where
  abbrev judged_by : StorePlace × StorePlace → Result (Verdict × List ℕ) Named
  judged_by places = and_then (mpd_by places.0 files) (λ mpd. and_then (playlists_by places.1 files) (λ playlists. Ok (told mpd playlists)))

  abbrev told_at : StorePlace × StorePlace → Option Outcome
  told_at places = Some (outcome_told (judged_by places))

  pub by_places : (places : Option (StorePlace × StorePlace)) → places_of job ≡ places
      → option_map course_by (placed told_at places) ≡ Some course → IsOpen course → IsCompared job mpd_by playlists_by told files course
  by_places None at goes is_open =
      let same : course_by base_refused ≡ course = cc in
      absurd (is_open (ap (λ (c : Course). c.end.verdict) (sym same)))
  by_places (Some places) at goes is_open =
      let goes_by : course_by (outcome_told (judged_by places)) ≡ course = cc in
      let by = by_told (judged_by places) course (sym goes_by) is_open in
      let lie = placed_by job places (store_place_of job.base job.mpd) (store_place_of job.base job.master) refl refl at in
      let first = steps_of (mpd_by places.0 files) _ by.what by.is in
      let second = steps_of (playlists_by places.1 files) (λ playlists. Ok (told first.value playlists)) by.what first.then in
      let same : told first.value second.value ≡ by.what = (let e = second.then in cc) in
      record {
        source = places.0;
        source_at = lie.0;
        master = places.1;
        master_at = lie.1;
        mpd = first.value;
        mpd_read = first.first;
        playlists = second.value;
        playlists_read = second.first;
        verdict = by.verdict ∙ ap (λ (what : Verdict × List ℕ). what.0) (sym same);
        line = by.line ∙ ap (λ (what : Verdict × List ℕ). what.1) (sym same);
      }
