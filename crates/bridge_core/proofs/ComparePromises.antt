-- What `compare` promises, from what its parts say.
use Rattle.bridge_jobs.specs.declared.jobs.Job.TheVariants as jobs
use Rattle.bridge_courses.specs.declared.status.Verdict.TheVariants as verdict
use Rattle.bridge_report.specs.declared.refusal.Refusal.TheVariants as refusal
use Rattle.std.proofs.Common.{◌≡◌, ◌^◌, ◌==◌, ◌≤◌, ℕ, ℤ, zero, suc, List, [], ◌∷◌, ◌++◌, IsTrue, Option, None, Some, IfSome, option_map}
use Rattle.std.proofs.Common.{Result, Ok, Err, true, false, inl, inr, refl, sym, ◌∙◌, ap, arith, append_assoc, length, take, subst}
use Rattle.std.proofs.lemmas.Bool.{cases_Bool, eqb-true}
use Rattle.std.specs.Prelude.{codes, flat_map}
use Rattle.bridge_io.proofs.AndThen.{steps_of}
use Rattle.bridge_io.specs.{Answer.and_then, Firsts.first_of, Names.is_name, Outside.Files}
use Rattle.bridge_jobs.specs.declared.jobs.CompareJob.{CompareJob}
use Rattle.laws_of_mpds.specs.{PresentedFiles.{ListedMeanTheirFiles, MeanTheSame, PresentedMeanTheirFiles}, Written.ReadHaveRates}
use Rattle.meaning.specs.{Differences.first_difference, declared.difference.Difference.Difference}
use Rattle.mpd_levels.specs.Segments.{Segments}
use Rattle.mpd_rules.specs.Typed.{TypedMpd}
use Rattle.presentation.proofs.Filling.{ok_under}
use Rattle.presentation.specs.{Counting.capped, Meanings.meaning_of, Presented.Presented}
use Rattle.mpd_presentation.specs.{MeaningLaws.TextsAreMeant, Meanings.dash_meaning}
use Rattle.differences.specs.{Agreeing.first_deviation, Alike.{SameDeviateAlike, SameGreatest}}
use Rattle.differences.specs.Deviating.{deviations, told, tracks_greatest}
use Rattle.differences.specs.declared.deviation.Deviation.{Deviation}
use Rattle.bridge_courses.specs.{Courses.Course, declared.status.Verdict.Verdict}
use Rattle.bridge_report.specs.{Outcomes.{course_by, outcome_told}, Reading.{Named, content_of}}
use Rattle.bridge_report.specs.declared.refusal.Refusal.{Refusal}
use Rattle.bridge_report.specs.Refusals.{refusal_line}
use Rattle.bridge_playlists.specs.declared.place.StorePlace.{StorePlace}
use Rattle.bridge_steps.specs.{Endings.placed, Manifests.{checked_presentation, mpd_at, mpd_in, mpd_of, ready_of, unless_live, values_of}}
use Rattle.bridge_steps.proofs.Static.{ready_is, spelled_of}
use Rattle.bridge_compare.specs.Check.{check_at, check_outcome, compared as checked, differ_line, judged as check_judged, places_of}
use Rattle.bridge_compare.specs.Check.{same_line, verdict_of as verdict_of_first}
use Rattle.bridge_compare.specs.Compare.{compare_at, compare_outcome, compared, judged, listed_at, live_refusal, text_of, told_of}
use Rattle.bridge_compare.specs.Lines.{count_line, deviation_line, track_lines}
use Rattle.bridge_core.specs.Courses.{course_of, course_of_job, outcome_of_job}
use Rattle.bridge_core.specs.ComparePromises.{AreAlike, ComparedAsChecked, ComparedTellsAll}
use Rattle.bridge_core.proofs.{Asked.{IsBounded, bounded}, Compared.{IsCompared, IsOpen, by_places}}
use Rattle.bridge_core.proofs.Lies.{content_read, in_folder_is, lies_of}
use Rattle.bridge_core.proofs.MpdPromises.{listing_read, presentation_read}

-- ---- what is read is meant

unless_is : (live : Option Refusal) (mpd read : TypedMpd (Option Segments)) → unless_live live mpd ≡ Ok read → mpd ≡ read
unless_is None mpd read is = cc
unless_is (Some live) mpd read is = elim (cases_Bool mpd.facts.live) [
  | inl at ↦ absurd (let e = rw at at is in cc)
  | inr at ↦ (let e = rw at at is in cc)
]

module _ (texts : TextsAreMeant) where
  -- of an MPD, a live one or not, at a time
  text_meant : (live : Option Refusal) (unit : ℕ) (url : List ℕ) (now : Option ℤ) (bytes : List ℕ) (p : Presented)
      → checked_presentation live unit url now bytes ≡ Ok p → dash_meaning bytes url now ≡ Some (meaning_of p)
  unfolding checked_presentation mpd_of
  text_meant live unit url now bytes p is =
      let read = steps_of (mpd_of live bytes) (ready_of unit url now) p is in
      let values = steps_of (values_of bytes) (unless_live live) read.value read.first in
      let spelled = spelled_of bytes read.value (values.first ∙ ap Ok (unless_is live values.value read.value values.then)) in
      texts bytes url now spelled.tree read.value p spelled.reading spelled.typed (ready_is unit url now read.value p read.then).presented

module _ (rates : ReadHaveRates) (meant : PresentedMeanTheirFiles) (listed : ListedMeanTheirFiles) where
  -- of playlists, live ones or not
  files_meant : (now : Option ℤ) (place : StorePlace) (files : Files) (p : Presented) → IsTrue (is_name place.file)
      → place.url ≡ place.folder ++ place.file → listed_at now place files ≡ Ok p → MeanTheSame files place.folder place.url p
  files_meant None place files p named lies is =
      let read = presentation_read rates place files p named lies is in
      meant files place.folder place.url read.tracks read.medias p read.master read.playlists read.presented
  files_meant (Some now) place files p named lies is =
      let read = listing_read rates place files p named lies is in
      listed files place.folder place.url read.tracks read.medias p read.master read.playlists read.presented

-- ---- all differences are told

-- both are read, and all differences are told of them
abbrev AreCompared : CompareJob → Files → Course → Type 0
AreCompared job files course =
    IsCompared job.check (mpd_at (live_refusal job.instant) (10 ^ job.check.digits) job.instant) (listed_at job.instant)
    (compared job (10 ^ job.check.digits)) files course

ended : (job : CompareJob) (files : Files) (course : Course)
    → option_map course_by (outcome_of_job (Some (jobs.Compare job)) (Some files)) ≡ Some course → IsOpen course
    → AreCompared job files course
unfolding compare_outcome judged
ended job files course goes is_open =
    by_places job.check (mpd_at (live_refusal job.instant) (10 ^ job.check.digits) job.instant) (listed_at job.instant)
    (compared job (10 ^ job.check.digits)) files course (places_of job.check) refl goes is_open

pub compared_tells_all : TextsAreMeant → ReadHaveRates → PresentedMeanTheirFiles → ListedMeanTheirFiles → SameDeviateAlike → SameGreatest
    → ComparedTellsAll
unfolding course_of mpd_at
compared_tells_all texts rates meant listed alike greatest words job input course files asks goes is_open =
    let asked : IfSome (Some (jobs.Compare job)) IsBounded = subst (λ asked. IfSome asked IsBounded) asks (bounded words) in
    let by = ended job files course (subst (λ asked. course_of_job asked (Some files) input ≡ Some course) asks goes) is_open in
    let source = lies_of job.check.base job.check.mpd by.source by.source_at in
    let master = lies_of job.check.base job.check.master by.master by.master_at in
    let text = steps_of (content_of by.source.file files)
    (mpd_in (live_refusal job.instant) (10 ^ job.check.digits) job.instant by.source) by.mpd by.mpd_read in
    let playlists = files_meant rates meant listed job.instant by.master files by.playlists
    (subst (λ name. IsTrue (is_name name)) (sym master.file) asked) (in_folder_is job.check.base job.check.master by.master master)
    by.playlists_read in
    let all : List Deviation = deviations job.within (10 ^ job.check.digits) (meaning_of by.mpd) (meaning_of by.playlists) in
    record {
      mpd = meaning_of by.mpd;
      playlists = playlists.0;
      meant = record {
        source = by.source;
        source_at = by.source_at;
        bytes = text.value;
        there = ap files (sym source.file) ∙ content_read by.source.file files text.value text.first;
        means = text_meant texts (live_refusal job.instant) (10 ^ job.check.digits) by.source.url job.instant text.value by.mpd
            (ok_under _ (checked_presentation (live_refusal job.instant) (10 ^ job.check.digits) by.source.url job.instant text.value)
            by.mpd text.then);
        master = by.master;
        master_at = by.master_at;
        told = playlists.1.0;
      };
      all = all;
      exactly = sym (alike job.within (10 ^ job.check.digits) (meaning_of by.mpd) playlists.0 (meaning_of by.playlists) playlists.1.1);
      shown = by.mpd;
      is_shown = by.mpd_read;
      verdict = by.verdict;
      told = by.line
          ∙ ap (λ greatest. text_of (record { first = take job.most all; count = capped (length all); greatest = greatest }) by.mpd)
          (sym (greatest (meaning_of by.mpd) playlists.0 (meaning_of by.playlists) playlists.1.1));
    }

-- ---- beside `check`

abbrev FirstIsFirst : Type 0
FirstIsFirst = (unit : ℕ) (p q : Presented)
    → first_deviation 0 unit (meaning_of p) (meaning_of q) ≡ first_difference unit (meaning_of p) (meaning_of q)

leads : (line later tracks count : List ℕ) → ((line ++ later) ++ tracks) ++ count ≡ line ++ (later ++ (tracks ++ count))
leads line later tracks count = simp append_assoc

some_counted : (n : ℕ) → (capped (suc n) == 0) ≡ false
some_counted n = elim (cases_Bool (capped (suc n) == 0)) [
  | inl none ↦ absurd (let e = eqb-true (capped (suc n)) 0 none in omega (arith, e))
  | inr some ↦ some
]

abbrev TellAlike : Verdict × List ℕ → Verdict × List ℕ → Type 0
TellAlike mine theirs = AreAlike (Some (outcome_told (Ok mine))) (Some (outcome_told (Ok theirs)))

refused_alike : (named : Named) → AreAlike (Some (outcome_told (Err named))) (Some (outcome_told (Err named)))
refused_alike named = record {
  verdict = verdict.Refused;
  line = refusal_line named.0 named.1;
  check = refusal_line named.0 named.1;
  reads = true;
  counts = false;
  is_compared = refl;
  is_checked = refl;
  alike = refl;
}

told_alike : (most : ℕ) (all : List Deviation) (greatest : List ℕ) (mpd : Presented) (first : Option Difference) → 1 ≤ most
    → option_map (λ (found : Deviation). found.at) (first_of all) ≡ first
    → TellAlike (told_of (record { first = take most all; count = capped (length all); greatest = greatest }) mpd)
    (verdict_of_first mpd first)
told_alike zero all greatest mpd first some is = absurd (omega arith)
told_alike (suc most) [] greatest mpd None some is = record {
  verdict = verdict.Done;
  line = track_lines 0 greatest ++ same_line mpd;
  check = same_line mpd;
  reads = true;
  counts = false;
  is_compared = refl;
  is_checked = refl;
  alike = (greatest, refl);
}
told_alike (suc most) [] greatest mpd (Some first) some is = absurd (cc)
told_alike (suc most) (found ∷ later) greatest mpd None some is = absurd (cc)
told_alike (suc most) (found ∷ later) greatest mpd (Some first) some is =
    let same : found.at ≡ first = cc in
    let more : List ℕ = flat_map deviation_line (take most later) in
    let tracks : List ℕ = track_lines 0 greatest in
    let count : List ℕ = count_line (capped (length (found ∷ later))) in
    record {
      verdict = verdict.Differ;
      line = ((deviation_line found ++ more) ++ tracks) ++ count;
      check = differ_line first;
      reads = true;
      counts = false;
      is_compared = rw (some_counted (length later)) refl;
      is_checked = refl;
      alike = (found, (ap differ_line (sym same), (more ++ (tracks ++ count), leads (deviation_line found) more tracks count)));
    }

module _ (firsts : FirstIsFirst) (most : ℕ) (some : 1 ≤ most) where
  both_alike : (unit : ℕ) (mpd playlists : Result Presented Named) → AreAlike
      (Some (outcome_told (and_then mpd (λ p. and_then playlists (λ q. Ok (told_of (told most 0 unit (meaning_of p) (meaning_of q)) p))))))
      (Some (outcome_told (and_then mpd (λ p. and_then playlists (λ q. Ok (checked unit p q))))))
  both_alike unit (Err named) playlists = refused_alike named
  both_alike unit (Ok p) (Err named) = refused_alike named
  both_alike unit (Ok p) (Ok q) =
      told_alike most (deviations 0 unit (meaning_of p) (meaning_of q)) (tracks_greatest (meaning_of p).tracks (meaning_of q).tracks) p
      (first_difference unit (meaning_of p) (meaning_of q)) some (firsts unit p q)

at_alike : FirstIsFirst → (job : CompareJob) (files : Files) → job.instant ≡ None → job.within ≡ 0 → 1 ≤ job.most
    → (places : Option (StorePlace × StorePlace))
    → AreAlike (placed (compare_at job (Some files)) places) (placed (check_at job.check (Some files)) places)
unfolding judged check_judged
at_alike firsts job files none exact some None = record {
  verdict = verdict.Refused;
  line = refusal_line (codes "-") refusal.Base;
  check = refusal_line (codes "-") refusal.Base;
  reads = false;
  counts = true;
  is_compared = refl;
  is_checked = refl;
  alike = refl;
}
at_alike firsts job files none exact some (Some places) = rw (none, exact)
    (both_alike firsts job.most some (10 ^ job.check.digits) (mpd_at (Some refusal.NotStatic) (10 ^ job.check.digits) None places.0 files)
    (listed_at None places.1 files))

pub compared_as_checked : FirstIsFirst → ComparedAsChecked
unfolding compare_outcome check_outcome
compared_as_checked firsts job files none exact some = at_alike firsts job files none exact some (places_of job.check)
