-- What `agree` tells is so of the times that files state.
use Rattle.bridge_courses.specs.declared.status.Verdict.TheVariants as verdict
use Rattle.std.proofs.Common.{◌≡◌, ℕ, List, Bool, Option, Some, None, Result, Ok, Err, refl, sym, ap}
use Rattle.bridge_io.proofs.AndThen.{steps_of}
use Rattle.bridge_io.specs.{Answer.and_then, Outside.Files}
use Rattle.fragment_times.specs.{declared.fault.SegmentSpot.SegmentSpot, declared.times.SegmentTimes.SegmentTimes, Agreeing.first_apart}
use Rattle.fragment_times.specs.Times.{times_of}
use Rattle.presentation.specs.Presented.{Presented}
use Rattle.presentation.proofs.Filling.{ok_under}
use Rattle.bridge_jobs.specs.declared.jobs.AgreeJob.{AgreeJob}
use Rattle.bridge_playlists.specs.{declared.place.StorePlace.StorePlace, Places.store_place_of}
use Rattle.bridge_report.specs.{Outcomes.{Ends, outcome_told}, Reading.Named}
use Rattle.bridge_courses.specs.declared.status.Verdict.{Verdict}
use Rattle.bridge_steps.specs.Endings.{placed}
use Rattle.bridge_reach.specs.{Agree.{agree_at, agree_outcome, apart_text, judged, mpd_read, verdict_of}}
use Rattle.bridge_reach.specs.{FileTimes.times_at, Promises.{DifferIsApart, DoneAgrees}}
use Rattle.bridge_reach.proofs.Apart.{all_agree, is_first}

-- ---- what was read where a verdict is told of it

record IsJudged (job : AgreeJob) (files : Files) (end : Verdict) (line : List ℕ) : Type 0 where
  place : StorePlace
  at : store_place_of job.base job.mpd ≡ Some place
  p : Presented
  read : mpd_read place files ≡ Ok p
  times : List SegmentTimes
  stated : times_of place.folder files p ≡ Ok times
  told : verdict_of p (first_apart p times) ≡ (end, line)

-- a verdict that is no refusal
abbrev IsVerdict : Verdict → Type 0
IsVerdict end = end ≡ verdict.Refused → ⊥

told_by : (read : Result (Verdict × List ℕ) Named) (end : Verdict) (line : List ℕ) (reads counts : Bool) → IsVerdict end
    → Some (outcome_told read) ≡ Some (Ends end line reads counts) → read ≡ Ok (end, line)
told_by (Err named) end line reads counts is_verdict is = absurd (is_verdict (let same : verdict.Refused ≡ end = cc in sym same))
told_by (Ok told) end line reads counts is_verdict is =
    let one : told.0 ≡ end = cc in let two : told.1 ≡ line = cc in
    rw (← one, ← two) refl

judged_at : (place : Option StorePlace) (files : Files) (end : Verdict) (line : List ℕ) (reads counts : Bool) → IsVerdict end
    → placed (agree_at (Some files)) place ≡ Some (Ends end line reads counts)
    → (found : StorePlace) × (place ≡ Some found) × (judged found files ≡ Ok (end, line))
judged_at None files end line reads counts is_verdict is = absurd (is_verdict (let same : verdict.Refused ≡ end = cc in sym same))
judged_at (Some found) files end line reads counts is_verdict is =
    (found, refl, told_by (judged found files) end line reads counts is_verdict is)

is_judged : (job : AgreeJob) (files : Files) (end : Verdict) (line : List ℕ) (reads counts : Bool) → IsVerdict end
    → agree_outcome job (Some files) ≡ Some (Ends end line reads counts) → IsJudged job files end line
unfolding agree_outcome judged
is_judged job files end line reads counts is_verdict is =
    let at = judged_at (store_place_of job.base job.mpd) files end line reads counts is_verdict is in
    let place = at.0 in
    let read = steps_of (mpd_read place files)
    (λ p. and_then (times_at place files p) (λ times. Ok (verdict_of p (first_apart p times)))) (end, line) at.2 in
    let times = steps_of (times_at place files read.value) (λ times. Ok (verdict_of read.value (first_apart read.value times))) (end, line)
    read.then in
    record {
      place = place;
      at = at.1;
      p = read.value;
      read = read.first;
      times = times.value;
      stated = ok_under _ (times_of place.folder files read.value) times.value times.first;
      told = (let e = times.then in cc);
    }

-- ---- by the verdict

none_apart : (p : Presented) (apart : Option SegmentSpot) (line : List ℕ) → verdict_of p apart ≡ (verdict.Done, line) → apart ≡ None
none_apart p None line is = refl
none_apart p (Some spot) line is = absurd (let same : verdict.Differ ≡ verdict.Done = ap (λ (v : Verdict × List ℕ). v.0) is in cc)

record IsSpot (apart : Option SegmentSpot) (line : List ℕ) : Type 0 where
  spot : SegmentSpot
  is : apart ≡ Some spot
  told : line ≡ apart_text spot.section spot.track spot.segment

some_apart : (p : Presented) (apart : Option SegmentSpot) (line : List ℕ) → verdict_of p apart ≡ (verdict.Differ, line) → IsSpot apart line
some_apart p None line is = absurd (let same : verdict.Done ≡ verdict.Differ = ap (λ (v : Verdict × List ℕ). v.0) is in cc)
some_apart p (Some spot) line is = record { spot = spot; is = refl; told = sym (ap (λ (v : Verdict × List ℕ). v.1) is) }

pub done_agrees : DoneAgrees
done_agrees job files line reads counts is =
    let by = is_judged job files verdict.Done line reads counts (λ e. absurd (cc)) is in
    record {
      place = by.place;
      at = by.at;
      presentation = by.p;
      read = by.read;
      of = all_agree by.place.folder files by.p by.times by.stated (none_apart by.p (first_apart by.p by.times) line by.told);
    }

pub differ_is_apart : DifferIsApart
differ_is_apart job files line reads counts is =
    let by = is_judged job files verdict.Differ line reads counts (λ e. absurd (cc)) is in
    let found = some_apart by.p (first_apart by.p by.times) line by.told in
    let first = is_first by.place.folder files by.p by.times by.stated found.spot found.is in
    record {
      place = by.place;
      at = by.at;
      presentation = by.p;
      read = by.read;
      of = record {
        spot = found.spot;
        told = found.told;
        section = first.section;
        track = first.track;
        apart = first.apart;
        first = first.first;
      };
    }
