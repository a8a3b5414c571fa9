-- Work over rounds, which the master's read goes before.
use Rattle.bridge_courses.specs.declared.ending.Ending.TheVariants as ending
use Rattle.bridge_courses.specs.declared.status.Verdict.TheVariants as verdict
use Rattle.bridge_report.specs.declared.reading.Halt.TheVariants as halt
use Rattle.std.proofs.Common.{◌≡◌, ◌⊎◌, ℕ, true, false, IsTrue, List, [], Option, None, Some, IfSome, Result, Ok, Err, inl, inr}
use Rattle.std.proofs.{Common.{refl, sym, ◌∙◌, subst, arith}, lemmas.List.length-map}
use Rattle.std.specs.Option.{ForSome, option_and_then}
use Rattle.bridge_io.specs.{Fault.Rose, Outside.Files}
use Rattle.hls_master.specs.declared.track.MasterTrack.{MasterTrack}
use Rattle.bridge_courses.specs.{Courses.{Course, World}, Executions.NeverFalls, Steps.{Work, first_step}}
use Rattle.bridge_courses.specs.declared.ending.Ending.{Ending}
use Rattle.bridge_courses.proofs.Stepping.{IsIdle, ends, memory_first, none_taken, read_fault_first, up_to_none, work_later}
use Rattle.bridge_report.specs.{Outcomes.{Ends, IsHalt, course_by}, Reading.{Named, halted}, Refusals.refusal_line}
use Rattle.bridge_report.specs.declared.reading.Halt.{Halt}
use Rattle.bridge_jobs.specs.Frames.{start}
use Rattle.bridge_playlists.specs.{Playlists.master_at, declared.place.StorePlace.StorePlace}
use Rattle.bridge_steps.specs.Follow.{IsCausedByEither}
use Rattle.bridge_steps.proofs.{Endings.over, Rest.reads_first}
use Rattle.bridge_jobs.specs.declared.jobs.MasterJob.{MasterJob}
use Rattle.bridge_reach.specs.TimedRounds as timed
use Rattle.bridge_reach.specs.{Rounds.{IsKept, course_with, followed_rounds, hls_of, no_rounds, round_stream, rounds_of}}

-- ---- courses

-- what holds of the course of any files holds
over_files : (files : Option Files) (f : Files → Option Course) (P : Course → Type 0)
    → ((all : Files) → files ≡ Some all → ForSome (f all) P) → ForSome (option_and_then f files) P
over_files None f P each = λ course is. absurd (cc)
over_files (Some all) f P each = each all refl

-- a rejected master playlist is reported
abbrev refused_course : Named → Course
refused_course named = course_by (Ends verdict.Refused (refusal_line named.0 named.1) true true)

-- what is made of the files and of what the master playlist gives: a rejected one is reported, and else the course begins with reading
pub record IsLed (of : Files → Result (List MasterTrack) Named → Option Course) : Type 0 where
  pub refuses : (all : Files) (named : Named) → of all (Err named) ≡ Some (refused_course named)
  pub reads : (all : Files) (tracks : List MasterTrack) → ForSome (of all (Ok tracks)) (λ course. IsTrue (first_step course).reads)

pub rounds_led : (job : MasterJob) (input : Option (List ℕ)) → IsLed (λ all. rounds_of job input)
rounds_led job input = record {
  refuses = λ all named. refl;
  reads = λ all tracks. let hls = hls_of job tracks in
      over (course_with job tracks) input (λ course. IsTrue (first_step course).reads) (λ bytes told.
      reads_first false (λ files. followed_rounds hls) all (no_rounds tracks) 0 0 (round_stream hls start bytes));
}

pub timed_led : (job : MasterJob) (place : StorePlace) (input : Option (List ℕ)) → IsLed (λ all. timed.course_of job place all input)
timed_led job place input = record {
  refuses = λ all named. refl;
  reads = λ all tracks. let hls = timed.timed_hls_of job place tracks in
      over (timed.course_with job place tracks all) input (λ course. IsTrue (first_step course).reads) (λ bytes told.
      reads_first true (timed.followed_timed hls) all (no_rounds tracks) 0 0 (round_stream hls.hls start bytes));
}

module _ (of : Files → Result (List MasterTrack) Named → Option Course) (led : IsLed of) (files : Option Files) (place : StorePlace)
    (told : Ending) where
  abbrev led_course : Option Course
  led_course = option_and_then (λ all. of all (master_at place all)) files

  -- the master is read, and then its rounds
  pub read_worked : (tracks : List MasterTrack) (before mid after : World) → ForSome files (λ all. master_at place all ≡ Ok tracks)
      → IsIdle before mid → mid.input ≡ before.input → NeverFalls before mid
      → ForSome files (λ all. ForSome (of all (Ok tracks)) (λ course. Work course told mid after))
      → ForSome led_course (λ course. Work course told before after)
  read_worked tracks before mid after found idle unread falls work =
      over_files files (λ all. of all (master_at place all)) (λ course. Work course told before after) (λ all is.
      subst (λ read. ForSome (of all read) (λ course. Work course told before after)) (sym (found all is))
      (λ course there. work_later course told before mid after idle unread falls (work all is course there)))

  reads_at_first : (all : Files) (read : Result (List MasterTrack) Named)
      → ForSome (of all read) (λ course. IsTrue (first_step course).reads)
  reads_at_first all (Ok tracks) = led.reads all tracks
  reads_at_first all (Err named) = λ course is. let refuses = led.refuses all named in
      let same : refused_course named ≡ course = cc in subst (λ c. IsTrue (first_step c).reads) same refl

  module _ (before after : World) (idle : IsIdle before after) (unread : after.input ≡ before.input) (falls : NeverFalls before after) where
    -- a master that is refused
    refused_so : (all : Files) (named : Named)
        → (told ≡ ending.Ended verdict.Refused (refusal_line named.0 named.1)) ⊎ (told ≡ ending.Memory)
        → ForSome (of all (Err named)) (λ course. Work course told before after)
    refused_so all named last = λ course is.
        let line = refusal_line named.0 named.1 in let refuses = led.refuses all named in
        let same : refused_course named ≡ course = cc in
        subst (λ c. Work c told before after) same (record {
          works = ends (record { verdict = verdict.Refused; lines = line; reads = true }) [] told before after last
              (none_taken before.input after.input unread) idle;
          never_falls = falls;
        })

    -- the master isn't read
    pub halt_worked : (why : Halt) → IsHalt why told → (why ≡ halt.ReadFault → Rose before.read_faults after.read_faults)
        → ForSome files (λ all. IfSome (halted why) (λ named. master_at place all ≡ Err named))
        → ForSome led_course (λ course. Work course told before after)
    halt_worked (halt.Refused file refusal) last rose found =
        over_files files (λ all. of all (master_at place all)) (λ course. Work course told before after) (λ all is.
        subst (λ read. ForSome (of all read) (λ course. Work course told before after)) (sym (found all is))
        (refused_so all (file, refusal) last))
    halt_worked halt.ReadFault last rose found =
        over_files files (λ all. of all (master_at place all)) (λ course. Work course told before after) (λ all is course same.
        subst (λ t. Work course t before after) (sym last) (record {
          works = read_fault_first course before after (reads_at_first all (master_at place all) course same)
              (inl (rose refl, inl unread)) idle;
          never_falls = falls;
        }))
    halt_worked halt.Memory last rose found =
        over_files files (λ all. of all (master_at place all)) (λ course. Work course told before after) (λ all is course same.
        subst (λ t. Work course t before after) (sym last) (record {
          works = memory_first course before after idle (up_to_none _ before.input after.input unread);
          never_falls = falls;
        }))

-- what is worked off by the files after the master playlist was read is worked off by those before
pub work_by_files : (job : MasterJob) (place : StorePlace) (tracks : List MasterTrack) (input : Option (List ℕ)) (told : Ending)
    (mid after : World) (before later : Option Files) → later ≡ before
    → ForSome (timed.course_by_files job place tracks later input) (λ course. Work course told mid after)
    → ForSome before (λ all. ForSome (timed.course_of job place all input (Ok tracks)) (λ course. Work course told mid after))
work_by_files job place tracks input told mid after before later same work = λ all is.
    subst (λ files. ForSome (timed.course_by_files job place tracks files input) (λ course. Work course told mid after)) (same ∙ is) work

-- no round was accepted yet
pub none_kept : (job : MasterJob) (tracks : List MasterTrack) → IsKept (hls_of job tracks) (no_rounds tracks)
none_kept job tracks =
    record { one_each = sym (length-map tracks (λ (track : MasterTrack). track.address)); mpd = λ some. absurd (omega (arith, some)) }

-- ---- causes

pub halt_caused : (why : Halt) (told : Ending) (before after : World) → IsHalt why told
    → (why ≡ halt.ReadFault → Rose before.read_faults after.read_faults) → IsCausedByEither told before after
halt_caused (halt.Refused file refusal) told before after (inl is) rose =
    subst (λ t. IsCausedByEither t before after) (sym is) (λ e. absurd (cc))
halt_caused (halt.Refused file refusal) told before after (inr is) rose = subst (λ t. IsCausedByEither t before after) (sym is) tt
halt_caused halt.ReadFault told before after is rose = subst (λ t. IsCausedByEither t before after) (sym is) (inr (rose refl))
halt_caused halt.Memory told before after is rose = subst (λ t. IsCausedByEither t before after) (sym is) tt
