-- How far runs read that follow something.
use Rattle.bridge_courses.specs.declared.status.Status.TheVariants as status
use Rattle.std.proofs.Common.{◌≡◌, ℕ, ◌+◌, ◌≤◌, ◌<◌, List, drop, Option, Some, option_map, inl, inr, sym, ap, ◌∙◌, subst}
use Rattle.std.proofs.lemmas.Option.{same_Some}
use Rattle.bridge_io.specs.{InOrder.put_all, Outside.{Changes, Files}}
use Rattle.bridge_jobs.specs.Frames.{frames_of, start}
use Rattle.bridge_courses.specs.{Courses.{Course, World, files_to}, declared.status.Status.Status}
use Rattle.bridge_courses.specs.Laws.{ExecutionReadsSteps, ReadFaultReadsFewer}
use Rattle.bridge_reach.specs.{Rounds.{hls_of, round_stream}, TimedRoundLaws.hls_in}
use Rattle.laws_of_jobs.specs.{Ends.Held, Files.{FollowedFilesAreOfTheHistory, HoldsHistory}}
use Rattle.laws_of_jobs.specs.{RoundRuns.{HoldsMpd, RoundFilesAreOfTheHistory}, TimedFollowing.{HoldsTimedMpd, TimedFilesAreOfTheHistory}}
use Rattle.laws_of_jobs.specs.Unread.{FollowHlsReadsNoFurther, FollowReadsNoFurther, HasReadTo, IsReadingRun, LosesNone, ReadsNoFurther}
use Rattle.laws_of_jobs.specs.Unread.{TimedRunReadsNoFurther, bytes_at, bytes_to}
use Rattle.laws_of_jobs.proofs.Courses.{course_is}
use Rattle.laws_of_jobs.proofs.Ends.{leaves_by, put_so}
use Rattle.laws_of_jobs.proofs.RoundRuns.{course_is as rounds_are}
use Rattle.laws_of_jobs.proofs.TimedFollowing.{course_is as times_are}

module _ (Holds : Held) (taken : List ℕ) (course : Course) (input : List ℕ) (takes : course.taken ≡ taken)
    (holds : (n : ℕ) (first last : Files) → Changes (put_all (files_to n course)) (Some first) (Some last) → Holds n first last) where
  -- what is unread of an input that was read so far
  left_behind : (n some : ℕ) (before after : Option (List ℕ)) (rest : List ℕ) → before ≡ Some input → after ≡ Some rest
      → after ≡ option_map (drop (bytes_to n course.taken + some)) before → rest ≡ drop (bytes_to n taken + some) input
  left_behind n some before after rest had left is =
      same_Some rest (drop (bytes_to n course.taken + some) input)
      (sym left ∙ is ∙ ap (option_map (drop (bytes_to n course.taken + some))) had)
      ∙ ap (λ counts. drop (bytes_to n counts + some) input) takes

  read_to : ExecutionReadsSteps → (end : Status) (before after : World) (first last : Files) (rest : List ℕ)
      → IsReadingRun course end before after first last input rest → HasReadTo Holds taken course input rest first last
  read_to reads end before after first last rest run =
      let so = reads course end before after run.run.run in
      record {
        leaves = leaves_by Holds course holds before after first last run.run.was run.run.is so.leaves;
        some = so.some;
        within = subst (λ counts. so.some ≤ bytes_at so.leaves.n counts) takes so.within;
        unread = left_behind so.leaves.n so.some before.input after.input rest run.had run.left so.input;
      }

  none_lost : ReadFaultReadsFewer → (before after : World) (first last : Files) (rest : List ℕ)
      → (run : IsReadingRun course status.ReadFault before after first last input rest)
      → (n : ℕ) → Changes (put_all (files_to n course)) before.files after.files
      → (some : ℕ) × (some < bytes_at n course.taken) × (after.input ≡ option_map (drop (bytes_to n course.taken + some)) before.input)
      → LosesNone Holds taken course input rest first last
  none_lost fewer before after first last rest run n changes read =
      let done = put_so (files_to n course) first last before.files after.files run.run.was run.run.is changes in
      record {
        n = n;
        steps = record { done = done; holds = holds n first last done };
        some = read.0;
        fewer = subst (λ counts. read.0 < bytes_at n counts) takes read.1;
        unread = left_behind n read.0 before.input after.input rest run.had run.left read.2;
      }

  no_further : ExecutionReadsSteps → ReadFaultReadsFewer → ReadsNoFurther Holds taken course input
  no_further reads fewer = record {
    ends = read_to reads;
    read_fault = λ before after first last rest run store. let fault = fewer course before after run.run.run in elim fault.2 [
      | inl rose ↦ absurd (store rose)
      | inr read ↦ none_lost fewer before after first last rest run fault.0 fault.1 read
    ];
  }

pub follow_reads : FollowedFilesAreOfTheHistory → ExecutionReadsSteps → ReadFaultReadsFewer → FollowReadsNoFurther
follow_reads files reads fewer words job place input course is =
    no_further (λ n first mid. HoldsHistory job place n input mid) (frames_of input).taken course input
    (ap (λ (c : Course). c.taken) (course_is words job place input course is).is)
    (λ n first last done. files words job place input course n first last is done) reads fewer

pub follow_hls_reads : RoundFilesAreOfTheHistory → ExecutionReadsSteps → ReadFaultReadsFewer → FollowHlsReadsNoFurther
follow_hls_reads holds reads fewer words job files tracks input course is =
    no_further (HoldsMpd job tracks input) (round_stream (hls_of job tracks) start input).2 course input
    (ap (λ (c : Course). c.taken) (rounds_are words job files tracks input course is))
    (λ n first last done. holds words job files tracks input course n first last is done) reads fewer

pub timed_run_reads : TimedFilesAreOfTheHistory → ExecutionReadsSteps → ReadFaultReadsFewer → TimedRunReadsNoFurther
timed_run_reads holds reads fewer words run course is =
    no_further (HoldsTimedMpd run) (round_stream (hls_in run).hls start run.bytes).2 course run.bytes
    (ap (λ (c : Course). c.taken) (times_are words run course is))
    (λ n first last done. holds words run course n first last is done) reads fewer
