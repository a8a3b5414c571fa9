-- How many segments runs make that follow an MPD.
use Rattle.bridge_io.specs.declared.outside.Fail.TheVariants as fail
use Rattle.bridge_courses.specs.declared.ending.Ending.TheVariants as ending
use Rattle.bridge_courses.specs.declared.status.Verdict.TheVariants as verdict
use Rattle.std.proofs.Common.{◌≡◌, ◌⊎◌, ◌≤◌, ◌+◌, ℕ, suc, IsTrue, List, length, take, Option, None, Some, inl, inr, refl, sym, ap, ◌∙◌}
use Rattle.std.proofs.Common.{subst, arith}
use Rattle.std.specs.Prelude.{sum_by}
use Rattle.bridge_io.specs.{InOrder.{put_all, AreBegun}, Outside.Changes}
use Rattle.bridge_jobs.specs.declared.frame.Frame.{Frame}
use Rattle.bridge_courses.specs.{Courses.{Course, Makes, Reaches, Step, World, last_step}, Executions.{FailsTelling, Finishes, Works}}
use Rattle.bridge_courses.specs.Courses.{TakesAtMost, TakesBytes, taken_at}
use Rattle.bridge_courses.specs.{declared.ending.Ending.Ending, declared.status.Verdict.Verdict}
use Rattle.bridge_report.specs.Following.{Followed, verdict_by}
use Rattle.live_meaning.specs.Updates.{Terms}
use Rattle.bridge_live.specs.declared.channel.Channel.{Channel}
use Rattle.segment_forms.specs.declared.form.Form.{Form}
use Rattle.bridge_steps.specs.Follow.{follow_course}
use Rattle.bridge_live.specs.LiveMpds.{followed_mpd, frame_stream}
use Rattle.laws_of_jobs.specs.Counts.{FollowCountsSegments, MadeBeyond, MadeBy, MadeOf, MadeWanting, appended_to, refused_to}
use Rattle.laws_of_jobs.specs.Histories.{followed_at, frames_in}
use Rattle.bridge_steps.specs.Playlists.{OutputPlace}
use Rattle.bridge_core.specs.Follow.{output_of_job, terms_at}
use Rattle.laws_of_jobs.proofs.{Courses.{course_is, line_at_end}, Steps.{as_many_steps, it_counts, its_verdict, least_is, most_is}}
use Rattle.laws_of_jobs.proofs.Steps.{sum_next}

module _ (form : Form) (terms : Terms) (output : OutputPlace) (input : List ℕ) (course : Course)
    (at : course ≡ follow_course (followed_mpd form terms output) frame_stream None input) where
  abbrev f : Followed (Option Channel) Frame
  f = followed_mpd form terms output

  least : (n : ℕ) → sum_by (λ step. step.least) (take n course.steps) ≡ appended_to f n input
  least n =
      ap (λ (c : Course). sum_by (λ step. step.least) (take n c.steps)) at
      ∙ least_is f (λ s x. refl) None 0 0 (frames_in input) (line_at_end input) n

  most : (n : ℕ) → sum_by (λ step. step.most) (take n course.steps) ≡ appended_to f n input + refused_to f n input
  most n =
      ap (λ (c : Course). sum_by (λ step. step.most) (take n c.steps)) at
      ∙ most_is f (λ s x. refl) None 0 0 (frames_in input) (line_at_end input) n

  counts : IsTrue course.counts
  counts = subst (λ (c : Course). IsTrue c.counts) (sym at) (it_counts f None 0 0 (frames_in input) (line_at_end input))

  all : length course.steps ≡ length (frames_in input)
  all = ap (λ (c : Course). length c.steps) at ∙ as_many_steps f None 0 0 (frames_in input) (line_at_end input)

  finished : (v : Verdict) (line : List ℕ) (before mid : World) → Finishes course v line before mid
      → MadeOf f (length (frames_in input)) input before.made mid.made
  finished v line before mid works =
      let made = works.whole.made counts in
      subst (λ n. MadeOf f n input before.made mid.made) all
      (record { least = omega (arith, made.0, least (length course.steps)); most = omega (arith, made.1, most (length course.steps)) })

  -- no step behind the first ones
  reached : (before at : World) (step : Step) (made : ℕ) (reaches : Reaches course before at step) → at.made ≤ made → made ≤ at.made
      → MadeOf f reaches.n input before.made made
  reached before at step made reaches more less =
      let done = reaches.whole.made counts in
      record { least = omega (arith, done.0, more, least reaches.n); most = omega (arith, done.1, less, most reaches.n) }

  -- the next step, whole
  one_more : (before at : World) (step : Step) (made : ℕ) (reaches : Reaches course before at step) → at.made + step.least ≤ made
      → made ≤ at.made + step.most → MadeOf f (suc reaches.n) input before.made made
  one_more before at step made reaches more less =
      let done = reaches.whole.made counts in
      let owed = sum_next (λ step. step.least) course.steps (last_step course.end) reaches.n step reaches.next refl in
      let allowed = sum_next (λ step. step.most) course.steps (last_step course.end) reaches.n step reaches.next refl in
      record {
        least = omega (arith, done.0, more, owed, least (suc reaches.n));
        most = omega (arith, done.1, less, allowed, most (suc reaches.n));
      }

  -- the next step, or a part of it
  some_more : (before at : World) (step : Step) (made : ℕ) (reaches : Reaches course before at step) → at.made + 0 ≤ made
      → made ≤ at.made + step.most → MadeBeyond f reaches.n input before.made made
  some_more before at step made reaches more less =
      let done = reaches.whole.made counts in
      let allowed = sum_next (λ step. step.most) course.steps (last_step course.end) reaches.n step reaches.next refl in
      record {
        least = omega (arith, done.0, more, least reaches.n);
        most = omega (arith, done.1, less, allowed, most (suc reaches.n));
      }

  telling : (before mid : World) (works : FailsTelling course before mid) → MadeOf f (suc works.reaches.n) input before.made mid.made
  telling before mid works = one_more before works.mid works.step mid.made works.reaches (works.made counts).0 (works.made counts).1

  wanting : (before mid at : World) (step : Step) (reaches : Reaches course before at step)
      → (left : ((mid.files ≡ at.files) × Makes course 0 step.most at mid × TakesAtMost (taken_at reaches.n course) at.input mid.input)
      ⊎ ((AreBegun step.files at.files mid.files ⊎ Changes (put_all step.files) at.files mid.files)
      × Makes course step.least step.most at mid × TakesBytes (taken_at reaches.n course) at.input mid.input))
      → MadeWanting left f reaches.n input before.made mid.made
  wanting before mid at step reaches (inl none) =
      some_more before at step mid.made reaches (none.1 counts).0 (none.1 counts).1
  wanting before mid at step reaches (inr some) =
      one_more before at step mid.made reaches (some.1 counts).0 (some.1 counts).1

  -- it is done or refused
  no_words : (fault : Option (List ℕ)) → verdict.Words ≡ verdict_by fault → ⊥
  no_words None is = absurd (cc)
  no_words (Some line) is = absurd (cc)

  its_words : verdict.Words ≡ course.end.verdict → ⊥
  its_words is =
      no_words (line_at_end input)
      (is ∙ ap (λ (c : Course). c.end.verdict) at ∙ its_verdict f None 0 0 (frames_in input) (line_at_end input))

  made_by : (told : Ending) (before mid : World) (works : Works course told before mid)
      → MadeBy f input course told before mid works mid.made
  made_by (ending.Ended v line) before mid works = finished v line before mid works
  made_by ending.Words before mid works = its_words works.verdict
  made_by ending.ReadFault before mid works =
      let none = works.made counts in
      reached before works.mid works.step mid.made works.reaches (omega (arith, none.0)) (omega (arith, none.1))
  made_by ending.WriteFault before mid works =
      one_more before works.mid works.step mid.made works.reaches (works.made counts).0 (works.made counts).1
  made_by ending.Memory before mid works = wanting before mid works.mid works.step works.reaches works.left
  made_by (ending.Cut fail.Failed) before mid works = telling before mid works.0
  made_by (ending.Cut fail.Memory) before mid works = telling before mid works

pub counts_segments : FollowCountsSegments
counts_segments words job place input course end before after is run =
    let at = course_is words job place input course is in
    let same : after.made ≡ run.mid.made = ap (λ world. world.made) run.tells.same in
    subst (MadeBy (followed_at job place) input course run.how before run.mid run.works) (sym same)
    (made_by job.form (terms_at job place) (output_of_job job) input course at.is run.how before run.mid run.works)
