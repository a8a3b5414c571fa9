-- What runs leave that follow something, and durations.
use Rattle.live_meaning.specs.Refusals as rules
use Rattle.bridge_courses.specs.declared.status.Status.TheVariants as status
use Rattle.std.proofs.Common.{◌≡◌, ◌⊎◌, ℕ, List, [], ◌∷◌, ◌++◌, length, take, Option, None, Some, inl, inr, refl, sym, ap, ◌∙◌, subst}
use Rattle.std.proofs.{Common.{arith, take_all}, lemmas.List.Elements.{All-append, All-cons, All-head, All-nil, All-tail}}
use Rattle.std.proofs.lemmas.Option.{same_Some}
use Rattle.std.specs.{Prelude.{All, flat_map}, List.fold}
use Rattle.bridge_io.specs.{InOrder.{put_all, AreBegun}, Outside.{Files, Changes}}
use Rattle.bridge_courses.specs.{Courses.{Course, World, files_of, files_to}, Executions.status_by, declared.status.Status.Status}
use Rattle.bridge_courses.specs.{declared.status.Verdict.Verdict, Laws.{ReadFaultLeavesSteps, ExecutionLeavesSteps, VerdictKeepsSteps}}
use Rattle.bridge_courses.specs.Laws.{LeavesSteps as CourseLeavesSteps}
use Rattle.live_meaning.specs.{Updates.{Terms, Update, Values, mpd_of}, Laws.{AcceptedAreAccepted, AcceptedNeverDrift, IsTyped}}
use Rattle.live_meaning.specs.Laws.{accepted_of, with_accepted}
use Rattle.laws_of_reloads.specs.Laws.{IsReadIfAny}
use Rattle.laws_of_jobs.specs.Histories.{FollowedNeverDrift, followed_at, frames_in, updates_to}
use Rattle.laws_of_jobs.specs.Files.{FollowedFilesAreOfTheHistory, HoldsHistory}
use Rattle.laws_of_jobs.specs.Ends.{AreOfSteps, FollowLeavesHistory, Held, IsRunOver, Leaves, LeavesSteps}
use Rattle.laws_of_jobs.proofs.{Courses.{course_is, line_at_end}, FrameStates.accepting, Readings.{IsReadUpdate, are_read}}
use Rattle.laws_of_jobs.proofs.Steps.{as_many_steps}

-- ---- whole runs

abbrev IsBegunOrPut : List (List ℕ × List ℕ) → (before after : Option Files) → Type 0
IsBegunOrPut fs before after = AreBegun fs before after ⊎ Changes (put_all fs) before after

abbrev LeftBy : List (List ℕ × List ℕ) → (after before : Option Files) → Type 0
LeftBy fs after before = (after ≡ before) ⊎ IsBegunOrPut fs before after

pub put_so : (fs : List (List ℕ × List ℕ)) (first last : Files) (before after : Option Files) → before ≡ Some first → after ≡ Some last
    → Changes (put_all fs) before after → Changes (put_all fs) (Some first) (Some last)
put_so fs first last before after was is changes =
    subst (λ b. Changes (put_all fs) b (Some last)) was (subst (Changes (put_all fs) before) is changes)

module _ (Holds : Held) (course : Course)
    (holds : (n : ℕ) (first last : Files) → Changes (put_all (files_to n course)) (Some first) (Some last) → Holds n first last) where
  -- what is left of the steps, of files that are known
  pub left_so : (before after : World) (first last : Files) → before.files ≡ Some first → after.files ≡ Some last
      → (so : CourseLeavesSteps course before.files after.files)
      → LeftBy so.step.files (Some last) (Some (put_all (files_to so.n course) first))
  left_so before after first last was is so =
      let mid : Files = put_all (files_to so.n course) first in
      let done : so.mid ≡ Some mid = subst (λ files. Changes (put_all (files_to so.n course)) files so.mid) was so.done in
      subst (λ last. LeftBy so.step.files last (Some mid)) is (subst (LeftBy so.step.files after.files) done so.left)

  pub same_files : (fs : List (List ℕ × List ℕ)) (last mid : Files) → LeftBy fs (Some last) (Some mid)
      → (last ≡ mid) ⊎ IsBegunOrPut fs (Some mid) (Some last)
  same_files fs last mid (inl same) = inl (same_Some last mid same)
  same_files fs last mid (inr more) = inr more

  abbrev pub leaves_by : (before after : World) (first last : Files) → before.files ≡ Some first → after.files ≡ Some last
      → CourseLeavesSteps course before.files after.files → LeavesSteps Holds course first last
  leaves_by before after first last was is so = record {
    n = so.n;
    mid = put_all (files_to so.n course) first;
    steps = record { done = refl; holds = holds so.n first (put_all (files_to so.n course) first) refl };
    step = so.step;
    next = so.next;
    left = same_files so.step.files last (put_all (files_to so.n course) first) (left_so before after first last was is so);
  }

  leaves_steps : ExecutionLeavesSteps → (end : Status) (before after : World) (first last : Files)
      → IsRunOver course end before after first last → LeavesSteps Holds course first last
  leaves_steps leaves end before after first last run =
      leaves_by before after first last run.was run.is (leaves course end before after run.run)

  to_the_end : VerdictKeepsSteps → (n : ℕ) → length course.steps ≡ n → (v : Verdict) (before after : World) (first last : Files)
      → IsRunOver course (status_by v) before after first last → AreOfSteps Holds course n first last
  to_the_end keeps n all v before after first last run =
      let each : files_of course ≡ files_to n course =
      ap (flat_map (λ step. step.files)) (sym (take_all n course.steps (omega (arith, all)))) in
      let done : Changes (put_all (files_to n course)) (Some first) (Some last) =
      put_so (files_to n course) first last before.files after.files run.was run.is
      (subst (λ fs. Changes (put_all fs) before.files after.files) each (keeps course v before after run.run).1) in
      record { done = done; holds = holds n first last done }

  to_a_fault : ReadFaultLeavesSteps → (before after : World) (first last : Files)
      → IsRunOver course status.ReadFault before after first last → (n : ℕ) × AreOfSteps Holds course n first last
  to_a_fault leaves before after first last run =
      let left = leaves course before after run.run in
      let done = put_so (files_to left.0 course) first last before.files after.files run.was run.is left.1 in
      (left.0, record { done = done; holds = holds left.0 first last done })

  pub leaves_all : ExecutionLeavesSteps → VerdictKeepsSteps → ReadFaultLeavesSteps → (n : ℕ) → length course.steps ≡ n
      → Leaves Holds n course
  leaves_all ends keeps fault n all = record {
    ends = leaves_steps ends;
    verdict = to_the_end keeps n all;
    read_fault = to_a_fault fault;
  }

pub follow_leaves : FollowedFilesAreOfTheHistory → ExecutionLeavesSteps → VerdictKeepsSteps → ReadFaultLeavesSteps → FollowLeavesHistory
follow_leaves files ends keeps fault words job place input course is =
    let at = course_is words job place input course is in
    let all : length course.steps ≡ length (frames_in input) =
    ap (λ (c : Course). length c.steps) at.is
    ∙ as_many_steps (followed_at job place) None 0 0 (frames_in input) (line_at_end input) in
    leaves_all (λ n first mid. HoldsHistory job place n input mid) course
    (λ n first last done. files words job place input course n first last is done) ends keeps fault (length (frames_in input)) all

-- ---- durations

typed_of : (o : Option Values) → IsReadIfAny o → IsTyped o
typed_of None is = tt
typed_of (Some mpd) is = (is.tree, is.typed)

module _ (P : Update → Type 0) where
  all_at : (earlier : List Update) (u : Update) (later : List Update) → All P (earlier ++ u ∷ later) → P u
  all_at [] u later all = All-head P u later all
  all_at (v ∷ earlier) u later all = all_at earlier u later (All-tail P v (earlier ++ u ∷ later) all)

  all_with : (terms : Terms) (history : List Update) (u : Update) (r : Option rules.Refusal) → All P history → P u
      → All P (with_accepted terms history u r)
  all_with terms history u None all is = All-append P history (u ∷ []) all (All-cons P u [] is (All-nil P))
  all_with terms history u (Some r) all is = all

  all_accepted : (terms : Terms) (updates history : List Update) → All P history → All P updates
      → All P (fold (accepting terms) history updates)
  all_accepted terms [] history all each = all
  all_accepted terms (u ∷ updates) history all each =
      all_accepted terms updates (accepting terms history u)
      (all_with terms history u (rules.update_refusal terms history u) all (All-head P u updates each)) (All-tail P u updates each)

pub never_drift : AcceptedAreAccepted → AcceptedNeverDrift → FollowedNeverDrift
never_drift accepted drift terms n input =
    let updates : List Update = updates_to n input in
    let all : All IsReadUpdate (accepted_of terms updates) =
    all_accepted IsReadUpdate terms updates [] (All-nil IsReadUpdate) (are_read (take n (frames_in input))) in
    drift terms (accepted_of terms updates) (accepted terms updates)
    (λ earlier u later same. typed_of (mpd_of u) (all_at IsReadUpdate earlier u later (subst (All IsReadUpdate) same all)))
