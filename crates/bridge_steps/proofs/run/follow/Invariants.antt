use Rattle.bridge_steps.proofs.run.follow.Given as goal
use Rattle.std.proofs.Common.{◌≡◌, ◌-◌, ℕ, List, Some, false}
use Rattle.bridge_io.specs.Outside.{Files}
use Rattle.bridge_jobs.specs.Frames.{most_frames, start}
use Rattle.bridge_courses.specs.{Executions.NeverFalls, Steps.Leads}
use Rattle.bridge_steps.specs.Follow.{course_of, files_seen, rest_course, IsGoing, Grows, world_of}

-- what was worked off leads on to the rest of the course
abbrev pub invariant-loop-told : goal.invariant-loop-told
invariant-loop-told g l =
    let store = g.F.Store in let sink = g.P.Sink in let source = g.I.Source in let t = g.T.Follow in let reads = t.reads l.followed in
    let before = world_of source store sink l.fn.input l.fn.store l.fn.report l.fn.steps in
    let now = world_of source store sink l.input l.store l.report l.steps in
    record {
      going : IsGoing (t.accepted l.followed) (t.is_kept l.followed) l.run;
      leads : (bytes : List ℕ) → source.remaining l.fn.input ≡ Some bytes → (files : Files)
          → files_seen reads (store.files l.fn.store) ≡ Some files
          → (rest : List ℕ) × (source.remaining l.input ≡ Some rest)
          × (later : Files) × (files_seen reads (store.files l.store) ≡ Some later)
          × Leads (course_of reads (t.told l.followed) files l.fn.live 0 0 (t.stream l.followed start bytes))
          (rest_course reads (t.told l.followed) (t.stream l.followed) l.run later rest) before now;
      never_falls : NeverFalls before now;
      told : Grows (sink.written l.fn.report) (sink.written l.report);
      reads : reads ≡ false → store.read_faults l.store ≡ store.read_faults l.fn.store;
    }

abbrev pub decreases-loop-told : goal.decreases-loop-told
decreases-loop-told g l = most_frames - l.run.at.frames
