use Rattle.mpd_presentation.proofs.shared.Shared.of.Given as goal
use Rattle.std.proofs.Common.{List, ◌++◌, drop}
use Rattle.meaning.specs.Same.{Pairwise}
use Rattle.timeline.specs.{MediaTimelines.LaysOut, declared.shared_timeline.LaidTimeline.LaidTimeline}

abbrev pub invariant-loop-entries : goal.invariant-loop-entries
invariant-loop-entries l = (later : List LaidTimeline) → Pairwise LaysOut (drop l.entries-index l.lists) later
    → Pairwise LaysOut l.lists (l.timelines.items ++ later)
