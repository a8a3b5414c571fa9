use Rattle.dash_writer.proofs.sets.push_sets.Given as goal
use Rattle.std.proofs.Common.{◌-◌, ◌≤◌, length}
use Rattle.dash_writer.specs.{Outline.{set_elements, sets_of, stand_together}, Runs.longest_runs, Written.elements_text}
use Rattle.dash_writer.proofs.Progress.{Progress}

abbrev pub invariant-loop-first : goal.invariant-loop-first
invariant-loop-first g l =
    let lists = g.T.TrackLists.lists l.lists l.section in
    record {
      within : length l.rest ≤ length l.tracks;
      so_far : Progress g.F.Store (elements_text (sets_of lists l.tracks))
          (elements_text (set_elements lists (length l.tracks - length l.rest) (longest_runs stand_together l.rest)))
          l.initial.sheet l.sheet;
    }

abbrev pub decreases-loop-first : goal.decreases-loop-first
decreases-loop-first g l = length l.rest
