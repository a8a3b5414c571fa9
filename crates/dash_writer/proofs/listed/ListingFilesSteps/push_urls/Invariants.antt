use Rattle.dash_writer.proofs.listed.ListingFilesSteps.push_urls.Given as goal
use Rattle.std.proofs.Common.{length, All}
use Rattle.presentation.specs.Laws.{HasAddress}
use Rattle.dash_writer.specs.Written.{elements_text}
use Rattle.dash_writer.proofs.{Progress.Progress, Urls.urls_left}

abbrev pub invariant-loop-segment : goal.invariant-loop-segment
invariant-loop-segment g l =
    record {
      addressed : All (HasAddress l.self.timeline) l.self.left;
      so_far : Progress g.F.Store (elements_text (urls_left l.initial.self)) (elements_text (urls_left l.self)) l.initial.sheet l.sheet;
    }

abbrev pub decreases-loop-segment : goal.decreases-loop-segment
decreases-loop-segment g l = length l.self.left
