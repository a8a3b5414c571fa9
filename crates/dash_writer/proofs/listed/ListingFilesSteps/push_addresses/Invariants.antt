use Rattle.dash_writer.proofs.listed.ListingFilesSteps.push_addresses.Given as goal
use Rattle.std.proofs.Common.{◌≡◌, ◌++◌, length, All}
use Rattle.std.specs.List.{list_all}
use Rattle.presentation.specs.Laws.{HasAddress}
use Rattle.dash_writer.specs.Forms.{addresses_of, is_whole}
use Rattle.dash_writer.proofs.Urls.{parts_left}

abbrev pub invariant-loop-segment : goal.invariant-loop-segment
invariant-loop-segment g l =
    record {
      addressed : All (HasAddress l.self.timeline) l.self.left;
      whole : list_all is_whole (parts_left l.self) ≡ list_all is_whole (parts_left l.initial.self);
      given : l.finder ++ addresses_of (parts_left l.self) ≡ l.initial.finder ++ addresses_of (parts_left l.initial.self);
    }

abbrev pub decreases-loop-segment : goal.decreases-loop-segment
decreases-loop-segment g l = length l.self.left
