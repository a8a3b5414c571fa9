use Rattle.std.proofs.Common.{◌≡◌, ◌-◌, ◌^◌, length, map}
use Rattle.std.specs.List.{range_with_len}
use Rattle.bridge_io.specs.Firsts.{first_some}
use Rattle.comparison.specs.Comparing.{difference_at, difference_of}
use Rattle.comparison.proofs.contents.Both.track_difference.Given as goal

-- nothing differs in the sections before this one
abbrev pub invariant-loop-section : goal.invariant-loop-section
invariant-loop-section g l = let a = l.self.mpd.now in let b = l.self.playlists.now in let unit = 10 ^ l.self.digits in
    difference_of unit a b l.track ≡ first_some (map (difference_at unit a b l.track)
    (range_with_len l.section (length a.sections - l.section)))
