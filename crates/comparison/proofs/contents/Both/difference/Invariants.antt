use Rattle.std.proofs.Common.{◌≡◌, ◌-◌, ◌^◌, length, map}
use Rattle.std.specs.List.{range_with_len}
use Rattle.bridge_io.specs.Firsts.{first_some}
use Rattle.comparison.specs.Comparing.{contents_difference, difference_of}
use Rattle.comparison.proofs.contents.Both.difference.Given as goal

-- nothing differs of the tracks before this one
abbrev pub invariant-loop-track : goal.invariant-loop-track
invariant-loop-track g l = let a = l.self.mpd.now in let b = l.self.playlists.now in let unit = 10 ^ l.self.digits in
    contents_difference unit a b ≡ first_some (map (difference_of unit a b) (range_with_len l.track (length a.tracks - l.track)))
