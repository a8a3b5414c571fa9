use Rattle.std.proofs.Common.{◌≡◌, ◌++◌, ◌-◌}
use Rattle.differences.specs.Contents.{contents_noted, greatest_of, tracks_of_both}
use Rattle.differences.proofs.contents.Both.add_tracks.Given as goal

-- what is found of the tracks before this one is noted
abbrev pub invariant-loop-track : goal.invariant-loop-track
invariant-loop-track g l = let n = tracks_of_both l.self in record {
  found : contents_noted l.self 0 n l.initial.found ≡ contents_noted l.self l.track (n - l.track) l.found;
  greatest : greatest_of l.self 0 n ≡ l.greatest ++ greatest_of l.self l.track (n - l.track);
  none : l.found.greatest ≡ 0;
}
