use Rattle.hls_lines.proofs.attributes.repeats_a_name.Given as goal
use Rattle.std.proofs.Common.{◌≡◌, [], take, drop}
use Rattle.hls_lines.specs.{Attributes.{names_of, repeats_after}, Pairs.pairs_of}
use Rattle.hls_lines.proofs.NameSets.{AreNames}

abbrev pub invariant-loop-name : goal.invariant-loop-name
invariant-loop-name l = record {
  are : AreNames l.seen.keys (names_of (pairs_of (take l.name-index l.pairs)));
  others : repeats_after (names_of (pairs_of (take l.name-index l.pairs))) (names_of (pairs_of (drop l.name-index l.pairs)))
      ≡ repeats_after [] (names_of (pairs_of l.pairs));
}
