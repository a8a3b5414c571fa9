use Rattle.hls_master.proofs.whole.groups_of.Given as goal
use Rattle.std.proofs.Common.{map, take}
use Rattle.hls_master.specs.{Masters.groups_in, SeenTags.rendition_seen, Texts.SameTexts}

abbrev pub invariant-loop-rendition : goal.invariant-loop-rendition
invariant-loop-rendition l = SameTexts l.groups (groups_in l.kind (map rendition_seen (take l.rendition-index l.renditions)))
