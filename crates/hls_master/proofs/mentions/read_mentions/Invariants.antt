use Rattle.hls_master.proofs.mentions.read_mentions.Given as goal
use Rattle.std.proofs.Common.{◌≡◌, length}
use Rattle.hls_master.specs.{Entries.{entries_of, known_lines}, Mentions.{reading, nothing}, Names.NamesOf, SeenMentions.mentions_seen}

abbrev pub invariant-loop-entry : goal.invariant-loop-entry
invariant-loop-entry l = NamesOf l.names (mentions_seen l.mentions).renditions
    × (reading l.base nothing (entries_of (known_lines l.initial.lines)) ≡ reading l.base (mentions_seen l.mentions)
    (entries_of (known_lines l.lines)))

abbrev pub decreases-loop-entry : goal.decreases-loop-entry
decreases-loop-entry l = length (entries_of (known_lines l.lines))
