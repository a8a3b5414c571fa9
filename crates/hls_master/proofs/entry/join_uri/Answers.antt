use Rattle.hls_master.proofs.entry.join_uri.Goals as goal
use Rattle.std.proofs.Common.{option_map}
use Rattle.hls_master.specs.{Entries.known_lines, Seen.line_seen}
use Rattle.hls_master.proofs.Entries.{no_uri, none_left}

pub returns-in-None : goal.returns-in-None
returns-in-None c =
    no_uri _ _ (option_map line_seen c.next_known-known.result) _ (known_lines c.next_known-known.new.lines) c.next_known-known.ensures.line
    (none_left _ _ c.next_known-known.ensures.end) c.in-None.ensures
