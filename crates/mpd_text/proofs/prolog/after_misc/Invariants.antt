use Rattle.mpd_text.proofs.prolog.after_misc.Given as goal
use Rattle.std.proofs.Common.{◌≡◌, ◌-◌}
use Rattle.mpd_tree.specs.{Grammar.next_comment, Productions.{many, times}, Runs.after_white}

abbrev pub invariant-loop : goal.invariant-loop
invariant-loop l = (times next_comment (l.end - l.counter) tt l.rest).read ≡ (many next_comment tt (after_white l.bytes)).read
