use Rattle.fragment_times.proofs.lasting.Lasting.with_section.Given as goal
use Rattle.std.proofs.Common.{◌≡◌, ◌+◌, All, length}
use Rattle.presentation.proofs.Counts.{from_on}
use Rattle.fragment_times.specs.{Durations.{IsShort, section_ticks, ticks_at}, Times.{behind, each}}

-- what is told so far, and then of the tracks that are left, is told of all
abbrev pub invariant-loop-track : goal.invariant-loop-track
invariant-loop-track l =
    let p = l.fn.self.presentation.now in
    let times = l.fn.self.times.now in
    let form = l.fn.self.form in
    record {
      short : All IsShort l.durations;
      filled : length l.durations ≡ length l.fn.former + l.track;
      told : behind l.durations (each (ticks_at form p times l.section) (from_on l.track (length p.tracks)))
          ≡ behind l.fn.former (section_ticks form p times l.section);
    }
