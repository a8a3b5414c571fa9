use Rattle.fragment_times.proofs.lasting.Lasting.all.Given as goal
use Rattle.std.proofs.Common.{◌≡◌, ◌*◌, All, length}
use Rattle.bridge_io.specs.Answer.{gathered}
use Rattle.presentation.proofs.Counts.{from_on}
use Rattle.fragment_times.specs.{Durations.{IsShort, all_ticks, section_ticks}, Times.behind}

-- what is told so far, and then of the sections that are left, is told of all
abbrev pub invariant-loop-section : goal.invariant-loop-section
invariant-loop-section l =
    let p = l.fn.self.presentation.now in
    let times = l.fn.self.times.now in
    let form = l.fn.self.form in
    record {
      short : All IsShort l.durations;
      filled : length l.durations ≡ l.section * length p.tracks;
      told : behind l.durations (gathered (section_ticks form p times) (from_on l.section (length p.sections))) ≡ all_ticks form p times;
    }
