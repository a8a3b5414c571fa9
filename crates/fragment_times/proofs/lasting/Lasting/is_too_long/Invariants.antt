use Rattle.fragment_times.proofs.lasting.Lasting.is_too_long.Given as goal
use Rattle.std.proofs.Common.{◌≡◌, ◌+◌, ◌-◌, ◌*◌, ◌<◌, ◌^◌, All, length, sum}
use Rattle.fragment_times.specs.{Durations.{IsShort, lengths}, Times.IsScaled}

-- the sections so far, and then those that are left, are all
abbrev pub invariant-loop-section : goal.invariant-loop-section
invariant-loop-section l =
    let p = l.fn.self.presentation.now in
    let tracks = length p.tracks in
    let form = l.fn.self.form in
    let left = length p.sections - l._section in
    record {
      filled : length l.times ≡ left * tracks;
      as_many : length l.rows ≡ length l.times;
      scaled : All IsScaled l.times;
      short : All IsShort l.rows;
      few : l.total < 10 ^ 19;
      told : l.total + sum (lengths form tracks left l.times l.rows)
          ≡ sum (lengths form tracks (length p.sections) l.fn.self.times.now l.fn.durations);
    }
