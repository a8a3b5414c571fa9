-- Periods of a snapshot with its files' times, one after another.
use Rattle.std.proofs.Common.{◌≡◌, ◌<◌, ◌+◌, ◌-◌, ◌*◌, ℕ, suc, List, [], ◌∷◌, ◌++◌, length, take, drop, Result, Ok, sym, ◌∙◌, ap}
use Rattle.std.proofs.{Common.arith, lemmas.List.at_drop_more}
use Rattle.dash_writer.specs.{declared.live.LivePeriod.LivePeriod, declared.timed.TickRun.TickRun}
use Rattle.layer_faults.specs.declared.live.LiveFault.{LiveFault}
use Rattle.hls_follow.specs.{Faults.behind, OwnTimes.Snapshot, Periods.end_of, TimedPeriods.{period_at, periods_from}}
use Rattle.hls_follow.proofs.Gathering as gathering

-- a section less
pub row_less : (count place tracks : ℕ) → place < count → (count - place) * tracks ≡ tracks + (count - (place + 1)) * tracks
row_less count place tracks within =
    let less : count - place ≡ suc (count - (place + 1)) = omega arith in
    rw less (omega arith)

-- a Period more
pub turn : (s : Snapshot) (former place : ℕ) (runs : List TickRun) (before : List LivePeriod) (period : LivePeriod)
    (all : Result (List LivePeriod) LiveFault) → place < length s.sections
    → period_at s former place (take (length s.tracks) runs) ≡ Ok period
    → behind before (periods_from s former place (drop place s.sections) runs) ≡ all
    → behind (before ++ period ∷ [])
    (periods_from s (end_of period) (place + 1) (drop (place + 1) s.sections) (drop (length s.tracks) runs)) ≡ all
turn s former place runs before period all within is so_far =
    sym (gathering.turn before (period_at s former place (take (length s.tracks) runs))
    (λ (p : LivePeriod). periods_from s (end_of p) (place + 1) (drop (place + 1) s.sections) (drop (length s.tracks) runs)) period is)
    ∙ ap (behind before) (sym (at_drop_more (λ sections. periods_from s former place sections runs) s.sections place 0 within)) ∙ so_far
