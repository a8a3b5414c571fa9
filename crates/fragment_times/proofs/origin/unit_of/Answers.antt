use Rattle.std.proofs.Common.{◌≡◌, ℕ, sym, subst, drop, [], arith}
use Rattle.std.specs.Int.{IsGcd}
use Rattle.std.proofs.lemmas.List.{drop_all}
use Rattle.fragment_times.specs.{declared.times.SegmentTimes.SegmentTimes, Origins.unit_of}
use Rattle.fragment_times.proofs.{Divisors.{common_alone, common_next, unit_is}, Origins.units}
use Rattle.fragment_times.proofs.origin.unit_of.Goals as goal

pub loop-track-init : goal.loop-track-init
loop-track-init c g is = is

pub loop-track-preserved : goal.loop-track-preserved
loop-track-preserved c g is =
    let l = c.loop-track in let x = c.track-item in let h : ℕ = c.greatest_common_divisor-unit.result in
    let both : IsGcd l.unit x.result.scale h = c.greatest_common_divisor-unit.ensures in
    l.invariant g (common_next c.args.tracks.now l.track-index l.unit h g x.result c.loop-track-test.true
    (subst (λ (y : SegmentTimes). IsGcd l.unit y.scale h) x.is both) is)

is : (c : goal.After-loop-track) → c.loop-track.unit ≡ unit_of c.args.tracks.now
is c =
    let l = c.loop-track in let none : drop l.track-index c.args.tracks.now ≡ [] = drop_all l.track-index c.args.tracks.now (omega arith) in
    sym (unit_is c.args.tracks.now l.unit c.requires (l.invariant l.unit (rw none (common_alone l.unit))))

pub returns-clause-unit : goal.returns-clause-unit
returns-clause-unit c = is c

pub returns-clause-whole : goal.returns-clause-whole
returns-clause-whole c k d within = rw (is c) (units c.args.tracks.now c.requires k d within)
