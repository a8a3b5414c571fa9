use Rattle.presentation.specs.Counting as spec
use Rattle.presentation.proofs.presentation.Presentation.count.Goals as goal
use Rattle.std.proofs.Common.{sym, ◌≡◌, ◌+◌, ◌∙◌, ap, length, arith, ◌++◌, ◌||◌, [], zero-add, sum_by, flat_map, Bool, true, false, nat_lt}
use Rattle.std.proofs.Common.{refl}
use Rattle.std.specs.List.{list_any}
use Rattle.presentation.specs.Counting.{unless_any, counted}
use Rattle.presentation.proofs.{Firsts.{none_before, value_of, first_stays}, Verified.counted_is, Counts.{from_on, from_on-start}}
use Rattle.presentation.proofs.Counts.{from_on-end, no_fault_here, faults_here, one_more, over_here, long_as, all_told}

or_false : (b : Bool) → (b || false) ≡ b
or_false true = refl
or_false false = refl

pub loop-track-init : goal.loop-track-init
loop-track-init c = let p = c.args.self.now in let same = ap (λ q. length q.tracks) c.self.view_is in record {
  small = omega arith;
  faults = ap (flat_map (spec.track_faults p)) (sym (from_on-start (length p.tracks)));
  total = ap (λ xs. spec.capped (0 + sum_by (spec.count_of_track p) xs)) (from_on-start (length p.tracks))
      ∙ ap spec.capped (zero-add (spec.count_of_all p));
  over = ap (list_any (spec.is_long p)) (from_on-start (length p.tracks));
}

pub loop-track-preserved : goal.loop-track-preserved
loop-track-preserved c = let p = c.args.self.now in let t = c.loop-track.track in let n = length p.tracks in
    let same = ap (λ q. length q.tracks) c.self.view_is in
    let counted = sym c.count_track.ensures ∙ c.in-Ok.is in
    let listed : spec.capped (spec.count_of_track p t) ≡ c.in-Ok.listed = value_of (spec.track_faults p t) _ _ counted in record {
      small = omega (arith, c.add-tally.ensures.total);
      faults = c.loop-track.invariant.faults ∙ no_fault_here (spec.track_faults p) (spec.count_of_track p) t n (omega arith)
          (none_before (spec.track_faults p t) _ _ counted);
      total = one_more (spec.track_faults p) (spec.count_of_track p) t n (omega arith) c.loop-track.tally.total c.add-tally.result.total
          (omega (arith, c.add-tally.ensures.total)) ∙ c.loop-track.invariant.total;
      over = rw c.add-tally.ensures.over (over_here (spec.is_long p) c.loop-track.tally.is_over (nat_lt 100000 c.in-Ok.listed) t n
          (omega arith) (rw (← listed) (long_as (spec.count_of_track p t) 100000 (omega arith)))) ∙ c.loop-track.invariant.over;
    }

pub returns-in-Err : goal.returns-in-Err
returns-in-Err c = let p = c.args.self.now in let t = c.loop-track.track in let n = length p.tracks in
    let same = ap (λ q. length q.tracks) c.self.view_is in
    let later = flat_map (spec.track_faults p) (from_on (t + 1) n) in
    let split = c.loop-track.invariant.faults ∙ faults_here (spec.track_faults p) (spec.count_of_track p) t n (omega arith) in
    let limits = spec.limit_faults (spec.is_over p) in
    sym (counted_is p ∙ ap (λ faults. unless_any (faults ++ limits) (spec.count_of_all p)) split
    ∙ first_stays (spec.track_faults p t ++ later) limits c.in-Err.fault (spec.count_of_all p) (spec.count_of_all p)
    (first_stays (spec.track_faults p t) later c.in-Err.fault (spec.capped (spec.count_of_track p t)) (spec.count_of_all p)
    (sym c.count_track.ensures ∙ c.in-Err.is)))

pub returns : goal.returns
returns c = let p = c.args.self.now in let t = c.loop-track.track in let tally = c.loop-track.tally in
    let same = ap (λ q. length q.tracks) c.self.view_is in
    let end : t ≡ length p.tracks = omega arith in
    let empty : flat_map (spec.track_faults p) (from_on t (length p.tracks)) ≡ [] =
    rw end (ap (flat_map (spec.track_faults p)) (from_on-end (length p.tracks))) in
    let none = c.loop-track.invariant.faults ∙ empty in
    let last : from_on t (length p.tracks) ≡ [] = rw end (from_on-end (length p.tracks)) in
    let sum : sum_by (spec.count_of_track p) (from_on t (length p.tracks)) ≡ 0 =
    rw end (ap (sum_by (spec.count_of_track p)) (from_on-end (length p.tracks))) in
    let total : tally.total ≡ spec.capped (spec.count_of_all p) = omega (arith, c.loop-track.invariant.total) in
    let over : tally.is_over ≡ list_any (spec.is_long p) (spec.tracks_of p) = sym (or_false tally.is_over)
    ∙ sym (ap (λ xs. tally.is_over || list_any (spec.is_long p) xs) last) ∙ c.loop-track.invariant.over in
    c.finish.ensures ∙ all_told tally.is_over (list_any (spec.is_long p) (spec.tracks_of p)) tally.total (spec.count_of_all p) over total
    ∙ sym (counted_is p ∙ ap (λ faults. unless_any (faults ++ spec.limit_faults (spec.is_over p)) (spec.count_of_all p)) none)
