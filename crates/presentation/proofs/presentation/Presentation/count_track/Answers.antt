use Rattle.presentation.specs.Counting as spec
use Rattle.presentation.proofs.presentation.Presentation.count_track.Goals as goal
use Rattle.std.proofs.Common.{sym, ◌≡◌, ◌+◌, ◌∙◌, ap, length, arith, ◌++◌, ◌<◌, ◌^◌, ℕ, [], zero-add, sum_by, flat_map}
use Rattle.presentation.specs.{Presented.Presented, Counting.unless_any}
use Rattle.presentation.proofs.{Firsts.{none_before, value_of, first_stays}, Counts.{from_on, from_on-start, from_on-end, no_fault_here}}
use Rattle.presentation.proofs.Counts.{faults_here, one_more}

pub loop-section-init : goal.loop-section-init
loop-section-init c = let p = c.args.self.now in record {
  small = omega arith;
  faults = ap (flat_map (spec.section_faults p c.args.track)) (sym (from_on-start (length p.sections)));
  total = ap (λ xs. spec.capped (0 + sum_by (spec.listed_count p c.args.track) xs)) (from_on-start (length p.sections))
      ∙ ap spec.capped (zero-add (spec.count_of_track p c.args.track));
}

pub loop-section-preserved : goal.loop-section-preserved
loop-section-preserved c = let p = c.args.self.now in let t = c.args.track in let s = c.loop-section.section in let n = length p.sections in
    let same = ap (λ q. length q.sections) c.self.view_is in
    let counted = sym c.count_section.ensures ∙ c.in-Ok.is in
    let listed : spec.listed_count p t s ≡ c.in-Ok.listed = value_of (spec.section_faults p t s) _ _ counted in record {
      small = omega arith;
      faults = c.loop-section.invariant.faults ∙ no_fault_here (spec.section_faults p t) (spec.listed_count p t) s n (omega arith)
          (none_before (spec.section_faults p t s) _ _ counted);
      total = one_more (spec.section_faults p t) (spec.listed_count p t) s n
          (omega arith) c.loop-section.total c.saturating_add-total.result (omega arith) ∙ c.loop-section.invariant.total;
    }

pub returns-in-Err : goal.returns-in-Err
returns-in-Err c = let p = c.args.self.now in let t = c.args.track in let s = c.loop-section.section in let n = length p.sections in
    let same = ap (λ q. length q.sections) c.self.view_is in
    let later = flat_map (spec.section_faults p t) (from_on (s + 1) n) in
    let split = c.loop-section.invariant.faults ∙ faults_here (spec.section_faults p t) (spec.listed_count p t) s n (omega arith) in
    sym (ap (λ faults. unless_any (faults ++ spec.whole_track_faults p t) (spec.capped (spec.count_of_track p t))) split
    ∙ first_stays (spec.section_faults p t s ++ later) (spec.whole_track_faults p t) c.in-Err.fault (spec.capped 0)
    (spec.capped (spec.count_of_track p t)) (first_stays (spec.section_faults p t s) later c.in-Err.fault (spec.listed_count p t s)
    (spec.capped 0) (sym c.count_section.ensures ∙ c.in-Err.is)))

none_left : (p : Presented) (t s : ℕ) → s ≡ length p.sections → flat_map (spec.section_faults p t) (from_on s (length p.sections)) ≡ []
none_left p t s is = rw is (ap (flat_map (spec.section_faults p t)) (from_on-end (length p.sections)))

all_counted : (p : Presented) (t s total : ℕ) → total < 2 ^ 64 → s ≡ length p.sections
    → spec.capped (total + sum_by (spec.listed_count p t) (from_on s (length p.sections))) ≡ spec.capped (spec.count_of_track p t)
    → total ≡ spec.capped (spec.count_of_track p t)
all_counted p t s total fits is counted = let sum : sum_by (spec.listed_count p t) (from_on s (length p.sections)) ≡ 0 =
    rw is (ap (sum_by (spec.listed_count p t)) (from_on-end (length p.sections))) in omega arith

pub finish_track-requires : goal.finish_track-requires
finish_track-requires c = let p = c.args.self.now in let same = ap (λ q. length q.sections) c.self.view_is in
    all_counted p c.args.track c.loop-section.section c.loop-section.total (omega arith) (omega arith) c.loop-section.invariant.total

pub returns : goal.returns
returns c = let p = c.args.self.now in let t = c.args.track in let same = ap (λ q. length q.sections) c.self.view_is in
    let none = c.loop-section.invariant.faults ∙ none_left p t c.loop-section.section (omega arith) in
    let total : c.loop-section.total ≡ spec.capped (spec.count_of_track p t) =
    all_counted p t c.loop-section.section c.loop-section.total (omega arith) (omega arith) c.loop-section.invariant.total in
    c.finish_track.ensures ∙ ap (unless_any (spec.whole_track_faults p t)) total
    ∙ sym (ap (λ faults. unless_any (faults ++ spec.whole_track_faults p t) (spec.capped (spec.count_of_track p t))) none)
