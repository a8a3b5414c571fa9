use Rattle.presentation.specs.Verifying as spec
use Rattle.presentation.proofs.presentation.Presentation.verify_track.Goals as goal
use Rattle.std.proofs.Common.{◌≡◌, ◌+◌, ◌^◌, ◌<◌, length, flat_map, IfSome, Err, sym, subst, ◌∙◌, ap, arith}
use Rattle.presentation.specs.Counting.{refusal, unless_any, listed_count}
use Rattle.presentation.proofs.{Firsts.{none_before, value_of}, Counts.{from_on, faults_here, no_fault_here}, Tracks.refused_stays}
use Rattle.presentation.proofs.Tracks.{longest_here, sum_here, all_counted}

pub returns-in-Err-clause-longest : goal.returns-in-Err-clause-longest
returns-in-Err-clause-longest g c = let p = c.args.self.now in let t = c.args.track in let s = c.loop-section.section in
    let n = length p.sections in
    let unit = 10 ^ c.args.digits in let at = spec.url_faults_at p t in
    let same = ap (λ q. length q.sections) c.self.view_is in
    let split = c.loop-section.invariant.faults ∙ faults_here at (listed_count p t) s n (omega arith) in
    subst (λ faults. IfSome (refusal c.in-Err.fault) (λ f. unless_any faults (spec.longest_of p unit t) ≡ Err f)) (sym split)
    (refused_stays c.in-Err.fault (at s) (flat_map at (from_on (s + 1) n)) (spec.longest_at p unit t s)
    (spec.longest_of p unit t) c.in-Err.ensures.longest)

pub loop-section-preserved : goal.loop-section-preserved
loop-section-preserved g c = let p = c.args.self.now in let t = c.args.track in let l = c.loop-section in let s = l.section in
    let n = length p.sections in
    let unit = 10 ^ c.args.digits in let at = spec.url_faults_at p t in
    let same = ap (λ q. length q.sections) c.self.view_is in
    let within : s < n = omega arith in
    let here = value_of (at s) (spec.longest_at p unit t s) c.in-Ok.duration c.in-Ok.ensures.longest in
    let next = longest_here (spec.longest_at p unit t) s n within in
    let sum = sum_here (listed_count p t) s n within in
    let listed = all_counted p s t (c.requires.counted s within) in
    record {
      faults = l.invariant.faults ∙ no_fault_here at (listed_count p t) s n within
          (none_before (at s) (spec.longest_at p unit t s) c.in-Ok.duration c.in-Ok.ensures.longest);
      longest = omega (arith, l.invariant.longest, c.max-longest.ensures);
      made = omega (arith, l.invariant.made, c.in-Ok.ensures.made);
    }
