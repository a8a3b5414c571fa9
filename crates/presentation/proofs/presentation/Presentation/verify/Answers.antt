use Rattle.presentation.specs.Verifying as spec
use Rattle.presentation.proofs.presentation.Presentation.verify.Goals as goal
use Rattle.std.proofs.Common.{◌≡◌, ◌+◌, ◌^◌, ◌++◌, ◌∷◌, [], append-nil, length-append, ◌<◌, length, flat_map, map, sum_by, IfSome, Ok, Err}
use Rattle.std.proofs.{Common.{sym, subst, ◌∙◌, ap, arith}, lemmas.List.append_assoc}
use Rattle.presentation.specs.Counting.{refusal, unless_any, count_faults, count_of_all, count_of_track, tracks_of}
use Rattle.presentation.proofs.{Firsts.{none_before, value_of, first_stays, told}, Counts.{from_on, from_on-first, from_on-start}}
use Rattle.presentation.proofs.{Counts.{from_on-end, faults_here, no_fault_here}, Tracks.{refused_stays, sum_here}, Verified.counted_is}
use Rattle.presentation.proofs.{Verified.verified_is, Reached.all_reached}

pub returns-in-Err-clause-longest : goal.returns-in-Err-clause-longest
returns-in-Err-clause-longest g c = let p = c.args.self.now in let unit = 10 ^ c.args.digits in let fault = c.in-Err.fault in
    let refused = first_stays (count_faults p) (spec.url_faults p) fault (count_of_all p) (map (spec.longest_of p unit) (tracks_of p))
    (sym (counted_is p) ∙ sym c.count.ensures ∙ c.in-Err.is) in
    told fault (spec.verified p unit) (verified_is p unit ∙ refused)

pub loop-track-init : goal.loop-track-init
loop-track-init g c = let p = c.args.self.now in let unit = 10 ^ c.args.digits in
    let same = ap (λ q. length q.tracks) c.self.view_is in
    let start = sym (from_on-start (length p.tracks)) in record {
      number = ap length c.new-durations.ensures;
      counted = none_before (count_faults p) (count_of_all p) c.in_default.field-0 (sym (counted_is p) ∙ sym c.count.ensures
          ∙ c.in_default.is);
      faults = ap (flat_map (spec.url_faults_of p)) start;
      longest = ap (λ ds. ds ++ map (spec.longest_of p unit) (from_on 0 (length p.tracks))) c.new-durations.ensures
          ∙ ap (map (spec.longest_of p unit)) (sym start);
      made = ap (λ xs. c.args.steps.now + sum_by (count_of_track p) xs) (sym start);
    }

pub verify_track-requires-clause-counted : goal.verify_track-requires-clause-counted
verify_track-requires-clause-counted g c = let p = c.args.self.now in let same = ap (λ q. length q.tracks) c.self.view_is in
    all_reached p c.loop-track.invariant.counted c.loop-track.track (omega arith)

pub loop-track-preserved : goal.loop-track-preserved
loop-track-preserved g c = let p = c.args.self.now in let l = c.loop-track in let t = l.track in let n = length p.tracks in
    let unit = 10 ^ c.args.digits in let of = spec.url_faults_of p in
    let same = ap (λ q. length q.tracks) c.self.view_is in
    let within : t < n = omega arith in
    let here = value_of (of t) (spec.longest_of p unit t) c.in-Ok.duration c.in-Ok.ensures.longest in
    let later = from_on (t + 1) n in
    let sum = sum_here (count_of_track p) t n within in
    record {
      number = omega (arith, l.invariant.number, simp length-append at (ap length c.in_ok-push-in-Ok.ensures.ok));
      counted = l.invariant.counted;
      faults = l.invariant.faults ∙ no_fault_here of (count_of_track p) t n within
          (none_before (of t) (spec.longest_of p unit t) c.in-Ok.duration c.in-Ok.ensures.longest);
      longest = ap (λ ds. ds ++ map (spec.longest_of p unit) later) (c.in_ok-push-in-Ok.ensures.ok)
          ∙ append_assoc l.durations (c.in-Ok.duration ∷ []) (map (spec.longest_of p unit) later)
          ∙ ap (λ d. l.durations ++ d ∷ map (spec.longest_of p unit) later) (sym here)
          ∙ ap (λ xs. l.durations ++ map (spec.longest_of p unit) xs) (sym (from_on-first t n within))
          ∙ l.invariant.longest;
      made = omega (arith, l.invariant.made, c.in-Ok.ensures.made);
    }

pub returns-in-Err-verify_track-clause-longest : goal.returns-in-Err-verify_track-clause-longest
returns-in-Err-verify_track-clause-longest g c = let p = c.args.self.now in let l = c.loop-track in let t = l.track in
    let n = length p.tracks in
    let unit = 10 ^ c.args.digits in let of = spec.url_faults_of p in let fault = c.in-Err-verify_track.fault in
    let longest = map (spec.longest_of p unit) (tracks_of p) in
    let same = ap (λ q. length q.tracks) c.self.view_is in
    let split = l.invariant.faults ∙ faults_here of (count_of_track p) t n (omega arith) in
    let all = verified_is p unit ∙ ap (λ faults. unless_any (faults ++ spec.url_faults p) longest) l.invariant.counted
    ∙ ap (λ faults. unless_any faults longest) split in
    subst (λ r. IfSome (refusal fault) (λ f. r ≡ Err f)) (sym all)
    (refused_stays fault (of t) (flat_map of (from_on (t + 1) n)) (spec.longest_of p unit t) longest c.in-Err-verify_track.ensures.longest)

pub returns-clause-longest : goal.returns-clause-longest
returns-clause-longest g c = let p = c.args.self.now in let l = c.loop-track in let n = length p.tracks in
    let unit = 10 ^ c.args.digits in let of = spec.url_faults_of p in let longest = map (spec.longest_of p unit) (tracks_of p) in
    let same = ap (λ q. length q.tracks) c.self.view_is in
    let end : from_on l.track n ≡ [] = (let last : l.track ≡ n = omega arith in ap (λ t. from_on t n) last ∙ from_on-end n) in
    verified_is p unit ∙ ap (λ faults. unless_any (faults ++ spec.url_faults p) longest) l.invariant.counted
    ∙ ap (λ faults. unless_any faults longest) (l.invariant.faults ∙ ap (flat_map of) end)
    ∙ ap Ok (sym l.invariant.longest ∙ ap (λ xs. l.durations ++ map (spec.longest_of p unit) xs) end ∙ append-nil l.durations
    ∙ sym c.new.ensures)

pub returns-clause-tracks : goal.returns-clause-tracks
returns-clause-tracks g c = let l = c.loop-track in
    let same = ap (λ q. length q.tracks) c.self.view_is in
    omega (arith, l.invariant.number, ap length c.new.ensures)

pub returns-clause-made : goal.returns-clause-made
returns-clause-made g c = let p = c.args.self.now in let l = c.loop-track in let n = length p.tracks in
    let same = ap (λ q. length q.tracks) c.self.view_is in
    let last : l.track ≡ n = omega arith in
    let none = ap (sum_by (count_of_track p)) (ap (λ t. from_on t n) last ∙ from_on-end n) in
    omega (arith, l.invariant.made)
