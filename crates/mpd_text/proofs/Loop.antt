-- How a loop over steps goes on and ends: so many steps are left, and what they give is what all give.
use Rattle.mpd_tree.specs.declared.stop.Stop.TheVariants as stops
use Rattle.std.proofs.Common.{◌≡◌, ℕ, suc, ◌+◌, ◌-◌, ◌<◌, ◌≤◌, Bool, List, [], IfSome, Result, Ok, Err, refl, sym, ap, ◌∙◌, arith}
use Rattle.mpd_tree.specs.{declared.stop.Fault.Fault, declared.stop.Stop.Stop, Positions.syntax, Reading.fault_in}
use Rattle.mpd_tree.specs.Productions.{◌>>=◌, Production, further, times}

-- a step that failed, and one that did not
pub failed : {A B : Type 0} (e : Stop) (step : Result B Fault) (more : B → Result A Fault) (total : Result A Fault)
    → IfSome (fault_in e) (λ f. step ≡ Err f) → (step >>= more) ≡ total
    → IfSome (fault_in e) (λ f. total ≡ Err f)
failed stops.Memory step more total h so_far = tt
failed (stops.Fault f) step more total h so_far = sym so_far ∙ rw h refl

pub stepped : {A B : Type 0} (step : Result B Fault) (x : B) (more : B → Result A Fault) (total : Result A Fault) → step ≡ Ok x
    → (step >>= more) ≡ total → more x ≡ total
stepped step x more total h so_far = let one : (step >>= more) ≡ more x = rw h refl in sym one ∙ so_far

module _ {A : Type 0} (one : A → List ℕ → Production (A × Bool × List ℕ)) {count i : ℕ} (a : A) (bytes : List ℕ)
    {total : Result (A × List ℕ) Fault} (so_far : (times one (count - i) a bytes).read ≡ total) where
  -- with one more to make
  loop_on : i < count → ((one a bytes).read >>= λ x. (further (times one (count - (i + 1))) x).read) ≡ total
  unfolding times
  loop_on lt =
      let k : count - i ≡ suc (count - (i + 1)) = omega arith in
      sym (ap (λ n. (times one n a bytes).read) k) ∙ so_far

  pub loop_failed : i < count → (e : Stop) → IfSome (fault_in e) (λ f. (one a bytes).read ≡ Err f)
      → IfSome (fault_in e) (λ f. total ≡ Err f)
  loop_failed lt e h = failed e (one a bytes).read _ total h (loop_on lt)

  pub loop_stepped : i < count → {x : A × Bool × List ℕ} → (one a bytes).read ≡ Ok x
      → (further (times one (count - (i + 1))) x).read ≡ total
  loop_stepped lt {x} h = stepped (one a bytes).read x (λ y. (further (times one (count - (i + 1))) y).read) total h (loop_on lt)

  pub loop_cut : count ≤ i → total ≡ Err (syntax [])
  unfolding times
  loop_cut le =
      let k : count - i ≡ 0 = omega arith in
      sym so_far ∙ ap (λ n. (times one n a bytes).read) k
