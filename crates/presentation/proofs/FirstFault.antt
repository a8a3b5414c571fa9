-- The first fault of places in order.
use Rattle.std.proofs.Common.{◌≡◌, ℕ, ◌+◌, ◌<◌, List, flat_map, Ok, Err, sym, ◌∙◌, ap}
use Rattle.std.specs.List.{range_with_len}
use Rattle.presentation.specs.{declared.fault.PresentationFault.PresentationFault, Counting.unless_any}
use Rattle.presentation.proofs.{Counts.{faults_here, from_on, from_on-end, from_on-start, no_fault_here}, Firsts.{first_stays, none_before}}

module _ (faults : ℕ → List PresentationFault) (n : ℕ) where
  abbrev pub all_faults : List PresentationFault
  all_faults = flat_map faults (range_with_len 0 n)

  -- there is none before a place
  abbrev pub IsNoneBefore : ℕ → Type 0
  IsNoneBefore i = all_faults ≡ flat_map faults (from_on i n)

  pub none_yet : IsNoneBefore 0
  none_yet = ap (flat_map faults) (sym (from_on-start n))

  pub none_here : (i : ℕ) (done : Unit {0}) → i < n → IsNoneBefore i → unless_any (faults i) tt ≡ Ok done → IsNoneBefore (i + 1)
  none_here i done within before none = before ∙ no_fault_here faults (λ _. 0) i n within (none_before (faults i) tt done none)

  pub first_here : (i : ℕ) (fault : PresentationFault) → i < n → IsNoneBefore i → unless_any {X = Unit {0}} (faults i) tt ≡ Err fault
      → Err fault ≡ unless_any {X = Unit {0}} all_faults tt
  first_here i fault within before is =
      sym (ap (λ fs. unless_any {X = Unit {0}} fs tt) (before ∙ faults_here faults (λ _. 0) i n within)
      ∙ first_stays (faults i) (flat_map faults (from_on (i + 1) n)) fault tt tt is)

  pub none_at_all : (i : ℕ) → i ≡ n → IsNoneBefore i → Ok tt ≡ unless_any {X = Unit {0}} all_faults tt
  none_at_all i end before = sym
      (ap (λ fs. unless_any {X = Unit {0}} fs tt)
      (before ∙ ap (λ j. flat_map faults (from_on j n)) end ∙ ap (flat_map faults) (from_on-end n)))
