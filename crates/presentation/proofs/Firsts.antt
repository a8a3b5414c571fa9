-- The first of some faults.
use Rattle.std.proofs.Common.{◌≡◌, List, [], ◌∷◌, ◌++◌, Result, Ok, Err, IfSome, refl, ap}
use Rattle.presentation.specs.declared.fault.PresentationFault.{PresentationFault}
use Rattle.presentation.specs.declared.fault.PresentationFault.TheVariants.{PeriodsDiffer, Limit, NoSegments, Url, Template, Timeline}
use Rattle.presentation.specs.{declared.fault.PresentationFault.TheVariants.{NeedsNow, Memory}, Counting.{unless_any, refusal}}

pub none_before : {X : Type 0} (faults : List PresentationFault) (x y : X) → unless_any faults x ≡ Ok y → faults ≡ []
none_before [] x y is = refl
none_before (fault ∷ faults) x y is = absurd (cc)

pub value_of : {X : Type 0} (faults : List PresentationFault) (x y : X) → unless_any faults x ≡ Ok y → x ≡ y
value_of [] x y is = cc
value_of (fault ∷ faults) x y is = absurd (cc)

pub first_stays : {X Y : Type 0} (faults more : List PresentationFault) (fault : PresentationFault) (x : X) (y : Y)
    → unless_any faults x ≡ Err fault → unless_any (faults ++ more) y ≡ Err fault
first_stays [] more fault x y is = absurd (cc)
first_stays (one ∷ faults) more fault x y is = (let same : one ≡ fault = cc in ap Err same)

-- what is refused is told
pub told : {X : Type 0} (fault : PresentationFault) (r : Result X PresentationFault) → r ≡ Err fault
    → IfSome (refusal fault) (λ f. r ≡ Err f)
told (PeriodsDiffer place) r is = is
told Limit r is = is
told (NoSegments s t) r is = is
told (Url fault spot) r is = is
told (Template fault place) r is = is
told (Timeline fault place) r is = is
told NeedsNow r is = is
told Memory r is = tt
