-- The first of some refusals.
use Rattle.std.proofs.Common.{◌≡◌, List, [], ◌∷◌, ◌++◌, Option, Some, None, Ok, Err, IfSome, refl}
use Rattle.bridge_io.specs.Firsts.{first_fault}
use Rattle.mpd_profile.specs.{declared.fault.RuleFault.RuleFault, Refusals.refusal}
use Rattle.mpd_profile.proofs.Passing.{is_told, told_before}
use Rattle.mpd_rules.specs.Rules.{unless_refused}

-- an answer that is the first of these, or want of memory
abbrev pub IsFirst : RuleFault → List RuleFault → Type 0
IsFirst e faults = IfSome (refusal e) (λ f. first_fault faults ≡ Err f)

-- a value is there where nothing is refused
pub none_told : {X : Type 0} (faults : List RuleFault) (value given : X) → Ok given ≡ unless_refused faults value
    → (faults ≡ []) × (given ≡ value)
none_told [] value given is = (refl, cc)
none_told (fault ∷ faults) value given is = absurd (cc)

pub none_first : (faults : List RuleFault) → first_fault faults ≡ Ok tt → faults ≡ []
none_first [] is = refl
none_first (fault ∷ faults) is = absurd (cc)

told_first : {X : Type 0} (faults : List RuleFault) (fault : RuleFault) (x : X) → Err fault ≡ unless_refused faults x
    → first_fault faults ≡ Err fault
told_first [] fault x is = absurd (cc)
told_first (f ∷ faults) fault x is = cc

pub one_first : {X : Type 0} (faults : List RuleFault) (fault : RuleFault) (x : X) → Err fault ≡ unless_refused faults x
    → IsFirst fault faults
one_first faults fault x is = is_told (first_fault faults) fault (told_first faults fault x is)

-- the first one of more that begin so
pub first_of_more : (e : RuleFault) (faults more all : List RuleFault) → faults ++ more ≡ all → IsFirst e faults → IsFirst e all
first_of_more e faults more all are is = rw (← are) (told_before faults more e is)

first_unless : {Y : Type 0} (faults : List RuleFault) (f : RuleFault) (y : Y) → first_fault faults ≡ Err f → unless_refused faults y ≡ Err f
first_unless [] f y is = absurd (cc)
first_unless (g ∷ faults) f y is = cc

unless_seen : {Y : Type 0} (o : Option RuleFault) (faults : List RuleFault) (y : Y) → IfSome o (λ f. first_fault faults ≡ Err f)
    → IfSome o (λ f. unless_refused faults y ≡ Err f)
unless_seen None faults y is = tt
unless_seen (Some f) faults y is = first_unless faults f y is

pub unless_first : {Y : Type 0} (e : RuleFault) (faults : List RuleFault) (y : Y) → IsFirst e faults
    → IfSome (refusal e) (λ f. unless_refused faults y ≡ Err f)
unless_first e faults y is = unless_seen (refusal e) faults y is
