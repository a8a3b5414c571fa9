-- Answers that are read one after another.
use Rattle.std.proofs.Common.{◌≡◌, ℕ, List, [], ◌∷◌, ◌++◌, Option, Some, None, Result, Ok, Err, IfSome, unwrap_or, refl, ap}
use Rattle.bridge_io.specs.{Answer.Gives, Firsts.first_some, declared.place.Place.Place}
use Rattle.hls_master.specs.{declared.fault.MasterFault.MasterFault, declared.fault.MasterFault.TheVariants.{Line, Missing, Value}}
use Rattle.hls_master.specs.declared.fault.MasterFault.TheVariants.{Misplaced, Url, Muxed, GroupUnknown, SameName, Encryption, Unsupported}
use Rattle.hls_master.specs.{declared.fault.MasterFault.TheVariants.{NoTracks, Limit, Memory}, Faults.{answer, refusal}, Renditions.missing}

-- a fault that a definition gives
pub told : {X Y : Type 0} (see : X → Y) (fault : MasterFault) (meaning : Result Y MasterFault) → meaning ≡ Err fault
    → Gives see refusal (Err fault) meaning
told see (Line f) meaning h = h
told see (Missing p) meaning h = h
told see (Value p) meaning h = h
told see (Misplaced p) meaning h = h
told see (Url f p) meaning h = h
told see (Muxed p) meaning h = h
told see (GroupUnknown p) meaning h = h
told see (SameName p) meaning h = h
told see (Encryption p) meaning h = h
told see (Unsupported p) meaning h = h
told see (NoTracks p) meaning h = h
told see (Limit p) meaning h = h
told see Memory meaning h = tt

-- a fault that another call gave
pub passed_on : {F : Type 0} (fault : Option F) (P Q : F → Type 0) → ((f : F) → P f → Q f) → IfSome fault P → IfSome fault Q
passed_on None P Q more h = tt
passed_on (Some f) P Q more h = more f h

pub no_fault : {X F : Type 0} (fault : Option F) (x y : X) → answer fault x ≡ Ok y → fault ≡ None
no_fault None x y h = refl
no_fault (Some f) x y h = cc

pub value_is : {X F : Type 0} (fault : Option F) (x y : X) → answer fault x ≡ Ok y → x ≡ y
value_is None x y h = cc
value_is (Some f) x y h = cc

pub fault_is : {X F : Type 0} (fault : Option F) (x : X) (f : F) → answer fault x ≡ Err f → fault ≡ Some f
fault_is None x f h = cc
fault_is (Some g) x f h = cc

-- the first of two lists
pub behind_none : {F : Type 0} (one more : List (Option F)) → first_some one ≡ None → first_some (one ++ more) ≡ first_some more
behind_none [] more h = refl
behind_none (Some f ∷ one) more h = cc
behind_none (None ∷ one) more h = behind_none one more h

pub before_more : {F : Type 0} (one more : List (Option F)) (f : F) → first_some one ≡ Some f → first_some (one ++ more) ≡ Some f
before_more [] more f h = cc
before_more (Some g ∷ one) more f h = h
before_more (None ∷ one) more f h = before_more one more f h

-- an attribute that is required, and is there
pub is_found : (value : Option (List ℕ)) (place : Place) (text : List ℕ) → answer (missing place value) (unwrap_or value []) ≡ Ok text
    → value ≡ Some text
is_found None place text h = cc
is_found (Some v) place text h = ap Some (value_is None v text h)
