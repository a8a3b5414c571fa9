-- The first of some faults.
use Rattle.std.proofs.Common.{◌≡◌, List, [], ◌∷◌, ◌++◌, Result, Ok, Err, refl, ap}
use Rattle.bridge_io.specs.{Answer.Gives, Firsts.first_fault}
use Rattle.layer_faults.specs.declared.hls.HlsFault.{HlsFault}
use Rattle.layer_faults.specs.declared.hls.HlsFault.TheVariants.{NotEnded, NoMap, MapChanged}
use Rattle.layer_faults.specs.declared.hls.HlsFault.TheVariants.{ZeroDuration, SectionsDiffer, Limit, NoTracks, Memory}
use Rattle.hls_presentation.specs.Presenting.{refusal, unless_any}

pub passed : (faults more : List HlsFault) → first_fault faults ≡ Ok tt → first_fault (faults ++ more) ≡ first_fault more
passed [] more none = refl
passed (fault ∷ faults) more none = absurd (cc)

pub stopped : (faults more : List HlsFault) (fault : HlsFault) → first_fault faults ≡ Err fault → first_fault (faults ++ more) ≡ Err fault
stopped [] more fault is = absurd (cc)
stopped (first ∷ faults) more fault is = is

-- a fault that a definition gives
pub told : {X Y : Type 0} (see : X → Y) (fault : HlsFault) (meaning : Result Y HlsFault) → meaning ≡ Err fault
    → Gives see refusal (Err fault) meaning
told see NotEnded meaning is = is
told see NoMap meaning is = is
told see MapChanged meaning is = is
told see ZeroDuration meaning is = is
told see SectionsDiffer meaning is = is
told see Limit meaning is = is
told see NoTracks meaning is = is
told see Memory meaning is = tt

module _ {Y : Type 0} where
  pub none_told : (faults : List HlsFault) (next : Result Y HlsFault) → first_fault faults ≡ Ok tt → unless_any faults next ≡ next
  none_told [] next none = refl
  none_told (fault ∷ faults) next none = absurd (cc)

  pub first_told : {X : Type 0} (see : X → Y) (faults : List HlsFault) (next : Result Y HlsFault) (fault : HlsFault)
      → first_fault faults ≡ Err fault → Gives see refusal (Err fault) (unless_any faults next)
  first_told see [] next fault is = absurd (cc)
  first_told see (first ∷ faults) next fault is = told see fault (Err first) (let same : first ≡ fault = cc in ap Err same)

  -- what is given has no fault
  pub given : (faults : List HlsFault) (next : Result Y HlsFault) (y : Y) → unless_any faults next ≡ Ok y → next ≡ Ok y
  given [] next y is = is
  given (fault ∷ faults) next y is = absurd (cc)

  pub none_given : (faults : List HlsFault) (next : Result Y HlsFault) (y : Y) → unless_any faults next ≡ Ok y → faults ≡ []
  none_given [] next y is = refl
  none_given (fault ∷ faults) next y is = absurd (cc)
