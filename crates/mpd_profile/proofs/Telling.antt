-- The first of what is told of one element.
use Rattle.std.proofs.Common.{◌≡◌, Bool, true, false, List, [], ◌∷◌, ◌++◌, Option, Some, None, Err, refl}
use Rattle.std.specs.Prelude.{if◌then◌else◌}
use Rattle.bridge_io.specs.{Firsts.first_fault, declared.place.Place.Place}
use Rattle.mpd_profile.specs.{declared.fault.RuleFault.RuleFault, declared.fault.RuleFault.TheVariants.Missing}
use Rattle.mpd_profile.specs.{declared.feature.Feature.Feature, Features.{fault_at, told_at}, Heads.or_else}

module _ (place : Place) where
  pub some_feature : (a b : Option Feature) (rest : List RuleFault) (feature : Feature) → Some feature ≡ or_else a b
      → Err (fault_at feature place) ≡ first_fault (told_at place a ++ told_at place b ++ rest)
  some_feature (Some f) b rest feature is = cc
  some_feature None (Some f) rest feature is = cc
  some_feature None None rest feature is = absurd (cc)

  pub no_feature : (a b : Option Feature) (rest : List RuleFault) → None ≡ or_else a b
      → first_fault rest ≡ first_fault (told_at place a ++ told_at place b ++ rest)
  no_feature (Some f) b rest is = absurd (cc)
  no_feature None (Some f) rest is = absurd (cc)
  no_feature None None rest is = refl

  pub some_missing : (b : Bool) (rest : List RuleFault) → b ≡ true
      → Err (Missing place) ≡ first_fault ((if b then Missing place ∷ [] else []) ++ rest)
  some_missing b rest lacking = rw lacking refl

  pub none_missing : (b : Bool) (rest : List RuleFault) → b ≡ false
      → first_fault rest ≡ first_fault ((if b then Missing place ∷ [] else []) ++ rest)
  none_missing b rest whole = rw whole refl
