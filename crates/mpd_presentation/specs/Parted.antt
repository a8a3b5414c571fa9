-- The contents of Representations, and apart from them their positions.
use Rattle.std.specs.Prelude.{◌≡◌, List, ◌++◌, map, Result, Ok}
use Rattle.presentation.specs.declared.fault.PresentationFault.{PresentationFault}
use Rattle.mpd_presentation.specs.declared.{manifest.Parted.Parted, told.PeriodContent.PeriodContent}

-- those of all that was told
pub record IsParted (tolds : List PeriodContent) (parted : Parted) : Type 0 where
  pub contents : parted.contents ≡ map (λ (told : PeriodContent). told.content) tolds
  pub places : parted.places.items ≡ map (λ (told : PeriodContent). told.place) tolds

-- those of more are behind the others
pub record AreAdded (old : Parted) (tolds : List PeriodContent) (new : Parted) : Type 0 where
  pub contents : new.contents ≡ old.contents ++ map (λ (told : PeriodContent). told.content) tolds
  pub places : new.places.items ≡ old.places.items ++ map (λ (told : PeriodContent). told.place) tolds

-- those of what was told, without a fault
pub record ArePartsOf (all : Result (List PeriodContent) PresentationFault) (parted : Parted) : Type 0 where
  pub tolds : List PeriodContent
  pub told : all ≡ Ok tolds
  pub parts : IsParted tolds parted
