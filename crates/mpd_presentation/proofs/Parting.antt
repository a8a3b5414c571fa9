-- What is told one after another, parted.
use Rattle.std.proofs.Common.{◌≡◌, ℕ, ℤ, List, [], ◌++◌, map, Option, Result, Ok, Err, IfSome, refl, sym, ◌∙◌, ap}
use Rattle.std.proofs.lemmas.List.{append-nil, map-append}
use Rattle.presentation.specs.{Counting.refusal, declared.fault.PresentationFault.PresentationFault}
use Rattle.presentation.proofs.Gathering.{behind, behind_nothing, step_told}
use Rattle.mpd_levels.specs.Segments.{Segments}
use Rattle.mpd_rules.specs.Typed.{TypedMpd}
use Rattle.mpd_presentation.specs.declared.{manifest.Parted.Parted, told.PeriodContent.PeriodContent}
use Rattle.mpd_presentation.specs.Parted.{AreAdded, ArePartsOf, IsParted}
use Rattle.mpd_presentation.specs.Told.{all_told, presented_from, presented_if_told, presented_with}

-- what was told so far, and what is told later
pub record AreSoFar (parted : Parted) (later all : Result (List PeriodContent) PresentationFault) : Type 0 where
  pub tolds : List PeriodContent
  pub parts : IsParted tolds parted
  pub told : behind tolds later ≡ all

pub none_so_far : (parted : Parted) (all : Result (List PeriodContent) PresentationFault) → IsParted [] parted → AreSoFar parted all all
none_so_far parted all parts = record { tolds = []; parts = parts; told = behind_nothing all }

pub all_so_far : (parted : Parted) (later all : Result (List PeriodContent) PresentationFault) → AreSoFar parted later all → later ≡ Ok []
    → ArePartsOf all parted
all_so_far parted later all so_far none = record {
  tolds = so_far.tolds;
  told = sym so_far.told ∙ ap (behind so_far.tolds) none ∙ ap Ok (append-nil so_far.tolds);
  parts = so_far.parts;
}

pub presented_parts : (mpd : TypedMpd (Option Segments)) (url : List ℕ) (now : Option ℤ) (parted : Parted)
    → ArePartsOf (all_told url mpd.facts.live mpd.periods) parted
    → presented_if_told mpd url now ≡ Ok (presented_from mpd now parted.contents parted.places.items)
presented_parts mpd url now parted are = rw (are.told, are.parts.contents, are.parts.places) refl

pub presented_fault : (mpd : TypedMpd (Option Segments)) (url : List ℕ) (now : Option ℤ) (fault : PresentationFault)
    → IfSome (refusal fault) (λ f. all_told url mpd.facts.live mpd.periods ≡ Err f)
    → IfSome (refusal fault) (λ f. presented_if_told mpd url now ≡ Err f)
presented_fault mpd url now fault told =
    step_told (all_told url mpd.facts.live mpd.periods) (λ tolds. Ok (presented_with mpd now tolds)) fault told

pub parted_more : (tolds more : List PeriodContent) (old new : Parted) → IsParted tolds old → AreAdded old more new
    → IsParted (tolds ++ more) new
parted_more tolds more old new parts added = record {
  contents = added.contents ∙ ap (λ contents. contents ++ map (λ (told : PeriodContent). told.content) more) parts.contents
      ∙ sym (map-append _ tolds more);
  places = added.places ∙ ap (λ places. places ++ map (λ (told : PeriodContent). told.place) more) parts.places
      ∙ sym (map-append _ tolds more);
}
