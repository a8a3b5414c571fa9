-- What each presentation of an MPD has.
use Rattle.std.proofs.Common.{◌≡◌, ℕ, ◌≤◌, ◌||◌, nat_lt, ℤ, Bool, true, false, List, [], ◌∷◌, length, Option, Ok, refl, sym, ap, subst}
use Rattle.std.proofs.{Common.arith, lemmas.Bool.Decides.nat_tests, lemmas.List.length-map}
use Rattle.std.specs.Prelude.{if◌then◌else◌, is_some}
use Rattle.bridge_io.proofs.AndThen.{steps_of}
use Rattle.mpd_levels.specs.Segments.{Segments}
use Rattle.mpd_rules.specs.Typed.{TypedMpd}
use Rattle.presentation.specs.{declared.fault.PresentationFault.PresentationFault, Counting.unless_any, Presented.Presented}
use Rattle.mpd_presentation.specs.declared.told.PeriodContent.{PeriodContent}
use Rattle.mpd_presentation.specs.PresentedLaws.{PresentedAreFew, PresentedAreFollowed, SectionsArePeriods}
use Rattle.mpd_presentation.specs.Rows.{Period, first_rows, in_order, section_of, track_of}
use Rattle.mpd_presentation.specs.Told.{all_told, differ_told, is_over, needs_now, over_told, presented_if_told, presented_of}
use Rattle.mpd_presentation.specs.Told.{presented_with, told_before}
use Rattle.presentation.proofs.{Filling.length_in_order, Firsts.none_before, Reached.none_first}
use Rattle.mpd_presentation.proofs.Ending.{none_behind}

-- what was told of the Representations, where nothing was refused before
pub record IsTold (mpd : TypedMpd (Option Segments)) (url : List ℕ) (now : Option ℤ) (p : Presented) : Type 0 where
  pub tolds : List PeriodContent
  pub none : told_before mpd.facts.live (is_some now) mpd.periods ≡ []
  pub told : all_told url mpd.facts.live mpd.periods ≡ Ok tolds
  pub is : presented_with mpd now tolds ≡ p

not_over : (one other : Bool) → (one || other) ≡ false → (one ≡ false) × (other ≡ false)
not_over true other is = absurd (cc)
not_over false other is = (refl, is)

over : (b : Bool) (fault : PresentationFault) → (if b then fault ∷ [] else []) ≡ [] → b ≡ false
over true fault none = absurd (cc)
over false fault none = refl

within : (n limit : ℕ) → nat_lt limit n ≡ false → n ≤ limit
within n limit few = grind (arith, nat_tests)

few_told : (live has_now : Bool) (periods : List Period) → told_before live has_now periods ≡ []
    → (length periods ≤ 1000) × (length (first_rows periods) ≤ 200)
few_told live has_now periods none =
    let both = not_over (nat_lt 1000 (length periods)) _
    (over (is_over periods) _ (none_first (over_told periods) (differ_told periods) (none_behind (needs_now live has_now) _ none))) in
    (within _ _ both.0, within _ _ both.1)

module _ (mpd : TypedMpd (Option Segments)) (url : List ℕ) (now : Option ℤ) (p : Presented) (made : presented_of mpd url now ≡ Ok p) where
  pub is_told : IsTold mpd url now p
  unfolding presented_of
  is_told =
      let before = steps_of (unless_any {X = Unit {0}} (told_before mpd.facts.live (is_some now) mpd.periods) tt)
      (λ _. presented_if_told mpd url now) p made in
      let tolds = steps_of (all_told url mpd.facts.live mpd.periods) (λ tolds. Ok (presented_with mpd now tolds)) p before.then in
      record { tolds = tolds.value; none = none_before _ _ _ before.first; told = tolds.first; is = (let h = tolds.then in cc) }

  few : (length p.sections ≤ 1000) × (length p.tracks ≤ 200)
  few =
      let rows = first_rows mpd.periods in
      let told = few_told mpd.facts.live (is_some now) mpd.periods is_told.none in
      subst (λ (q : Presented). (length q.sections ≤ 1000) × (length q.tracks ≤ 200)) is_told.is (
        omega (arith, length-map mpd.periods section_of, told.0),
        omega
            (arith, length-map (in_order rows) track_of, length_in_order (λ row. row.description.kind) rows, told.1),
      )

pub presented_are_few : PresentedAreFew
presented_are_few mpd url now p made = few mpd url now p made

pub presented_are_followed : PresentedAreFollowed
presented_are_followed mpd url now p made = ap (λ (q : Presented). q.following) (sym (is_told mpd url now p made).is)

pub sections_are_periods : SectionsArePeriods
sections_are_periods mpd url now p made = ap (λ (q : Presented). q.sections) (sym (is_told mpd url now p made).is)
