-- The segments of verified presentations of MPDs can be gone over.
use Rattle.std.proofs.Common.{◌≡◌, [], All, Ok, subst}
use Rattle.std.specs.Prelude.{is_some}
use Rattle.bridge_io.proofs.AndThen.{steps_of}
use Rattle.timeline.specs.OpenEnds.{DurationsEnd, TimelinesEnd}
use Rattle.presentation.specs.{Presented.{IsEnded, Presented}, Counting.unless_any, Verifying.url_faults}
use Rattle.mpd_presentation.specs.Told.{all_told, presented_if_told, presented_of, presented_with, told_before}
use Rattle.mpd_presentation.specs.Listable.{VerifiedAreListable}
use Rattle.presentation.proofs.{Addressed.all_addressed, Allowed.none_unaddressed}
use Rattle.mpd_presentation.proofs.Ending.{all_ended}

pub verified_are_listable : TimelinesEnd → DurationsEnd → VerifiedAreListable
unfolding presented_of
verified_are_listable timelines durations p unit longest from verified =
    let mpd = from.mpd in
    let before = steps_of (unless_any {X = Unit {0}} (told_before mpd.facts.live (is_some from.now) mpd.periods) tt)
    (λ _. presented_if_told mpd from.url from.now) p from.presented in
    let tolds = steps_of (all_told from.url mpd.facts.live mpd.periods) (λ tolds. Ok (presented_with mpd from.now tolds)) p before.then in
    let same : presented_with mpd from.now tolds.value ≡ p = (let h = tolds.then in cc) in
    let none : url_faults p ≡ [] = none_unaddressed p unit longest verified in
    record {
      ended = subst (λ (p : Presented). All IsEnded p.contents) same
          (all_ended timelines durations from.url from.mpd.facts.live from.mpd.periods tolds.value tolds.first from.static);
      addressed = λ s t. all_addressed p s t none;
    }
