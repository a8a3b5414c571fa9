-- The presentation that an update brings, or leaves in force.
use Rattle.live_judge.specs.declared.coming.Coming.TheVariants as comes
use Rattle.std.proofs.Common.{◌≡◌, ℕ, ℤ, List, pos, Bool, true, false, Option, Some, None, Ok, Err, refl, sym, ◌∙◌, ap}
use Rattle.std.specs.Prelude.{IfSome, option_map, unwrap_or, if◌then◌else◌}
use Rattle.presentation.specs.{declared.fault.PresentationFault.PresentationFault, Counting.refusal}
use Rattle.presentation.specs.Presented.{Following, Presented, at_instant, looked_at}
use Rattle.mpd_presentation.specs.{PresentedLaws.PresentedAreFollowed, Told.{following_of, presented_of}}
use Rattle.live_meaning.specs.{Updates.{Values, mpd_of}, Histories.force_by, Refusals.Presentation}
use Rattle.live_judge.specs.{declared.coming.Coming.Coming, declared.standing.Standing.Standing, Coming.update_of}
use Rattle.live_judge.specs.{Faults.{of_presentation, told}, Shown.{common_shown, in_force}}
use Rattle.live_session.specs.Changes.{IsPresented, IsUnpresented, force_of}
use Rattle.live_session.proofs.Refusing.{some_as, told_as}

-- ---- looked at at another instant

looked_by : (now at : ℤ) (o : Option Following) → option_map (at_instant now) (option_map (at_instant at) o) ≡ option_map (at_instant now) o
looked_by now at None = refl
looked_by now at (Some f) = refl

looked_twice : (now at : ℤ) (p : Presented) → looked_at now (looked_at at p) ≡ looked_at now p
looked_twice now at p = ap (λ (o : Option Following). let q : Presented = record p { following = o } in q) (looked_by now at p.following)

followed_by : (live : Bool) (now : ℤ) (f : Following) → f.instant ≡ now
    → option_map (at_instant now) (if live then Some f else None) ≡ (if live then Some f else None)
followed_by true now f same = ap (λ i. let g : Option Following = Some (record f { instant = i }) in g) (sym same)
followed_by false now f same = refl

pub looked_same : PresentedAreFollowed → (mpd : Values) (now : ℤ) (p : Presented) (url : List ℕ) → presented_of mpd url (Some now) ≡ Ok p
    → looked_at now p ≡ p
looked_same followed mpd now p url made =
    let is : p.following ≡ following_of mpd.facts (Some now) = followed mpd url (Some now) p made in
    ap (λ (o : Option Following). let q : Presented = record p { following = o } in q)
    (ap (option_map (at_instant now)) is
    ∙ followed_by mpd.facts.live now
    (record { instant = now; availability_start = unwrap_or mpd.facts.availability_start (pos 0); depth = mpd.facts.depth }) refl
    ∙ sym is)

-- ---- an update's

module _ (s : Standing) (now : ℤ) where
  pub presented_by : PresentedAreFollowed → (coming : Coming) (mpd : Values) (p : Presented)
      → Some mpd ≡ mpd_of (update_of coming (pos 0)) → presented_of mpd s.base (Some now) ≡ Ok p
      → IsPresented s coming now (force_of s (Some p))
  presented_by followed comes.Tick mpd p is made = absurd (cc)
  presented_by followed coming mpd p is made =
      let own : p ≡ looked_at now p = sym (looked_same followed mpd now p s.base made) in
      let again : presented_of mpd s.base (Some now) ≡ Ok (looked_at now p) = made ∙ ap (λ (q : Presented). Ok q) own in
      record { comes = cc; forced = cc }

  pub presented_still : (coming : Coming) → None ≡ mpd_of (update_of coming (pos 0)) → IsPresented s coming now (force_of s None)
  presented_still comes.Tick is = record {
    comes = refl;
    forced = ap (λ (q : Presented). Ok q)
        (looked_twice now s.instant (unwrap_or s.newest s.opened));
  }
  presented_still coming is = absurd (cc)

  unforced : (coming : Coming) (mpd : Values) (f : PresentationFault) → Some mpd ≡ mpd_of (update_of coming (pos 0))
      → presented_of mpd s.base (Some now) ≡ Err f → force_by (common_shown s).terms (in_force s) (update_of coming now) ≡ Err f
  unforced comes.Tick mpd f is made = absurd (cc)
  unforced coming mpd f is made = cc

  pub unpresented : (coming : Coming) (mpd : Values) (e : PresentationFault) → Some mpd ≡ mpd_of (update_of coming (pos 0))
      → IfSome (refusal e) (λ f. presented_of mpd s.base (Some now) ≡ Err f)
      → IfSome (told (of_presentation e)) (IsUnpresented s (update_of coming now))
  unpresented coming mpd e is refused =
      told_as e (IsUnpresented s (update_of coming now))
      (some_as (refusal e) (λ f. presented_of mpd s.base (Some now) ≡ Err f)
      (λ f. IsUnpresented s (update_of coming now) (Presentation f)) (λ f made. (f, unforced coming mpd f is made, refl)) refused)

pub some_comes : (coming : Coming) (now : ℤ) (mpd : Values) → Some mpd ≡ mpd_of (update_of coming (pos 0))
    → mpd_of (update_of coming now) ≡ None → ⊥
some_comes comes.Tick now mpd is none = cc
some_comes coming now mpd is none = cc
