-- Why an update is refused, by what the calls tell.
use Rattle.live_judge.specs.declared.coming.Coming.TheVariants as comes
use Rattle.live_judge.specs.declared.fault.RefreshFault.TheVariants as fault
use Rattle.presentation.specs.declared.fault.PresentationFault.TheVariants as presented
use Rattle.std.proofs.Common.{◌≡◌, ℕ, ◌+◌, ◌≤◌, ℤ, List, [], ◌∷◌, ◌++◌, Option, Some, None, Ok, Err, refl, sym, ◌∙◌, ap, subst, arith}
use Rattle.std.{proofs.Common.{append_assoc, Result}, specs.Prelude.{◌<◌, is_some, true, IfSome, IsSome, IsErrAnd, MatchResult}}
use Rattle.bridge_io.{specs.Firsts.first_of, specs.Answer.Gives}
use Rattle.presentation.{specs.declared.fault.PresentationFault.PresentationFault, specs.Counting.refusal, specs.Presented.Presented}
use Rattle.live_meaning.{specs.Updates.{Update, mpd_of, now_of, Terms, Values}, specs.Histories.{common_with, force_by}, specs.States.State}
use Rattle.live_meaning.{specs.States.{new_count, state_with}, specs.Refusals.{Presentation, Refusal, appended_by, clock_told, ended_told}}
use Rattle.live_meaning.specs.Refusals.{is_of_address, makes_segments, next_of, refusal_of, told_by, told_with, urls_told, begun_of}
use Rattle.live_judge.{specs.declared.coming.Coming.Coming, specs.declared.fault.RefreshFault.RefreshFault, specs.Coming.told_before}
use Rattle.live_judge.{specs.Coming.update_of, specs.Faults.{Tells, of_presentation, told}}
use Rattle.live_session.{specs.Changes.{IsRefused, IsLeft, IsTaken}, specs.Sessions.CountsRefused, specs.Begun.{IsBegunBy, IsUnbegun}}
use Rattle.live_session.specs.declared.session.Appended.{Appended}

-- ---- what faults tell

pub some_as : {X : Type 0} (o : Option X) (P Q : X → Type 0) → ((x : X) → P x → Q x) → IfSome o P → IfSome o Q
some_as None P Q f is = tt
some_as (Some x) P Q f is = f x is

pub told_as : (e : PresentationFault) (P : Refusal → Type 0) → IfSome (refusal e) (λ f. P (Presentation f))
    → IfSome (told (of_presentation e)) P
told_as presented.Memory P h = tt
told_as e P h = h

pub counts_same : (n before after : ℕ) (e : RefreshFault) → after ≡ before → CountsRefused n before after e
counts_same n before after fault.Memory same = (omega arith, omega arith)
counts_same n before after (fault.Presentation (presented.Url f spot)) same = (omega arith, omega arith)
counts_same n before after (fault.Presentation e) same = same
counts_same n before after e same = same

pub counts_made : (n before after : ℕ) (e : PresentationFault) → before ≤ after → after ≤ before + n
    → IfSome (refusal e) (λ f. is_of_address f ≡ true) → CountsRefused n before after (of_presentation e)
counts_made n before after presented.Memory least most is = (least, most)
counts_made n before after (presented.Url f spot) least most is = (least, most)
counts_made n before after e least most is = absurd (cc)

pub now_at : (coming : Coming) (now : ℤ) → now_of (update_of coming now) ≡ now
now_at comes.Tick now = refl
now_at coming now = refl

first_as : {X : Type 0} (o : Option X) (xs ys : List X) → IsSome o → first_of xs ≡ o → first_of (xs ++ ys) ≡ o
first_as None [] ys some is = absurd (cc)
first_as (Some r) [] ys some is = absurd (cc)
first_as o (x ∷ xs) ys some is = is

-- ---- an update that is refused

pub gives_refused : (s : State) (u : Update) (o : Option Refusal) → IfSome o (λ r. refusal_of s u ≡ Some r)
    → IfSome o (λ r. next_of s u ≡ Err r)
unfolding next_of
gives_refused s u None is = tt
gives_refused s u (Some r) is = rw is refl

told_some : (s : State) (u : Update) (o : Option Refusal) → refusal_of s u ≡ o → IfSome o (λ r. refusal_of s u ≡ Some r)
told_some s u None is = tt
told_some s u (Some r) is = is

-- before its presentation
refused_now : (s : State) (u : Update) (e : RefreshFault) → Tells e (ended_told s.common ++ clock_told s.common (now_of u))
    → refusal_of s u ≡ told e
unfolding refusal_of
refused_now s u e (first, some) =
    first_as (told e) (ended_told s.common ++ clock_told s.common (now_of u))
    (told_by s u (force_by s.common.terms s.common.force u)) some first

-- by what it brings
refused_behind : (s : State) (u : Update) → ended_told s.common ++ clock_told s.common (now_of u) ≡ []
    → refusal_of s u ≡ first_of (told_by s u (force_by s.common.terms s.common.force u))
unfolding refusal_of
refused_behind s u none =
    ap (λ (rs : List Refusal). first_of (rs ++ told_by s u (force_by s.common.terms s.common.force u))) none

abbrev IsUnforced : State → Update → Refusal → Type 0
IsUnforced s u r = (f : PresentationFault) × (force_by s.common.terms s.common.force u ≡ Err f) × (r ≡ Presentation f)

not_memory : (e : RefreshFault) → IsSome (told e) → e ≡ fault.Memory → ⊥
not_memory e some is = let never : is_some {T = Refusal} None ≡ true = subst (λ f. IsSome (told f)) is some in cc

module _ (s : State) (u : Update) (before after : ℕ) where
  told_refused : (e : RefreshFault) → refusal_of s u ≡ told e → IsSome (told e) → after ≡ before → IsRefused s u e before after
  told_refused e is some same = record {
    refused = told_some s u (told e) is;
    counted = counts_same (appended_by s u) before after e same;
    ticks = λ _ _ memory. not_memory e some memory;
  }

  pub refused_early : (e : RefreshFault) → Tells e (ended_told s.common ++ clock_told s.common (now_of u)) → after ≡ before
      → IsRefused s u e before after
  refused_early e tells same = told_refused e (refused_now s u e tells) tells.1 same

  -- after so many were made memory was wanting
  pub refused_wanting : after ≡ before + appended_by s u → (mpd_of u ≡ None → appended_by s u ≡ 0 → ⊥)
      → IsRefused s u fault.Memory before after
  refused_wanting counted ticks =
      record { refused = tt; counted = (omega arith, omega arith); ticks = λ none few _. ticks none few }

  module _ (none : ended_told s.common ++ clock_told s.common (now_of u) ≡ []) where
    pub refused_unpresented : (e : RefreshFault) → IfSome (told e) (IsUnforced s u) → (mpd_of u ≡ None → e ≡ fault.Memory → ⊥)
        → after ≡ before → IsRefused s u e before after
    refused_unpresented e refused ticks same = record {
      refused = some_as (told e) (IsUnforced s u) (λ r. refusal_of s u ≡ Some r)
          (λ r by. refused_behind s u none ∙ ap (λ r. first_of (told_by s u r)) by.1 ∙ ap Some (sym by.2)) refused;
      counted = counts_same (appended_by s u) before after e same;
      ticks = λ tick _ memory. ticks tick memory;
    }

    module _ (p : Presented) (forced : force_by s.common.terms s.common.force u ≡ Ok p) where
      abbrev urls : List Refusal
      urls = urls_told (common_with s.common u p) p 0 s.tracks

      abbrev new : ℕ
      new = new_count (common_with s.common u p) 0 s.tracks

      refusal_is : refusal_of s u ≡ first_of (told_before s u p ++ urls)
      refusal_is =
          let split : told_with s u p ≡ told_before s u p ++ urls = simp append_assoc in
          refused_behind s u none ∙ ap (λ r. first_of (told_by s u r)) forced ∙ ap first_of split

      -- by a rule before that on addresses
      pub refused_judged : (e : RefreshFault) → Tells e (told_before s u p) → after ≡ before → IsRefused s u e before after
      refused_judged e tells same =
          told_refused e (refusal_is ∙ first_as (told e) (told_before s u p) urls tells.1 tells.0) tells.1 same

      module _ (judged : told_before s u p ≡ []) (makes : makes_segments (first_of urls) ≡ true) where
        pub refused_there : refusal_of s u ≡ first_of urls
        refused_there = refusal_is ∙ ap (λ (rs : List Refusal). first_of (rs ++ urls)) judged

        pub appended_new : appended_by s u ≡ new
        unfolding appended_by
        appended_new = let all : makes_segments (refusal_of s u) ≡ true = ap makes_segments refused_there ∙ makes in rw (forced, all) refl

        -- by that
        pub refused_made : (e : RefreshFault) → IfSome (told e) (λ r. first_of urls ≡ Some r) → 0 < new
            → CountsRefused new before after e → IsRefused s u e before after
        refused_made e refused some counted = record {
          refused = some_as (told e) (λ r. first_of urls ≡ Some r) (λ r. refusal_of s u ≡ Some r) (λ r is. refused_there ∙ is) refused;
          counted = subst (λ n. CountsRefused n before after e) (sym appended_new) counted;
          ticks = λ _ nothing _. absurd (omega (arith, nothing, some, appended_new));
        }

-- an update that is accepted
pub gives_accepted : (s : State) (u : Update) (p : Presented) → force_by s.common.terms s.common.force u ≡ Ok p → refusal_of s u ≡ None
    → next_of s u ≡ Ok (state_with s u p)
unfolding next_of
gives_accepted s u p forced accepted = rw (accepted, forced) refl

pub gives_refusal : {X : Type 0} (r : Result X RefreshFault) (e : RefreshFault) (meaning : Result X Refusal) → IsErrAnd r (λ x. x ≡ e)
    → IfSome (told e) (λ f. meaning ≡ Err f) → Gives (λ x. x) told r meaning
gives_refusal (Ok x) e meaning is refused = absurd is
gives_refusal (Err x) e meaning is refused = subst (λ (x : RefreshFault). IfSome (told x) (λ f. meaning ≡ Err f)) (sym is) refused

pub begun_next : (terms : Terms) (mpd : Values) (now : ℤ) (before after : ℕ) (r : Result State RefreshFault)
    → MatchResult r (λ session. IsBegunBy terms mpd now session before after) (λ fault. IsUnbegun terms mpd now fault before after)
    → Gives (λ session. session) told r (begun_of terms mpd now)
begun_next terms mpd now before after (Ok s) is = is.next
begun_next terms mpd now before after (Err e) is = is.refused

module _ (s : State) (u : Update) (new : State) (before after : ℕ) where
  abbrev pub IsTold : Result Appended RefreshFault → Type 0
  IsTold r = MatchResult r (λ n. IsTaken s u n.0 new before after) (λ fault. IsLeft s u fault new before after)

  pub next_by : (r : Result Appended RefreshFault) → IsTold r → Gives (λ _. new) told r (next_of s u)
  next_by (Ok n) is = is.next
  next_by (Err e) is = gives_refused s u (told e) is.refusal.refused
