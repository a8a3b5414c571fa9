-- States of a followed MPD.
use Rattle.std.proofs.Common.{◌≡◌, ◌<◌, ℕ, zero, suc, ℤ, ◌+◌, not, List, [], ◌∷◌, ◌++◌, map, length, Option, None, Some, IfSome, Result}
use Rattle.std.proofs.{Common.{Ok, Err, refl, sym, ap, ◌∙◌, arith}, lemmas.List.Concat.length-flat_map}
use Rattle.std.proofs.lemmas.List.Sums.{sum-map, sum_by-cons}
use Rattle.std.specs.{List.{flat_map, range_with_len, sum, sum_by}, Option.option_map_or}
use Rattle.bridge_io.specs.Firsts.{first_of}
use Rattle.timeline.specs.Listed.{IsReached, answered_count}
use Rattle.presentation.specs.{declared.fault.PresentationFault.PresentationFault, declared.parts.Content.Content}
use Rattle.presentation.specs.Counting.{count_faults, count_of_all, count_of_track, counted, listed_count, number_in, sections_of}
use Rattle.presentation.specs.{Counting.tracks_of, Laws.CountedAreListed}
use Rattle.presentation.specs.{Presented.{Presented, content_at, listed_at, listed_in, window_of}, Verifying.url_faults}
use Rattle.mpd_presentation.specs.Told.{presented_of}
use Rattle.live_meaning.specs.{Updates.{Terms, Update, Values}, Histories.{begun_common, begun_with, force_by}}
use Rattle.live_meaning.specs.States.{State, shown, state_with}
use Rattle.live_meaning.specs.Refusals.{Refusal, Presentation, begun_by, begun_of, counts_listed, first_appended_by, first_appended_with}
use Rattle.live_meaning.specs.Refusals.{first_refusal_of, first_refusals_of, first_told_by, first_told_with, told_if, window_told}
use Rattle.live_meaning.specs.Refusals.{NotDynamic, next_of, next_with, refusal_of}

-- ---- an accepted update is one more

one_more_by : (s : State) (u : Update) (refusal : Option Refusal) (force : Result Presented PresentationFault) (after : State)
    → next_with s u refusal force ≡ Ok after → after.common.accepted ≡ s.common.accepted + 1
unfolding state_with
one_more_by s u (Some refusal) force after is = absurd (cc)
one_more_by s u None (Err fault) after is = absurd (cc)
one_more_by s u None (Ok p) after is = let same : state_with s u p ≡ after = cc in ap (λ (t : State). t.common.accepted) (sym same)

pub one_more_of : (s : State) (u : Update) (after : State) → next_of s u ≡ Ok after → after.common.accepted ≡ s.common.accepted + 1
unfolding next_of
one_more_of s u after is = one_more_by s u (refusal_of s u) (force_by s.common.terms s.common.force u) after is

-- ---- the first one

record IsBegun (terms : Terms) (mpd : Values) (now : ℤ) (s : State) : Type 0 where
  p : Presented
  refusal : first_refusal_of terms mpd now ≡ None
  presented : presented_of mpd terms.url (Some now) ≡ Ok p
  state : s ≡ shown (begun_with (begun_common terms mpd now p))

begun_from : (terms : Terms) (mpd : Values) (now : ℤ) (refusal : Option Refusal) (first : Result Presented PresentationFault) (s : State)
    → first_refusal_of terms mpd now ≡ refusal → presented_of mpd terms.url (Some now) ≡ first → begun_by terms mpd now refusal first ≡ Ok s
    → IsBegun terms mpd now s
begun_from terms mpd now (Some refusal) first s told made is = absurd (cc)
begun_from terms mpd now None (Err fault) s told made is = absurd (cc)
begun_from terms mpd now None (Ok p) s told made is =
    record {
      p = p;
      refusal = told;
      presented = made;
      state = (let same : shown (begun_with (begun_common terms mpd now p)) ≡ s = cc in
          sym same);
    }

begun_is : (terms : Terms) (mpd : Values) (now : ℤ) (s : State) → begun_of terms mpd now ≡ Ok s → IsBegun terms mpd now s
unfolding begun_of
begun_is terms mpd now s is = begun_from terms mpd now (first_refusal_of terms mpd now)
    (presented_of mpd terms.url (Some now)) s refl refl is

pub first_is_one : (terms : Terms) (mpd : Values) (now : ℤ) (s : State) → begun_of terms mpd now ≡ Ok s → s.common.accepted ≡ 1
first_is_one terms mpd now s is = ap (λ (t : State). t.common.accepted) (begun_is terms mpd now s is).state

-- ---- its segments are counted

none_first : (xs : List Refusal) → first_of xs ≡ None → xs ≡ []
none_first [] is = refl
none_first (x ∷ xs) is = absurd (cc)

none_front : {X : Type 0} (xs ys : List X) → xs ++ ys ≡ [] → xs ≡ []
none_front [] ys is = refl
none_front (x ∷ xs) ys is = absurd (cc)

none_mapped : (faults : List PresentationFault) → map Presentation faults ≡ [] → faults ≡ []
none_mapped [] is = refl
none_mapped (fault ∷ faults) is = absurd (cc)

none_counted : (terms : Terms) (mpd : Values) (now : ℤ) (p : Presented) → first_refusal_of terms mpd now ≡ None
    → presented_of mpd terms.url (Some now) ≡ Ok p
    → count_faults p ≡ []
unfolding first_refusal_of
none_counted terms mpd now p none made =
    let all : first_told_by mpd (presented_of mpd terms.url (Some now)) ≡ [] = none_first (first_refusals_of terms mpd now) none in
    let told : first_told_with mpd p ≡ [] = ap (first_told_by mpd) (sym made) ∙ all in
    let counts = map Presentation (count_faults p) in let static = told_if (not mpd.facts.live) NotDynamic in
    let many = window_told (counts_listed p) in
    none_mapped (count_faults p)
    (none_front counts static (none_front (counts ++ static) many
    (none_front (counts ++ static ++ many) (map Presentation (url_faults p)) told)))

is_counted : (p : Presented) → count_faults p ≡ [] → counted p ≡ Ok (count_of_all p)
unfolding counted
is_counted p none = rw none refl

answered : (p : Presented) (s t : ℕ) (o : Option Content) → IfSome o (λ content. IsReached content.runs (window_of p s))
    → number_in (option_map_or (λ content. answered_count content.runs (window_of p s)) o (Ok 0))
    ≡ length (option_map_or (λ content. listed_in (window_of p s) content.runs) o [])
answered p s t None reached = refl
answered p s t (Some content) reached = rw reached refl

sum_same : (f g : ℕ → ℕ) (from n : ℕ) → ((i : ℕ) → i < from + n → f i ≡ g i) → sum_by f (range_with_len from n)
    ≡ sum_by g (range_with_len from n)
sum_same f g from zero each = refl
sum_same f g from (suc n) each =
    sum_by-cons f from (range_with_len (from + 1) n)
    ∙ ap (λ k. k + sum_by f (range_with_len (from + 1) n)) (each from (omega arith))
    ∙ ap (λ k. g from + k) (sum_same f g (from + 1) n (λ i less. each i (omega (arith, less))))
    ∙ sym (sum_by-cons g from (range_with_len (from + 1) n))

module _ (law : CountedAreListed) (p : Presented) (counts : counted p ≡ Ok (count_of_all p)) where
  track_listed : (t : ℕ) → t < length p.tracks → length (flat_map (λ s. listed_at p s t) (sections_of p)) ≡ count_of_track p t
  track_listed t within =
      length-flat_map (λ s. listed_at p s t) (sections_of p)
      ∙ sum_same (λ s. length (listed_at p s t)) (listed_count p t) 0 (length p.sections) (λ s less. sym (answered p s t (content_at p s t)
      (law p (count_of_all p) s t counts (omega (arith, less)) within)))

  all_listed : sum (counts_listed p) ≡ count_of_all p
  all_listed =
      sum-map (λ t. length (flat_map (λ s. listed_at p s t) (sections_of p))) (tracks_of p)
      ∙ sum_same (λ t. length (flat_map (λ s. listed_at p s t) (sections_of p))) (count_of_track p) 0 (length p.tracks)
      (λ t less. track_listed t (omega (arith, less)))

-- the first update appends what its MPD lists
pub first_lists : CountedAreListed → (terms : Terms) (mpd : Values) (now : ℤ) (s : State) → begun_of terms mpd now ≡ Ok s
    → count_of_all s.common.opened ≡ first_appended_by terms mpd now
unfolding first_appended_by
first_lists law terms mpd now s is =
    let begun = begun_is terms mpd now s is in
    let opened : s.common.opened ≡ begun.p = ap (λ (t : State). t.common.opened) begun.state in
    let appended : first_appended_with (first_refusal_of terms mpd now) (presented_of mpd terms.url (Some now))
    ≡ sum (counts_listed begun.p) =
    ap (λ r. first_appended_with r (presented_of mpd terms.url (Some now))) begun.refusal ∙ ap (first_appended_with None) begun.presented in
    ap count_of_all opened
    ∙ sym (all_listed law begun.p (is_counted begun.p (none_counted terms mpd now begun.p begun.refusal begun.presented)))
    ∙ sym appended
