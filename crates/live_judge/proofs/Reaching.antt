-- What stays so of a track's segments when some come behind them.
use Rattle.std.proofs.Common.{◌≡◌, ℕ, zero, suc, ◌+◌, ◌≤◌, true, List, [], ◌∷◌, ◌++◌, drop, Option, Some, None, refl, ◌∙◌, subst, inl, inr}
use Rattle.std.proofs.{Common.{◌⊎◌, arith}, lemmas.Bool.{cases_eq, eq-eqb, ne_eqb}, lemmas.Bool.Decides.nat_tests}
use Rattle.std.proofs.{lemmas.List.{append-nil, append_assoc, drop_all}, lemmas.Option.IfSome_then}
use Rattle.std.proofs.lemmas.List.Elements.{All-append, All-cons, All-drop, All-head, All-nil, All-tail, All-weaker, filter_passes}
use Rattle.std.specs.Prelude.{All, IfSome}
use Rattle.exact_time.specs.Time.{IsAtMost, IsTime, Time}
use Rattle.exact_time.proofs.TimeOrder.{IsAtMost-from_before, IsAtMost-trans}
use Rattle.followed.specs.{Durations.{Last, last_behind, last_with}, Order.{Behind, BehindLast, InOrder, IsTimed}}
use Rattle.followed.proofs.Sections.{last_section}
use Rattle.live_meaning.specs.{Segments.{Segment, behind, is_later, place_behind, segments_of}, Histories.Common, States.Track}
use Rattle.live_meaning.proofs.Orders.{IsNumbered, behind_have, behind_in_order}
use Rattle.live_judge.specs.Sound.{AreOrdered, AreUpTo, DoesFollow, IsSegmentOf, IsSoundTrack, IsUpTo}

abbrev pub Lasts : Last → Type 0
Lasts l = IsAtMost l.first l.end × IsTime l.end

-- what holds of a track's segments and the last one that was listed
pub record IsReached (resets : ℕ) (last : Option Last) (place : ℕ) (xs : List Segment) : Type 0 where
  pub ordered : AreOrdered xs
  pub section : IfSome last (λ l. l.section ≤ place + resets)
  pub lasts : IfSome last Lasts
  pub up_to : AreUpTo last place xs

-- ---- one more

lasts_with : (l : Last) (x : Segment) → Lasts l → IsTimed x → Behind l x.section x.end → Lasts (last_with (Some l) x)
lasts_with l x (lasts, time) timed behind = elim (cases_eq l.section x.section) [
  | inl same ↦
      let later : IsAtMost l.end x.end = elim behind [
        | inl less ↦ absurd (omega (arith, less, same))
        | inr both ↦ IsAtMost-from_before l.end x.end both.1
      ] in
      rw (eq-eqb _ _ same) (IsAtMost-trans l.first l.end x.end time lasts later, timed.end)
  | inr other ↦ rw (ne_eqb _ _ other) (timed.lasts, timed.end)
]

follows : (l : Last) (place resets : ℕ) (x k : Segment) → l.section ≤ place + resets → place ≤ x.value.place → IsNumbered resets x
    → IsUpTo l place k → DoesFollow k x
follows l place resets x k section later numbered up = grind (arith, section, later, numbered, up)

up_with : (last : Option Last) (x k : Segment) → DoesFollow k x → IsUpTo (last_with last x) x.value.place k
up_with last x k is = grind (arith, is, last_section last x)

ordered_with : (ks : List Segment) (x : Segment) → AreOrdered ks → All (λ k. DoesFollow k x) ks → AreOrdered (ks ++ x ∷ [])
ordered_with [] x ordered all = (All-nil (DoesFollow x), tt)
ordered_with (k ∷ ks) x (first, ordered) all = (
  All-append (DoesFollow k) ks (x ∷ []) first
      (All-cons (DoesFollow k) x [] (All-head (λ (j : Segment). DoesFollow j x) k ks all) (All-nil (DoesFollow k))),
  ordered_with ks x ordered (All-tail (λ (j : Segment). DoesFollow j x) k ks all),
)

itself : (last : Option Last) (x : Segment) → IsUpTo (last_with last x) x.value.place x
itself last x = inr (refl, omega (arith, last_section last x))

reach : (resets : ℕ) (last : Option Last) (place : ℕ) (ks : List Segment) (x : Segment) → IsReached resets last place ks → IsTimed x
    → BehindLast last x.section x.end → IsNumbered resets x → IfSome last (λ l. place ≤ x.value.place)
    → IsReached resets (Some (last_with last x)) x.value.place (ks ++ x ∷ [])
reach resets None place ks x is timed behind numbered later =
    rw is.up_to (record {
      ordered = (All-nil (DoesFollow x), tt);
      section = omega (arith, numbered);
      lasts = (timed.lasts, timed.end);
      up_to = All-cons (IsUpTo (last_with None x) x.value.place) x [] (itself None x) (All-nil (IsUpTo (last_with None x) x.value.place));
    })
reach resets (Some l) place ks x is timed behind numbered later =
    let m : Last = last_with (Some l) x in
    let all : All (λ k. DoesFollow k x) ks = All-weaker (IsUpTo l place) (λ k. DoesFollow k x)
    (λ k up. follows l place resets x k is.section later numbered up) ks is.up_to in
    record {
      ordered = ordered_with ks x is.ordered all;
      section = omega (arith, last_section (Some l) x, numbered);
      lasts = lasts_with l x is.lasts timed behind;
      up_to = All-append (IsUpTo m x.value.place) ks (x ∷ [])
          (All-weaker (λ k. DoesFollow k x) (IsUpTo m x.value.place) (λ k is. up_with (Some l) x k is) ks all)
          (All-cons (IsUpTo m x.value.place) x [] (itself (Some l) x) (All-nil (IsUpTo m x.value.place)));
    }

-- ---- more

-- the last one stands in the section of its place, or none of them stands in an earlier place
abbrev IsBefore : (resets place : ℕ) → List Segment → Last → Type 0
IsBefore resets place xs l = (l.section ≡ place + resets) ⊎ All (λ (x : Segment). place ≤ x.value.place) xs

first_later : (resets : ℕ) (last : Option Last) (place : ℕ) (x : Segment) (xs : List Segment) → BehindLast last x.section x.end
    → IsNumbered resets x → IfSome last (IsBefore resets place (x ∷ xs)) → IfSome last (λ l. place ≤ x.value.place)
first_later resets None place x xs behind here before = tt
first_later resets (Some l) place x xs behind here before = elim before [
  | inl same ↦ elim behind [ inl less ↦ omega (arith, less, here, same) | inr both ↦ omega (arith, both.0, here, same) ]
  | inr all ↦ All-head (λ (y : Segment). place ≤ y.value.place) x xs all
]

pub reached : (resets : ℕ) (last : Option Last) (place : ℕ) (ks xs : List Segment) → IsReached resets last place ks → InOrder last xs
    → All (IsNumbered resets) xs → IfSome last (IsBefore resets place xs)
    → IsReached resets (last_behind last xs) (place_behind place xs) (ks ++ xs)
reached resets last place ks [] is order numbered before = rw append-nil is
reached resets last place ks (x ∷ xs) is (timed, behind, order) numbered before =
    let here : IsNumbered resets x = All-head (IsNumbered resets) x xs numbered in
    let next = reach resets last place ks x is timed behind here (first_later resets last place x xs behind here before) in
    subst (λ (ys : List Segment). IsReached resets (last_behind (Some (last_with last x)) xs) (place_behind x.value.place xs) ys)
    (append_assoc ks (x ∷ []) xs)
    (reached resets (Some (last_with last x)) x.value.place (ks ++ x ∷ []) xs next order (All-tail (IsNumbered resets) x xs numbered)
    (inl (last_section last x ∙ here)))

-- none yet
pub none_reached : (resets : ℕ) → IsReached resets None 0 []
none_reached resets = record { ordered = tt; section = tt; lasts = tt; up_to = refl }

-- those that an update lists behind the last one
later_place : (last : Last) (place p : ℕ) (end : Time) → is_later last place p end ≡ true → place ≤ p
later_place last place p end is = grind (arith, nat_tests, is)

behind_later : (resets : ℕ) (last : Option Last) (place : ℕ) (xs : List Segment)
    → IfSome last (IsBefore resets place (behind last place xs))
behind_later resets None place xs = tt
behind_later resets (Some l) place xs =
    inr (λ j d within. later_place l place _ _ (filter_passes (λ (x : Segment). is_later l place x.value.place x.end) xs j d within))

new_order : (resets : ℕ) (last : Option Last) (place : ℕ) (xs : List Segment) → IfSome last (λ l. l.section ≤ place + resets)
    → All (IsNumbered resets) xs → InOrder None xs → InOrder last (behind last place xs)
new_order resets None place xs section numbered order = order
new_order resets (Some l) place xs section numbered order = behind_in_order (Some l) place resets xs section numbered order

pub reached_behind : (former resets : ℕ) (last : Option Last) (place : ℕ) (ks xs : List Segment) → former ≤ resets
    → IsReached former last place ks → All (IsNumbered resets) xs → InOrder None xs
    → IsReached resets (last_behind last (behind last place xs)) (place_behind place (behind last place xs))
    (ks ++ behind last place xs)
reached_behind former resets last place ks xs rise is numbered order =
    let section : IfSome last (λ l. l.section ≤ place + resets) = IfSome_then last is.section (λ l le. omega (arith, le, rise)) in
    reached resets last place ks (behind last place xs)
    (record { ordered = is.ordered; section = section; lasts = is.lasts; up_to = is.up_to })
    (new_order resets last place xs section numbered order) (behind_have (IsNumbered resets) last place xs numbered)
    (behind_later resets last place xs)

-- ---- without the first ones

ordered_left : (n : ℕ) (xs : List Segment) → AreOrdered xs → AreOrdered (drop n xs)
ordered_left zero xs ordered = ordered
ordered_left (suc n) [] ordered = tt
ordered_left (suc n) (x ∷ xs) (first, ordered) = ordered_left n xs ordered

up_to_left : (last : Option Last) (place n : ℕ) (xs : List Segment) → AreUpTo last place xs → AreUpTo last place (drop n xs)
up_to_left None place n xs none = rw none (drop_all n [] (omega arith))
up_to_left (Some l) place n xs all = All-drop (IsUpTo l place) n xs all

pub reached_left : (resets : ℕ) (last : Option Last) (place n : ℕ) (xs : List Segment) → IsReached resets last place xs
    → IsReached resets last place (drop n xs)
reached_left resets last place n xs is =
    record { ordered = ordered_left n xs is.ordered; section = is.section; lasts = is.lasts; up_to = up_to_left last place n xs is.up_to }

-- ---- a track

pub lasts_of : (o : Option Last) → IfSome o (λ l. IsAtMost l.first l.end) → IfSome o (λ l. IsTime l.end) → IfSome o Lasts
lasts_of None begun timed = tt
lasts_of (Some l) begun timed = (begun, timed)

pub sound_reached : (c : Common) (track : Track) → All (IsSegmentOf c) (segments_of track.kept)
    → IsReached c.resets track.last track.place (segments_of track.kept) → IsSoundTrack c track
sound_reached c track segments is = record {
  segments = segments;
  ordered = is.ordered;
  section = is.section;
  begun = IfSome_then track.last is.lasts (λ l lasts. lasts.0);
  timed = IfSome_then track.last is.lasts (λ l lasts. lasts.1);
  behind = is.up_to;
}
