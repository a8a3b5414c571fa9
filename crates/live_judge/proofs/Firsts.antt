-- The first refusal of lists in order.
use Rattle.live_judge.specs.declared.walk.Rule.TheVariants as rules
use Rattle.std.proofs.Common.{◌≡◌, ℕ, zero, suc, ◌+◌, ◌<◌, List, [], ◌∷◌, ◌++◌, drop, Some, refl, sym, ◌∙◌, ap, arith, ◌==◌, map, true}
use Rattle.std.proofs.{lemmas.Option.same_Some, lemmas.Bool.eq-eqb}
use Rattle.std.specs.{Prelude.{None, flat_map, is_some, slice_get, true}, List.range_with_len}
use Rattle.presentation.proofs.{Counts.{from_on, from_on-end, from_on-first, from_on-start}, Reached.{none_first, none_later}}
use Rattle.live_meaning.specs.Refusals.{Refusal, uneven_from, uneven_told}
use Rattle.live_judge.specs.{declared.fault.RefreshFault.RefreshFault, declared.track.LiveTrack.LiveTrack, Faults.Tells, Walk.each}
use Rattle.live_judge.specs.{Walk.{told_at, told_by}, declared.coming.Next.Next, declared.track_next.TrackNext.TrackNext}
use Rattle.live_judge.specs.{declared.walk.Rule.Rule, Shown.track_shown}
use Rattle.live_judge.proofs.Walks.{drop_step, in_lists}

pub told_first : (fault : RefreshFault) (xs ys : List Refusal) → Tells fault xs → Tells fault (xs ++ ys)
told_first fault [] ys tells = absurd (let never : is_some {T = Refusal} None ≡ true = rw (← tells.0) at tells.1 in cc)
told_first fault (x ∷ xs) ys tells = tells

pub told_behind : (fault : RefreshFault) (xs ys : List Refusal) → xs ≡ [] → Tells fault ys → Tells fault (xs ++ ys)
told_behind fault xs ys none tells = rw none tells

pub none_told : (xs ys : List Refusal) → xs ≡ [] → ys ≡ [] → xs ++ ys ≡ []
none_told xs ys none later = rw (none, later) refl

-- ---- by places

module _ (list : ℕ → List Refusal) (n : ℕ) where
  abbrev pub all_told : List Refusal
  all_told = flat_map list (range_with_len 0 n)

  -- there is none before a place
  abbrev pub IsNoneBefore : ℕ → Type 0
  IsNoneBefore i = all_told ≡ flat_map list (from_on i n)

  pub none_yet : IsNoneBefore 0
  none_yet = ap (flat_map list) (sym (from_on-start n))

  at_place : (i : ℕ) → i < n → IsNoneBefore i → all_told ≡ list i ++ flat_map list (from_on (i + 1) n)
  at_place i within before = before ∙ ap (flat_map list) (from_on-first i n within)

  pub none_here : (i : ℕ) → i < n → IsNoneBefore i → list i ≡ [] → IsNoneBefore (i + 1)
  none_here i within before none =
      at_place i within before ∙ ap (λ (xs : List Refusal). xs ++ flat_map list (from_on (i + 1) n)) none

  pub first_here : (i : ℕ) (fault : RefreshFault) → i < n → IsNoneBefore i → Tells fault (list i) → Tells fault all_told
  first_here i fault within before tells =
      rw (at_place i within before) (told_first fault (list i) (flat_map list (from_on (i + 1) n)) tells)

  pub none_at_all : (i : ℕ) → i ≡ n → IsNoneBefore i → all_told ≡ []
  none_at_all i end before = before ∙ ap (λ j. flat_map list (from_on j n)) end ∙ ap (flat_map list) (from_on-end n)

-- ---- by tracks

pub rest_at : (told : ℕ → LiveTrack → List Refusal) (tracks : List LiveTrack) (i : ℕ) (x : LiveTrack) → slice_get tracks i ≡ Some x
    → drop i tracks ≡ x ∷ drop (i + 1) tracks
rest_at told tracks i x at = drop_step tracks i ∙ (rw at refl)

none_of_each : (told : ℕ → LiveTrack → List Refusal) (t : ℕ) (xs : List LiveTrack) (i : ℕ) (x : LiveTrack) → slice_get xs i ≡ Some x
    → each told t xs ≡ [] → told (t + i) x ≡ []
unfolding each
none_of_each told t [] i x at none = absurd (cc)
none_of_each told t (y ∷ xs) zero x at none =
    let same : y ≡ x = same_Some y x at in
    let first : t + 0 ≡ t = omega arith in
    rw (first, ← same) (none_first _ _ none)
none_of_each told t (y ∷ xs) (suc i) x at none =
    let next : t + suc i ≡ t + 1 + i = omega arith in
    rw next (none_of_each told (t + 1) xs i x at (none_later _ _ none))

pub none_at : (told : ℕ → LiveTrack → List Refusal) (xs : List LiveTrack) (i : ℕ) (x : LiveTrack) → slice_get xs i ≡ Some x
    → each told 0 xs ≡ [] → told i x ≡ []
none_at told xs i x at none =
    let same : 0 + i ≡ i = omega arith in
    rw same at (none_of_each told 0 xs i x at none)

-- ---- a rule is told of all tracks as it is of each of them

pub each_told : (r : Rule) (n : Next) (t : ℕ) (ts : List LiveTrack) → told_by r n t (map track_shown ts) ≡ each (told_at r n) t ts
unfolding each told_at
each_told rules.Rewritten n t [] = refl
each_told rules.Rewritten n t (x ∷ ts) = rw (each_told rules.Rewritten n (t + 1) ts) refl
each_told rules.Step n t [] = refl
each_told rules.Step n t (x ∷ ts) = rw (each_told rules.Step n (t + 1) ts) refl
each_told (rules.Even place) n t [] = refl
each_told (rules.Even place) n t (x ∷ ts) = rw (each_told (rules.Even place) n (t + 1) ts) refl
each_told rules.Long n t [] = refl
each_told rules.Long n t (x ∷ ts) = rw (each_told rules.Long n (t + 1) ts) refl
each_told rules.Room n t [] = refl
each_told rules.Room n t (x ∷ ts) = rw (each_told rules.Room n (t + 1) ts) refl

pub ruleset track_by_track = (in_lists, each_told)

-- the first fault of a track is the first one of all
pub stopped : (r : Rule) (n : Next) (l : TrackNext) (i : ℕ) (fault : RefreshFault) → l.next.now ≡ n → l.index ≡ i
    → slice_get n.tracks.now i ≡ Some l.track.now
    → told_by r n 0 (map track_shown n.tracks.now) ≡ each (told_at r n) i (drop i n.tracks.now)
    → Tells fault (told_at r l.next.now l.index l.track.now) → Tells fault (told_by r n 0 (map track_shown n.tracks.now))
unfolding each
stopped r n l i fault next index there before tells =
    rw (before, rest_at (told_at r n) n.tracks.now i l.track.now there)
    (told_first fault (told_at r n i l.track.now) (each (told_at r n) (i + 1) (drop (i + 1) n.tracks.now)) (rw (next, index) at tells))

-- before a reset each track is held against the first one
pub uneven_is : (ts : List LiveTrack) (x : LiveTrack) → slice_get ts 0 ≡ Some x
    → uneven_told (map track_shown ts) ≡ uneven_from (track_shown x).place 0 (map track_shown ts)
uneven_is [] x at = absurd (cc)
uneven_is (y ∷ ts) x at =
    let same : y ≡ x = same_Some y x at in
    let own : ((track_shown x).place == (track_shown x).place) ≡ true = eq-eqb _ _ refl in
    rw (same, own) refl
