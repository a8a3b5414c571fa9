-- Times of segments, one after another.
use Rattle.std.proofs.Common.{◌≡◌, ◌<◌, ℕ, ◌+◌, Bool, true, false, List, [], ◌∷◌, ◌++◌, map, length, drop, get_or, slice_get, Option, Some}
use Rattle.std.proofs.Common.{Result, Ok, Err, IfSome, refl, sym, ◌∙◌, ap}
use Rattle.bridge_io.specs.Answer.{and_then}
use Rattle.hls_media.specs.declared.media.MediaSegment.{MediaSegment}
use Rattle.hls_presentation.specs.{Views.source_of, declared.kept.Source.Source as Held}
use Rattle.layer_faults.specs.declared.live.LiveFault.{LiveFault}
use Rattle.layer_faults.specs.declared.live.LiveFault.TheVariants.{Limit}
use Rattle.hls_follow.specs.{declared.state.FollowedTrack.FollowedTrack, Times.TimedSegment, declared.state.Last.Last}
use Rattle.hls_follow.specs.{Faults.{behind, told}, Times.{behind_segment, is_late, time_of, timed_all, timed_from, timed_of, timed_within}}
use Rattle.hls_follow.specs.Times.{unless_late}
use Rattle.hls_follow.proofs.{Gathering.{stop, turn}, Keeping.left_at}

abbrev at : MediaSegment → ℕ → TimedSegment
at s time = record { segment = s; time = time }

-- a segment that isn't late
pub record IsTimed (s : MediaSegment) (time : ℕ) (next : TimedSegment) : Type 0 where
  pub early : is_late (at s time) ≡ false
  pub is : at s time ≡ next

late_by : (s : MediaSegment) (time : ℕ) (fault : LiveFault) (late : Bool) → is_late (at s time) ≡ late → timed_within s time ≡ Err fault
    → (is_late (at s time) ≡ true) × (fault ≡ Limit)
late_by s time fault true late given = (late, (let h : timed_within s time ≡ Err Limit = rw late refl in cc))
late_by s time fault false late given = absurd (let h : timed_within s time ≡ Ok (at s time) = rw late refl in cc)

module _ (former : Option FollowedTrack) (target number : ℕ) (last : Option Last) (s : MediaSegment) (rest : List MediaSegment) (time : ℕ)
    (same : time ≡ time_of former target number s.section last) where
  later : (time : ℕ) → List TimedSegment
  later time = timed_from former target (number + 1) (Some (behind_segment number time s)) rest

  first : timed_from former target number last (s ∷ rest) ≡ at s time ∷ later time
  unfolding later
  first = ap (λ (t : ℕ). at s t ∷ later t) (sym same)

-- ---- one track after another

module _ (formers : List FollowedTrack) (place : ℕ) (kept : List Held) (i : ℕ) (d : Held)
    (within : i < length kept) (at : d ≡ get_or kept i d) (former : Option FollowedTrack) (is : former ≡ slice_get formers place) where
  others : Result (List (List TimedSegment)) LiveFault
  others = timed_all formers (place + 1) (map source_of (drop (i + 1) kept))

  with_others : List TimedSegment → Result (List (List TimedSegment)) LiveFault
  with_others timed = and_then others (λ all. Ok (timed ∷ all))

  next_timed : timed_all formers place (map source_of (drop i kept))
      ≡ and_then (unless_late (timed_of former (source_of d).media)) with_others
  unfolding others with_others
  next_timed =
      ap (λ (kept : List Held). timed_all formers place (map source_of kept)) (left_at kept i d within at)
      ∙ ap (λ (f : Option FollowedTrack). and_then (unless_late (timed_of f (source_of d).media)) with_others) (sym is)

  -- a track more
  pub track_turn : (before : List (List TimedSegment)) (timed : List TimedSegment) (all : Result (List (List TimedSegment)) LiveFault)
      → unless_late (timed_of former (source_of d).media) ≡ Ok timed
      → behind before (timed_all formers place (map source_of (drop i kept))) ≡ all
      → behind (before ++ timed ∷ []) (timed_all formers (place + 1) (map source_of (drop (i + 1) kept))) ≡ all
  unfolding others with_others
  track_turn before timed all given so_far =
      sym (turn before (unless_late (timed_of former (source_of d).media)) (λ _. others) timed given)
      ∙ ap (behind before) (sym next_timed) ∙ so_far

  -- and one that has a late segment
  pub track_stop : (before : List (List TimedSegment)) (all : Result (List (List TimedSegment)) LiveFault) (fault : LiveFault)
      → IfSome (told fault) (λ f. unless_late (timed_of former (source_of d).media) ≡ Err f)
      → behind before (timed_all formers place (map source_of (drop i kept))) ≡ all
      → IfSome (told fault) (λ f. all ≡ Err f)
  track_stop before all fault refused so_far =
      stop before (unless_late (timed_of former (source_of d).media)) with_others all fault refused
      (ap (behind before) (sym next_timed) ∙ so_far)
