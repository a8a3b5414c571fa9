-- The state after a snapshot whose files are read.
use Rattle.std.proofs.Common.{◌≡◌, ℕ, zero, suc, ◌+◌, ◌/◌, ◌^◌, ◌<◌, ◌≤◌, List, [], ◌∷◌, ◌++◌, All, map, length, take, drop, get_or}
use Rattle.std.proofs.Common.{slice_get, Some, refl, sym, ◌∙◌, ap, append_assoc, append-nil, arith, length-drop}
use Rattle.std.proofs.{Math.Nat.{add-div_right, div-eq_of_lt}, lemmas.List.{length-map, get_or-take}}
use Rattle.std.proofs.{lemmas.List.Elements.{All-cons, All-head, All-nil, All-tail}, lemmas.Option.slice_get_read}
use Rattle.hls_media.specs.{Laws.{IsBounded, IsBoundedSegment}, declared.media.MediaSegment.MediaSegment}
use Rattle.hls_presentation.specs.{Tracks.Source, Views.source_of, declared.kept.Source.Source as Held}
use Rattle.hls_presentation.proofs.Grouping.{IsGroup, all_groups}
use Rattle.fragment_times.specs.declared.times.SegmentTimes.{SegmentTimes}
use Rattle.hls_follow.specs.{declared.state.FollowedTrack.FollowedTrack, Kept.AreBounded, Rounds.{followed_track, target_of, tracks_with}}
use Rattle.hls_follow.specs.{Stretches.{known_times, stretches_from, stretches_of_all}, Ticks.IsBoundedStretch}
use Rattle.hls_follow.specs.TimedRounds.{timed_tracks, times_of, times_over, tracks_from}

abbrev Holds : Source → Type 0
Holds s = IsBounded s.media

-- ---- the stretches of bounded playlists

bounded_from : (known : List ℕ) (groups : List (List MediaSegment)) → All (IsGroup IsBoundedSegment) groups
    → All IsBoundedStretch (stretches_from known groups)
bounded_from known [] all = All-nil IsBoundedStretch
bounded_from known (group ∷ groups) all =
    All-cons IsBoundedStretch (record { segments = group; known = take (length group) known })
    (stretches_from (drop (length group) known) groups) (All-head (IsGroup IsBoundedSegment) group groups all).all
    (bounded_from (drop (length group) known) groups (All-tail (IsGroup IsBoundedSegment) group groups all))

pub bounded_stretches : (formers : List FollowedTrack) (place : ℕ) (kept : List Source) → AreBounded kept
    → All (All IsBoundedStretch) (stretches_of_all formers place kept)
bounded_stretches formers place [] are = All-nil (All IsBoundedStretch)
bounded_stretches formers place (s ∷ kept) are =
    All-cons (All IsBoundedStretch) (stretches_from (known_times (slice_get formers place) s.media) _)
    (stretches_of_all formers (place + 1) kept)
    (bounded_from (known_times (slice_get formers place) s.media) _
    (all_groups IsBoundedSegment s.media.segments (All-head Holds s kept are).segments))
    (bounded_stretches formers (place + 1) kept (All-tail Holds s kept are))

pub many_stretches : (formers : List FollowedTrack) (place : ℕ) (kept : List Source)
    → length (stretches_of_all formers place kept) ≡ length kept
many_stretches formers place [] = refl
many_stretches formers place (s ∷ kept) = ap suc (many_stretches formers (place + 1) kept)

-- ---- the times of a track

module _ (count place : ℕ) (rest row later : List SegmentTimes) (own : List ℕ) (x : SegmentTimes) (inside : place < count)
    (front : row ≡ take count rest) (back : later ≡ drop count rest) (whole : count ≤ length rest)
    (is : x ≡ get_or row place x) where
  here : slice_get rest place ≡ Some x
  here = slice_get_read rest (length rest) place x refl (omega arith)
      (is ∙ ap (λ xs. get_or xs place x) front ∙ get_or-take count rest place x inside)

  sections : length rest / count ≡ suc (length later / count)
  sections =
      let some : 0 < count = omega arith in
      let all : length rest ≡ length later + count = omega (arith, length-drop count rest, ap length back) in
      ap (λ n. n / count) all ∙ add-div_right (length later) some ∙ omega arith

  pub times_next : (all : List ℕ) → own ++ times_of count place rest ≡ all
      → (own ++ (get_or row place x).starts) ++ times_of count place later ≡ all
  times_next all so_far =
      let next : times_of count place rest ≡ x.starts ++ times_of count place later = rw (sections, here, back) refl in
      ap (λ (track : SegmentTimes). (own ++ track.starts) ++ times_of count place later) (sym is)
      ∙ append_assoc own x.starts (times_of count place later) ∙ ap (λ ys. own ++ ys) (sym next) ∙ so_far

pub times_end : (count place : ℕ) (rest : List SegmentTimes) (own all : List ℕ) → length rest < count
    → own ++ times_of count place rest ≡ all → own ≡ all
times_end count place rest own all short so_far =
    sym (append-nil own) ∙ ap (λ n. own ++ times_over n count place rest) (sym (div-eq_of_lt short)) ∙ so_far

-- ---- the times of the kept tracks

-- those of so many tracks, from an index of `count` on
abbrev pub times_from : (left count place : ℕ) → List SegmentTimes → List (List ℕ)
times_from zero count place times = []
times_from (suc left) count place times = times_of count place times ∷ times_from left count (place + 1) times

pub times_turn : (left later count place : ℕ) (times : List SegmentTimes) (all whole : List (List ℕ)) (own : List ℕ) → left ≡ suc later
    → own ≡ times_of count place times → all ++ times_from left count place times ≡ whole
    → (all ++ own ∷ []) ++ times_from later count (place + 1) times ≡ whole
times_turn left later count place times all whole own more is so_far =
    let pieces : times_from left count place times ≡ own ∷ times_from later count (place + 1) times = rw (more, is) refl in
    append_assoc all _ _ ∙ ap (λ others. all ++ others) (sym pieces) ∙ so_far

tracks_are : (count place : ℕ) (kept : List Source) (times : List SegmentTimes)
    → tracks_with kept (times_from (length kept) count place times) ≡ tracks_from count place kept times
tracks_are count place [] times = refl
tracks_are count place (s ∷ kept) times =
    ap (λ (tracks : List FollowedTrack). followed_track s (times_of count place times) ∷ tracks) (tracks_are count (place + 1) kept times)

pub times_told : (kept : List Held) (left place : ℕ) (times : List SegmentTimes) (all : List (List ℕ)) → left ≡ 0
    → all ++ times_from left (length kept) place times ≡ times_from (length kept) (length kept) 0 times
    → tracks_with (map source_of kept) all ≡ timed_tracks (map source_of kept) times
times_told kept left place times all none told =
    let sources = map source_of kept in
    let whole = sym (append-nil all) ∙ ap (λ n. all ++ times_from n (length kept) place times) (sym none) ∙ told
    ∙ ap (λ n. times_from n n 0 times) (sym (length-map kept source_of)) in
    ap (tracks_with sources) whole ∙ tracks_are (length sources) 0 sources times

-- ---- numbers

pub target_small : (kept : List Source) → AreBounded kept → target_of kept < 2 ^ 31
target_small [] are = omega arith
target_small (s ∷ kept) are =
    omega (arith, (All-head Holds s kept are).target, target_small kept (All-tail Holds s kept are))
