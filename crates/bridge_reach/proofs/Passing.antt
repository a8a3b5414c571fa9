-- Segments that are passed on the way to one, and where that one lies.
use Rattle.std.proofs.Common.{◌≡◌, ◌+◌, ℕ, zero, suc, List, [], ◌∷◌, All, Option, Some, None, IfSome, drop, refl, ap, ◌∙◌}
use Rattle.std.proofs.{lemmas.List.drop-drop, lemmas.List.Elements.All-tail}
use Rattle.std.specs.{Option.{option_and_then, option_map_or}, Prelude.{MatchOption, slice_get}}
use Rattle.timeline.specs.{declared.span.Span.Span, Expansions.{SegmentTimeline, Timing}, Listed.{IsDone, IsPassed, Rest, timing_of}}
use Rattle.url_parts.specs.declared.address.Part.{Part}
use Rattle.fragment_times.specs.{Times.{IsTimelineAt, parts_of}, declared.fault.SegmentSpot.SegmentSpot}
use Rattle.presentation.specs.{declared.parts.Content.Content, Laws.HasAddress, Presented.{Presented, content_at, listed_at, listed_in}}
use Rattle.presentation.specs.Presented.{window_of}
use Rattle.bridge_reach.specs.FileTimes.{listed_part}

module _ (old new : Rest) where
  abbrev Passes : Option Span → Type 0
  Passes told = MatchOption told (IsDone old new) (λ span. IsPassed old (timing_of span) new)

  one_less : (told : Option Span) → Passes told → parts_of new.timeline new.left ≡ drop 1 (parts_of old.timeline old.left)
  one_less None done = rw (done.same, done.none) refl
  one_less (Some span) passed = rw (passed.next, passed.timeline) refl

  -- behind one more of some parts
  pub passes : (told : Option Span) → Passes told → (k : ℕ) (parts : List Part) → parts_of old.timeline old.left ≡ drop k parts
      → parts_of new.timeline new.left ≡ drop (k + 1) parts
  passes told is k parts so_far = one_less told is ∙ ap (drop 1) so_far ∙ drop-drop 1 k parts

  pub still_addressed : (told : Option Span) → Passes told → All (HasAddress old.timeline) old.left → All (HasAddress new.timeline) new.left
  still_addressed None done all = rw done.same all
  still_addressed (Some span) passed all =
      rw passed.timeline (All-tail (HasAddress old.timeline) (timing_of span) new.left (rw passed.next at all))

pub first_behind : {X : Type 0} (k : ℕ) (xs : List X) → slice_get (drop k xs) 0 ≡ slice_get xs k
first_behind zero xs = refl
first_behind (suc k) [] = refl
first_behind (suc k) (x ∷ xs) = first_behind k xs

-- ---- of a track in a section

by_content : (p : Presented) (s k : ℕ) (o : Option Content) (timeline : SegmentTimeline) (left : List Timing)
    → IfSome o (λ content. timeline ≡ content.runs) → left ≡ option_map_or (λ (content : Content). listed_in
    (window_of p s) content.runs) o []
    → slice_get (parts_of timeline left) k ≡ option_and_then (λ (content : Content). slice_get (parts_of content.runs left) k) o
by_content p s k None timeline left is same = rw same refl
by_content p s k (Some content) timeline left is same = ap (λ timeline. slice_get (parts_of timeline left) k) is

pub part_is : (p : Presented) (spot : SegmentSpot) (timeline : SegmentTimeline) (left : List Timing)
    → IsTimelineAt p spot.section spot.track timeline → left ≡ listed_at p spot.section spot.track
    → slice_get (parts_of timeline left) spot.segment ≡ listed_part p spot
part_is p spot timeline left is same =
    rw same (by_content p spot.section spot.segment (content_at p spot.section spot.track) timeline
    (listed_at p spot.section spot.track) is refl)
