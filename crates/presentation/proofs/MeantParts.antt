-- The listed segments of a verified presentation are made as they are meant.
use Rattle.std.proofs.Common.{◌≡◌, List, All, Option, None, Some, Ok, IfSome, ◌∙◌, ap}
use Rattle.timeline.specs.{Expansions.{SegmentTimeline, Timing}, Listed.part_of_timing}
use Rattle.presentation.specs.{declared.parts.Content.Content, Presented.{content_at, listed_at}, Laws.HasAddress, Meanings.part_meant}
use Rattle.presentation.specs.MeaningLaws.{VerifiedAreMeant}
use Rattle.presentation.proofs.{Addressed.all_addressed, Allowed.none_unaddressed, Meant.made_are_meant}

abbrev IsMeant : SegmentTimeline → Timing → Type 0
IsMeant timeline x = part_of_timing timeline x ≡ Ok (part_meant timeline x)

module _ (timeline : SegmentTimeline) where
  is_meant : (x : Timing) → HasAddress timeline x → IsMeant timeline x
  is_meant x has = has.1 ∙ ap Ok (made_are_meant timeline x has.0 has.1)

  all_meant : (xs : List Timing) → All (HasAddress timeline) xs → All (IsMeant timeline) xs
  all_meant xs all k d within = is_meant _ (all k d within)

meant_in : (o : Option Content) (xs : List Timing) → IfSome o (λ content. All (HasAddress content.runs) xs)
    → IfSome o (λ content. All (IsMeant content.runs) xs)
meant_in None xs has = tt
meant_in (Some content) xs has = all_meant content.runs xs has

pub verified_are_meant : VerifiedAreMeant
verified_are_meant p unit s t longest is in_sections in_tracks =
    meant_in (content_at p s t) (listed_at p s t) (all_addressed p s t (none_unaddressed p unit longest is) in_sections in_tracks)
