-- Laws of the meanings of presentations.
use Rattle.std.specs.Prelude.{◌≡◌, ℕ, ◌<◌, true, List, length, map, All, Ok, IfSome}
use Rattle.url_parts.specs.declared.address.Part.{Part}
use Rattle.timeline.specs.{Expansions.{SegmentTimeline, Timing}, Listed.part_of_timing}
use Rattle.presentation.specs.{Presented.{Presented, content_at, listed_at, is_finished}, Counting.counted, Verifying.verified}
use Rattle.presentation.specs.Meanings.{part_meant, head_of, rows_of, meaning_over, meaning_of}

-- a segment that is made is the one that is meant
abbrev pub MadeAreMeant : Type 0
MadeAreMeant = (timeline : SegmentTimeline) (x : Timing) (part : Part) → part_of_timing timeline x ≡ Ok part → part ≡ part_meant timeline x

-- each listed segment of a verified presentation is made as the one that is meant
abbrev pub VerifiedAreMeant : Type 0
VerifiedAreMeant = (p : Presented) (unit s t : ℕ) (longest : List ℕ) → verified p unit ≡ Ok longest → s < length p.sections
    → t < length p.tracks
    → IfSome (content_at p s t) (λ content. All (λ x. part_of_timing content.runs x ≡ Ok (part_meant content.runs x)) (listed_at p s t))

-- a VOD presentation for which `count` succeeds has content of each track in each section
abbrev pub FinishedAreWhole : Type 0
FinishedAreWhole = (p : Presented) (n : ℕ) → is_finished p ≡ true → counted p ≡ Ok n → 0 < length p.tracks
    → meaning_of p ≡ meaning_over (map head_of p.tracks) (rows_of p)
