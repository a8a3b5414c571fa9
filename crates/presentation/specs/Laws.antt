-- What results of `count` and `verify` allow.
use Rattle.std.specs.Prelude.{◌≡◌, ℕ, ◌<◌, List, length, All, IfSome, slice_get, Some, Ok}
use Rattle.url_parts.specs.declared.address.Part.{Part}
use Rattle.timeline.specs.{Expansions.{SegmentTimeline, Timing}, Listed.part_of_timing}
use Rattle.presentation.specs.{Presented.{Presented, content_at, listed_at}, Counting.{counted, range_faults, unless_any}}
use Rattle.presentation.specs.{Printing.{IsCounted, printed_timings}, Verifying.{longest_of, verified}}

-- where `count` succeeds, each track's segments may be listed in each section
abbrev pub CountedAreListed : Type 0
CountedAreListed = (p : Presented) (n s t : ℕ) → counted p ≡ Ok n → s < length p.sections → t < length p.tracks → IsCounted p s t

-- where `check_ends` succeeds, each track's segments may be listed in each section
abbrev pub EndsAreCounted : Type 0
EndsAreCounted = (p : Presented) (done : Unit {0}) (s t : ℕ) → unless_any (range_faults p) tt ≡ Ok done → s < length p.sections
    → t < length p.tracks → IsCounted p s t

-- where `verify` succeeds, so does `count`
abbrev pub VerifiedAreCounted : Type 0
VerifiedAreCounted = (p : Presented) (unit s t : ℕ) (longest : List ℕ) → verified p unit ≡ Ok longest → s < length p.sections
    → t < length p.tracks → IsCounted p s t

-- the longest durations are those of the tracks
abbrev pub EachHasLongest : Type 0
EachHasLongest = (p : Presented) (unit t : ℕ) (longest : List ℕ) → verified p unit ≡ Ok longest → t < length p.tracks
    → slice_get longest t ≡ Some (longest_of p unit t)

-- a segment has a URL
abbrev pub HasAddress : SegmentTimeline → Timing → Type 0
HasAddress timeline x = (part : Part) × (part_of_timing timeline x ≡ Ok part)

-- each listed segment has a URL
abbrev pub VerifiedHaveAddresses : Type 0
VerifiedHaveAddresses = (p : Presented) (unit s t : ℕ) (longest : List ℕ) → verified p unit ≡ Ok longest → s < length p.sections
    → t < length p.tracks
    → IfSome (content_at p s t) (λ content. All (λ x. HasAddress content.runs x.times) (printed_timings unit (listed_at p s t)))
