-- When a media playlist is a valid update of an older one: seven rules after RFC 8216 6.2.
use Rattle.std.specs.Prelude.{ℕ, ◌+◌, ◌-◌, ◌*◌, ◌^◌, ◌==◌, ◌&&◌, ◌||◌, not, nat_lt, nat_eq, Bool, true, false, List, [], ◌∷◌, length, drop}
use Rattle.std.specs.{Prelude.{sum_by, bytes_eq, if◌then◌else◌, Option, Some, None, option_map, Result, Ok, Err}, Option.option_eq}
use Rattle.url_parts.specs.{declared.address.Part.Part, declared.range.Range.Range}
use Rattle.hls_media.specs.{declared.media.Media.Media, declared.media.MediaSegment.MediaSegment}
use Rattle.reload_law.specs.{declared.unlawful.Unlawful.Unlawful, declared.unlawful.Unlawful.TheVariants.{Target, Sequence, Segment}}
use Rattle.reload_law.specs.declared.unlawful.Unlawful.TheVariants.{Discontinuity, Shrunk, AfterEnd, ThreeTargets}

-- ---- segments

abbrev pub same_range : Range → Range → Bool
same_range a b = a.first == b.first && a.count == b.count

abbrev pub same_part : Part → Part → Bool
same_part a b = bytes_eq a.address b.address && option_eq same_range a.range b.range

-- URL, byte range, duration and map are the same
abbrev pub same_segment : MediaSegment → MediaSegment → Bool
same_segment a b = bytes_eq a.address b.address && option_eq same_range a.range b.range && a.duration == b.duration
    && option_eq same_part a.map b.map

abbrev pub same_section : MediaSegment → MediaSegment → Bool
same_section a b = a.section == b.section

-- the number of the first two segments that differ, in lists whose first segments have a given number
abbrev pub first_other : (MediaSegment → MediaSegment → Bool) → ℕ → List MediaSegment → List MediaSegment → Option ℕ
first_other same number [] news = None
first_other same number (old ∷ olds) [] = None
first_other same number (old ∷ olds) (new ∷ news) = if same old new then first_other same (number + 1) olds news else Some number

-- the first of two
abbrev pub or_else : {X : Type 0} → Option X → Option X → Option X
or_else (Some x) later = Some x
or_else None later = later

-- ---- playlists

-- the number after the last segment's
abbrev pub end_of : Media → ℕ
end_of media = media.sequence + length media.segments

-- the segments from a number on
abbrev pub segments_from : ℕ → Media → List MediaSegment
segments_from number media = drop (number - media.sequence) media.segments

-- the first number in both at which they differ
abbrev pub first_differing : (MediaSegment → MediaSegment → Bool) → Media → Media → Option ℕ
first_differing same old new = first_other same new.sequence (segments_from new.sequence old) new.segments

abbrev pub nanos_of : Media → ℕ
nanos_of media = sum_by (λ segment. segment.duration) media.segments

abbrev pub broken_if : Bool → Unlawful → Option Unlawful
broken_if true rule = Some rule
broken_if false rule = None

-- the first rule that is broken
abbrev pub first_broken : List (Option Unlawful) → Result (Unit {0}) Unlawful
first_broken [] = Ok tt
first_broken (None ∷ rules) = first_broken rules
first_broken (Some rule ∷ rules) = Err rule

-- ---- the rules, in their order

abbrev pub target_rule : Media → Media → Option Unlawful
target_rule old new = broken_if (not (old.target == new.target)) Target

abbrev pub sequence_rule : Media → Media → Option Unlawful
sequence_rule old new = broken_if (nat_lt new.sequence old.sequence) Sequence

abbrev pub segment_rule : Media → Media → Option Unlawful
segment_rule old new = option_map Segment (first_differing same_segment old new)

abbrev pub discontinuity_rule : Media → Media → Option Unlawful
discontinuity_rule old new = option_map Discontinuity (first_differing same_section old new)

abbrev pub end_rule : Media → Media → Option Unlawful
end_rule old new = broken_if (nat_lt (end_of new) (end_of old)) Shrunk

abbrev pub ended_rule : Media → Media → Option Unlawful
ended_rule old new = broken_if (old.ended && (not new.ended || not (end_of new == end_of old))) AfterEnd

abbrev pub length_rule : Media → Media → Option Unlawful
length_rule old new = broken_if (not new.ended && nat_lt old.sequence new.sequence && nat_lt (nanos_of new)
    (3 * 10 ^ 9 * new.target)) ThreeTargets

-- the same for two lists of segments, the first of which have a given number
abbrev pub compared : List MediaSegment → List MediaSegment → ℕ → Result (Unit {0}) Unlawful
compared olds news first = first_broken (option_map Segment (first_other same_segment first olds news)
    ∷ option_map Discontinuity (first_other same_section first olds news) ∷ [])

abbrev pub ends_judged : Media → Media → Result (Unit {0}) Unlawful
ends_judged old new = first_broken (end_rule old new ∷ ended_rule old new ∷ [])

abbrev pub length_judged : Media → Media → Result (Unit {0}) Unlawful
length_judged old new = first_broken (length_rule old new ∷ [])

abbrev pub rules_of : Media → Media → List (Option Unlawful)
rules_of old new = target_rule old new ∷ sequence_rule old new ∷ segment_rule old new ∷ discontinuity_rule old new ∷ end_rule old new
    ∷ ended_rule old new ∷ length_rule old new ∷ []

-- The new playlist is a valid update of the old one, or the first rule that is broken.
unfoldable pub lawful : Media → Media → Result (Unit {0}) Unlawful
lawful old new = first_broken (rules_of old new)
