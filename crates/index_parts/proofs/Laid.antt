-- Segments one behind another.
use Rattle.std.proofs.Common.{◌≡◌, ℕ, List, [], ◌∷◌, map, refl, ap}
use Rattle.std.specs.List.{list_any}
use Rattle.timeline.specs.{declared.entry.Scale.Scale, declared.names.Names.TheVariants.Addresses, declared.span.Span.Span}
use Rattle.timeline.specs.{Durations.{expansion_of_list, extent_of}, Expansions.{Closed, Extent}, Faults.lasts_no_time}
use Rattle.timeline.specs.SegmentTimelines.{timeline_of_spans}
use Rattle.url_parts.specs.declared.address.Part.{Part}
use Rattle.index_parts.specs.Segments.{timeline_of}

members : (spans : List Span) → expansion_of_list spans ≡ map Closed (map extent_of spans)
members [] = refl
members (span ∷ spans) = ap (λ later. Closed (extent_of span) ∷ later) (members spans)

lasting : (spans : List Span) → list_any (λ span. lasts_no_time (extent_of span)) spans ≡ list_any lasts_no_time (map extent_of spans)
lasting [] = refl
lasting (span ∷ spans) = rw (lasting spans) refl

pub spans_told : (spans : List Span) (scale : Scale) (parts : List Part) (ticks : ℕ) (xs : List Extent) → map extent_of spans ≡ xs
    → scale.ticks ≡ ticks → scale.offset ≡ 0 → scale.start_number ≡ 1
    → timeline_of_spans spans scale (Addresses parts) ≡ timeline_of ticks parts xs
spans_told spans scale parts ticks xs is same offset first = rw (lasting spans, members spans, is, same, offset, first) refl
