-- What spans give, and what their faults are.
use Rattle.std.proofs.Common.{◌≡◌, ℕ, List, [], ◌∷◌, map, Result, Err, refl, sym, ◌∙◌, ap}
use Rattle.bridge_io.specs.Answer.{Gives}
use Rattle.std.specs.List.{list_any}
use Rattle.timeline.specs.{declared.entry.Scale.Scale, declared.fault.TimeFault.TimeFault, declared.fault.TimeFault.TheVariants.ListLength}
use Rattle.timeline.specs.declared.fault.TimeFault.TheVariants.{Memory, NoEnd, Range, Step, TimeWithoutTimeline, ZeroDuration}
use Rattle.timeline.specs.{declared.names.Names.TheVariants.Addresses, declared.span.Span.Span, Durations.{expansion_of_list, extent_of}}
use Rattle.timeline.specs.{Expansions.{Closed, Extent, SegmentTimeline}, Faults.{lasts_no_time, refusal as time_refusal}}
use Rattle.timeline.specs.SegmentTimelines.{timeline_of_spans}
use Rattle.url_parts.specs.declared.address.Part.{Part}
use Rattle.hls_presentation.specs.Presenting.{fault_of_times, refusal, timed, timeline_of_extents}

members : (spans : List Span) → expansion_of_list spans ≡ map Closed (map extent_of spans)
members [] = refl
members (span ∷ spans) = ap (λ later. Closed (extent_of span) ∷ later) (members spans)

lasting : (spans : List Span) → list_any (λ span. lasts_no_time (extent_of span)) spans ≡ list_any lasts_no_time (map extent_of spans)
lasting [] = refl
lasting (span ∷ spans) = rw (lasting spans) refl

pub spans_told : (spans : List Span) (scale : Scale) (parts : List Part) (ticks : ℕ) (xs : List Extent) → map extent_of spans ≡ xs
    → scale.ticks ≡ ticks → scale.offset ≡ 0 → scale.start_number ≡ 1
    → timeline_of_spans spans scale (Addresses parts) ≡ timeline_of_extents ticks parts xs
spans_told spans scale parts ticks xs is same offset first = rw (lasting spans, members spans, is, same, offset, first) refl

-- a fault of times is none of memory, or tells nothing
pub times_told : (fault : TimeFault) (told meant : Result SegmentTimeline TimeFault) → told ≡ meant
    → Gives (λ (runs : SegmentTimeline). runs) time_refusal (Err fault) told
    → Gives (λ (runs : SegmentTimeline). runs) refusal (Err (fault_of_times fault)) (timed meant)
times_told ZeroDuration told meant same is = ap timed (sym same ∙ is)
times_told Range told meant same is = ap timed (sym same ∙ is)
times_told NoEnd told meant same is = ap timed (sym same ∙ is)
times_told Step told meant same is = ap timed (sym same ∙ is)
times_told ListLength told meant same is = ap timed (sym same ∙ is)
times_told TimeWithoutTimeline told meant same is = ap timed (sym same ∙ is)
times_told Memory told meant same is = tt
