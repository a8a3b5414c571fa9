use Rattle.timeline.proofs.laws.closed_ends.Goals as goal
use Rattle.std.proofs.{Common.{◌≡◌, ℕ, Bool, true, false, not, ◌&&◌, List, ◌∷◌, pos, sym, ap, ◌∙◌, refl, [], arith}, lemmas.Bool.true≢false}
use Rattle.std.proofs.{lemmas.Bool.false_from_ne_true, lemmas.Bool.Decides.nat_tests}
use Rattle.std.specs.Prelude.{Option, Some, None, is_none}
use Rattle.timeline.specs.{Names.count_of, declared.entry.End.End, declared.entry.End.TheVariants.{At, Unbounded}}
use Rattle.timeline.specs.{declared.fault.TimeFault.TheVariants.{NoEnd, ListLength}, declared.span.Span.Span, Ratios.steps_to_cover}
use Rattle.timeline.specs.{Durations.{extents_by, cut_by, expansion_of_list}, Expansions.{Member, SegmentTimeline, is_open}}
use Rattle.timeline.specs.{Faults.{are_paired, ends_open, is_unbounded, lacks_end, members_by}, Timelines.expansion_of_timeline}
use Rattle.exact_time.specs.Time.{in_units, nanoseconds}
use Rattle.timeline.proofs.OpenEnds.{closed_not_open, entries_open, no_fault, no_faults, none_reaches, unless}

both : (live unbounded ends : Bool) (names : Option ℕ) (members : List Member) → (not live && unbounded && ends) ≡ false
    → not (are_paired names members) ≡ false →
    (live && unbounded && is_none names) ≡ false → unbounded ≡ true → ends ≡ true → is_open members ≡ true → ⊥
both live unbounded ends names members ended paired few is_unbounded is_ends some = grind (arith, nat_tests)

pub returns-clause-timelines : goal.returns-clause-timelines
returns-clause-timelines c entries end live scale names timeline made few =
    let split = no_fault _ _ timeline made in
    let ended = no_faults _ _ (no_faults _ _ split.0).1 in
    let judged = no_faults _ _ ended.1 in
    let members : expansion_of_timeline scale end entries ≡ timeline.members = ap (λ (t : SegmentTimeline). t.members) split.1 in
    false_from_ne_true (is_open timeline.members) (λ some.
    let opened = entries_open scale end 0 entries (ap is_open members ∙ some) in
    both live (is_unbounded end) (ends_open entries) (count_of names) (expansion_of_timeline scale end entries) (unless _ NoEnd ended.0)
    (unless _ ListLength judged.1) few opened.0 opened.1 (ap is_open members ∙ some))

durations_end : (ticks duration : ℕ) (end : End) (live : Bool) (names : Option ℕ) → lacks_end live end names ≡ false
    → (live && is_unbounded end && is_none names) ≡ false → is_open (members_by ticks end duration names) ≡ false
durations_end ticks duration Unbounded live None lacks few = grind (arith, nat_tests)
durations_end ticks duration (At length) live None lacks few =
    closed_not_open (cut_by (At length) (extents_by ticks duration 0 (steps_to_cover (nanoseconds (pos length)) (in_units ticks duration))))
durations_end ticks duration end live (Some count) lacks few = closed_not_open (cut_by end (extents_by ticks duration 0 count))

pub returns-clause-durations : goal.returns-clause-durations
returns-clause-durations c duration end live scale names timeline made few =
    let split = no_fault _ _ timeline made in
    let ended = no_faults _ _ (no_faults _ _ (no_faults _ _ split.0).1).1 in
    cc (split.1, durations_end scale.ticks duration end live (count_of names) (unless _ NoEnd ended.0) few)

lists_end : (spans : List Span) → is_open (expansion_of_list spans) ≡ false
lists_end [] = refl
lists_end (span ∷ spans) = lists_end spans

pub returns-clause-lists : goal.returns-clause-lists
returns-clause-lists c spans scale names timeline made =
    let split = no_fault _ _ timeline made in
    ap (λ (t : SegmentTimeline). is_open t.members) (sym split.1) ∙ lists_end spans

pub returns-clause-reached : goal.returns-clause-reached
returns-clause-reached c timeline window closed = (
  λ some. absurd (true≢false (sym some ∙ closed)),
  none_reaches timeline window timeline.members closed,
)
