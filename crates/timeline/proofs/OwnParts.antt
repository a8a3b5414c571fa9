-- Segments whose names are addresses already.
use Rattle.std.proofs.Common.{◌≡◌, ℕ, zero, suc, ◌+◌, ◌-◌, ◌<◌, ◌≤◌, false, not, List, ◌∷◌, get_or, length, pos, refl, ◌∙◌, ap, inl, []}
use Rattle.std.proofs.{Common.{inr, arith, ◌*◌, true, cond, map, drop}, lemmas.Bool.Decides.nat_tests, lemmas.List.length-map}
use Rattle.std.proofs.lemmas.Option.{slice_get_cases, slice_get-map}
use Rattle.std.proofs.lemmas.List.Elements.{All-nil, All-cons, All-drop, All-filter, All-get_or, All-from_recursion}
use Rattle.std.specs.Prelude.{All, IfSome, IsSome, MatchOption, Option, Some, None, Result, Ok, Err, slice_get, unwrap_or}
use Rattle.std.specs.List.{AllByRecursion}
use Rattle.exact_time.specs.Time.{Time, nanoseconds, at_most}
use Rattle.url_parts.specs.{Addresses.IsAddress, declared.address.Part.Part}
use Rattle.url_parts.proofs.Parsed.{given_again}
use Rattle.timeline.specs.{declared.entry.End.End, declared.entry.End.TheVariants.{At, Unbounded}, declared.fault.ListFault.ListFault}
use Rattle.timeline.specs.{declared.fault.ListFault.TheVariants.{Url, Memory}, declared.names.Names.TheVariants.Addresses}
use Rattle.timeline.specs.{declared.entry.Scale.Scale, declared.span.Span.Span}
use Rattle.timeline.specs.Durations.{cut_at, cut_by, extents_by, expansion_of_names, expansion_of_list}
use Rattle.timeline.specs.Expansions.{Extent, Member, Closed, Short, Endless, SegmentTimeline, Timing, extents, is_open, numbered}
use Rattle.timeline.specs.{Expansions.{ended_by, repeat_of, repeated}, Faults.{are_paired, members_by}}
use Rattle.timeline.specs.{Listed.{expansion, instant_of, is_listed, part_of_timing}, Names.list_refusal}
use Rattle.timeline.specs.OwnParts.{AreGivenAgain, AreNumbered, HasPart, HaveParts, OnlyMemoryHolds, PartsAreMade, reference_to}
use Rattle.timeline.specs.Starts.{StartInTicks}
use Rattle.timeline.specs.Timelines.{Reach, Counted, UpTo, Unending, Nowhere, count_of, count_up_to, extent_from, members_from}
use Rattle.timeline.specs.Timelines.{members_of, reach_of}
use Rattle.mpd_entries.specs.declared.entry.SEntry.{SEntry}
use Rattle.timeline.proofs.{OpenEnds.closed_not_open, KeptLemmas.all_append}

-- ---- the numbers

number_at : (first : ℕ) (xs : List Extent) (k : ℕ) → IfSome (slice_get (numbered first xs) k) (λ x. x.number ≡ first + k)
number_at first [] k = tt
number_at first (x ∷ xs) zero = omega arith
number_at first (x ∷ xs) (suc k) =
    let next : first + suc k ≡ first + 1 + k = omega arith in rw next (number_at (first + 1) xs k)

pub are_numbered : AreNumbered
are_numbered timeline window k = number_at timeline.first_number (extents (instant_of window) timeline.members) k

in_range : (low high first : ℕ) (xs : List Extent) → low ≤ first → first + length xs ≤ high
    → All (λ x. (low ≤ x.number) × (x.number < high)) (numbered first xs)
in_range low high first [] above below = All-nil (λ (x : Timing). (low ≤ x.number) × (x.number < high))
in_range low high first (x ∷ xs) above below =
    All-cons (λ (y : Timing). (low ≤ y.number) × (y.number < high)) (record { start = x.start; end = x.end; number = first }) _
    (omega arith, omega arith) (in_range low high (first + 1) xs (omega arith) (omega arith))

length-extents : (instant : Time) (members : List Member) → is_open members ≡ false → length (extents instant members) ≤ length members
length-extents instant [] none = omega arith
length-extents instant (Closed x ∷ later) none = omega (arith, length-extents instant later none)
length-extents instant (Short x ∷ later) none = omega (arith, length-extents instant later none)
length-extents instant (Endless x ∷ later) none = cc

-- ---- each has its part

has_part : (timeline : SegmentTimeline) (parts : List Part) (x : Timing) → timeline.names ≡ Addresses parts
    → x.number - timeline.first_number < length parts → HasPart timeline parts x
has_part timeline parts x names within = elim (slice_get_cases parts (x.number - timeline.first_number)).1 [
  | inl there ↦ rw (names, there.2) refl
  | inr past ↦ absurd (omega (arith, past.0))
]

pub have_parts : (timeline : SegmentTimeline) (parts : List Part) → timeline.names ≡ Addresses parts
    → (is_open timeline.members ≡ false) × (length timeline.members ≡ length parts) → HaveParts timeline parts
have_parts timeline parts names closed window place =
    let first = timeline.first_number in
    let xs = extents (instant_of window) timeline.members in
    let few = length-extents (instant_of window) timeline.members closed.0 in
    let range = in_range first (first + length parts) first xs (omega arith) (omega (arith, few, closed.1)) in
    All-filter (is_listed window) (HasPart timeline parts) _ (All-drop (HasPart timeline parts) place (expansion timeline window) (
    λ k d within. let at = range k d within in
    has_part timeline parts (get_or (expansion timeline window) k d) names (omega (arith, at.0, at.1))))

pub paired : (count : ℕ) (members : List Member) → not (are_paired (Some count) members) ≡ false
    → (is_open members ≡ false) × (length members ≡ count)
paired count members same = grind (arith, nat_tests)

-- ---- as many as a duration's names

length-cut : (bound : Time) (xs : List Extent) → length (cut_at bound xs) ≡ length xs
length-cut bound [] = refl
length-cut bound (x ∷ []) = refl
length-cut bound (x ∷ y ∷ ys) = ap suc (length-cut bound (y ∷ ys))

length-cut_by : (end : End) (xs : List Extent) → length (cut_by end xs) ≡ length xs
length-cut_by Unbounded xs = refl
length-cut_by (At length) xs = length-cut (nanoseconds (pos length)) xs

length-extents_by : (ticks duration k count : ℕ) → length (extents_by ticks duration k count) ≡ count
unfolding extents_by
length-extents_by ticks duration k zero = refl
length-extents_by ticks duration k (suc count) = ap suc (length-extents_by ticks duration (k + 1) count)

pub names_paired : (ticks : ℕ) (end : End) (duration count : ℕ) → (is_open (expansion_of_names ticks end duration count) ≡ false)
    × (length (expansion_of_names ticks end duration count) ≡ count)
names_paired ticks end duration count =
    let xs = cut_by end (extents_by ticks duration 0 count) in (
      closed_not_open xs,
      length-map {B = Member} xs (λ (x : Extent). Closed x) ∙ length-cut_by end (extents_by ticks duration 0 count)
          ∙ length-extents_by ticks duration 0 count,
    )

-- ---- what a listing makes

same_part : (own : Option Part) (named : Result Part ListFault) (part : Part) → MatchOption own ⊥ (λ p. named ≡ Ok p) → named ≡ Ok part
    → own ≡ Some part
same_part own named part has is = grind arith

no_refusal : (own : Option Part) (named : Result Part ListFault) (fault : ListFault) → MatchOption own ⊥ (λ p. named ≡ Ok p)
    → named ≡ Err fault → ⊥
no_refusal own named fault has is = grind arith

first_has : (timeline : SegmentTimeline) (parts : List Part) (x : Timing) (xs : List Timing) → All (HasPart timeline parts) (x ∷ xs)
    → HasPart timeline parts x
first_has timeline parts x xs all = All-get_or (HasPart timeline parts) (x ∷ xs) 0 x (omega arith) all

pub parts_are_made : PartsAreMade
parts_are_made old new parts made all is =
    same_part _ _ made.part (first_has old.timeline parts made.times new.left (rw is.next at all)) is.part

held : (timeline : SegmentTimeline) (parts : List Part) (left : List Timing) (fault : ListFault) → All (HasPart timeline parts) left
    → IsSome (slice_get left 0) →
    IfSome (list_refusal fault) (λ f. IfSome (slice_get left 0) (λ x. part_of_timing timeline x ≡ Err f)) → fault ≡ Memory
held timeline parts left Memory all some refused = refl
held timeline parts [] (Url fault) all some refused = cc
held timeline parts (x ∷ xs) (Url fault) all some refused = absurd (no_refusal _ _ (Url fault) (first_has timeline parts x xs all) refused)

pub only_memory_holds : OnlyMemoryHolds
only_memory_holds old new parts fault all is = held old.timeline parts old.left fault all is.some is.refused

-- ---- references to addresses

pub are_given_again : AreGivenAgain
are_given_again parts base place number time all within = elim (slice_get_cases parts place).1 [
  | inl there ↦
      let at = All-get_or (λ (part : Part). IsAddress part.address) parts place there.0 within all in
      let address : IsAddress there.0.address = rw there.3 at at in
      rw (slice_get-map reference_to parts place, there.2, given_again there.0.address address base) refl
  | inr past ↦ absurd (omega (arith, past.0))
]

-- ---- segments begin at whole ticks of their timeline

abbrev Starts : ℕ → Extent → Type 0
Starts ticks x = x.start.scale ≡ ticks

-- segments that go on begin where others end
abbrev pub Begins : ℕ → Member → Type 0
Begins ticks (Closed x) = Starts ticks x
Begins ticks (Short x) = Unit {0}
Begins ticks (Endless x) = Starts ticks x × (x.end.scale ≡ ticks)

-- ---- the listed segments

module _ (ticks : ℕ) where
  repeated_start : (count : ℕ) (x : Extent) → Starts ticks x → x.end.scale ≡ ticks → AllByRecursion (Starts ticks) (repeated count x)
  unfolding repeated
  repeated_start zero x start end = tt
  repeated_start (suc count) x start end = (start, repeated_start count (repeat_of x) end end)

  extents_start : (instant : Time) (members : List Member) → AllByRecursion (Begins ticks) members →
      AllByRecursion (Starts ticks) (extents instant members)
  extents_start instant [] begin = tt
  extents_start instant (Closed x ∷ later) (here, begin) = (here, extents_start instant later begin)
  extents_start instant (Short x ∷ later) (here, begin) = extents_start instant later begin
  extents_start instant (Endless x ∷ later) (here, begin) =
      all_append (Starts ticks) (repeated (ended_by instant x) x) (extents instant later)
      (repeated_start (ended_by instant x) x here.0 here.1) (extents_start instant later begin)

  numbered_start : (number : ℕ) (xs : List Extent) → AllByRecursion (Starts ticks) xs →
      AllByRecursion (λ (x : Timing). x.start.scale ≡ ticks) (numbered number xs)
  numbered_start number [] start = tt
  numbered_start number (x ∷ xs) (here, start) = (here, numbered_start (number + 1) xs start)

pub listed_start : (timeline : SegmentTimeline) → AllByRecursion (Begins timeline.ticks) timeline.members → StartInTicks timeline
listed_start timeline begin place window =
    let starts : Timing → Type 0 = λ x. x.start.scale ≡ timeline.ticks in
    All-filter (is_listed window) starts (drop place (expansion timeline window))
    (All-drop starts place (expansion timeline window) (All-from_recursion starts (expansion timeline window)
    (numbered_start timeline.ticks timeline.first_number (extents (instant_of window) timeline.members)
    (extents_start timeline.ticks (instant_of window) timeline.members begin))))

-- ---- the members

module _ (ticks : ℕ) where
  closed_begin : (xs : List Extent) → AllByRecursion (Starts ticks) xs → AllByRecursion (Begins ticks) (map Closed xs)
  closed_begin [] start = tt
  closed_begin (x ∷ xs) (here, start) = (here, closed_begin xs start)

  cut_start : (bound : Time) (xs : List Extent) → AllByRecursion (Starts ticks) xs → AllByRecursion (Starts ticks) (cut_at bound xs)
  cut_start bound [] start = tt
  cut_start bound (x ∷ []) start = start
  cut_start bound (x ∷ y ∷ ys) (here, start) = (here, cut_start bound (y ∷ ys) start)

  counted_start : (duration k count : ℕ) → AllByRecursion (Starts ticks) (extents_by ticks duration k count)
  unfolding extents_by
  counted_start duration k zero = tt
  counted_start duration k (suc count) = (refl, counted_start duration (k + 1) count)

  names_begin : (end : End) (duration count : ℕ) → AllByRecursion (Begins ticks) (expansion_of_names ticks end duration count)
  names_begin Unbounded duration count = closed_begin (extents_by ticks duration 0 count) (counted_start duration 0 count)
  names_begin (At length) duration count = closed_begin (cut_at (nanoseconds (pos length)) _)
      (cut_start (nanoseconds (pos length)) (extents_by ticks duration 0 count) (counted_start duration 0 count))

  pub durations_begin : (end : End) (duration : ℕ) (names : Option ℕ) → AllByRecursion (Begins ticks) (members_by ticks end duration names)
  durations_begin Unbounded duration None = ((refl, refl), tt)
  durations_begin (At length) duration None = names_begin (At length) duration _
  durations_begin end duration (Some count) = names_begin end duration count

  pub lists_begin : (spans : List Span) → AllByRecursion (λ (span : Span). span.start.scale ≡ ticks) spans →
      AllByRecursion (Begins ticks) (expansion_of_list spans)
  lists_begin [] start = tt
  lists_begin (span ∷ spans) (here, start) = (here, lists_begin spans start)

  reach_begin : (reach : Reach) (x : Extent) → Starts ticks x → x.end.scale ≡ ticks → AllByRecursion (Begins ticks) (members_of reach x)
  reach_begin (Counted count) x start end = closed_begin (repeated count x) (repeated_start ticks count x start end)
  reach_begin (UpTo bound) x start end =
      let xs = repeated (count_up_to bound x) x in
      elim (at_most bound x.start) as (λ b. AllByRecursion (Begins ticks) (cond b (Short x ∷ []) (map Closed xs)))
      [ true ↦ (tt, tt) | false ↦ closed_begin _ (repeated_start ticks (count_up_to bound x) x start end) ]
  reach_begin Unending x start end = ((start, end), tt)
  reach_begin Nowhere x start end = (tt, tt)

pub entries_begin : (scale : Scale) (end : End) (former : ℕ) (entries : List SEntry) →
    AllByRecursion (Begins scale.ticks) (members_from scale end former entries)
entries_begin scale end former [] = tt
entries_begin scale end former (s ∷ later) =
    let start = unwrap_or s.t former in
    let x = extent_from scale start s.d in
    let reach = reach_of scale end s.r later in
    all_append (Begins scale.ticks) (members_of reach x) (members_from scale end (start + count_of reach x * s.d) later)
    (reach_begin scale.ticks reach x refl refl) (entries_begin scale end (start + count_of reach x * s.d) later)
