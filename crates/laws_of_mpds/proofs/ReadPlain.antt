-- What is presented of playlists can be written and read.
use Rattle.laws_of_mpds.specs.Rows as written
use Rattle.std.proofs.Common.{◌≡◌, ℕ, ◌+◌, ◌/◌, ◌^◌, ◌<◌, ◌≤◌, cond, Bool, true, false, List, [], ◌∷◌, map, length, All, Option, Some, None}
use Rattle.std.proofs.{Common.{Ok, IfSome, refl, sym, ◌∙◌, ap, subst, arith}, lemmas.List.length-map, lemmas.List.Elements.All-head}
use Rattle.std.proofs.{lemmas.List.Elements.{All-tail, All-nil, All-cons}, lemmas.List.Sums.sum_by-cons, Math.Nat.div-le_self}
use Rattle.std.specs.List.{AllByRecursion}
use Rattle.bridge_io.proofs.AndThen.{steps_of}
use Rattle.exact_time.specs.Time.{Time, in_units}
use Rattle.url_parts.specs.{Addresses.IsAddress, declared.address.Part.Part, declared.range.Range.Range}
use Rattle.timeline.specs.{Expansions.{Closed, Extent, Member, SegmentTimeline}, Ratios.natural}
use Rattle.hls_media.specs.{Laws.{IsBoundedPart, IsBoundedRange, IsBoundedSegment}, declared.media.MediaSegment.MediaSegment}
use Rattle.presentation.specs.declared.parts.Content.{Content}
use Rattle.hls_presentation.specs.{Laid.in_row, Presenting.{content_of, content_with, extents_from, gathered, initialization_in}}
use Rattle.hls_presentation.specs.Presenting.{initialization_of, part_of, parts_of, runs_of, ticks_by_second, timeline_with}
use Rattle.hls_presentation.specs.Sections.{length_of}
use Rattle.hls_presentation.proofs.{Came.{timed_ok, unless_ok}, Grouping.IsRowed, Laid.row}
use Rattle.laws_of_mpds.specs.{Contents.{IsOwnPart, IsPlain}, Told.{IsShort, IsSomeBytes}, Written.HasAddresses}

same_row : (ticks from : ℕ) (ds : List ℕ) → in_row ticks from ds ≡ written.in_row ticks from ds
same_row ticks from [] = refl
same_row ticks from (d ∷ ds) = ap (λ xs. record { start = in_units ticks from; end = in_units ticks (from + d) } ∷ xs)
    (same_row ticks (from + d) ds)

pub by_recursion : {X : Type 0} (P : X → Type 0) (xs : List X) → All P xs → AllByRecursion P xs
by_recursion P [] all = tt
by_recursion P (x ∷ xs) all = (All-head P x xs all, by_recursion P xs (All-tail P x xs all))

-- ---- durations are short, and few

first_end : (t d from u end : ℕ) (xs ys : List Member) (start : Time)
    → Closed (record { start = in_units t from; end = in_units t (from + d) }) ∷ xs
    ≡ Closed (record { start = start; end = in_units u end }) ∷ ys
    → (from + d ≡ end) × (xs ≡ ys)
first_end t d from u end xs ys start same =
    let extents : ◌≡◌ {A = Extent} (record { start = in_units t from; end = in_units t (from + d) })
    (record { start = start; end = in_units u end }) = cc in
    (ap (λ (e : Extent). natural e.end.ticks) extents, cc)

few_in : (ticks nanos start from bound : ℕ) (ds : List ℕ) (group : List MediaSegment)
    → map Closed (in_row ticks from ds) ≡ map Closed (extents_from nanos start group)
    → from ≤ start → AllByRecursion (λ d. 0 < d) ds → start + length_of group ≤ bound → AllByRecursion (λ d. d ≤ bound) ds
    × (from + length ds ≤ bound)
few_in ticks nanos start from bound [] [] same early lasting within = (tt, omega (arith, early, within))
few_in ticks nanos start from bound [] (s ∷ rest) same early lasting within = absurd (cc)
few_in ticks nanos start from bound (d ∷ ds) [] same early lasting within = absurd (cc)
few_in ticks nanos start from bound (d ∷ ds) (s ∷ rest) same early lasting within =
    let end = start + s.duration in
    let parts = first_end ticks d from (ticks_by_second nanos) (end / nanos) (map Closed (in_row ticks (from + d) ds))
    (map Closed (extents_from nanos end rest)) (in_units (ticks_by_second nanos) (start / nanos)) same in
    let size = sum_by-cons (λ (x : MediaSegment). x.duration) s rest in
    let low : from + d ≤ end = omega (arith, parts.0, div-le_self end nanos) in
    let more : end + length_of rest ≤ bound = omega (arith, within, size) in
    let later = few_in ticks nanos end (from + d) bound ds rest parts.1 low lasting.1 more in
    ((omega (arith, low, more), later.0), omega (arith, later.1, lasting.0))

-- a segment like what is plain
pub record IsPlainSegment (s : MediaSegment) : Type 0 where
  pub bounded : IsBoundedSegment s
  pub addresses : HasAddresses s

pub range_readable : (range : Option Range) → IfSome range IsBoundedRange → IfSome range IsSomeBytes
range_readable None bounded = tt
range_readable (Some range) bounded = record { some = bounded.count; bounded = omega (arith, bounded.ends) }

pub own_parts : (group : List MediaSegment) → All IsPlainSegment group → AllByRecursion IsOwnPart (parts_of group)
own_parts [] all = tt
own_parts (s ∷ rest) all =
    let one = All-head IsPlainSegment s rest all in (
      record { address = one.addresses.own; readable = range_readable s.range one.bounded.range },
      own_parts rest (All-tail IsPlainSegment s rest all),
    )

pub map_own : (map : Option Part) → IfSome map IsBoundedPart → IfSome map (λ (part : Part). IsAddress part.address) → IfSome map IsOwnPart
map_own None bounded own = tt
map_own (Some part) bounded own = record { address = own; readable = range_readable part.range bounded }

own_map : (map : Option Part) (initialization : Part) → initialization_in map ≡ Ok initialization → IfSome map IsOwnPart
    → IsOwnPart initialization
own_map None initialization is own = absurd (cc)
own_map (Some part) initialization is own = (let same : part ≡ initialization = cc in subst IsOwnPart same own)

all_short : (bound : ℕ) (ds : List ℕ) → bound < 2 ^ 63 → AllByRecursion (λ d. d ≤ bound) ds → AllByRecursion IsShort ds
all_short bound [] low all = tt
all_short bound (d ∷ ds) low all = (omega (arith, low, all.0), all_short bound ds low all.1)

-- ---- a content

-- ticks are microseconds or nanoseconds
pub record AreTicks (nanos : ℕ) : Type 0 where
  pub positive : 0 < nanos
  pub ticks : 0 < ticks_by_second nanos
  pub short : IsShort (ticks_by_second nanos)

pub ticks_by : (b : Bool) → AreTicks (cond b 1000 1)
ticks_by true = record { positive = omega arith; ticks = omega arith; short = omega arith }
ticks_by false = record { positive = omega arith; ticks = omega arith; short = omega arith }

plain_content : (nanos : ℕ) → AreTicks nanos → (group : List MediaSegment) (c : Content) → IsRowed IsPlainSegment group
    → content_of nanos group ≡ Ok c
    → IsPlain c
plain_content nanos t [] c rowed is = absurd (cc)
plain_content nanos t (s ∷ rest) c rowed is =
    let group = s ∷ rest in
    let ticks = ticks_by_second nanos in
    let one = steps_of (initialization_of group) _ c is in
    let two = steps_of (runs_of nanos group) _ c one.then in
    let same : content_with one.value two.value ≡ c = (let h = two.then in cc) in
    let whole : timeline_with ticks (parts_of group) (extents_from nanos 0 group) ≡ two.value =
    unless_ok _ _ two.value (timed_ok _ two.value two.first) in
    let runs : timeline_with ticks (parts_of group) (extents_from nanos 0 group) ≡ c.runs = whole ∙ ap (λ (x : Content). x.runs) same in
    let first : one.value ≡ c.initialization = ap (λ (x : Content). x.initialization) same in
    let laid = row nanos t.positive group c is in
    let ds = laid.row.durations in
    let lasting = by_recursion (λ d. 0 < d) ds laid.row.lasting in
    let few = few_in ticks nanos 0 0 (length_of group) ds group (sym laid.row.members ∙ ap (λ (x : SegmentTimeline). x.members) (sym runs))
    (omega arith) lasting (omega arith) in
    let head = All-head IsPlainSegment s rest rowed.whole.all in
    record {
      parts = parts_of group;
      durations = ds;
      named = ap (λ (x : SegmentTimeline). x.names) (sym runs);
      members = laid.row.members ∙ ap (map Closed) (same_row ticks 0 ds ∙ ap (λ n. written.in_row n 0 ds) (sym laid.row.ticks));
      paired = laid.many ∙ sym (length-map group part_of);
      positive = subst (λ n. 0 < n) (sym laid.row.ticks) t.ticks;
      lasting = lasting;
      ticks = subst IsShort (sym laid.row.ticks) t.short;
      short = all_short (length_of group) ds rowed.short few.0;
      few = omega (arith, few.1, rowed.short);
      initialization = subst IsOwnPart first (own_map s.map one.value one.first
          (map_own s.map head.bounded.map head.addresses.initialization));
      own = own_parts group rowed.whole.all;
    }

pub all_plain : (nanos : ℕ) → AreTicks nanos → (groups : List (List MediaSegment)) (contents : List Content)
    → All (IsRowed IsPlainSegment) groups
    → gathered (content_of nanos) groups ≡ Ok contents → All IsPlain contents
all_plain nanos t [] contents rowed is = (let none : [] ≡ contents = cc in subst (All IsPlain) none (All-nil IsPlain))
all_plain nanos t (group ∷ groups) contents rowed is =
    let one = steps_of (content_of nanos group) _ contents is in
    let more = steps_of (gathered (content_of nanos) groups) _ contents one.then in
    let same : one.value ∷ more.value ≡ contents = (let h = more.then in cc) in
    subst (All IsPlain) same (All-cons IsPlain one.value more.value
    (plain_content nanos t group one.value (All-head (IsRowed IsPlainSegment) group groups rowed) one.first)
    (all_plain nanos t groups more.value (All-tail (IsRowed IsPlainSegment) group groups rowed) more.first))
