-- Stretches in a row.
use Rattle.timeline.specs.{declared.run_table.RunTable.RunTable, declared.run.Run.Run, declared.media_run.MediaRun.MediaRun}
use Rattle.timeline.specs.{declared.fault.TimeFault.TimeFault, declared.fault.TimeFault.TheVariants.Memory}
use Rattle.timeline.specs.{declared.builder.RunsBuilder.RunsBuilder, declared.limits.Limits.Limits, RunTables.{media_of, runs_at}}
use Rattle.timeline.specs.{declared.run.Endless.Endless as GoesOn, Ratios.natural, Expansions.{Extent, Member, Closed, is_open, repeated}}
use Rattle.timeline.specs.{Expansions.repeat_of, RunSegments.{AreLaid, IsLonger, IsOne, IsRun, all_extents, extents_of, TimedRun}}
use Rattle.timeline.specs.{RunSegments.{placed_run, timed}, Kept.{endless_members, FollowsOn}, Limits.{breaks_limits, media_extent}}
use Rattle.timeline.specs.{Faults.{is_apart, refusal, segment_fault, are_paired}, Building.{placed_in, extent_in, breaks_in, fault_of}}
use Rattle.timeline.specs.Building.{former_end, IsFaultOf, IsLaidOut, IsLastWith, members_so_far, runs_in}
use Rattle.std.proofs.Common.{◌≡◌, ℕ, zero, suc, ◌+◌, ◌-◌, ◌*◌, ◌<◌, ◌≤◌, ◌^◌, min, ltb, false, List, ◌∷◌, ◌++◌, map, length, take, pos}
use Rattle.std.proofs.{Common.{◌+ℤ◌, ◌-ℤ◌, Option, Some, None, refl, ◌∙◌, sym, ap, subst, inl, inr, arith, []}, lemmas.Bool.cases_lt}
use Rattle.std.proofs.{lemmas.Bool.ltb-false, lemmas.Int.ints, lemmas.Grind.flat_map-append, lemmas.Option.get_or_from_slice_get}
use Rattle.std.proofs.{lemmas.Option.slice_get_within, lemmas.List.{append_assoc, map-append, append-nil, length-map, take-append-drop}}
use Rattle.std.proofs.{lemmas.List.{drop_more, drop_all}, lemmas.List.Elements.{All-nil, All-cons, All-append}, Math.Nat.mul-le-mul_left}
use Rattle.std.proofs.Math.Nat.{mul-le-mul_right}
use Rattle.std.specs.{Prelude.{unsigned_abs, slice_get, All, IsNone, IfSome, MatchResult, Result, Ok, Err, ◌==◌, ◌⊎◌}, Int.abs_diff}
use Rattle.std.specs.Result.{IsErr, IsErrAnd}
use Rattle.exact_time.specs.Time.{Time}
use Rattle.timeline.proofs.{KeptLemmas.length-laid, Judged.{repeat-extent_in, fault_of_two, is_apart-in, former_end-some, within-end}}

-- ---- one more run

pub laid-push : (before : ℕ) (ss : List TimedRun) (total : ℕ) (s : TimedRun) → AreLaid before ss total → s.before ≡ total → 0 < s.count
    → IsRun s → AreLaid before (ss ++ s ∷ []) (total + s.count)
laid-push before [] total s laid place some is = (place ∙ sym laid, some, is, ap (λ (n : ℕ). n + s.count) laid)
laid-push before (x ∷ xs) total s laid place some is =
    (laid.0, laid.1, laid.2, laid-push (before + x.count) xs total s laid.3 place some is)

pub extents-push : (ss : List TimedRun) (s : TimedRun) → all_extents (ss ++ s ∷ []) ≡ all_extents ss ++ extents_of s
extents-push ss s = cc (flat_map-append extents_of ss (s ∷ []), append-nil (extents_of s))

pub none_of : (e : Option GoesOn) → IsNone e → endless_members e ≡ []
none_of e is = grind arith

-- ---- a run behind those of a table

pushed_items : (ticks origin : ℕ) (media : List MediaRun) (items own : List Run) (run : Run) → items ≡ own ++ run ∷ [] →
    map (placed_run ticks origin) media ++ map timed items ≡ (map (placed_run ticks origin) media ++ map timed own)
    ++ timed run ∷ []
pushed_items ticks origin media items own run is =
    rw (is, map-append) (sym (append_assoc (map (placed_run ticks origin) media) (map timed own) (timed run ∷ [])))

pub pushed_own : (ticks origin : ℕ) (old new : RunTable) (run : Run) → new.laid ≡ old.laid → new.own.items ≡ old.own.items ++ run ∷ []
    → runs_at ticks origin new ≡ runs_at ticks origin old ++ timed run ∷ []
pushed_own ticks origin old new run laid own = rw laid (pushed_items ticks origin (media_of old.laid) new.own.items old.own.items run own)

-- ---- one more segment in the last run, or in one of its own

pub at_last : {X : Type 0} (now items : List X) (x : X) → now ≡ items → Some x ≡ slice_get now (length now - 1)
    → slice_get items (length items - 1) ≡ Some x
at_last now items x same is = rw (← same) (sym is)

pub last_split : {X : Type 0} (xs : List X) (x : X) → slice_get xs (length xs - 1) ≡ Some x → xs ≡ take (length xs - 1) xs ++ x ∷ []
last_split xs x at =
    let within = slice_get_within xs (length xs - 1) x at in
    cc (
      take-append-drop (length xs - 1) xs,
      drop_more xs (length xs - 1) x within,
      get_or_from_slice_get xs (length xs - 1) x x at,
      drop_all (length xs - 1 + 1) xs (omega arith),
    )

pub unlaid : (before : ℕ) (ss : List TimedRun) (s : TimedRun) (total : ℕ) → AreLaid before (ss ++ s ∷ []) total
    → AreLaid before ss s.before × (0 < s.count) × IsRun s × (s.before + s.count ≡ total)
unlaid before [] s total laid = (sym laid.0, laid.1, laid.2, ap (λ (n : ℕ). n + s.count) laid.0 ∙ laid.3)
unlaid before (x ∷ xs) s total laid =
    let rest = unlaid (before + x.count) xs s total laid.3 in
    ((laid.0, laid.1, laid.2, rest.0), rest.1, rest.2, rest.3)

pub last_is : (l : RunsBuilder) (run : Run) → IsLaidOut l → slice_get l.table.own.items (length l.table.own.items - 1) ≡ Some run
    → IsRun (timed run) × (run.before + run.count ≡ l.total)
last_is l run laid at =
    let front = take (length l.table.own.items - 1) l.table.own.items in
    let whole = pushed_items l.limits.ticks l.limits.origin (media_of l.table.laid) l.table.own.items front run
    (last_split l.table.own.items run at) in
    let was = unlaid 0 _ (timed run) l.total (rw whole at laid.laid) in
    (was.2, was.3)

module _ (items pre : List TimedRun) (x : Extent) (total : ℕ) (laid : AreLaid 0 items total) where
  pub lengthened : (s more : TimedRun) → items ≡ pre ++ s ∷ [] → IsLonger s x more → AreLaid 0 (pre ++ more ∷ []) (total + 1)
      × (all_extents (pre ++ more ∷ []) ≡ all_extents items ++ x ∷ [])
  lengthened s more at longer =
      let was = unlaid 0 pre s total (rw at at laid) in
      let same : s.before + more.count ≡ total + 1 = omega (arith, longer.one_more, was.3) in (
        rw (← same) (laid-push 0 pre s.before more was.0 longer.placed (omega (arith, longer.one_more)) longer.is),
        rw (at, extents-push pre more, extents-push pre s, longer.extents) (sym (append_assoc (all_extents pre) (extents_of s) (x ∷ []))),
      )

  pub begun : (s : TimedRun) → IsOne total x s → AreLaid 0 (items ++ s ∷ []) (total + 1)
      × (all_extents (items ++ s ∷ []) ≡ all_extents items ++ x ∷ [])
  unfolding repeated
  begun s one = (
    rw (← one.one) (laid-push 0 items total s laid one.placed (omega (arith, one.one)) one.is),
    extents-push items s ∙ rw (one.one, one.head) refl,
  )

-- the row of a builder with the segment
module _ (old mid : RunsBuilder) (x : Extent) (run : TimedRun) (is : IsLastWith old x run mid) (items : List TimedRun)
    (pushed : items ≡ runs_in mid ++ run ∷ []) where
  pub with_members : IsNone old.endless → map Closed (all_extents items) ++ endless_members mid.endless
      ≡ members_so_far old ++ Closed x ∷ []
  with_members none = rw (is.endless_is, none_of old.endless none, append-nil, append-nil, pushed, is.extents, map-append) refl

  pub with_laid : AreLaid 0 items (old.total + 1)
  with_laid = rw pushed is.laid

  pub with_timed : (P : Extent → Type 0) → All P (all_extents (runs_in old)) → P x → All P (all_extents items)
  with_timed P before one = rw (pushed, is.extents) (All-append P (all_extents (runs_in old)) (x ∷ []) before
      (All-cons P x [] one (All-nil P)))

-- ---- a run of segments of one scale

module _ (l : Limits) (s d count : ℕ) (x : TimedRun) (start : x.start ≡ placed_in l s) (end : x.end ≡ placed_in l (s + d))
    (lasts : x.step ≡ d) (number : x.count ≡ count) where
  pub extents_of-in : extents_of x ≡ repeated count (extent_in l s d)
  extents_of-in = cc

  pub IsRun-in : 0 < d → 0 < count → s + count * d < 2 ^ 63 → x.before + count < 2 ^ 64 → unsigned_abs x.start.ticks < 2 ^ 64
      → unsigned_abs x.end.ticks < 2 ^ 64 → IsRun x
  IsRun-in some has near countable start_near end_near =
      let start_ticks = ap (λ (a : Time). a.ticks) start in
      let end_ticks = ap (λ (a : Time). a.ticks) end in
      let product : x.count * x.step ≡ count * d = cc in
      let least : 1 * d ≤ count * d = mul-le-mul_right d has in
      record {
        start_is = rw start l.positive;
        end_is = rw end l.positive;
        start_near = start_near;
        end_near = end_near;
        lasting = omega (arith, lasts);
        one_scale = λ _. rw (start, end) refl;
        in_ticks = λ _. omega (arith, ints, start_ticks, end_ticks, lasts);
        near = omega (arith, ints, end_ticks, product, least);
        countable = omega (arith, number);
      }

-- ---- media times

pub timed-in : (l : Limits) (d count s : ℕ) → s + count * d < 2 ^ 64
    → All (λ x. natural (x.start.ticks +ℤ pos l.origin) < 2 ^ 64) (repeated count (extent_in l s d))
unfolding repeated
timed-in l d zero s near = All-nil (λ (x : Extent). natural (x.start.ticks +ℤ pos l.origin) < 2 ^ 64)
timed-in l d (suc count) s near =
    let start : (pos s -ℤ pos l.origin) +ℤ pos l.origin ≡ pos s = omega (arith, ints) in
    All-cons (λ (x : Extent). natural (x.start.ticks +ℤ pos l.origin) < 2 ^ 64) (extent_in l s d) _ (omega (arith, ap natural start))
    (rw (repeat-extent_in l s d) (timed-in l d count (s + d) (omega arith)))

-- ---- faults

pub refusal_some : (fault : TimeFault) (P : TimeFault → Type 0) → P fault → IfSome (refusal fault) P
refusal_some Memory P holds = tt
refusal_some fault P holds = holds

pub IsFaultOf-run : (old : RunsBuilder) (s d count : ℕ) (fault : TimeFault) → 0 < count
    → fault_of old.limits (former_end old) (extent_in old.limits s d) ≡ Some fault →
    IsFaultOf old (map Closed (repeated count (extent_in old.limits s d))) fault
unfolding repeated
IsFaultOf-run old s d zero fault has is = absurd (omega arith)
IsFaultOf-run old s d (suc count) fault has is =
    refusal_some fault (λ f. (later : List Member) → segment_fault (breaks_in old.limits) (former_end old)
    (map Closed (repeated (suc count) (extent_in old.limits s d)) ++ later) ≡ Some f)
    (λ later. fault_of_two (breaks_in old.limits (extent_in old.limits s d)) (is_apart (former_end old) (extent_in old.limits s d)) fault
    (segment_fault (breaks_in old.limits) (Some (placed_in old.limits (s + d)))
    (map Closed (repeated count (repeat_of (extent_in old.limits s d))) ++ later)) is)

pub from_fault : {X : Type 0} (r : Result X TimeFault) (fault : TimeFault) (Q : X → Type 0) (P : TimeFault → Type 0)
    → IsErr r × IsErrAnd r (λ f. f ≡ fault) → P fault → MatchResult r Q P
from_fault (Ok done) fault Q P is holds = cc
from_fault (Err e) fault Q P is holds = subst P (sym is.1) holds

-- ---- the segments before are no more than the ticks before

pub room_before : (old : RunsBuilder) (s d : ℕ) → is_apart (former_end old) (extent_in old.limits s d) ≡ false → old.total ≤ old.former
    → 2 * old.total ≤ 2 * s + d
room_before old s d near room = elim (cases_lt 0 old.total) [
  | inr none ↦ omega arith
  | inl some ↦
      let gap = abs_diff s old.former in
      let between : (s ≡ old.former + gap) ⊎ (old.former ≡ s + gap) = grind arith in
      let test : ltb d (2 * gap) ≡ false =
      sym (is_apart-in old.limits s d old.former gap old.limits.positive between) ∙ (rw (former_end-some old some) at near) in
      omega (arith, ltb-false d (2 * gap) test)
]

product-least : (a b : ℕ) → 0 < a → 0 < b → a + b ≤ a * b + 1
product-least a b some_a some_b = grind (arith, mul-le-mul_left)

pub room_after : (total s d count : ℕ) → 0 < d → 0 < count → 2 * total ≤ 2 * s + d → total + count ≤ s + count * d
room_after total s d count some has room = omega (arith, product-least count d has some)

pub capped : (l : Limits) (s m count d : ℕ) → 0 < d → 0 < count → m ≡ min (min (count * d) (2 ^ 128 - 1)) (2 ^ 64 - 1)
    → breaks_limits l.ticks l.origin (media_extent l (s + m) d) ≡ false
    → (m ≡ count * d) × (s + count * d < 2 ^ 63) × (count < 2 ^ 63) × (s + d < 2 ^ 63)
capped l s m count d has some is kept =
    let near : s + m < 2 ^ 63 = within-end l d (s + m) l.positive kept in
    let most = mul-le-mul_left count has in
    let least = mul-le-mul_right d some in
    (omega arith, omega arith, omega arith, omega arith)

-- ---- a builder with one more run

pub none_follows : (ticks origin total : ℕ) (e : Option GoesOn) → IsNone e → FollowsOn ticks origin total e
none_follows ticks origin total None none = tt
none_follows ticks origin total (Some e) none = cc

module _ (items ss : List TimedRun) (x : TimedRun) (xs : List Extent) (pushed : items ≡ ss ++ x ∷ []) (same : extents_of x ≡ xs) where
  pub members_after : (e : Option GoesOn) → IsNone e → map Closed (all_extents items) ++ endless_members e
      ≡ (map Closed (all_extents ss) ++ endless_members e) ++ map Closed xs
  members_after e none = rw (none_of e none, append-nil, append-nil, pushed, extents-push ss x, same, map-append) refl

  pub extents_after : (P : Extent → Type 0) → All P (all_extents ss) → All P xs → All P (all_extents items)
  extents_after P first last = rw (pushed, extents-push ss x, same) (All-append P (all_extents ss) xs first last)

  pub laid_after : (total count : ℕ) → x.count ≡ count → AreLaid 0 ss total → x.before ≡ total → 0 < count → IsRun x
      → AreLaid 0 items (total + count)
  laid_after total count number laid place some is = rw (pushed, ← number) (laid-push 0 ss total x laid place (omega arith) is)

-- ---- as many as names

open_closed : (xs : List Extent) (ys : List Member) → is_open (map Closed xs ++ ys) ≡ is_open ys
open_closed [] ys = refl
open_closed (x ∷ xs) ys = open_closed xs ys

pub paired_closed : (l : RunsBuilder) (count : ℕ) → IsLaidOut l → IsNone l.endless
    → are_paired (Some count) (members_so_far l) ≡ (l.total == count)
paired_closed l count laid none =
    let all = all_extents (runs_in l) in
    let number : length (map Closed all) ≡ l.total =
    omega (arith, length-map {B = Member} all (λ (x : Extent). Closed x), length-laid 0 (runs_in l) l.total laid.laid) in
    rw (none_of l.endless none, append-nil) (cc (append-nil (map Closed all), open_closed all []))
