-- Segments that are made one by one, with their printed durations.
use Rattle.std.proofs.Common.{◌≡◌, ℕ, ◌+◌, ◌-◌, List, [], ◌∷◌, slice_get, map, Option, None, Some, IsSome, IfSome, refl, sym, ◌∙◌, ap}
use Rattle.std.proofs.{Common.{subst, take, drop, ◌++◌, arith}, lemmas.List.take-append-drop, lemmas.List.Elements.filter-append}
use Rattle.timeline.specs.{declared.window.Window.Window, declared.fault.ListFault.ListFault, Names.list_refusal}
use Rattle.timeline.specs.{Expansions.{SegmentTimeline, Timing}, Listed.{listed, is_listed, Rest, Made, IsDone, IsMade}}
use Rattle.timeline.specs.Listed.{IsHeld as IsHeldBefore, IsPassed as IsPassedBefore}
use Rattle.exact_time.specs.{Time.{Time, difference}, Floor.floor_in, Rounding.{Rounding, total, differences, rounding_from}}
use Rattle.exact_time.proofs.Floors.{floor_in-difference_self}
use Rattle.presentation.specs.{declared.parts.Content.Content, Presented.{Presented, content_at, window_of, listed_in}}
use Rattle.presentation.specs.Printing.{PrintedRest, IsPrintedOf, with_durations, ends_of, begin_of, rest_of, IsAtEnd, IsNext, IsHeld}
use Rattle.presentation.specs.{Printing.IsPassed, Kept.{durations_behind, printed_rest, IsPaced}}

pub at_end : (old new : Rest) (r : Rounding) → IsDone old new → IsAtEnd (printed_rest old r) (printed_rest new r)
at_end old new r done = record { none = rw done.none refl; same = ap (λ rest. printed_rest rest r) done.same }

held_some : (r : Rounding) (xs : List Timing) → IsSome (slice_get xs 0) → IsSome (slice_get (with_durations xs (durations_behind r xs)) 0)
held_some r [] some = some
held_some r (x ∷ xs) some = refl

held_refused : (r : Rounding) (xs : List Timing) (P : Timing → Type 0) → IfSome (slice_get xs 0) P
    → IfSome (slice_get (with_durations xs (durations_behind r xs)) 0) (λ x. P x.times)
held_refused r [] P h = h
held_refused r (x ∷ xs) P h = h

pub if_some : {X : Type 0} (o : Option X) (P Q : X → Type 0) → ((x : X) → P x → Q x) → IfSome o P → IfSome o Q
if_some None P Q f h = h
if_some (Some x) P Q f h = f x h

pub held : (old new : Rest) (r : Rounding) (fault : ListFault) → IsHeldBefore old fault new
    → IsHeld (printed_rest old r) fault (printed_rest new r)
held old new r fault h = record {
  same = ap (λ rest. printed_rest rest r) h.same;
  some = held_some r old.left h.some;
  refused = if_some (list_refusal fault) _ _ (λ f refused. held_refused r old.left _ refused) h.refused;
}

-- what is next of the segments that are left
next_left : (r : Rounding) (xs ys : List Timing) (x : Timing) (n : ℕ) → xs ≡ x ∷ ys → total r + n ≡ total (record r { former = x.end })
    → with_durations xs (durations_behind r xs) ≡ record { times = x; duration = n } ∷ with_durations ys
    (durations_behind (record r { former = x.end }) ys)
next_left r xs ys x n is called =
    let duration : total (record r { former = x.end }) - total r ≡ n = omega arith in
    ap (λ zs. with_durations zs (durations_behind r zs)) is
    ∙ ap (λ d. record { times = x; duration = d } ∷ with_durations ys (durations_behind (record r { former = x.end }) ys)) duration

pub next : (old new : Rest) (made : Made) (r : Rounding) (n : ℕ) → IsMade old made new
    → total r + n ≡ total (record r { former = made.times.end })
    → IsNext (printed_rest old r) made n (printed_rest new (record r { former = made.times.end }))
next old new made r n made_is called = record {
  next = next_left r old.left new.left made.times n made_is.next called;
  part = made_is.part;
  timeline = made_is.timeline;
}

pub passed : (old new : Rest) (times : Timing) (r : Rounding) (n : ℕ) → IsPassedBefore old times new
    → total r + n ≡ total (record r { former = times.end })
    → IsPassed (printed_rest old r) times n (printed_rest new (record r { former = times.end }))
passed old new times r n passed_is called = record {
  next = next_left r old.left new.left times n passed_is.next called;
  can = passed_is.can;
  countable = passed_is.countable;
  timeline = passed_is.timeline;
}

-- its end may be given to the rounder, and then those of the others
pub paced_next : (old new : Rest) (made : Made) (r : Rounding) → IsMade old made new → IsPaced old r
    → IsPaced new (record r { former = made.times.end })
paced_next old new made r made_is paced = let rising = rw made_is.next at paced.rising in let near = rw made_is.next at paced.near in
    record { rising = rising.2; near = near.1 }

pub floors_of : (unit : ℕ) (begin : Time) (xs : List Timing) → map (λ x. floor_in unit (difference x.end begin)) xs
    ≡ map (λ end. floor_in unit (difference end begin)) (ends_of xs)
floors_of unit begin [] = refl
floors_of unit begin (x ∷ xs) = ap (λ floors. floor_in unit (difference x.end begin) ∷ floors) (floors_of unit begin xs)

-- before the first one, what is left is all
pub all_left : (timeline : SegmentTimeline) (unit : ℕ) (xs : List Timing)
    → printed_rest (record { timeline = timeline; left = xs }) (rounding_from (begin_of xs) unit) ≡ rest_of timeline xs unit
all_left timeline unit xs =
    ap (λ n. record {
      timeline = timeline;
      left =
          with_durations xs (differences n (map (λ x. floor_in unit (difference x.end (begin_of xs))) xs));
    })
    (floor_in-difference_self unit (begin_of xs))
    ∙ ap (λ floors. record { timeline = timeline; left = with_durations xs (differences 0 floors) }) (floors_of unit (begin_of xs) xs)

pub printed_of : (p : Presented) (s t unit : ℕ) (content : Content) (rest : PrintedRest) → content_at p s t ≡ Some content
    → rest ≡ rest_of content.runs (listed_in (window_of p s) content.runs) unit → IsPrintedOf p s t unit rest
printed_of p s t unit content rest is made = rw is made

-- no segment is listed before the first one
pub all_listed : (window : Window) (xs : List Timing) (n : ℕ) → listed window (take n xs) ≡ []
    → listed window (drop n xs) ≡ listed window xs
all_listed window xs n none = sym (ap (listed window) (sym (take-append-drop n xs))
    ∙ filter-append (is_listed window) (take n xs) (drop n xs) ∙ ap (λ before. before ++ listed window (drop n xs)) none)

pub made_of : (rest : Rest) (r : Rounding) (timeline : SegmentTimeline) (xs : List Timing) (unit : ℕ) → rest.timeline ≡ timeline
    → rest.left ≡ xs → r ≡ rounding_from (begin_of xs) unit → printed_rest rest r ≡ rest_of timeline xs unit
made_of rest r timeline xs unit same left rounding =
    let whole : rest ≡ record { timeline = timeline; left = xs } = subst (λ a. rest ≡ record { timeline = a; left = xs }) same
    (subst (λ b. rest ≡ record { timeline = rest.timeline; left = b }) left refl) in
    ap (λ q. printed_rest q r) whole ∙ ap (printed_rest (record { timeline = timeline; left = xs })) rounding ∙ all_left timeline unit xs
