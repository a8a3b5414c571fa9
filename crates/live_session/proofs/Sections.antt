-- The new segments of a track, section by section.
use Rattle.std.proofs.Common.{◌≡◌, ℕ, zero, suc, ◌+◌, ◌-◌, ◌<◌, ◌≤◌, ◌⊎◌, List, [], ◌∷◌, ◌++◌, filter, flat_map, Option, None, Some, All}
use Rattle.std.{proofs.Common.{refl, sym, ◌∙◌, ap, inl, inr, arith, add-one}, proofs.lemmas.Bool.{cases_eq, cases_lt, eq-eqb, ne_eqb}}
use Rattle.std.{proofs.lemmas.Bool.lt-ltb, proofs.lemmas.List.Elements.{All-head, All-tail, filter_agree}, specs.Prelude.{true, IfSome}}
use Rattle.std.{specs.List.range_with_len, specs.Option.option_map_or}
use Rattle.exact_time.{specs.Time.before, specs.Tick.time_of}
use Rattle.timeline.specs.Expansions.{Timing}
use Rattle.presentation.{specs.declared.parts.Content.Content, specs.Presented.{Presented, content_at, listed_at}}
use Rattle.presentation.{specs.Printing.{FollowsNear, GoesOn, later_than}, proofs.Counts.{from_on-first, from_on-start}}
use Rattle.followed.{specs.Durations.{Last, last_behind, last_with}, proofs.Sections.last_section}
use Rattle.live_meaning.{specs.Segments.{Numbering, Segment, is_later}, specs.States.Track, proofs.Histories.last_goes_on}
use Rattle.live_judge.{specs.declared.track.LastKept.LastKept, specs.Shown.last_of, proofs.Contents.here_by_end, proofs.New.new_own}
use Rattle.live_session.{specs.Making.{IsBelow, StandsBefore, behind_in, end_in}, specs.New.{IsBegun, joins, later_listed, new_in}}
use Rattle.live_session.{specs.New.{new_timings, segments_in, track_at}, proofs.Refusing.some_as}

pub filter_all : {X : Type 0} (xs : List X) → filter (λ x. true) xs ≡ xs
filter_all [] = refl
filter_all (x ∷ xs) = ap (λ ys. x ∷ ys) (filter_all xs)

-- ---- which are new

module _ (p : Presented) (k t s : ℕ) where
  pub times_are : (last : Option LastKept) → IfSome last (λ l. l.place ≤ k + s)
      → new_timings p k (track_at last) t s ≡ later_listed (end_in (k + s) last) (listed_at p s t)
  times_are None reached = filter_all (listed_at p s t)
  times_are (Some l) reached = elim (cases_eq l.place (k + s)) [
    | inl here ↦
        let e : end_in (k + s) (Some l) ≡ Some l.end = rw (eq-eqb l.place (k + s) here) refl in
        rw e (filter_agree (λ x. is_later (last_of l) l.place (k + s) x.end) (λ x. before (time_of l.end) x.end)
        (λ x. here_by_end (last_of l) (k + s) l.place (sym here) x.end) (listed_at p s t))
    | inr other ↦
        let e : end_in (k + s) (Some l) ≡ None = rw (ne_eqb l.place (k + s) other) refl in
        rw e (filter_agree (λ x. is_later (last_of l) l.place (k + s) x.end) (λ x. true)
        (λ x. rw (lt-ltb l.place (k + s) (omega arith)) refl) (listed_at p s t) ∙ filter_all (listed_at p s t))
  ]

-- ---- how they go on

joined_in : (n : Numbering) (k : ℕ) (p : Presented) (s : ℕ) (l : LastKept) (xs : List Timing) (o : Option Content) → (o ≡ None → xs ≡ [])
    → l.section ≡ k + s + n.resets → joins (Some (last_of l)) (option_map_or (segments_in n k p s xs) o []) → FollowsNear (time_of l.end) xs
joined_in n k p s l xs None none same joined = rw (none refl) tt
joined_in n k p s l [] (Some content) none same joined = tt
joined_in n k p s l (x ∷ xs) (Some content) none same joined = joined (sym same)

joined_at : (n : Numbering) (k : ℕ) (p : Presented) (s t : ℕ) (l : LastKept) → l.place ≡ k + s → l.section ≡ k + s + n.resets
    → joins (Some (last_of l)) (new_in n p k (track_at (Some l)) t s)
    → FollowsNear (time_of l.end) (later_than (time_of l.end) (listed_at p s t))
joined_at n k p s t l here same joined =
    let xs : List Timing = later_than (time_of l.end) (listed_at p s t) in
    let e : end_in (k + s) (Some l) ≡ Some l.end = rw (eq-eqb l.place (k + s) here) refl in
    let new : new_timings p k (track_at (Some l)) t s ≡ xs = times_are p k t s (Some l) (omega arith)
    ∙ ap (λ o. later_listed o (listed_at p s t)) e in
    joined_in n k p s l xs (content_at p s t) (λ none. rw none refl) same (rw new at joined)

pub goes_on_there : (n : Numbering) (k : ℕ) (p : Presented) (s t : ℕ) (last : Option LastKept)
    → IfSome last (λ l. l.place ≤ k + s) → IsBegun n.resets (track_at last) → joins (track_at last).last (new_in n p k (track_at last) t s)
    → IfSome (behind_in (k + s + n.resets) last) (λ b. (end_in (k + s) last ≡ Some b.former) × GoesOn (listed_at p s t) b)
goes_on_there n k p s t None reached begun joined = tt
goes_on_there n k p s t (Some l) reached begun joined = elim (cases_eq l.section (k + s + n.resets)) [
  | inl same ↦
      let here : l.place ≡ k + s = omega (arith, begun.numbered) in
      rw (eq-eqb l.section (k + s + n.resets) same, eq-eqb l.place (k + s) here)
      (refl, record { begun = begun.begun; near = joined_at n k p s t l here same joined })
  | inr other ↦ rw (ne_eqb l.section (k + s + n.resets) other) tt
]

-- ---- all sections

pub skip : {X : Type 0} (f : ℕ → List X) (first count : ℕ) → ((s : ℕ) → s < first → f s ≡ [])
    → flat_map f (range_with_len 0 count) ≡ flat_map f (range_with_len first (count - first))
skip f zero count none = ap (flat_map f) (sym (from_on-start count))
skip f (suc first) count none = skip f first count (λ s less. none s (omega arith)) ∙ elim (cases_lt first count) [
  | inl less ↦ rw (from_on-first first count less, none first (omega arith), add-one) refl
  | inr more ↦
      let e : count - first ≡ 0 = omega arith in let d : count - suc first ≡ 0 = omega arith in rw (e, d) refl
]

-- ---- section numbers

abbrev AreIn : (number : ℕ) → List Segment → Type 0
AreIn number xs = All (λ (x : Segment). x.section ≡ number) xs

last_in : (number : ℕ) (last : Option Last) (xs : List Segment) → AreIn number xs
    → (xs ≡ []) ⊎ (IfSome (last_behind last xs) (λ l. l.section ≡ number))
last_in number last [] are = inl refl
last_in number last (x ∷ xs) are = inr (elim (last_in number
    (Some (last_with last x)) xs (All-tail (λ (x : Segment). x.section ≡ number) x xs are)) [
      | inl none ↦ rw none (last_section last x ∙ All-head (λ (x : Segment). x.section ≡ number) x xs are)
      | inr some ↦ some
    ])

-- nothing was made yet, or the last one so far and the one before all lie in sections before one of a number
abbrev pub Stood : (track : Option Last) → (so_far : List Segment) → (number : ℕ) → Type 0
Stood track so_far number = (so_far ≡ []) ⊎ (IsBelow (last_behind track so_far) number × IsBelow track number)

pub stands : (track : Option Last) (so_far : List Segment) (number : ℕ) → Stood track so_far number
    → StandsBefore track (last_behind track so_far) number
stands track so_far number (inl none) = inl (ap (last_behind track) none)
stands track so_far number (inr below) = inr below

pub stands_next : (n : Numbering) (p : Presented) (k t s : ℕ) (track : Track) (so_far : List Segment)
    → IfSome track.last (λ l. l.section ≤ k + s + n.resets) → Stood track.last so_far (k + s + n.resets)
    → Stood track.last (so_far ++ new_in n p k track t s) (k + s + n.resets + 1)
stands_next n p k t s track so_far within stood =
    let new : List Segment = new_in n p k track t s in
    let number : ℕ = k + s + n.resets in
    let former : Option Last = last_behind track.last so_far in
    let goes : last_behind track.last (so_far ++ new) ≡ last_behind former new = last_goes_on track.last so_far new in
    let stays : IsBelow track.last (number + 1) = some_as track.last _ _ (λ l le. omega (arith, le)) within in
    elim (last_in number former new (new_own n p k track t s)) [
      | inl none ↦ elim stood [
        | inl empty ↦ inl (rw (none, empty) refl)
        | inr below ↦ inr (rw (goes, none) (some_as former _ _ (λ l less. omega (arith, less)) below.0), stays)
      ]
      | inr some ↦ inr (rw goes (some_as (last_behind former new) _ _ (λ l is. omega (arith, is)) some), stays)
    ]

-- the first of what is left joins where the first of all does, or lies in a later section
joins_front : (last : Option Last) (xs ys : List Segment) → joins last (xs ++ ys) → joins last xs
joins_front None xs ys joined = tt
joins_front (Some l) [] ys joined = tt
joins_front (Some l) (x ∷ xs) ys joined = joined

joins_elsewhere : (number : ℕ) (last : Option Last) (xs : List Segment) → AreIn number xs → IsBelow last number → joins last xs
joins_elsewhere number None xs are below = tt
joins_elsewhere number (Some l) [] are below = tt
joins_elsewhere number (Some l) (x ∷ xs) are below = λ same. absurd (omega (arith, All-head (λ (x : Segment). x.section ≡ number) x xs are))

pub joins_next : (n : Numbering) (p : Presented) (k t s : ℕ) (track : Track) (so_far later : List Segment)
    → joins track.last (so_far ++ (new_in n p k track t s ++ later)) → Stood track.last so_far (k + s + n.resets)
    → joins track.last (new_in n p k track t s)
joins_next n p k t s track so_far later joined (inl none) =
    joins_front track.last (new_in n p k track t s) later (rw none at joined)
joins_next n p k t s track so_far later joined (inr below) =
    joins_elsewhere (k + s + n.resets) track.last _ (new_own n p k track t s) below.1
