-- What is new, section by section.
use Rattle.std.proofs.Common.{◌≡◌, ℕ, zero, suc, ◌+◌, ◌<◌, ◌≤◌, Bool, true, List, [], ◌∷◌, ◌++◌, length, map, Option, Some, None, refl, sym}
use Rattle.std.proofs.{Common.{◌∙◌, ap, subst, inl, inr, ◌⊎◌, arith}, lemmas.Bool.cases_lt, lemmas.Bool.Decides.nat_tests}
use Rattle.std.proofs.{lemmas.List.map-append, lemmas.List.Elements.{All-head, All-map, All-nil, All-tail, filter-append}}
use Rattle.std.specs.{Prelude.{All, filter, flat_map}, List.range_with_len, Option.option_map_or}
use Rattle.timeline.specs.Expansions.{Timing}
use Rattle.presentation.specs.{declared.parts.Content.Content, Counting.sections_of, Presented.{Presented, content_at, listed_at, start_of}}
use Rattle.followed.specs.Durations.{Last, durations, last_behind, last_with, told_behind}
use Rattle.followed.proofs.{KeptPlaces.all_kept, Sections.{goes_on, last_section, new_section}}
use Rattle.live_meaning.specs.{Updates.unit_of, Segments.{Kept, Numbering, Segment, behind, id_at, is_later, listed_in_period, place_of}}
use Rattle.live_meaning.specs.{Segments.segment_with, Histories.{Common, numbering_of}, States.{Track, new_durations, new_of}}
use Rattle.live_judge.specs.New.{durations_in, new_in, new_timings}

-- ---- new segments

module _ (n : Numbering) (place start : ℕ) (content : Content) (test : ℕ → Timing → Bool) where
  filter_made : (xs : List Timing)
      → filter (λ (x : Segment). test x.value.place (record { start = x.start; end = x.end; number = x.value.number }))
      (map (segment_with n place start content) xs)
      ≡ map (segment_with n place start content) (filter (λ x. test place x) xs)
  filter_made [] = refl
  filter_made (x ∷ xs) = grind (arith, filter_made xs)

-- what is new by a test of places and ends
later_in : (last : Option Last) (last_place place : ℕ) → Timing → Bool
later_in last last_place place x = option_map_or (λ l. is_later l last_place place x.end) last true

behind_is : (last : Option Last) (last_place : ℕ) (n : Numbering) (place start : ℕ) (content : Content) (xs : List Timing)
    → behind last last_place (map (segment_with n place start content) xs) ≡ map (segment_with n place start content)
    (filter (later_in last last_place place) xs)
unfolding later_in
behind_is None last_place n place start content xs = ap (map (segment_with n place start content)) (sym (all_kept (λ x. true) xs
    (λ j d within. refl)))
behind_is (Some l) last_place n place start content xs = filter_made n place start content (λ k x. is_later l last_place k x.end) xs

behind_append : (last : Option Last) (place : ℕ) (xs ys : List Segment) → behind last place (xs ++ ys)
    ≡ behind last place xs ++ behind last place ys
behind_append None place xs ys = refl
behind_append (Some l) place xs ys = filter-append (λ (x : Segment). is_later l place x.value.place x.end) xs ys

behind_none : (last : Option Last) (place : ℕ) → behind last place [] ≡ []
behind_none None place = refl
behind_none (Some l) place = refl

module _ (c : Common) (place : ℕ) (of : Track) (t : ℕ) where
  in_content : (s : ℕ) → place_of (numbering_of c).ids (id_at c.force s) ≡ place + s → (o : Option Content)
      → behind of.last of.place (option_map_or
      (λ content. map (segment_with (numbering_of c) (place_of (numbering_of c).ids (id_at c.force s)) (start_of c.force s) content)
      (listed_at c.force s t)) o [])
      ≡ option_map_or (λ content. map (segment_with (numbering_of c) (place + s) (start_of c.force s) content)
      (new_timings c.force place of t s)) o []
  unfolding later_in
  in_content s at None = behind_none of.last of.place
  in_content s at (Some content) =
      ap (λ k. behind of.last of.place (map (segment_with (numbering_of c) k (start_of c.force s) content) (listed_at c.force s t))) at
      ∙ behind_is of.last of.place (numbering_of c) (place + s) (start_of c.force s) content (listed_at c.force s t)

  in_sections : (a n : ℕ) → ((s : ℕ) → s < a + n → place_of (numbering_of c).ids (id_at c.force s) ≡ place + s)
      → behind of.last of.place (flat_map (listed_in_period (numbering_of c) c.force t) (range_with_len a n))
      ≡ flat_map (new_in (numbering_of c) c.force place of t) (range_with_len a n)
  in_sections a zero at = behind_none of.last of.place
  in_sections a (suc n) at =
      behind_append of.last of.place (listed_in_period (numbering_of c) c.force t a)
      (flat_map (listed_in_period (numbering_of c) c.force t) (range_with_len (a + 1) n))
      ∙ (rw (in_content a (at a (omega arith)) (content_at c.force a t), in_sections (a + 1) n (λ s less. at s (omega (arith, less)))) refl)

  -- where the Periods in force have the places from one on
  pub new_is : ((s : ℕ) → s < length c.force.sections → place_of (numbering_of c).ids (id_at c.force s) ≡ place + s)
      → new_of c t of ≡ flat_map (new_in (numbering_of c) c.force place of t) (sections_of c.force)
  new_is at = in_sections 0 (length c.force.sections) (λ s less. at s (omega (arith, less)))

-- ---- printed durations

-- the last one's section, behind some of one section
section_behind : (l : Last) (number : ℕ) (xs : List Segment) → All (λ (x : Segment). x.section ≡ number) xs → l.section ≤ number
    → (m : Last) × (last_behind (Some l) xs ≡ Some m) × (m.section ≤ number)
section_behind l number [] all le = (l, refl, le)
section_behind l number (x ∷ xs) all le =
    section_behind (last_with (Some l) x) number xs (All-tail (λ (y : Segment). y.section ≡ number) x xs all)
    (omega (arith, last_section (Some l) x, All-head (λ (y : Segment). y.section ≡ number) x xs all))

-- in a section that begins anew it is the same behind each earlier one
anew : (u : ℕ) (l m : Last) (number : ℕ) (xs : List Segment) → All (λ (x : Segment). x.section ≡ number) xs → l.section < number
    → m.section < number
    → durations (told_behind u (Some l) xs) ≡ durations (told_behind u (Some m) xs)
anew u l m number [] all less later = refl
anew u l m number (x ∷ xs) all less later =
    let here : x.section ≡ number = All-head (λ (y : Segment). y.section ≡ number) x xs all in
    let others : All (λ (y : Segment). y.section ≡ x.section) xs =
    subst (λ (k : ℕ). All (λ (y : Segment). y.section ≡ k) xs) (sym here) (All-tail (λ (y : Segment). y.section ≡ number) x xs all) in
    new_section u (Some l) x xs (omega arith) others ∙ sym (new_section u (Some m) x xs (omega arith) others)

durations_on : (u : ℕ) (l : Last) (first rest : List Segment) (m : Last) → last_behind (Some l) first ≡ Some m
    → durations (told_behind u (Some l) (first ++ rest)) ≡ durations (told_behind u (Some l) first)
    ++ durations (told_behind u (Some m) rest)
durations_on u l first rest m behind =
    ap (λ (ts : List Kept). durations ts) (goes_on u (Some l) first rest)
    ∙ map-append (λ (t : Kept). t.duration) (told_behind u (Some l) first) (told_behind u (last_behind (Some l) first) rest)
    ∙ ap (λ (o : Option Last). durations (told_behind u (Some l) first) ++ durations (told_behind u o rest)) behind

module _ (u : ℕ) (number : ℕ → ℕ) (list : ℕ → List Segment) (rises : (s r : ℕ) → s < r → number s < number r)
    (own : (s : ℕ) → All (λ (x : Segment). x.section ≡ number s) (list s)) where
  later_sections : (a n : ℕ) (l m : Last) → ((s : ℕ) → a ≤ s → l.section < number s) → ((s : ℕ) → a ≤ s → m.section < number s)
      → durations (told_behind u (Some l) (flat_map list (range_with_len a n)))
      ≡ flat_map (λ s. durations (told_behind u (Some m) (list s))) (range_with_len a n)
  later_sections a zero l m below under = refl
  later_sections a (suc n) l m below under =
      let first = list a in
      let next = section_behind l (number a) first (own a) (omega (arith, below a (omega arith))) in
      let rest = later_sections (a + 1) n next.0 m (λ s le. omega (arith, next.2, rises a s (omega (arith, le))))
      (λ s le. under s (omega (arith, le))) in
      durations_on u l first (flat_map list (range_with_len (a + 1) n)) next.0 next.1
      ∙ (rw (anew u l m (number a) first (own a) (below a (omega arith)) (under a (omega arith)), rest) refl)

  pub by_sections : (a n : ℕ) (l : Last) → ((s : ℕ) → a ≤ s → (list s ≡ []) ⊎ (l.section ≤ number s))
      → durations (told_behind u (Some l) (flat_map list (range_with_len a n)))
      ≡ flat_map (λ s. durations (told_behind u (Some l) (list s))) (range_with_len a n)
  by_sections a zero l low = refl
  by_sections a (suc n) l low = elim (low a (omega arith)) [
    | inl none ↦ rw (none, by_sections (a + 1) n l (λ s le. low s (omega (arith, le)))) refl
    | inr le ↦
        let next = section_behind l (number a) (list a) (own a) le in
        durations_on u l (list a) (flat_map list (range_with_len (a + 1) n)) next.0 next.1
        ∙ (rw (later_sections (a + 1) n next.0 l (λ s more. omega (arith, next.2, rises a s (omega (arith, more))))
        (λ s more. omega (arith, le, rises a s (omega (arith, more))))) refl)
  ]

-- ---- those of a track

module _ (n : Numbering) (p : Presented) (place : ℕ) (of : Track) (t s : ℕ) where
  abbrev pub AreMade : Type 0
  AreMade = ((new_timings p place of t s ≡ []) × (new_in n p place of t s ≡ []))
      ⊎ ((content : Content) × (new_in n p place of t s ≡ map (segment_with n (place + s) (start_of p s) content)
      (new_timings p place of t s)))

  made_by : (o : Option Content) → content_at p s t ≡ o → AreMade
  made_by None is = inl (rw is refl, rw is refl)
  made_by (Some content) is = inr (content, rw is refl)

  -- they are made of their times, of which there are none where there is no content
  pub new_made : AreMade
  new_made = made_by (content_at p s t) refl

  pub new_own : All (λ (x : Segment). x.section ≡ place + s + n.resets) (new_in n p place of t s)
  new_own = elim new_made [
    | inl none ↦ rw none.1 (All-nil (λ (x : Segment). x.section ≡ place + s + n.resets))
    | inr made ↦ rw made.1 (All-map (λ (x : Segment). x.section ≡ place + s + n.resets) (segment_with n (place + s) (start_of p s) made.0)
        (new_timings p place of t s) (λ j d within. refl))
  ]

none_pass : (l : Last) (last_place place : ℕ) → place < last_place → (xs : List Timing)
    → filter (λ x. is_later l last_place place x.end) xs ≡ []
none_pass l last_place place less [] = refl
none_pass l last_place place less (x ∷ xs) = grind (arith, nat_tests, less, none_pass l last_place place less xs)

-- in an earlier Period than the last one's nothing is new
pub none_earlier : (p : Presented) (place : ℕ) (of : Track) (t s : ℕ) (l : Last) → of.last ≡ Some l → place + s < of.place
    → new_timings p place of t s ≡ []
none_earlier p place of t s l last less = rw last (none_pass l of.place (place + s) less (listed_at p s t))

low_at : (c : Common) (place : ℕ) (of : Track) (t : ℕ) (l : Last) → of.last ≡ Some l → l.section ≤ of.place + c.resets → (s : ℕ)
    → (new_in (numbering_of c) c.force place of t s ≡ []) ⊎ (l.section ≤ place + s + c.resets)
low_at c place of t l last le s = elim (cases_lt (place + s) of.place) [
  | inl less ↦ elim (new_made (numbering_of c) c.force place of t s) [
    | inl none ↦ inl none.1
    | inr made ↦ inl (made.1 ∙ (rw (none_earlier c.force place of t s l last less) refl))
  ]
  | inr not_less ↦ inr (omega arith)
]

pub durations_are : (c : Common) (place : ℕ) (of : Track) (t : ℕ) (l : Last)
    → ((s : ℕ) → s < length c.force.sections → place_of (numbering_of c).ids (id_at c.force s) ≡ place + s)
    → of.last ≡ Some l → l.section ≤ of.place + c.resets
    → new_durations c t of ≡ flat_map (durations_in c place of t) (sections_of c.force)
durations_are c place of t l at last le =
    let u = unit_of c.terms in
    let list : ℕ → List Segment = new_in (numbering_of c) c.force place of t in
    let low : (s : ℕ) → 0 ≤ s → (list s ≡ []) ⊎ (l.section ≤ place + s + c.resets) = λ s _. low_at c place of t l last le s in
    ap (λ (xs : List Segment). durations (told_behind u of.last xs)) (new_is c place of t at)
    ∙ subst (λ (o : Option Last). durations (told_behind u o (flat_map list (sections_of c.force)))
    ≡ flat_map (λ s. durations (told_behind u o (list s))) (sections_of c.force)) (sym last)
    (by_sections u (λ s. place + s + c.resets) list (λ s r less. omega (arith, less)) (new_own (numbering_of c) c.force place of t) 0
    (length c.force.sections) l low)
