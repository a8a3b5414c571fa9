-- All segments that were listed stand in order, where each update lists its own in order, and those of one section lie in one Period.
use Rattle.std.proofs.Common.{arith, ◌≡◌, ℕ, ◌+◌, ◌*◌, Bool, ℤ, List, [], ◌∷◌, map, length, Option, Some, None, Ok, refl, sym, ap, subst}
use Rattle.std.proofs.Common.{◌-◌, ◌≤◌, ◌<◌, zero, suc, get_or, ◌++◌, ◌∙◌}
use Rattle.std.proofs.lemmas.List.Elements.{All-nil, All-filter, All-from_recursion, All-append, All-map, filter_passes}
use Rattle.std.proofs.{lemmas.List.append_assoc, lemmas.Simd.map-map, lemmas.Option.same_Some, lemmas.Bool.Decides.nat_tests}
use Rattle.std.specs.{Prelude.{All, filter, unwrap_or, flat_map, slice_get}, List.{AllByRecursion, range_with_len}, Option.option_map_or}
use Rattle.exact_time.specs.{Time.{Time, AreRising, IsAtMost, IsTime}, Laws.SumsAreFloors}
use Rattle.exact_time.proofs.TimeOrder.{IsAtMost-from_before, before_then_at_most, before-true}
use Rattle.mpd_levels.specs.Segments.{Segments}
use Rattle.timeline.specs.{declared.entry.End.End, declared.names.Names.Names, declared.window.Window.Window}
use Rattle.timeline.specs.{Expansions.{Extent, SegmentTimeline, Timing, extents, numbered}, Limits.too_long}
use Rattle.timeline.specs.Listed.{expansion, instant_of, is_listed}
use Rattle.mpd_entries.specs.declared.entry.SEntry.{SEntry}
use Rattle.timeline.proofs.Rises.{ends_rise, no_step_from}
use Rattle.presentation.specs.{declared.parts.Content.Content, Presented.{Presented, content_at, listed_at, listed_in, window_of, start_of}}
use Rattle.presentation.proofs.Grids.{All-at}
use Rattle.mpd_presentation.specs.{Scales.scale_of, Told.{presented_of, timeline_by}}
use Rattle.mpd_presentation.proofs.{Ending.all_have, FromMpd.is_told, Pace.{IsSound, expansion_has, duration_sound, entries_sound}}
use Rattle.live_meaning.specs.Updates.{Values, Refresh, Terms, Update, unit_of}
use Rattle.live_meaning.specs.Laws.{DoesLast, PeriodsAreListedInOrder, IsListedInOrder, SectionsNeverDrift}
use Rattle.live_meaning.specs.Segments.{Numbering, Segment, behind, id_at, is_later, listed_in_period, listed_of, place_behind, place_of}
use Rattle.live_meaning.specs.Segments.{segment_with}
use Rattle.live_meaning.specs.Histories.{Common, Whole, all_of, begun_common, begun_with, common_with, gone_on, numbering_of, whole_of}
use Rattle.live_meaning.proofs.Histories.{whole_goes_on, holds, past_holds, Each, each_after, each_begun, last_goes_on, place_goes_on}
use Rattle.followed.specs.{Durations.{Last, last_behind, last_with}, Order.{InOrder, IsTimed}}
use Rattle.followed.proofs.Sections.{all_behind, later_in_order, order-append, section_is_in_order, apart_in_order, last_section}
use Rattle.followed.proofs.Sections.{sections_sum}

skipped : (former : Time) (x : Timing) (xs : List Timing) → AllByRecursion (λ (x : Timing). IsTime x.end) xs → AreRising
    (former ∷ x.end ∷ map (λ y. y.end) xs) → AreRising (former ∷ map (λ y. y.end) xs)
skipped former x [] last rise = tt
skipped former x (y ∷ ys) last rise =
    (before_then_at_most former x.end y.end last.0 rise.0 (IsAtMost-from_before x.end y.end rise.1.0), rise.1.1)

later_rise : (test : Timing → Bool) (former : Time) (xs : List Timing) → AllByRecursion (λ (x : Timing). IsTime x.end) xs
    → AreRising (former ∷ map (λ y. y.end) xs) → AreRising (former ∷ map (λ y. y.end) (filter test xs))
later_rise test former [] last rise = tt
later_rise test former (x ∷ xs) last rise =
    grind (arith, rise.0, later_rise test x.end xs last.1 rise.1, later_rise test former xs last.1 (skipped former x xs last.1 rise))

filter_rises : (test : Timing → Bool) (xs : List Timing) → AllByRecursion (λ (x : Timing). IsTime x.end) xs → AreRising
    (map (λ y. y.end) xs) → AreRising (map (λ y. y.end) (filter test xs))
filter_rises test [] last rise = tt
filter_rises test (x ∷ xs) last rise =
    grind (arith, later_rise test x.end xs last.1 rise, filter_rises test xs last.1 (grind (arith, rise)))

numbered_ends : (n : ℕ) (xs : List Extent) → map (λ y. y.end) (numbered n xs) ≡ map (λ y. y.end) xs
numbered_ends n [] = refl
numbered_ends n (x ∷ xs) = ap (λ (ts : List Time). x.end ∷ ts) (numbered_ends (n + 1) xs)

abbrev pub AreTimed : List Timing → Type 0
AreTimed xs = All DoesLast xs × AreRising (map (λ y. y.end) xs)

listed_timed : (window : Window) (timeline : SegmentTimeline) → IsSound timeline.members → AreTimed (listed_in window timeline)
listed_timed window timeline sound =
    let xs : List Extent = extents (instant_of window) timeline.members in
    let lasts = All-from_recursion (λ x. IsTime x.start × IsTime x.end × IsAtMost x.start x.end) (expansion timeline window) (expansion_has
    (λ start end. IsTime start × IsTime end × IsAtMost start end)
    (λ x is. (is.start_is, is.end_is, IsAtMost-from_before x.start x.end is.ends)) timeline window sound.lasting) in
    let rise : AreRising (map (λ (y : Extent). y.end) xs) =
    ends_rise timeline.members sound.lasting (no_step_from too_long None timeline.members sound.steady) (instant_of window) in (
      All-filter (is_listed window) DoesLast (expansion timeline window) (λ j d within. grind (arith, lasts j d within)),
      filter_rises (is_listed window) (expansion timeline window) (expansion_has (λ start end. IsTime end) (λ x is. is.end_is) timeline
          window sound.lasting) (subst AreRising (sym (numbered_ends timeline.first_number xs)) rise),
    )

abbrev pub IsSoundIn : Content → Type 0
IsSoundIn content = IsSound content.runs.members

content_timed : (p : Presented) (s t : ℕ) → All IsSoundIn p.contents → (o : Option Content) → content_at p s t ≡ o
    → AreTimed (option_map_or (λ content. listed_in (window_of p s) content.runs) o [])
content_timed p s t sound None is = (All-nil DoesLast, tt)
content_timed p s t sound (Some content) is =
    listed_timed (window_of p s) content.runs (All-at IsSoundIn p.contents (s * length p.tracks + t) content sound is)

pub period_timed : (p : Presented) (s t : ℕ) → All IsSoundIn p.contents → AreTimed (listed_at p s t)
period_timed p s t sound = content_timed p s t sound (content_at p s t) refl

runs_sound : (live : Bool) (timeline : Option (List SEntry)) (s : Segments) (end : End) (names : Names) (runs : SegmentTimeline)
    → timeline_by timeline s live end names ≡ Ok runs → IsSound runs.members
runs_sound live (Some timeline) s end names runs is = entries_sound (scale_of s) end live names runs timeline is
runs_sound live None s end names runs is = duration_sound (scale_of s) end live names runs (unwrap_or s.duration 0) is

pub presented_sound : (mpd : Values) (url : List ℕ) (now : Option ℤ) (p : Presented) → presented_of mpd url now ≡ Ok p
    → All IsSoundIn p.contents
presented_sound mpd url now p made =
    let told = is_told mpd url now p made in
    subst (λ (q : Presented). All IsSoundIn q.contents) told.is (all_have (λ runs. IsSound runs.members) mpd.facts.live
    (runs_sound mpd.facts.live) url mpd.periods told.tolds told.told)

pub flat_have : {X : Type 0} (P : X → Type 0) (list : ℕ → List X) (a n : ℕ) → ((s : ℕ) → a ≤ s → s < a + n → All P (list s))
    → All P (flat_map list (range_with_len a n))
flat_have {X} P list a zero each = All-nil P
flat_have {X} P list a (suc n) each = All-append P (list a) (flat_map list (range_with_len (a + 1) n)) (each a (omega arith) (omega arith))
    (flat_have P list (a + 1) n (λ s le less. each s (omega arith) (omega arith)))

abbrev pub made_in : Numbering → Presented → (s : ℕ) → Content → Timing → Segment
made_in n p s content x = segment_with n (place_of n.ids (id_at p s)) (start_of p s) content x

made_of : (P : Segment → Type 0) (make : Content → Timing → Segment) (o : Option Content) (xs : List Timing) → ((content : Content) → o
    ≡ Some content → All (λ x. P (make content x)) xs) → All P (option_map_or (λ content. map (make content) xs) o [])
made_of P make None xs each = All-nil P
made_of P make (Some content) xs each = All-map P (make content) xs (each content refl)

pub listed_have : (P : Segment → Type 0) (n : Numbering) (p : Presented) (t : ℕ) → ((s : ℕ) (content : Content) → s < length p.sections
    → content_at p s t ≡ Some content → All (λ x. P (made_in n p s content x)) (listed_at p s t)) → All P (listed_of n p t)
listed_have P n p t each = flat_have P (listed_in_period n p t) 0 (length p.sections)
    (λ s le less. made_of P (made_in n p s) (content_at p s t) (listed_at p s t) (λ content. each s content (omega arith)))

-- ---- sections are places and resets
abbrev pub IsNumbered : ℕ → Segment → Type 0
IsNumbered resets x = x.section ≡ x.value.place + resets

pub listed_numbered : (n : Numbering) (p : Presented) (t : ℕ) → All (IsNumbered n.resets) (listed_of n p t)
listed_numbered n p t = listed_have (IsNumbered n.resets) n p t (λ s content less at. λ j d within. refl)

-- the last one's section is at most its place and the resets
abbrev pub IsLastNumbered : ℕ → Option Last → ℕ → Type 0
IsLastNumbered resets None place = place ≡ 0
IsLastNumbered resets (Some last) place = last.section ≤ place + resets

pub behind_in_order : (last : Option Last) (place resets : ℕ) (xs : List Segment) → IsLastNumbered resets last place
    → All (IsNumbered resets) xs → InOrder None xs → InOrder last (behind last place xs)
behind_in_order None place resets xs le numbered order = order
behind_in_order (Some last) place resets xs le numbered order = later_in_order (λ x. is_later last place x.value.place x.end)
    (Some last) None xs (λ j d within is. grind (arith, nat_tests, numbered j d within, before-true last.end (get_or xs j d).end)) order

pub behind_have : (P : Segment → Type 0) (last : Option Last) (place : ℕ) (xs : List Segment) → All P xs → All P (behind last place xs)
behind_have P None place xs all = all
behind_have P (Some last) place xs all = All-filter (λ x. is_later last place x.value.place x.end) P xs all

behind_later : (last : Option Last) (place resets : ℕ) (xs : List Segment) → IsLastNumbered resets last place
    → All (λ x. place ≤ x.value.place) (behind last place xs)
behind_later None place resets xs is j d within = omega arith
behind_later (Some last) place resets xs is j d within =
    grind (arith, nat_tests, filter_passes (λ (x : Segment). is_later last place x.value.place x.end) xs j d within)

-- Places don't fall, and nor do the resets that sections count beside them: from those of one before on, up to so many.
abbrev Steps : (place resets most : ℕ) → List Segment → Type 0
Steps place resets most [] = resets ≤ most
Steps place resets most (x ∷ xs) =
    (place ≤ x.value.place) × (x.value.place + resets ≤ x.section) × Steps x.value.place (x.section - x.value.place) most xs

steps-append : (place resets former most : ℕ) (xs ys : List Segment) → Steps place resets former xs
    → Steps (place_behind place xs) former most ys → Steps place resets most (xs ++ ys)
steps-append place resets former most [] [] le later = omega arith
steps-append place resets former most [] (y ∷ ys) le (up, more, rest) = (up, omega arith, rest)
steps-append place resets former most (x ∷ xs) ys (up, more, rest) later =
    (up, more, steps-append x.value.place (x.section - x.value.place) former most xs ys rest later)

last_numbered : (last : Option Last) (place resets most : ℕ) (xs : List Segment) → IsLastNumbered resets last place
    → Steps place resets most xs → IsLastNumbered most (last_behind last xs) (place_behind place xs)
last_numbered last place resets most [] numbered le = grind arith
last_numbered last place resets most (x ∷ xs) numbered (up, more, rest) =
    last_numbered (Some (last_with last x)) x.value.place (x.section - x.value.place) most xs (omega (arith, last_section last x)) rest

climb : (last : Option Last) (place former resets : ℕ) (xs : List Segment) → former ≤ resets → All (λ x. place ≤ x.value.place) xs
    → InOrder last xs → All (IsNumbered resets) xs → Steps place former resets xs
climb last place former resets [] le up order numbered = le
climb last place former resets (x ∷ xs) le up (timed, behind, order) numbered =
    let l : Last = last_with last x in
    let later = all_behind (Some l) l xs (λ section end is more. more) order in
    let rest = climb (Some l) x.value.place (x.section - x.value.place) resets xs (grind (arith, numbered 0 x))
    (λ j d within. grind (arith, later j d within, numbered 0 x, numbered (suc j) d, last_section last x)) order
    (λ j d within. numbered (suc j) d (omega arith)) in
    grind (arith, up 0 x, numbered 0 x, rest)

steps_at : (place resets most : ℕ) (xs : List Segment) (k : ℕ) (x : Segment) → Steps place resets most xs → slice_get xs k ≡ Some x
    → (place ≤ x.value.place) × (x.value.place + resets ≤ x.section)
steps_at place resets most [] k x steps at = absurd (cc)
steps_at place resets most (y ∷ xs) zero x (up, more, rest) at = grind (arith, up, more)
steps_at place resets most (y ∷ xs) (suc k) x (up, more, rest) at =
    grind (arith, steps_at y.value.place (y.section - y.value.place) most xs k x rest at)

-- of two of them the later one is in no earlier Period, and behind no fewer resets
pub steps_both : (place resets most : ℕ) (xs : List Segment) (i j : ℕ) (x y : Segment) → Steps place resets most xs → i ≤ j
    → slice_get xs i ≡ Some x → slice_get xs j ≡ Some y
    → (x.value.place ≤ y.value.place) × (x.section + y.value.place ≤ y.section + x.value.place)
steps_both place resets most (z ∷ xs) zero j x y (up, more, rest) le at_x at_y =
    let is = steps_at z.value.place (z.section - z.value.place) most (z ∷ xs) j y (omega arith, omega arith, rest) at_y in
    grind (arith, same_Some _ _ at_x, is, more)
steps_both place resets most (z ∷ xs) (suc i) (suc j) x y (up, more, rest) le at_x at_y =
    steps_both z.value.place (z.section - z.value.place) most xs i j x y rest (omega arith) at_x at_y
steps_both place resets most xs i j x y steps le at_x at_y = absurd (grind arith)

pub record IsOrdered (resets : ℕ) (all : List Segment) : Type 0 where
  pub order : InOrder None all
  pub its_last : IsLastNumbered resets (last_behind None all) (place_behind 0 all)
  pub steps : Steps 0 0 resets all

none_ordered : IsOrdered 0 []
none_ordered = record { order = tt; its_last = refl; steps = omega arith }

more_ordered : (former resets : ℕ) (all listed : List Segment) → former ≤ resets → All (IsNumbered resets) listed → InOrder None listed
    → IsOrdered former all → IsOrdered resets (all ++ behind (last_behind None all) (place_behind 0 all) listed)
more_ordered former resets all listed le numbered order is =
    let last : Option Last = last_behind None all in
    let place : ℕ = place_behind 0 all in
    let new : List Segment = behind last place listed in
    let its_last : IsLastNumbered resets last place = grind (arith, is.its_last) in
    let new_order : InOrder last new = behind_in_order last place resets listed its_last numbered order in
    let steps = climb last place former resets new le (behind_later last place resets listed its_last) new_order
    (behind_have (IsNumbered resets) last place listed numbered) in
    record {
      order = order-append None all new is.order new_order;
      its_last = rw (last_goes_on None all new, place_goes_on 0 all new) (last_numbered last place former resets new is.its_last steps);
      steps = steps-append 0 0 former resets all new is.steps steps;
    }

-- ---- histories
abbrev ListsInOrder : Common → ℕ → Type 0
ListsInOrder c t = InOrder None (listed_of (numbering_of c) c.force t)

all_ordered : (terms : Terms) (history : List Update) → IsListedInOrder terms history → (w : Whole) → whole_of terms history ≡ Some w
    → Each (λ t past. IsOrdered w.common.resets past.all) w.pasts
all_ordered terms history lists w is = holds terms (λ history w. Each (λ t past. IsOrdered w.common.resets past.all) w.pasts)
    (λ earlier u. (v : Whole) → whole_of terms (earlier ++ u ∷ []) ≡ Some v → (t : ℕ) → ListsInOrder v.common t)
    (λ earlier mpd now p from given made.
    let c : Common = begun_common terms mpd now p in
    let here = given (begun_with c) (rw (whole_goes_on terms earlier (Refresh mpd now), from, made) refl) in
    each_begun c (λ t past. IsOrdered 0 past.all) (λ t less. more_ordered 0 0 [] (listed_of (numbering_of c) p t) (omega arith)
    (listed_numbered (numbering_of c) p t) (here t) none_ordered)) (λ earlier u v p from given made its.
    let c : Common = common_with v.common u p in
    let here = given (gone_on v u p) (rw (whole_goes_on terms earlier u, from, made) refl) in
    each_after c (λ t past. IsOrdered v.common.resets past.all) (λ t past. IsOrdered c.resets past.all)
    (λ t past. more_ordered v.common.resets c.resets past.all (listed_of (numbering_of c) p t) (grind arith)
    (listed_numbered (numbering_of c) p t) (here t)) v.pasts its)
    history (λ front u back same v v_is t. lists (front ++ u ∷ []) back v t (same ∙ sym (append_assoc front (u ∷ []) back)) v_is) w is

pub past_ordered : (terms : Terms) (history : List Update) (t : ℕ) → IsListedInOrder terms history
    → (resets : ℕ) × IsOrdered resets (all_of terms history t)
past_ordered terms history t lists = past_holds (λ past. (resets : ℕ) × IsOrdered resets past.all) terms history t (0, none_ordered)
    (λ w is past at. (w.common.resets, all_ordered terms history lists w is t past at))

pub sections_never_drift : SumsAreFloors → SectionsNeverDrift
sections_never_drift floors terms history lists t section k x xs end own at =
    sections_sum floors (unit_of terms) section (all_of terms history t) x xs k end (past_ordered terms history t lists).1.order own at

-- ---- what one update lists, Period by Period
period_in : (n : Numbering) (place start : ℕ) (o : Option Content) (xs : List Timing) → All DoesLast xs → AreRising (map (λ x. x.end) xs)
    → InOrder None (option_map_or (λ content. map (segment_with n place start content) xs) o [])
period_in n place start None xs last rise = tt
period_in n place start (Some content) xs last rise =
    let make : Timing → Segment = segment_with n place start content in
    section_is_in_order (place + n.resets) (map make xs) (All-map IsTimed make xs (λ j d within. grind (arith, last j d within)))
    (All-map (λ (x : Segment). x.section ≡ place + n.resets) make xs (λ j d within. refl))
    (subst AreRising (sym (map-map (λ (x : Segment). x.end) make xs)) rise)

pub period_own : (n : Numbering) (p : Presented) (t s : ℕ)
    → All (λ x. x.section ≡ place_of n.ids (id_at p s) + n.resets) (listed_in_period n p t s)
period_own n p t s = made_of (λ x. x.section ≡ place_of n.ids (id_at p s) + n.resets) (made_in n p s) (content_at p s t) (listed_at p s t)
    (λ content at j d within. refl)

pub periods_are_listed_in_order : PeriodsAreListedInOrder
periods_are_listed_in_order n p t is =
    let own = λ (s : ℕ). period_in n (place_of n.ids (id_at p s)) (start_of p s) (content_at p s t) (listed_at p s t) (is.last s)
    (is.rise s) in
    apart_in_order (λ s. place_of n.ids (id_at p s) + n.resets) (listed_in_period n p t) (length p.sections) (λ s r less within.
    omega (arith, is.places s r less within)) (period_own n p t) own None 0 (length p.sections) (omega arith) (λ s above less. tt)
