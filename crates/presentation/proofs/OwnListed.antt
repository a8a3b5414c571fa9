-- What a presentation from playlists lists: each segment is counted, and has an address of its own.
use Rattle.std.proofs.Common.{◌≡◌, ℕ, zero, suc, ◌+◌, ◌-◌, ◌<◌, ◌≤◌, false, List, [], ◌∷◌, length, get_or, All, Option, Some, option_map}
use Rattle.std.proofs.{Common.{refl, ap, ◌∙◌, arith}, lemmas.List.Elements.{All-cons, All-filter, All-head, All-nil, All-tail}}
use Rattle.std.specs.{Prelude.slice_get, List.list_any, Result.result_unwrap_or}
use Rattle.exact_time.specs.Time.{Time}
use Rattle.timeline.specs.{declared.window.Window.Window, Expansions.{Closed, Endless, Extent, Member, SegmentTimeline, Short, Timing}}
use Rattle.timeline.specs.{Expansions.{extents, is_open, numbered}, Listed.{IsReached, IsWindowOf, answered_count, instant_of, is_listed}}
use Rattle.timeline.specs.{Listed.{media_time, reaches_fault}, Names.{own_part, part_of}}
use Rattle.presentation.specs.{declared.parts.Content.Content, Laws.HasAddress, Origins.IsAddressed, Presented.listed_in}

pub some_at : {X : Type 0} (xs : List X) (place : ℕ) → place < length xs → (x : X) × (slice_get xs place ≡ Some x)
some_at [] place within = absurd (omega (arith, within))
some_at (x ∷ xs) zero within = (x, refl)
some_at (x ∷ xs) (suc place) within = some_at xs place (omega (arith, within))

-- the content of a place has addresses of its own
pub addressed_at : (contents : List Content) (place : ℕ) (runs : SegmentTimeline)
    → All (λ (content : Content). IsAddressed content.runs) contents
    → option_map (λ content. content.runs) (slice_get contents place) ≡ Some runs → IsAddressed runs
addressed_at [] place runs all is = absurd (cc)
addressed_at (content ∷ contents) zero runs all is = let same : content.runs ≡ runs = cc in
    rw (← same) (All-head (λ (c : Content). IsAddressed c.runs) content contents all)
addressed_at (content ∷ contents) (suc place) runs all is = addressed_at contents place runs
    (All-tail (λ (c : Content). IsAddressed c.runs) content contents all) is

-- ---- segments up to an end

pub fits : (timeline : SegmentTimeline) (window : Window) → is_open timeline.members ≡ false → IsWindowOf timeline window
fits timeline window ended goes = absurd (cc)

none_reached : (timeline : SegmentTimeline) (window : Window) (members : List Member) → is_open members ≡ false
    → list_any (reaches_fault timeline window) members ≡ false
none_reached timeline window [] ended = refl
none_reached timeline window (Closed x ∷ members) ended = none_reached timeline window members ended
none_reached timeline window (Short x ∷ members) ended = none_reached timeline window members ended
none_reached timeline window (Endless x ∷ members) ended = absurd (cc)

pub reached : (timeline : SegmentTimeline) (window : Window) → is_open timeline.members ≡ false → IsReached timeline window
reached timeline window ended = none_reached timeline window timeline.members ended

pub counted : (timeline : SegmentTimeline) (window : Window) → IsReached timeline window
    → result_unwrap_or (answered_count timeline window) 0 ≡ length (listed_in window timeline)
counted timeline window within = rw within refl

extents_short : (instant : Time) (members : List Member) → is_open members ≡ false → length (extents instant members) ≤ length members
extents_short instant [] ended = omega arith
extents_short instant (Closed x ∷ members) ended = omega (arith, extents_short instant members ended)
extents_short instant (Short x ∷ members) ended = omega (arith, extents_short instant members ended)
extents_short instant (Endless x ∷ members) ended = absurd (cc)

-- the segments are numbered within their number
abbrev IsPlaced : (first count : ℕ) → Timing → Type 0
IsPlaced first count x = x.number - first < count

placed : (first count from : ℕ) (xs : List Extent) → first ≤ from → from - first + length xs ≤ count
    → All (IsPlaced first count) (numbered from xs)
placed first count from [] behind within = All-nil (IsPlaced first count)
placed first count from (x ∷ xs) behind within =
    All-cons (IsPlaced first count) _ (numbered (from + 1) xs) (omega (arith, within))
    (placed first count (from + 1) xs (omega (arith, behind)) (omega (arith, behind, within)))

has_address : (timeline : SegmentTimeline) (x : Timing) (is : IsAddressed timeline) → IsPlaced timeline.first_number (length is.parts) x
    → HasAddress timeline x
has_address timeline x is within = let found = some_at is.parts (x.number - timeline.first_number) within in (
  found.0,
  ap (λ names. part_of names (x.number - timeline.first_number) x.number (media_time timeline x)) is.named
      ∙ ap own_part found.1,
)

-- each listed segment has an address
pub have_addresses : (timeline : SegmentTimeline) (window : Window) → IsAddressed timeline
    → All (HasAddress timeline) (listed_in window timeline)
have_addresses timeline window is =
    let first = timeline.first_number in let count = length is.parts in
    let xs = extents (instant_of window) timeline.members in
    let short = extents_short (instant_of window) timeline.members is.ended in
    let all : All (IsPlaced first count) (numbered first xs) = placed first count first xs (omega arith)
    (omega (arith, short, is.paired)) in
    let each = All-filter (is_listed window) (IsPlaced first count) (numbered first xs) all in
    λ k d within. has_address timeline (get_or (listed_in window timeline) k d) is (each k d within)
