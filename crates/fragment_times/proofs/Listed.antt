-- Listed segments, and what they are.
use Rattle.std.proofs.Common.{◌≡◌, ◌+◌, ◌*◌, ℕ, zero, suc, false, List, [], ◌∷◌, All, Option, Some, None, IfSome, length, option_map, refl}
use Rattle.std.proofs.{Common.{sym, ap, subst, ◌∙◌}, lemmas.List.Elements.{All-head, All-tail}}
use Rattle.std.specs.{Option.option_map_or, Prelude.slice_get}
use Rattle.timeline.specs.{declared.window.Window.Window, Expansions.{SegmentTimeline, Timing, is_open}, Listed.{IsDone, IsFirstListed}}
use Rattle.timeline.specs.{Listed.{IsMade, IsReached, Made, Rest, expansion, listed_from}, OpenEnds.EndedIsReached}
use Rattle.presentation.specs.{declared.parts.Content.Content, Laws.HasAddress, Presented.{IsEnded, Presented, content_at, listed_at}}
use Rattle.presentation.specs.Presented.{listed_in, window_of}
use Rattle.presentation.proofs.{Meant.made_are_meant, Printing.all_listed}
use Rattle.fragment_times.specs.Times.{parts_of}

-- ---- segment by segment

-- the next segment's part is the first one
pub next_part : (old new : Rest) (made : Made) → IsMade old made new
    → parts_of old.timeline old.left ≡ made.part ∷ parts_of new.timeline new.left
next_part old new made next =
    let meant : made.part ≡ _ = made_are_meant old.timeline made.times made.part next.part in
    rw (next.next, meant, next.timeline) refl

pub no_part : (old new : Rest) → IsDone old new → parts_of old.timeline old.left ≡ []
no_part old new done = ap (parts_of old.timeline) done.none

pub still_addressed : (old new : Rest) (made : Made) → IsMade old made new → All (HasAddress old.timeline) old.left
    → All (HasAddress new.timeline) new.left
still_addressed old new made next all = rw next.timeline (All-tail (HasAddress old.timeline) made.times new.left (rw next.next at all))

-- ---- of a track in a section

ended_at : (contents : List Content) (place : ℕ) (runs : SegmentTimeline) → All IsEnded contents
    → option_map (λ (content : Content). content.runs) (slice_get contents place) ≡ Some runs → is_open runs.members ≡ false
ended_at [] place runs all is = absurd (cc)
ended_at (content ∷ contents) zero runs all is =
    let same : content.runs ≡ runs = cc in
    rw (← same) (All-head IsEnded content contents all)
ended_at (content ∷ contents) (suc place) runs all is = ended_at contents place runs (All-tail IsEnded content contents all) is

listed_by : (window : Window) (o : Option Content) (runs : SegmentTimeline)
    → option_map (λ (content : Content). content.runs) o ≡ Some runs
    → option_map_or (λ (content : Content). listed_in window content.runs) o [] ≡ listed_in window runs
listed_by window None runs is = absurd (cc)
listed_by window (Some content) runs is = (let same : content.runs ≡ runs = cc in ap (listed_in window) same)

addressed_by : (xs : List Timing) (o : Option Content) (runs : SegmentTimeline)
    → option_map (λ (content : Content). content.runs) o ≡ Some runs
    → IfSome o (λ content. All (HasAddress content.runs) xs) → All (HasAddress runs) xs
addressed_by xs None runs is all = absurd (cc)
addressed_by xs (Some content) runs is all =
    let same : content.runs ≡ runs = cc in
    subst (λ (runs : SegmentTimeline). All (HasAddress runs) xs) same all

module _ (p : Presented) (s t : ℕ) (runs : SegmentTimeline)
    (is : option_map (λ (content : Content). content.runs) (content_at p s t) ≡ Some runs) where
  pub is_reached : EndedIsReached → All IsEnded p.contents → (window : Window) → IsReached runs window
  is_reached law all window = (law runs window (ended_at p.contents (s * length p.tracks + t) runs all is)).1

  pub listed_whole : (window : Window) (place : ℕ) → window ≡ window_of p s → IsFirstListed window (expansion runs window) place
      → listed_from place runs window ≡ listed_at p s t
  listed_whole window place same first =
      all_listed window (expansion runs window) place first.none_before
      ∙ ap (λ window. listed_in window runs) same ∙ sym (listed_by (window_of p s) (content_at p s t) runs is)

  pub are_addressed : IfSome (content_at p s t) (λ content. All (HasAddress content.runs) (listed_at p s t))
      → All (HasAddress runs) (listed_at p s t)
  are_addressed all = addressed_by (listed_at p s t) (content_at p s t) runs is all
