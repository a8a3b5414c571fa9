-- A section's window fits the segments that a track has there.
use Rattle.std.proofs.Common.{◌≡◌, ℕ, ℤ, ◌<◌, Option, None, Some, false, length, get_or, option_map, refl}
use Rattle.std.proofs.lemmas.List.Elements.{All-get_or}
use Rattle.std.specs.Option.{option_map_or}
use Rattle.timeline.specs.{Expansions.{SegmentTimeline, is_open}, Listed.IsWindowOf}
use Rattle.presentation.specs.{declared.parts.Content.Content, declared.presentation.Following.Following as Kept}
use Rattle.presentation.specs.{declared.presentation.Presentation.TheInside.Inside, Presented.{at_instant, following_of, looked_at}}
use Rattle.presentation.specs.{Presented.{window_at, window_from, whole_window, window_of, start_of, IsEnded}, Kept.{presented, IsKept}}

fits : (following : Option Kept) (start : ℕ) (timeline : SegmentTimeline) → (following ≡ None → is_open timeline.members ≡ false)
    → IsWindowOf timeline (option_map_or (λ f. window_at f start) (option_map following_of following) whole_window)
fits None start timeline ended goes_on = absurd (let closed = ended refl in cc)
fits (Some f) start timeline ended goes_on = refl

fits_at : (following : Option Kept) (now : ℤ) (start : ℕ) (timeline : SegmentTimeline)
    → (following ≡ None → is_open timeline.members ≡ false)
    → IsWindowOf timeline (option_map_or (λ f. window_at f start)
    (option_map (at_instant now) (option_map following_of following)) whole_window)
fits_at None now start timeline ended goes_on = absurd (let closed = ended refl in cc)
fits_at (Some f) now start timeline ended goes_on = refl

module _ (p : Inside) (place : ℕ) (content : Content) (kept : IsKept p) (within : place < length p.contents)
    (is : content ≡ get_or p.contents place content) where
  ends : p.following ≡ None → is_open content.runs.members ≡ false
  ends none = rw is (All-get_or IsEnded p.contents place content within (kept.ended none))

  pub kept_fits : (s : ℕ) → IsWindowOf content.runs (window_of (presented p) s)
  kept_fits s = fits p.following (start_of (presented p) s) content.runs ends

  pub kept_fits_from : (now : ℤ) (start : ℕ) → IsWindowOf content.runs (window_from (looked_at now (presented p)) start)
  kept_fits_from now start = fits_at p.following now start content.runs ends
