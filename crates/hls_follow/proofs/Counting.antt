-- How many segments there are.
use Rattle.std.proofs.Common.{◌≡◌, ◌≤◌, ◌<◌, ◌+◌, ◌-◌, ℕ, List, map, length, drop, get_or, slice_get, Option, Some, None, sym, ap, ◌∙◌}
use Rattle.std.proofs.{Common.{arith, length-drop}, lemmas.List.Sums.sum_by-cons}
use Rattle.hls_media.specs.declared.media.Media.{Media}
use Rattle.reload_law.specs.Rules.{end_of}
use Rattle.hls_presentation.specs.{Tracks.Source, Views.source_of, declared.kept.Source.Source as Held}
use Rattle.hls_follow.specs.{declared.state.FollowedTrack.FollowedTrack, Rules.{appended_from, count_of, new_segments}}
use Rattle.hls_follow.proofs.Keeping.{left_at}

pub new_fewer : (former : Option FollowedTrack) (media : Media) → length (new_segments former media) ≤ length media.segments
new_fewer None media = omega arith
new_fewer (Some former) media = omega (arith, length-drop (end_of former.media - media.sequence) media.segments)

module _ (kept : List Held) (i : ℕ) (d : Held) (within : i < length kept) (at : d ≡ get_or kept i d) where
  pub count_next : count_of (map source_of (drop i kept))
      ≡ length (source_of d).media.segments + count_of (map source_of (drop (i + 1) kept))
  count_next =
      ap (λ (kept : List Held). count_of (map source_of kept)) (left_at kept i d within at)
      ∙ sum_by-cons (λ (s : Source). length s.media.segments) (source_of d) (map source_of (drop (i + 1) kept))

  pub appended_next : (formers : List FollowedTrack) (place : ℕ) (former : Option FollowedTrack) → former ≡ slice_get formers place
      → appended_from formers place (map source_of (drop i kept))
      ≡ length (new_segments former (source_of d).media) + appended_from formers (place + 1) (map source_of (drop (i + 1) kept))
  appended_next formers place former is =
      ap (λ (kept : List Held). appended_from formers place (map source_of kept)) (left_at kept i d within at)
      ∙ ap (λ (f : Option FollowedTrack). length (new_segments f (source_of d).media)
      + appended_from formers (place + 1) (map source_of (drop (i + 1) kept))) (sym is)
