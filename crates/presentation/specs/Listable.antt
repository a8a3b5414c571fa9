-- Presentations whose segments can be listed, from either kind of manifest.
use Rattle.std.specs.Prelude.{ℕ, ◌<◌, length, All, IfSome}
use Rattle.presentation.specs.{Laws.HasAddress, Origins.CameFromPlaylists, Presented.{Presented, IsEnded, content_at, listed_at}}

-- the content of each track in each section has an end, and each listed segment has a URL
pub record AreListable (p : Presented) : Type 0 where
  pub ended : All IsEnded p.contents
  pub addressed : (s t : ℕ) → s < length p.sections → t < length p.tracks
      → IfSome (content_at p s t) (λ content. All (HasAddress content.runs) (listed_at p s t))

-- from playlists
abbrev pub PlaylistsAreListable : Type 0
PlaylistsAreListable = (p : Presented) → CameFromPlaylists p → AreListable p
