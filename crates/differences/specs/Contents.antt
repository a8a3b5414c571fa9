-- What differs of the contents of tracks, added to what was found before.
use Rattle.meaning.specs.declared.difference.Aspect.TheVariants as aspect
use Rattle.std.specs.Prelude.{ℕ, ◌++◌, ◌^◌, List, Option, drop, length, map, min}
use Rattle.meaning.specs.{Differences.in_all, Meanings.Entry}
use Rattle.presentation.specs.Meanings.{entry_at}
use Rattle.differences.specs.declared.{collected.Collected.Collected, contents.Both.Both, side.Side.Side}
use Rattle.differences.specs.Collecting.{all_added, noted}
use Rattle.differences.specs.Deviating.{entries_deviations, entries_greatest, entry_deviations, entry_greatest, number_deviations}
use Rattle.differences.specs.Heads.{heads_from}
use Rattle.differences.specs.{Sections.{contents_from, greatest_from}, Sides.{IsSide, entry_of}}

pub record AreSides (both : Both) : Type 0 where
  pub mpd : IsSide both.mpd
  pub playlists : IsSide both.playlists

abbrev pub tracks_of_both : Both → ℕ
tracks_of_both both = min (length both.mpd.presentation.now.tracks) (length both.playlists.presentation.now.tracks)

-- the content of a track in the sections of a side
abbrev pub entries_in : Side → (t : ℕ) → List (Option Entry)
entries_in side t = map (λ s. entry_at side.presentation.now s t) side.sections

module _ (both : Both) where
  abbrev pub unit_of : ℕ
  unit_of = 10 ^ both.tolerance.digits

  -- the numbers of sections and tracks, and the tracks' kinds and languages
  abbrev pub heads_noted : Collected → Collected
  heads_noted c = all_added c (number_deviations (in_all aspect.Sections) (length both.mpd.sections) (length both.playlists.sections)
      ++ (number_deviations (in_all aspect.Tracks) (length both.mpd.presentation.now.tracks) (length both.playlists.presentation.now.tracks)
      ++ heads_from 0 both.mpd.presentation.now.tracks both.playlists.presentation.now.tracks))

  abbrev pub section_noted : (t place : ℕ) → Collected → Collected
  section_noted t place c = noted c
      (entry_deviations both.tolerance.within unit_of t place (entry_of both.mpd place t) (entry_of both.playlists place t))
      (entry_greatest (entry_of both.mpd place t) (entry_of both.playlists place t))

  -- from the section at an index on, also after the last one
  abbrev pub track_noted : (t place : ℕ) → Collected → Collected
  track_noted t place c = noted c (entries_deviations both.tolerance.within unit_of t place
      (drop place (entries_in both.mpd t)) (drop place (entries_in both.playlists t)))
      (entries_greatest (drop place (entries_in both.mpd t)) (drop place (entries_in both.playlists t)))

  -- of some tracks, given the index of the first one
  abbrev pub contents_noted : (t n : ℕ) → Collected → Collected
  contents_noted t n c = all_added c (contents_from both.tolerance.within unit_of both.mpd.presentation.now
      both.playlists.presentation.now t n)

  abbrev pub greatest_of : (t n : ℕ) → List ℕ
  greatest_of t n = greatest_from both.mpd.presentation.now both.playlists.presentation.now t n
