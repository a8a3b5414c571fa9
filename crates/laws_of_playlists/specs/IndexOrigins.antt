-- What holds for a presentation of an MPD whose media files have a `sidx` (ISO/IEC 23009-1, 5.3.9.2).
use Rattle.std.specs.Prelude.{◌≡◌, ℕ, ◌≤◌, true, List, length, All, Option, Ok}
use Rattle.bridge_io.specs.Outside.{Files}
use Rattle.mpd_levels.specs.declared.indexed.IndexRow.{IndexRow}
use Rattle.mpd_rules.specs.{Rules.indexed_mpd_of, Typed.TypedMpd}
use Rattle.mpd_tree.specs.Trees.{Element}
use Rattle.presentation.specs.{declared.parts.Content.Content, Presented.{Presented, is_finished, listed_at}}
use Rattle.mpd_presentation.specs.PresentedLaws.{IsInPace}
use Rattle.laws_of_playlists.specs.{Origins.{AreLocated, IsFound, IsLocated}, Tracks.AreWritable}
use Rattle.index_parts.specs.Presented.{indexed_of}

-- from a valid MPD at a URL, and from the files of a store whose folder has another URL
pub record CameFromIndexes (p : Presented) : Type 0 where
  pub tree : Element
  pub mpd : TypedMpd (Option IndexRow)
  pub url : List ℕ
  pub folder : List ℕ
  pub files : Files
  pub typed : indexed_mpd_of tree ≡ Ok mpd
  pub presented : indexed_of url folder files mpd ≡ Ok p

abbrev pub IndexedAreFinished : Type 0
IndexedAreFinished = (p : Presented) → CameFromIndexes p → is_finished p ≡ true

abbrev pub IndexedAreWritable : Type 0
IndexedAreWritable = (p : Presented) → CameFromIndexes p → AreWritable p.tracks

abbrev pub IndexedAreFew : Type 0
IndexedAreFew = (p : Presented) → CameFromIndexes p → length p.tracks ≤ 200

-- for an MPD that was read from bytes, at a URL

abbrev pub IndexedInitializationsAreLocated : Type 0
IndexedInitializationsAreLocated = (p : Presented) (from : CameFromIndexes p) → IsFound from.tree from.url
    → All (λ (content : Content). IsLocated content.initialization) p.contents

abbrev pub IndexedPartsAreLocated : Type 0
IndexedPartsAreLocated = (p : Presented) (from : CameFromIndexes p) → IsFound from.tree from.url
    → All (λ (content : Content). AreLocated content.runs) p.contents

abbrev pub IndexedAreInPace : Type 0
IndexedAreInPace = (p : Presented) (s t : ℕ) → CameFromIndexes p → IsInPace (listed_at p s t)
