-- The meaning of a presentation of an MPD whose media files have a `sidx`.
use Rattle.presentation.specs.Meanings as presentation
use Rattle.std.specs.Prelude.{◌≡◌, ℕ, List, Option, Some, Ok}
use Rattle.bridge_io.specs.Outside.{Files}
use Rattle.mpd_levels.specs.declared.indexed.IndexRow.{IndexRow}
use Rattle.mpd_rules.specs.{Rules.indexed_mpd_of, Typed.TypedMpd}
use Rattle.mpd_tree.specs.{Meaning.reading_of, Trees.Element}
use Rattle.presentation.specs.Presented.{Presented}
use Rattle.index_parts.specs.{Meanings.{indexed_meaning, meaning_of}, Presented.indexed_of}

-- the presentation of an MPD and its files means what they mean
abbrev pub IndexedAreMeant : Type 0
IndexedAreMeant = (url folder : List ℕ) (files : Files) (mpd : TypedMpd (Option IndexRow)) (p : Presented)
    → indexed_of url folder files mpd ≡ Ok p → meaning_of url folder files mpd ≡ Some (presentation.meaning_of p)

-- and that is what the MPD's text means with them
abbrev pub IndexedTextsAreMeant : Type 0
IndexedTextsAreMeant = (bytes url folder : List ℕ) (files : Files) (tree : Element) (mpd : TypedMpd (Option IndexRow)) (p : Presented)
    → reading_of bytes ≡ Ok tree → indexed_mpd_of tree ≡ Ok mpd → indexed_of url folder files mpd ≡ Ok p
    → indexed_meaning bytes url folder files ≡ Some (presentation.meaning_of p)
