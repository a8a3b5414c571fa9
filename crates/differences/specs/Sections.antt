-- The sections in which some track has content, and what differs there.
use Rattle.std.specs.Prelude.{◌≡◌, ℕ, ◌+◌, ◌<◌, zero, suc, Bool, List, [], ◌∷◌, ◌++◌, filter, map, length, All, IfSome, Option, Ok}
use Rattle.meaning.specs.Meanings.{Entry}
use Rattle.presentation.specs.{Counting.{counted, count_of_all, sections_of}, Laws.HasAddress, Meanings.{entry_at, is_kept, row_at}}
use Rattle.presentation.specs.{Origins.CameFromPlaylists, Presented.{Presented, content_at, listed_at}}
use Rattle.presentation.specs.{Printing.{IsCounted, printed_timings}, Verifying.verified}
use Rattle.differences.specs.{declared.deviation.Deviation.Deviation, Deviating.{entries_deviations, entries_greatest}}

-- `verify` and `count` succeed for the first presentation, and the second one's segments are given by URLs, and `count`
-- succeeds for it
pub record AreComparable (unit : ℕ) (mpd playlists : Presented) : Type 0 where
  pub longest : List ℕ
  pub verified : verified mpd unit ≡ Ok longest
  pub came : CameFromPlaylists playlists
  pub counted : counted playlists ≡ Ok (count_of_all playlists)

-- counting doesn't fail
pub record AreCounted (p : Presented) : Type 0 where
  pub at : (s t : ℕ) → s < length p.sections → t < length p.tracks → IsCounted p s t

-- nor does it for the listed segments, and each of them has a URL
pub record IsListable (unit : ℕ) (p : Presented) : Type 0 where
  pub counted : AreCounted p
  pub addressed : (s t : ℕ) → s < length p.sections → t < length p.tracks
      → IfSome (content_at p s t) (λ content. All (λ x. HasAddress content.runs x.times) (printed_timings unit (listed_at p s t)))

-- ---- sections

abbrev pub has_content : Presented → (s : ℕ) → Bool
has_content p s = is_kept (row_at p s)

-- the sections in which some track has content
abbrev pub kept_sections : Presented → List ℕ
kept_sections p = filter (has_content p) (sections_of p)

-- the content of a track in them
abbrev pub entries_of : Presented → (t : ℕ) → List (Option Entry)
entries_of p t = map (λ s. entry_at p s t) (kept_sections p)

-- ---- contents

-- of some tracks of both presentations, given the index of the first one
abbrev pub contents_from : (within unit : ℕ) → Presented → Presented → (t n : ℕ) → List Deviation
contents_from within unit a b t zero = []
contents_from within unit a b t (suc n) =
    entries_deviations within unit t 0 (entries_of a t) (entries_of b t) ++ contents_from within unit a b (t + 1) n

abbrev pub greatest_from : Presented → Presented → (t n : ℕ) → List ℕ
greatest_from a b t zero = []
greatest_from a b t (suc n) = entries_greatest (entries_of a t) (entries_of b t) ∷ greatest_from a b (t + 1) n
