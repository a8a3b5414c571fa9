-- The lines of differences.
use Rattle.differences.specs.declared.deviation.How.TheVariants as how
use Rattle.std.specs.Prelude.{ℕ, ◌+◌, ◌==◌, ◌||◌, Bool, List, [], ◌∷◌, ◌++◌, codes, decimal, flat_map, if◌then◌else◌}
use Rattle.differences.specs.declared.deviation.{Apart.Apart, Deviation.Deviation, Deviations.Deviations, How.How}
use Rattle.bridge_compare.specs.Check.{aspect_word}

-- ---- one difference

-- its place, as `check` tells it
unfoldable pub place_text : (what : List ℕ) (section track segment : ℕ) → List ℕ
place_text what section track segment = codes "differ " ++ what ++ codes " section " ++ decimal section ++ codes " track " ++ decimal track
    ++ codes " segment " ++ decimal segment

-- a sign, and the size in nanoseconds
abbrev pub sign_of : Apart → List ℕ
sign_of apart = if apart.later || apart.nanoseconds == 0 then codes "+" else codes "-"

unfoldable pub times_text : (start end : Apart) → List ℕ
times_text start end = codes " start=" ++ sign_of start ++ decimal start.nanoseconds
    ++ codes " end=" ++ sign_of end ++ decimal end.nanoseconds

unfoldable pub counts_text : (mpd playlists : ℕ) → List ℕ
counts_text mpd playlists = codes " mpd=" ++ decimal mpd ++ codes " playlists=" ++ decimal playlists

abbrev pub word_if : Bool → List ℕ → List ℕ
word_if is word = if is then word else []

abbrev pub how_text : How → List ℕ
how_text (how.Counts mpd playlists) = counts_text mpd playlists
how_text (how.Head kind language) = word_if kind (codes " kind") ++ word_if language (codes " language")
how_text how.Missing = codes " missing"
how_text how.Extra = codes " extra"
how_text how.Value = []
how_text (how.Times start end) = times_text start end

abbrev pub deviation_line : Deviation → List ℕ
deviation_line d = place_text (aspect_word d.at.what) d.at.section d.at.track d.at.segment ++ how_text d.how ++ codes "\n"

-- ---- all of them

-- the greatest difference of time of a track, in nanoseconds
unfoldable pub track_line : (track nanoseconds : ℕ) → List ℕ
track_line track nanoseconds = codes "track " ++ decimal track ++ codes " apart=" ++ decimal nanoseconds ++ codes "\n"

-- given the index of the first track
abbrev pub track_lines : (track : ℕ) → List ℕ → List ℕ
track_lines track [] = []
track_lines track (nanoseconds ∷ more) = track_line track nanoseconds ++ track_lines (track + 1) more

abbrev pub all_lines : Deviations → List ℕ
all_lines found = flat_map deviation_line found.first ++ track_lines 0 found.greatest

unfoldable pub count_line : ℕ → List ℕ
count_line count = codes "differ " ++ decimal count ++ codes "\n"
