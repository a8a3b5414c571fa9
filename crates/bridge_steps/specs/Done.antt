-- What is reported of a presentation in one line.
use Rattle.std.specs.Prelude.{ℕ, List, ◌++◌, length, codes, decimal}
use Rattle.presentation.specs.{Presented.Presented, Counting.count_of_all}

unfoldable pub tracks_text : (word : List ℕ) (tracks sections : ℕ) → List ℕ
tracks_text word tracks sections =
    word ++ codes " tracks=" ++ decimal tracks ++ codes " sections=" ++ decimal sections ++ codes " segments="

unfoldable pub segments_text : (segments left_out : ℕ) → List ℕ
segments_text segments left_out = decimal segments ++ codes " left-out=" ++ decimal left_out ++ codes "\n"

unfoldable pub counts_text : (word : List ℕ) (tracks sections segments left_out : ℕ) → List ℕ
counts_text word tracks sections segments left_out = tracks_text word tracks sections ++ segments_text segments left_out

-- how many tracks, sections and listed segments there are, and how many were dropped
abbrev pub counts_line : (word : List ℕ) → Presented → List ℕ
counts_line word p = counts_text word (length p.tracks) (length p.sections) (count_of_all p) p.left_out

-- the line of a successful command
abbrev pub done_line : Presented → List ℕ
done_line p = counts_line (codes "done") p
