-- The report on the tracks and sections of a presentation, line by line.
use Rattle.std.specs.Prelude.{ℕ, ◌^◌, List, [], ◌++◌, length, codes, decimal, flat_map, slice_get, Option, Some, None}
use Rattle.std.specs.Option.{option_map_or}
use Rattle.bridge_io.specs.{declared.media.Kind.Kind, declared.media.Kind.TheVariants.{Video, Audio, Text}}
use Rattle.hls_writer.specs.Lines.{seconds_bytes}
use Rattle.presentation.specs.{Counting.{sections_of, tracks_of}, Presented.{Presented, listed_at}, Verifying.length_of}
use Rattle.presentation.specs.declared.track.Track.{Track}
use Rattle.bridge_steps.specs.Done.{counts_line}

abbrev pub kind_word : Kind → List ℕ
kind_word Video = codes "video"
kind_word Audio = codes "audio"
kind_word Text = codes "text"

abbrev pub language_word : Option (List ℕ) → List ℕ
language_word None = codes "-"
language_word (Some language) = language

unfoldable pub entry_text : (track : ℕ) (kind language : List ℕ) (section segments : ℕ) → List ℕ
entry_text track kind language section segments =
    codes "track " ++ decimal track ++ codes " " ++ kind ++ codes " " ++ language ++ codes " section " ++ decimal section
    ++ codes " segments=" ++ decimal segments ++ codes " length="

-- a track in a section: the number and the total duration of its listed segments
abbrev pub entry_line : (digits : ℕ) → Presented → (track section : ℕ) → Track → List ℕ
entry_line digits p track section t =
    let listed = listed_at p section track in
    entry_text track (kind_word t.kind) (language_word t.language) section (length listed)
    ++ (seconds_bytes digits (length_of (10 ^ digits) listed) ++ codes "\n")

abbrev pub entry_lines : (digits : ℕ) → Presented → (track : ℕ) → Track → List ℕ
entry_lines digits p track t = flat_map (λ section. entry_line digits p track section t) (sections_of p)

-- a track's lines in all sections
abbrev pub track_lines : (digits : ℕ) → Presented → (track : ℕ) → List ℕ
track_lines digits p track = option_map_or (entry_lines digits p track) (slice_get p.tracks track) []

abbrev pub shown : (word : List ℕ) (digits : ℕ) → Presented → List ℕ
shown word digits p = counts_line word p ++ flat_map (track_lines digits p) (tracks_of p)
