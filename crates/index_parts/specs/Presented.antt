-- The presentation of an MPD and its media files, or the first error: ISO/IEC 23009-1, 5.3.9.2.
use Rattle.std.specs.Prelude.{ℕ, nat_lt, List, [], ◌∷◌, length, map, sum_by, if◌then◌else◌, Option, Result, Ok, Err}
use Rattle.bridge_io.specs.{Answer.and_then, Outside.Files}
use Rattle.mpd_levels.specs.declared.indexed.IndexRow.{IndexRow}
use Rattle.mpd_rules.specs.Typed.{TypedMpd}
use Rattle.presentation.specs.{declared.fault.PresentationFault.TheVariants.Limit, declared.parts.Content.Content}
use Rattle.presentation.specs.{declared.track.Track.Track, Presented.{Presented, of_parts}}
use Rattle.mpd_presentation.specs.Rows.{in_order, section_of, track_of}
use Rattle.index_parts.specs.{declared.fault.IndexFault.IndexFault, declared.fault.IndexFault.TheVariants.Presentation}
use Rattle.index_parts.specs.{declared.located.Listed.Listed, Located.track_parts, Rows.{Period, Row}}

-- ---- the tracks: video, then audio, then text

-- at most 200
abbrev pub few_tracks : List Track → Result (List Track) IndexFault
few_tracks tracks = if nat_lt 200 (length tracks) then Err (Presentation Limit) else Ok tracks

-- the contents of the Representations, in order, or the first error
abbrev pub all_parts : (url folder : List ℕ) → Files → List Row → Result (List Listed) IndexFault
all_parts url folder files [] = Ok []
all_parts url folder files (row ∷ rows) =
    and_then (track_parts url folder files row) (λ one. and_then (all_parts url folder files rows) (λ later. Ok (one ∷ later)))

-- at most 500,000 segments; a `sidx` has fewer than 65,536
abbrev pub total : List Listed → ℕ
total tracks = sum_by (λ (track : Listed). track.segments) tracks

abbrev pub contents_in : List Listed → List Content
contents_in tracks = map (λ (track : Listed). track.content) tracks

abbrev pub few_segments : List Listed → Result (List Content) IndexFault
few_segments tracks = if nat_lt 500000 (total tracks) then Err (Presentation Limit) else Ok (contents_in tracks)

-- ---- the presentation

abbrev pub presented_with : (left_out : ℕ) → Period → List Track → List Content → Presented
presented_with left_out period tracks contents =
    of_parts (record { tracks = tracks; sections = section_of period ∷ []; contents = contents; left_out = left_out })

unfoldable pub presented_in : (url folder : List ℕ) → Files → (left_out : ℕ) → Period → Result Presented IndexFault
presented_in url folder files left_out period =
    and_then (few_tracks (map track_of (in_order period.tracks))) (λ tracks.
    and_then (and_then (all_parts url folder files (in_order period.tracks)) few_segments) (λ contents.
    Ok (presented_with left_out period tracks contents)))

abbrev pub nothing : (left_out : ℕ) → Presented
nothing left_out = of_parts (record { tracks = []; sections = []; contents = []; left_out = left_out })

-- the rules of an MPD reject it unless it has one Period
abbrev pub presented_by : (url folder : List ℕ) → Files → (left_out : ℕ) → List Period → Result Presented IndexFault
presented_by url folder files left_out [] = Ok (nothing left_out)
presented_by url folder files left_out (period ∷ later) = presented_in url folder files left_out period

-- The presentation of an MPD at a URL, with the files of a store whose folder has the second URL, or the first error.
unfoldable pub indexed_of : (url folder : List ℕ) → Files → TypedMpd (Option IndexRow) → Result Presented IndexFault
indexed_of url folder files mpd = presented_by url folder files mpd.left_out mpd.periods
