-- The presentation of a Period, made track by track; contents past the limit of segments are dropped.
use Rattle.std.specs.Prelude.{ℕ, ◌+◌, ◌-◌, ◌^◌, ◌==◌, min, nat_lt, List, [], ◌∷◌, ◌++◌, length, map, if◌then◌else◌, Result, Ok, Err}
use Rattle.bridge_io.specs.{Answer.and_then, declared.media.Kind.Kind, declared.media.Kind.TheVariants.{Video, Audio, Text}, Outside.Files}
use Rattle.presentation.specs.{declared.fault.PresentationFault.TheVariants.Limit, declared.parts.Content.Content}
use Rattle.presentation.specs.{declared.track.Track.Track, Presented.Presented, Order.is_of}
use Rattle.mpd_presentation.specs.Rows.{in_order, track_of}
use Rattle.index_parts.specs.{declared.fault.IndexFault.IndexFault, declared.fault.IndexFault.TheVariants.Presentation}
use Rattle.index_parts.specs.{declared.located.Listed.Listed, declared.parts.Gathering.Gathering, Located.track_parts}
use Rattle.index_parts.specs.{Presented.{few_tracks, presented_with}, Rows.{Period, Row}}

abbrev pub none_kept : Gathering
none_kept = record { contents = []; segments = 0 }

-- counts stop at the last value of a counter
abbrev pub counted_with : Gathering → Listed → ℕ
counted_with g track = min (2 ^ 64 - 1) (g.segments + track.segments)

abbrev pub keep : Gathering → Listed → Gathering
keep g track = record {
  contents = if nat_lt 500000 (counted_with g track) then g.contents else g.contents ++ track.content ∷ [];
  segments = counted_with g track;
}

unfoldable pub kept_with : (url folder : List ℕ) → Files → Gathering → Row → Result Gathering IndexFault
kept_with url folder files g row = and_then (track_parts url folder files row) (λ track. Ok (keep g track))

-- a Representation of a kind
abbrev pub kept_if : (url folder : List ℕ) → Files → Kind → Gathering → Row → Result Gathering IndexFault
kept_if url folder files kind g row = if is_of kind row.description.kind then kept_with url folder files g row else Ok g

-- those of a kind, one after another
abbrev pub kind_kept : (url folder : List ℕ) → Files → Kind → Gathering → List Row → Result Gathering IndexFault
kind_kept url folder files kind g [] = Ok g
kind_kept url folder files kind g (row ∷ rows) =
    and_then (kept_if url folder files kind g row) (λ next. kind_kept url folder files kind next rows)

-- video, then audio, then text
unfoldable pub all_gathered : (url folder : List ℕ) → Files → List Row → Result Gathering IndexFault
all_gathered url folder files rows =
    and_then (kind_kept url folder files Video none_kept rows) (λ video.
    and_then (kind_kept url folder files Audio video rows) (λ audio.
    kind_kept url folder files Text audio rows))

-- contents are dropped where there are too many segments
abbrev pub all_kept : (tracks : ℕ) → List Content → Result (List Content) IndexFault
all_kept tracks contents = if length contents == tracks then Ok contents else Err (Presentation Limit)

abbrev pub presented_of : (left_out : ℕ) → Period → List Track → Gathering → Result Presented IndexFault
presented_of left_out period tracks g =
    and_then (all_kept (length tracks) g.contents) (λ contents. Ok (presented_with left_out period tracks contents))

unfoldable pub presented_kept : (url folder : List ℕ) → Files → (left_out : ℕ) → Period → Result Presented IndexFault
presented_kept url folder files left_out period =
    and_then (few_tracks (map track_of (in_order period.tracks))) (λ tracks.
    and_then (all_gathered url folder files period.tracks) (presented_of left_out period tracks))
