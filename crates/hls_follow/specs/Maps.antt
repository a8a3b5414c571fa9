-- Sections keep their maps (RFC 8216 4.3.2.5).
use Rattle.std.specs.Prelude.{ℕ, ◌+◌, nat_eq, not, List, [], ◌∷◌, Option, Some, None, Result, Ok, if◌then◌else◌}
use Rattle.std.specs.Option.{option_eq}
use Rattle.bridge_io.specs.Answer.{and_then}
use Rattle.url_parts.specs.declared.address.Part.{Part}
use Rattle.hls_media.specs.declared.media.MediaSegment.{MediaSegment}
use Rattle.hls_presentation.specs.Tracks.{Source, same_part}
use Rattle.dash_writer.specs.{declared.live.LivePeriod.LivePeriod, declared.live.LiveRun.LiveRun}
use Rattle.layer_faults.specs.declared.live.LiveFault.{LiveFault}
use Rattle.layer_faults.specs.declared.live.LiveFault.TheVariants.{MapChanged}
use Rattle.hls_follow.specs.{Faults.refused_if, OwnTimes.{period_in, run_at}, Rules.judged_segments_of}

-- the segment's map is that of its section in the last accepted snapshot
abbrev pub judged_part : LiveRun → Option Part → Result (Unit {0}) LiveFault
judged_part run None = Ok tt
judged_part run (Some map) = refused_if (not (same_part run.initialization map)) MapChanged

abbrev pub judged_map : Option LiveRun → MediaSegment → Result (Unit {0}) LiveFault
judged_map None s = Ok tt
judged_map (Some run) s = judged_part run s.map

-- the first segments of the sections of the track at an index, behind a segment of a section
abbrev pub judged_maps : List LivePeriod → (track : ℕ) → (former : Option ℕ) → List MediaSegment → Result (Unit {0}) LiveFault
judged_maps periods track former [] = Ok tt
judged_maps periods track former (s ∷ segments) =
    if option_eq nat_eq former (Some s.section) then judged_maps periods track former segments
    else and_then (judged_map (run_at (period_in s.section periods) track) s) (λ _. judged_maps periods track (Some s.section) segments)

-- The tracks' segments, from an index on: for each track the errors of its playlist, and then another map of a section.
abbrev pub judged_maps_of_all : List LivePeriod → (place : ℕ) → List Source → Result (Unit {0}) LiveFault
judged_maps_of_all periods place [] = Ok tt
judged_maps_of_all periods place (s ∷ kept) =
    and_then (judged_segments_of s.media) (λ _.
    and_then (judged_maps periods place None s.media.segments) (λ _. judged_maps_of_all periods (place + 1) kept))
