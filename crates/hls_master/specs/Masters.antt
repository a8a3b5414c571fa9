-- Master playlists (RFC 8216 4.3.4).
use Rattle.std.specs.Prelude.{ℕ, ◌&&◌, not, nat_lt, Bool, true, List, [], ◌∷◌, ◌++◌, length, map, filter, if◌then◌else◌, Option, Some, None}
use Rattle.std.specs.{Prelude.{option_map, Result, Ok, Err}, Option.is_none}
use Rattle.bridge_io.specs.{Firsts.first_some, declared.media.Kind.Kind, declared.media.Kind.TheVariants.{Audio, Text}}
use Rattle.bridge_io.specs.{declared.place.Place.Place, Places.place_of, Texts.is_among}
use Rattle.hls_lines.specs.{Lines.{PlaylistLine, lines_of}, declared.fault.LineFault.LineFault}
use Rattle.hls_master.specs.{declared.fault.MasterFault.MasterFault, declared.fault.MasterFault.TheVariants.{Muxed, GroupUnknown, NoTracks}}
use Rattle.hls_master.specs.{declared.fault.MasterFault.TheVariants.Limit, Codes.has_code_in, Entries.{known_lines, entries_of}}
use Rattle.hls_master.specs.{Faults.{answer, of_line}, Mentions.{MentionsValue, mentions_of, entry_faults}, Renditions.RenditionValue}
use Rattle.hls_master.specs.{Renditions.same_kind, Tracks.{TrackValue, is_audio_variant, firsts_of, tracks_of}, Variants.VariantValue}

-- the groups of the renditions of a kind
abbrev pub groups_in : Kind → List RenditionValue → List (List ℕ)
groups_in kind renditions = map (λ rendition. rendition.group) (filter (λ rendition. same_kind kind rendition.kind) renditions)

-- a group that is a member of some groups, or `None`
abbrev pub is_known : List (List ℕ) → Option (List ℕ) → Bool
is_known groups None = true
is_known groups (Some group) = is_among group groups

-- its AUDIO or SUBTITLES isn't a group of its type
abbrev pub names_unknown_group : (audio text : List (List ℕ)) → VariantValue → Bool
names_unknown_group audio text variant = not (is_known audio variant.audio && is_known text variant.subtitles)

-- no rendition mentions its URL; it isn't audio only; it names no audio group, and has an audio codec
abbrev pub is_muxed : (addresses : List (List ℕ)) → VariantValue → Bool
is_muxed addresses variant = not (is_among variant.address addresses)
    && (not (is_audio_variant variant) && (is_none variant.audio && has_code_in Audio variant.shown.codecs))

-- the position of the first variant that passes a test
abbrev pub first_place : (VariantValue → Bool) → List VariantValue → Option Place
first_place test [] = None
first_place test (variant ∷ variants) = if test variant then Some variant.place else first_place test variants

abbrev pub no_variant : Place → List VariantValue → Option MasterFault
no_variant end [] = Some (NoTracks end)
no_variant end (variant ∷ variants) = None

abbrev pub unknown_group : MentionsValue → Option MasterFault
unknown_group mentions = option_map (λ place. GroupUnknown place)
    (first_place (names_unknown_group (groups_in Audio mentions.renditions) (groups_in Text mentions.renditions)) mentions.variants)

abbrev pub muxed : MentionsValue → Option MasterFault
muxed mentions = option_map (λ place. Muxed place)
    (first_place (is_muxed (map (λ rendition. rendition.address) mentions.renditions)) mentions.variants)

abbrev pub above_limit : Place → MentionsValue → Option MasterFault
above_limit end mentions = if nat_lt 200 (length (firsts_of mentions)) then Some (Limit end) else None

-- the faults that are tried after all lines, given the position of the file's end
abbrev pub end_faults : Place → MentionsValue → List (Option MasterFault)
end_faults end mentions = unknown_group mentions ∷ muxed mentions ∷ no_variant end mentions.variants ∷ above_limit end mentions ∷ []

-- the tracks of mentions, or the first fault of the whole
unfoldable pub whole_of : Place → MentionsValue → Result (List TrackValue) MasterFault
whole_of end mentions = answer (first_some (end_faults end mentions)) (tracks_of mentions)

-- the mentions of lines
abbrev pub mentions_in : (master : List ℕ) → List PlaylistLine → MentionsValue
mentions_in master lines = mentions_of master (entries_of (known_lines lines))

-- all faults: those of the lines in order, then those of the whole
abbrev pub faults_of : (master : List ℕ) → (end : Place) → List PlaylistLine → List (Option MasterFault)
faults_of master end lines = entry_faults master [] (entries_of (known_lines lines)) ++ end_faults end (mentions_in master lines)

abbrev pub values_by : (master : List ℕ) → Result (List PlaylistLine) LineFault → Option (List TrackValue)
values_by master (Ok lines) = Some (tracks_of (mentions_in master lines))
values_by master (Err fault) = None

-- the tracks of a master playlist, without bounds on numbers, lengths and counts
unfoldable pub master_values : (bytes master : List ℕ) → Option (List TrackValue)
master_values bytes master = values_by master (lines_of bytes)

-- the tracks of lines, or the first of their faults
unfoldable pub master_in : (master : List ℕ) → (end : Place) → List PlaylistLine → Result (List TrackValue) MasterFault
master_in master end lines = answer (first_some (faults_of master end lines)) (tracks_of (mentions_in master lines))

abbrev pub master_by : (master : List ℕ) → (end : Place) → Result (List PlaylistLine) LineFault → Result (List TrackValue) MasterFault
master_by master end (Ok lines) = master_in master end lines
master_by master end (Err fault) = Err (of_line fault)

-- The tracks of a master playlist, whose own URL is the second argument, or its first fault.
unfoldable pub master_of : (bytes master : List ℕ) → Result (List TrackValue) MasterFault
master_of bytes master = master_by master (place_of bytes (length bytes)) (lines_of bytes)
