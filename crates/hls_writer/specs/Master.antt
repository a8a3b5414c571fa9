-- The master playlist of a presentation (RFC 8216, 4.3.4).
use Rattle.bridge_io.specs.declared.media.Kind.TheVariants as kind
use Rattle.std.specs.{Prelude.{ℕ, List, [], ◌∷◌, ◌++◌, map, if◌then◌else◌, Option, Some, None, option_to_list}, List.flat_map}
use Rattle.track_hints.specs.declared.hints.Hints.{Hints}
use Rattle.presentation.specs.{declared.track.Track.Track, Presented.Presented}
use Rattle.audio_groups.specs.{Families.in_families, Groups.groups_of, Keys.keys_of, declared.groups.Filling.Filling}
use Rattle.audio_groups.specs.declared.groups.Filling.TheVariants.{Filled, Pure}
use Rattle.hls_writer.specs.Lines.{WrittenLine, header, version, independent_segments, lines_text}
use Rattle.hls_writer.specs.{Menus.{heads_of, hints_in}, Playlists.present, Renditions.{LaidOut, places_of, renditions_of, rendition_line}}
use Rattle.hls_writer.specs.Variants.{variants_of, variant_lines}

-- the tracks of each group
abbrev pub tracks_in : List (List (Option ℕ)) → List (List ℕ)
tracks_in groups = map (λ members. flat_map option_to_list members) groups

-- Plain, a group has a track of each audio set; for players, only of those that have one of its family.
abbrev pub filling_of : Option Hints → Filling
filling_of None = Filled
filling_of (Some hints) = Pure

-- The tracks as they are grouped: by their codecs, and for players by the families of these.
abbrev pub grouped_of : Option Hints → List Track → List Track
grouped_of None tracks = tracks
grouped_of (Some hints) tracks = in_families tracks

abbrev pub laid_with : Option Hints → (tracks grouped : List Track) → LaidOut
laid_with players tracks grouped = let groups = groups_of (filling_of players) grouped in record {
  players = players;
  tracks = tracks;
  grouped = grouped;
  keys = keys_of grouped;
  groups = groups;
  members = tracks_in groups;
  heads = heads_of tracks;
  texts = places_of kind.Text tracks;
}

abbrev pub laid_out : Option Hints → List Track → LaidOut
laid_out players tracks = laid_with players tracks (grouped_of players tracks)

-- EXT-X-INDEPENDENT-SEGMENTS, for players, where it is so
abbrev pub independent_line : Option Hints → Option WrittenLine
independent_line None = None
independent_line (Some hints) = if hints.independent then Some independent_segments else None

abbrev pub head_lines : Option Hints → List WrittenLine
head_lines players = present (Some header ∷ Some (version 6) ∷ independent_line players ∷ [])

abbrev pub lines_with : LaidOut → List WrittenLine
lines_with l = head_lines l.players
    ++ map (rendition_line l.tracks (hints_in l.players)) (renditions_of l)
    ++ flat_map (variant_lines l.players l.tracks l.members l.texts) (variants_of l.players l.tracks l.members)

-- the lines of the master playlist of some tracks: plain, or for players by what is told
abbrev pub master_lines : Option Hints → List Track → List WrittenLine
master_lines players tracks = lines_with (laid_out players tracks)

-- the text of a presentation's master playlist
unfoldable pub master_text : Option Hints → Presented → List ℕ
master_text players p = lines_text (master_lines players p.tracks)
