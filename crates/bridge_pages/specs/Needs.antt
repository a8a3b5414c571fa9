-- Which files a manifest needs beside its own: each media playlist that a master names, and each media file of an MPD whose
-- media files have an index inside.
use Rattle.bridge_pages.specs.declared.verb.Verb.TheVariants as verb
use Rattle.std.specs.Prelude.{ℕ, ◌+◌, max, nat_lt, List, [], ◌∷◌, ◌++◌, length, if◌then◌else◌, Option, Some, None, Result, Ok, Err}
use Rattle.std.specs.Option.{option_map_or}
use Rattle.bridge_playlists.specs.{declared.place.StorePlace.StorePlace, Places.store_place_of}
use Rattle.bridge_reach.specs.Index.{values_of}
use Rattle.bridge_report.specs.declared.refusal.Refusal.{Refusal}
use Rattle.hls_master.specs.{Masters.master_of, Tracks.TrackValue, declared.fault.MasterFault.MasterFault}
use Rattle.index_parts.specs.Rows.{Period, Row, told_in}
use Rattle.mpd_levels.specs.declared.indexed.IndexRow.{IndexRow}
use Rattle.mpd_rules.specs.Typed.{TypedMpd}
use Rattle.url_parts.specs.{Addresses.{chain, local_name_of}, declared.fault.UrlFault.UrlFault, declared.range.Range.Range}
use Rattle.bridge_pages.specs.declared.{media.Fronts.Fronts, needs.Needs.Needs, verb.Verb.Verb}

abbrev pub nothing : Needs
nothing = record { names = []; most = None }

-- ---- the playlists that a master names

abbrev pub with_name : List (List ℕ) → Option (List ℕ) → List (List ℕ)
with_name names (Some name) = names ++ name ∷ []
with_name names None = names

-- the names of the tracks' playlists that lie under the directory, in order, after some names
abbrev pub names_behind : StorePlace → List (List ℕ) → List TrackValue → List (List ℕ)
names_behind place names [] = names
names_behind place names (track ∷ tracks) = names_behind place (with_name names (local_name_of place.folder track.address)) tracks

abbrev pub names_by : StorePlace → Result (List TrackValue) MasterFault → List (List ℕ)
names_by place (Ok tracks) = names_behind place [] tracks
names_by place (Err fault) = []

abbrev pub playlists_in : StorePlace → (bytes : List ℕ) → List (List ℕ)
playlists_in place bytes = names_by place (master_of bytes place.url)

-- ---- the media files of an MPD, each as far as the last of their indexes goes

abbrev pub named_by : StorePlace → Result (List ℕ) UrlFault → Option (List ℕ)
named_by place (Ok address) = local_name_of place.folder address
named_by place (Err fault) = None

-- the name of a Representation's file, where it lies under the folder
abbrev pub file_of : StorePlace → Row → Option (List ℕ)
file_of place row = named_by place (chain place.url row.description.bases)

abbrev pub end_of : Range → ℕ
end_of index = index.first + index.count

abbrev pub no_fronts : Fronts
no_fronts = record { names = []; end = 0 }

abbrev pub with_row : StorePlace → Fronts → Row → Fronts
with_row place fronts row = record {
  names = with_name fronts.names (file_of place row);
  end = max fronts.end (end_of (told_in row).range);
}

abbrev pub fronts_behind : StorePlace → Fronts → List Row → Fronts
fronts_behind place fronts [] = fronts
fronts_behind place fronts (row ∷ rows) = fronts_behind place (with_row place fronts row) rows

abbrev pub needs_with : Fronts → Needs
needs_with fronts = record { names = fronts.names; most = Some fronts.end }

-- a Period of more than 200 Representations is refused before any media file is read
abbrev pub media_of : StorePlace → List Period → Needs
media_of place [] = nothing
media_of place (period ∷ later) =
    if nat_lt 200 (length period.tracks) then nothing else needs_with (fronts_behind place no_fronts period.tracks)

abbrev pub media_by : StorePlace → Result (TypedMpd (Option IndexRow)) Refusal → Needs
media_by place (Ok mpd) = media_of place mpd.periods
media_by place (Err refusal) = nothing

unfoldable pub media_in : (bytes : List ℕ) → StorePlace → Needs
media_in bytes place = media_by place (values_of bytes)

-- ---- by what is done

abbrev pub needs_at : Verb → (bytes : List ℕ) → StorePlace → Needs
needs_at verb.Hls bytes place = nothing
needs_at verb.HlsIndex bytes place = media_in bytes place
needs_at verb.Dash bytes place = record { names = playlists_in place bytes; most = None }

-- of a manifest of these bytes
unfoldable pub needs_of : Verb → (base manifest bytes : List ℕ) → Needs
needs_of verb base manifest bytes = option_map_or (needs_at verb bytes) (store_place_of base manifest) nothing
