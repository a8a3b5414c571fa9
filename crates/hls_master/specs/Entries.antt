-- The lines that a master's reader knows (RFC 8216 4.3.4), each variant's tag joined with the URI line that follows it.
use Rattle.std.specs.{Prelude.{ℕ, List, [], ◌∷◌, codes, bytes_eq, if◌then◌else◌, Option, Some, None, option_map, ◌≡◌}, List.list_any}
use Rattle.bridge_io.specs.declared.place.Place.{Place}
use Rattle.hls_lines.specs.Lines.{PlaylistLine, tag, uri}
use Rattle.hls_master.specs.{declared.fault.MasterFault.MasterFault, declared.fault.MasterFault.TheVariants.{Misplaced, Encryption}}
use Rattle.hls_master.specs.declared.fault.MasterFault.TheVariants.{Unsupported}

pub data KnownLine : Type 0 where
  -- EXT-X-MEDIA, by its attributes
  media : (rest : List ℕ) (place : Place) → KnownLine
  -- EXT-X-STREAM-INF, by its attributes
  stream : (rest : List ℕ) (place : Place) → KnownLine
  address : (text : List ℕ) (place : Place) → KnownLine
  -- a tag that is rejected by its name alone
  refused : MasterFault → KnownLine

-- tags of media playlists (RFC 8216 4.3.2 and 4.3.3)
abbrev pub media_tags : List (List ℕ)
media_tags = codes "EXTINF" ∷ codes "EXT-X-TARGETDURATION" ∷ codes "EXT-X-BYTERANGE" ∷ codes "EXT-X-MAP" ∷ []

abbrev pub refused_tag : (name : List ℕ) → Place → Option MasterFault
refused_tag name place =
    if bytes_eq name (codes "EXT-X-SESSION-KEY") then Some (Encryption place)
    else (if bytes_eq name (codes "EXT-X-DEFINE") then Some (Unsupported place)
    else (if list_any (λ other. bytes_eq other name) media_tags then Some (Misplaced place) else None))

abbrev pub known_tag : (name rest : List ℕ) → Place → Option KnownLine
known_tag name rest place =
    if bytes_eq name (codes "EXT-X-MEDIA") then Some (media rest place)
    else (if bytes_eq name (codes "EXT-X-STREAM-INF") then Some (stream rest place)
    else option_map (λ fault. refused fault) (refused_tag name place))

-- the URI of a known line
abbrev pub uri_in : Option KnownLine → Option (List ℕ × Place)
uri_in (Some (address text place)) = Some (text, place)
uri_in known = None

unfoldable pub known_line : PlaylistLine → Option KnownLine
known_line (tag name rest place) = known_tag name rest place
known_line (uri text place) = Some (address text place)

abbrev pub with_known : Option KnownLine → List KnownLine → List KnownLine
with_known None lines = lines
with_known (Some line) lines = line ∷ lines

-- every other line is ignored
abbrev pub known_lines : List PlaylistLine → List KnownLine
known_lines [] = []
known_lines (line ∷ lines) = with_known (known_line line) (known_lines lines)

pub data MasterEntry : Type 0 where
  rendition : (rest : List ℕ) (place : Place) → MasterEntry
  variant : (rest : List ℕ) (place : Place) (uri : List ℕ) (uri_place : Place) → MasterEntry
  stray : MasterFault → MasterEntry

-- the entries of known lines: the next known line after EXT-X-STREAM-INF has to be a URI, which isn't allowed anywhere else
abbrev pub entries_of : List KnownLine → List MasterEntry
entries_of [] = []
entries_of (media rest place ∷ lines) = rendition rest place ∷ entries_of lines
entries_of (stream rest place ∷ address text uri_place ∷ lines) = variant rest place text uri_place ∷ entries_of lines
entries_of (stream rest place ∷ lines) = stray (Misplaced place) ∷ entries_of lines
entries_of (address text place ∷ lines) = stray (Misplaced place) ∷ entries_of lines
entries_of (refused fault ∷ lines) = stray fault ∷ entries_of lines

-- an entry, if any, is the first of those before; the others are left, but after a stray line nothing is read
abbrev pub IsNext : List MasterEntry → Option MasterEntry → List MasterEntry → Type 0
IsNext before None after = before ≡ []
IsNext before (Some (stray fault)) after = (others : List MasterEntry) × (before ≡ stray fault ∷ others)
IsNext before (Some entry) after = before ≡ entry ∷ after
