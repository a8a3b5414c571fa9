-- Renditions: EXT-X-MEDIA (RFC 8216 4.3.4.1).
use Rattle.std.specs.Prelude.{ℕ, ◌&&◌, ◌||◌, Bool, true, false, List, [], ◌∷◌, codes, bytes_eq, if◌then◌else◌, Option, Some, None}
use Rattle.std.specs.{Prelude.{option_map, option_and_then, unwrap_or, Result, Ok, Err}, List.list_any, Option.option_eq}
use Rattle.bridge_io.specs.{Firsts.first_some, declared.media.Kind.Kind, declared.media.Kind.TheVariants.{Video, Audio, Text}}
use Rattle.bridge_io.specs.declared.place.Place.{Place}
use Rattle.hls_lines.specs.{Attributes.{NameValue, value_of}, declared.fault.LineFault.LineFault}
use Rattle.mpd_values.specs.Languages.{is_language}
use Rattle.hls_master.specs.{declared.fault.MasterFault.MasterFault, declared.fault.MasterFault.TheVariants.{Missing, Value, Muxed}}
use Rattle.hls_master.specs.{declared.fault.MasterFault.TheVariants.{SameName, Unsupported}, Faults.of_line, Addresses.address_value}
use Rattle.hls_master.specs.Addresses.{address_fault}

pub record RenditionValue : Type 0 where
  -- audio or text
  pub kind : Kind
  pub group : List ℕ
  pub name : List ℕ
  pub language : Option (List ℕ)
  pub address : List ℕ

-- the value of a present attribute
abbrev pub text_at : (name : List ℕ) → List NameValue → List ℕ
text_at name attributes = unwrap_or (value_of name attributes) []

abbrev pub missing : Place → Option (List ℕ) → Option MasterFault
missing place None = Some (Missing place)
missing place (Some value) = None

-- the fault of an attribute whose value, where it is present, doesn't pass a test
abbrev pub malformed : (List ℕ → Bool) → Place → Option (List ℕ) → Option MasterFault
malformed test place None = None
malformed test place (Some value) = if test value then None else Some (Value place)

-- the kind of a rendition by its TYPE
abbrev pub kind_of_type : List ℕ → Option Kind
kind_of_type type = if bytes_eq type (codes "AUDIO") then Some Audio else (if bytes_eq type (codes "SUBTITLES") then Some Text else None)

abbrev pub kind_in : List NameValue → Option Kind
kind_in attributes = option_and_then kind_of_type (value_of (codes "TYPE") attributes)

-- AUDIO and SUBTITLES are read, CLOSED-CAPTIONS is ignored
abbrev pub type_fault : Place → Option (List ℕ) → Option MasterFault
type_fault place None = Some (Missing place)
type_fault place (Some type) = if bytes_eq type (codes "VIDEO") then Some (Unsupported place)
    else (if bytes_eq type (codes "AUDIO") || (bytes_eq type (codes "SUBTITLES") || bytes_eq type (codes "CLOSED-CAPTIONS")) then None
    else Some (Value place))

-- audio without a URI is in the variants' files
abbrev pub uri_fault : Kind → Place → Option (List ℕ) → Option MasterFault
uri_fault Audio place None = Some (Muxed place)
uri_fault kind place None = Some (Missing place)
uri_fault kind place (Some uri) = None

-- the faults of a rendition's attributes
abbrev pub rendition_faults : (master : List ℕ) → Place → List NameValue → Kind → List (Option MasterFault)
rendition_faults master place attributes kind =
    missing place (value_of (codes "GROUP-ID") attributes)
    ∷ missing place (value_of (codes "NAME") attributes)
    ∷ malformed is_language place (value_of (codes "LANGUAGE") attributes)
    ∷ uri_fault kind place (value_of (codes "URI") attributes)
    ∷ address_fault master place (text_at (codes "URI") attributes)
    ∷ []

abbrev pub faults_by : (Kind → List (Option MasterFault)) → Option Kind → List (Option MasterFault)
faults_by faults None = []
faults_by faults (Some kind) = faults kind

-- the first fault of an EXT-X-MEDIA line by its attributes
abbrev pub rendition_fault : (master : List ℕ) → Place → Result (List NameValue) LineFault → Option MasterFault
rendition_fault master place (Err fault) = Some (of_line fault)
rendition_fault master place (Ok attributes) =
    first_some (type_fault place (value_of (codes "TYPE") attributes) ∷ faults_by (rendition_faults master place attributes)
    (kind_in attributes))

-- the rendition of a kind by its attributes
abbrev pub rendition_with : (master : List ℕ) → List NameValue → Kind → RenditionValue
rendition_with master attributes kind = record {
  kind = kind;
  group = text_at (codes "GROUP-ID") attributes;
  name = text_at (codes "NAME") attributes;
  language = value_of (codes "LANGUAGE") attributes;
  address = address_value master (text_at (codes "URI") attributes);
}

-- the rendition of an EXT-X-MEDIA line, if it has one
abbrev pub rendition_value : (master : List ℕ) → Result (List NameValue) LineFault → Option RenditionValue
rendition_value master (Err fault) = None
rendition_value master (Ok attributes) = option_map (rendition_with master attributes) (kind_in attributes)

abbrev pub is_audio : Kind → Bool
is_audio Audio = true
is_audio kind = false

abbrev pub same_kind : Kind → Kind → Bool
same_kind Video Video = true
same_kind Audio Audio = true
same_kind Text Text = true
same_kind kind other = false

-- the same kind, group and name
abbrev pub has_name_of : RenditionValue → RenditionValue → Bool
has_name_of one other = same_kind one.kind other.kind && bytes_eq one.group other.group && bytes_eq one.name other.name

-- the fault of a rendition whose kind, group and name an earlier one has
abbrev pub same_name : List RenditionValue → Place → Option RenditionValue → Option MasterFault
same_name before place None = None
same_name before place (Some one) = if list_any (has_name_of one) before then Some (SameName place) else None

-- the same kind, name and language
abbrev pub same_rendition_set : RenditionValue → RenditionValue → Bool
same_rendition_set one other = same_kind one.kind other.kind
    && (bytes_eq one.name other.name && option_eq bytes_eq one.language other.language)
