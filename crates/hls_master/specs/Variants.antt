-- Variants: EXT-X-STREAM-INF and the URI after it (RFC 8216 4.3.4.2).
use Rattle.std.specs.Prelude.{ℕ, List, [], ◌∷◌, ◌++◌, codes, Option, Some, None, option_and_then, unwrap_or, Result, Ok, Err}
use Rattle.std.specs.Option.{is_some}
use Rattle.bridge_io.specs.{Firsts.first_some, declared.media.Size.Size, declared.place.Place.Place}
use Rattle.hls_lines.specs.{Attributes.{NameValue, value_of}, declared.fault.LineFault.LineFault}
use Rattle.mpd_values.specs.{Codecs.are_read_codes, Numbers.numeral_of}
use Rattle.hls_master.specs.{declared.fault.MasterFault.MasterFault, declared.fault.MasterFault.TheVariants.Unsupported, Faults.of_line}
use Rattle.hls_master.specs.{Addresses.{address_value, address_fault}, Renditions.{text_at, missing, malformed}, Values.is_bandwidth}
use Rattle.hls_master.specs.Values.{size_of, size_within, rate_of, rate_within}

abbrev pub unsupported : Place → Option (List ℕ) → Option MasterFault
unsupported place None = None
unsupported place (Some value) = Some (Unsupported place)

-- the faults of the properties of a variant's media
abbrev pub shown_faults : Place → List NameValue → List (Option MasterFault)
shown_faults place attributes =
    malformed are_read_codes place (value_of (codes "CODECS") attributes)
    ∷ malformed (λ text. is_some (size_within text)) place (value_of (codes "RESOLUTION") attributes)
    ∷ malformed (λ text. is_some (rate_within text)) place (value_of (codes "FRAME-RATE") attributes)
    ∷ unsupported place (value_of (codes "VIDEO") attributes)
    ∷ []

-- the properties of a variant's media
pub record ShownValue : Type 0 where
  pub codecs : Option (List ℕ)
  pub size : Option Size
  -- frames per second, as numerator and denominator
  pub frame_rate : Option (ℕ × ℕ)

abbrev pub shown_value : List NameValue → ShownValue
shown_value attributes = record {
  codecs = value_of (codes "CODECS") attributes;
  size = option_and_then size_of (value_of (codes "RESOLUTION") attributes);
  frame_rate = option_and_then rate_of (value_of (codes "FRAME-RATE") attributes);
}

pub record VariantValue : Type 0 where
  -- the position of its EXT-X-STREAM-INF
  pub place : Place
  -- bits per second
  pub bandwidth : ℕ
  pub shown : ShownValue
  -- the groups of its renditions
  pub audio : Option (List ℕ)
  pub subtitles : Option (List ℕ)
  pub address : List ℕ

-- the faults of a variant's attributes and of its URI
abbrev pub variant_faults : (master : List ℕ) → Place → (uri : List ℕ) → (uri_place : Place) → List NameValue → List (Option MasterFault)
variant_faults master place uri uri_place attributes =
    missing place (value_of (codes "BANDWIDTH") attributes)
    ∷ malformed is_bandwidth place (value_of (codes "BANDWIDTH") attributes)
    ∷ (shown_faults place attributes ++ address_fault master uri_place uri ∷ [])

-- the first fault of an EXT-X-STREAM-INF line by its attributes, or of its URI
abbrev pub variant_fault : (master : List ℕ) → Place → (uri : List ℕ) → (uri_place : Place) → Result (List NameValue) LineFault
    → Option MasterFault
variant_fault master place uri uri_place (Err fault) = Some (of_line fault)
variant_fault master place uri uri_place (Ok attributes) = first_some (variant_faults master place uri uri_place attributes)

-- the variant of attributes and a URI
abbrev pub variant_with : (master : List ℕ) → Place → (uri : List ℕ) → List NameValue → VariantValue
variant_with master place uri attributes = record {
  place = place;
  bandwidth = unwrap_or (numeral_of (text_at (codes "BANDWIDTH") attributes)) 0;
  shown = shown_value attributes;
  audio = value_of (codes "AUDIO") attributes;
  subtitles = value_of (codes "SUBTITLES") attributes;
  address = address_value master uri;
}

abbrev pub attributes_or_none : Result (List NameValue) LineFault → List NameValue
attributes_or_none (Ok attributes) = attributes
attributes_or_none (Err fault) = []
