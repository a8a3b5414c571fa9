-- Groups and names of renditions, by their types.
use Rattle.std.specs.{Prelude.{◌≡◌, ℕ, ◌==◌, ◌&&◌, Bool, List, bytes_eq}, Borrow.Bor, List.list_any}
use Rattle.bridge_io.specs.{declared.media.Kind.Kind, declared.media.Kind.TheVariants.{Video, Audio, Text}}
use Rattle.hls_master.specs.{Renditions.{RenditionValue, has_name_of}, declared.names.Names.Names}

abbrev pub number_of : Kind → ℕ
number_of Video = 0
number_of Audio = 1
number_of Text = 2

-- a key has the kind, group and name of a rendition
abbrev pub is_key : RenditionValue → ℕ × Bor (List ℕ) × Bor (List ℕ) → Bool
is_key one key = number_of one.kind == key.0 && bytes_eq one.group key.1.now && bytes_eq one.name key.2.now

abbrev pub is_named : Names → RenditionValue → Bool
is_named names one = list_any (is_key one) names.keys.keys

-- these are the names of renditions
pub record NamesOf (names : Names) (renditions : List RenditionValue) : Type 0 where
  pub same : (one : RenditionValue) → is_named names one ≡ list_any (has_name_of one) renditions
