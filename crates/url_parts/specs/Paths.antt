-- References that are paths, and read alike in parts.
use Rattle.std.specs.Prelude.{◌≡◌, ℕ, ◌<◌, ◌==◌, ◌&&◌, ◌||◌, not, nat_lt, Bool, true, false, List, ◌++◌, length, slice_index, ◌-◌}
use Rattle.std.specs.List.{list_all}
use Rattle.bridge_io.specs.Names.{is_name, is_name_byte}
use Rattle.url_parts.specs.Addresses.{resolve}

-- a byte that stands for itself in the path of a relative reference: 0x21 to 0x7E, and none of `#`, `:`, `?` and `\`
abbrev pub is_path_byte : ℕ → Bool
is_path_byte b = nat_lt 32 b && nat_lt b 127 && not (b == 35 || b == 58 || b == 63 || b == 92)

-- a path of a relative reference: it begins with a byte that isn't a slash
pub record IsPath (text : List ℕ) : Type 0 where
  pub bytes : list_all is_path_byte text ≡ true
  pub some : 0 < length text
  pub first : (slice_index text 0 == 47) ≡ false

-- the path of a folder
abbrev pub is_folder_path : List ℕ → Bool
is_folder_path text = list_all is_path_byte text && nat_lt 0 (length text) && not (slice_index text 0 == 47)
    && (slice_index text (length text - 1) == 47)

-- the rest of each path after this prefix, resolved against the other base, gives what the whole path gives
abbrev pub IsBeneath : (base front deeper : List ℕ) → Type 0
IsBeneath base front deeper = (path : List ℕ) → IsPath path → resolve base (front ++ path) ≡ resolve deeper path

-- a byte of a name other than a slash
abbrev pub is_segment_byte : ℕ → Bool
is_segment_byte b = is_name_byte b && not (b == 47)

-- a text that is appended to a folder as it is: a name, or one segment that is longer than a name may be
abbrev pub is_plain : List ℕ → Bool
is_plain text = is_name text || (nat_lt 255 (length text) && list_all is_segment_byte text)
