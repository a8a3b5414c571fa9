-- Fronts of references that begin at the root of a host.
use Rattle.std.specs.Prelude.{◌≡◌, ◌⊎◌, ℕ, ◌==◌, ◌&&◌, ◌||◌, not, nat_lt, Bool, true, List, [], ◌∷◌, ◌++◌, length, codes}
use Rattle.std.specs.List.{list_all}
use Rattle.url_parts.specs.{Addresses.is_web, Paths.is_folder_path}

-- 0x21 to 0x7E without `#`, `/`, `?` and `\`
abbrev pub is_host_byte : ℕ → Bool
is_host_byte b = nat_lt 32 b && nat_lt b 127 && not (b == 35 || b == 47 || b == 63 || b == 92)

-- a host, with what the URL Standard lets stand beside it
abbrev pub is_host : List ℕ → Bool
is_host text = nat_lt 0 (length text) && list_all is_host_byte text

-- the path of a folder, or nothing
abbrev pub is_inner : List ℕ → Bool
is_inner text = length text == 0 || is_folder_path text

-- a scheme of the web, and a host
pub record IsOrigin (text : List ℕ) : Type 0 where
  pub scheme : List ℕ
  pub host : List ℕ
  pub whole : text ≡ scheme ++ (codes "://" ++ host)
  pub web : is_web scheme ≡ true
  pub named : is_host host ≡ true

-- a folder from the root of the base's host, or of a host with its scheme
pub record IsRooted (text : List ℕ) : Type 0 where
  pub before : List ℕ
  pub path : List ℕ
  pub whole : text ≡ before ++ 47 ∷ path
  pub origin : (before ≡ []) ⊎ IsOrigin before
  pub inner : is_inner path ≡ true

-- what is behind a scheme of the web and `://`
abbrev pub IsBehindScheme : List ℕ → List ℕ → Type 0
IsBehindScheme text rest = (scheme : List ℕ) × (is_web scheme ≡ true) × (text ≡ scheme ++ (codes "://" ++ rest))

-- a host, and a folder from its root
abbrev pub HasHost : List ℕ → Type 0
HasHost text = (host : List ℕ) × (path : List ℕ) × (is_host host ≡ true) × (is_inner path ≡ true) × (text ≡ host ++ 47 ∷ path)
