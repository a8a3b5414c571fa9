-- The spelling of URLs in a written playlist: absolute, or relative to the playlist where that gives the same URL.
use Rattle.std.specs.Prelude.{◌≡◌, ◌⊎◌, ◌≤◌, ℕ, nat_eq, ◌==◌, ◌&&◌, not, Bool, true, false, List, [], ◌∷◌, ◌++◌, length, drop, codes}
use Rattle.std.specs.{Prelude.{bytes_eq, if◌then◌else◌, Result, Ok, Err, Option, Some, None}, List.{flat_map, list_all, starts_with}}
use Rattle.bridge_io.specs.Names.{is_name, parts_after}
use Rattle.url_parts.specs.{Addresses.{absolute, is_address_byte, resolve, unless_long}, declared.fault.UrlFault.UrlFault, declared.spelling.Front.Front}

-- where a playlist is written: the text that URLs of its folder begin with, the steps from the playlist up to that folder,
-- and the playlist's own URL
pub record PlaylistPlace : Type 0 where
  pub folder : List ℕ
  pub up : List ℕ
  pub url : List ℕ

-- the URL of a playlist: the base's text, the output folder's name, `/` and the playlist's name
abbrev pub playlist_url : (base out file : List ℕ) → List ℕ
playlist_url base out file = base ++ (out ++ 47 ∷ file)

-- `../` for each part of a name
abbrev pub steps_up : List ℕ → List ℕ
steps_up out = flat_map (λ part. codes "../") (parts_after [] out)

-- whether the result is this URL
abbrev pub is_given : List ℕ → Result (List ℕ) UrlFault → Bool
is_given address (Ok url) = bytes_eq url address
is_given address (Err fault) = false

-- the place of a playlist, where its URL is a base's text in its normal form
unfoldable pub place_of : (base out file : List ℕ) → Option PlaylistPlace
place_of base out file = let url = playlist_url base out file in
    if is_given url (absolute url) then Some (record { folder = base; up = steps_up out; url = url }) else None

-- the steps up to the folder, and the rest of the URL behind the folder's text
abbrev pub reference_of : PlaylistPlace → List ℕ → List ℕ
reference_of place address = place.up ++ drop (length place.folder) address

-- whether the URL begins with the folder's text, and is what its reference gives against the playlist's URL
abbrev pub is_relative : PlaylistPlace → List ℕ → Bool
is_relative place address = starts_with nat_eq address place.folder
    && is_given address (resolve place.url (reference_of place address))

-- the rest of such a URL
abbrev pub rest_of : PlaylistPlace → List ℕ → Option (List ℕ)
rest_of place address = if is_relative place address then Some (drop (length place.folder) address) else None

-- such a URL is written as its reference, and each other one as it is
unfoldable pub spelled_beside : PlaylistPlace → List ℕ → List ℕ
spelled_beside place address = if is_relative place address then reference_of place address else address

-- how a URL is written beside a playlist; with no place, as it is
abbrev pub spelled : Option PlaylistPlace → List ℕ → List ℕ
spelled None address = address
spelled (Some place) address = spelled_beside place address

-- the steps up from a playlist, and then a name, give what the folder's text and the name spell
abbrev pub ReachesNames : PlaylistPlace → Type 0
ReachesNames place = (name : List ℕ) → is_name name ≡ true → resolve place.url (place.up ++ name) ≡ unless_long (place.folder ++ name)

-- a text is empty, or a name with a `/` behind it
abbrev pub IsInner : List ℕ → Type 0
IsInner text = (text ≡ []) ⊎ ((parts : List ℕ) × ((text ≡ parts ++ 47 ∷ []) × (is_name parts ≡ true)))

-- a text before names of so many bytes at most spells a folder's text
abbrev pub SpellsNames : Option PlaylistPlace → (folder : List ℕ) → Front → Type 0
SpellsNames place folder front = (name : List ℕ) → is_name name ≡ true → length name ≤ front.most
    → spelled place (folder ++ name) ≡ front.text ++ name

-- a line of a playlist that begins so is a URI: it isn't empty, and doesn't begin with `#`
abbrev pub begins_uri : List ℕ → Bool
begins_uri [] = false
begins_uri (b ∷ bs) = not (b == 35)

-- a text that stands for a URL in a playlist: it has bytes of URLs, begins as a URI, and resolves to the URL against the
-- playlist's URL
pub record StandsFor (playlist address text : List ℕ) : Type 0 where
  pub bytes : list_all is_address_byte text ≡ true
  pub begins : begins_uri text ≡ true
  pub given : resolve playlist text ≡ Ok address
