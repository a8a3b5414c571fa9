-- URLs of any length.
use Rattle.std.specs.Prelude.{ℕ, List, [], if◌then◌else◌, Ok, Err, None}
use Rattle.url.specs.{Parser.{Parsed, parse_url}, Parts.Parts}
use Rattle.url_parts.specs.Addresses.{is_absolute, text_of, url_of}

-- the serialization of a parsed URL by the URL Standard, or the empty text
abbrev pub written : Parsed Parts → List ℕ
written (Ok url) = text_of url
written (Err fault) = []

-- the URL that a reference resolves to against a base, whatever its length, scheme and bytes
unfoldable pub address_of : List ℕ → List ℕ → List ℕ
address_of base reference = if is_absolute reference then written (parse_url None reference)
    else written (parse_url (url_of base) reference)
