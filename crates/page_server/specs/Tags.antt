-- The ETag of a body, and whether a client that lists ETags has it: RFC 9110, 8.8.3 and 13.1.2.
use Rattle.std.specs.Prelude.{ℕ, ◌==◌, ◌&&◌, ◌||◌, Bool, List, [], ◌∷◌, ◌++◌, length, drop, codes, bytes_eq, nat_eq}
use Rattle.std.specs.Prelude.{if◌then◌else◌, Option, Some, None}
use Rattle.std.specs.List.{list_all, list_any, prefix_len, slice_split, starts_with}
use Rattle.hex.specs.Hex.{encode_lower}
use Rattle.sha2.specs.Sha256.{sha256}
use Rattle.http_header.specs.FieldValue.{FieldValue}
use Rattle.http_header.specs.HeaderMap.{Entries, get_all}

-- the body's SHA-256 in hex, in quotes
unfoldable pub tag_of : (body : List ℕ) → List ℕ
tag_of body = 34 ∷ encode_lower (sha256 body) ++ 34 ∷ []

abbrev pub is_blank : ℕ → Bool
is_blank b = b == 32 || b == 9

abbrev pub after_blanks : List ℕ → List ℕ
after_blanks text = drop (prefix_len is_blank text) text

-- without the `W/` of a weak ETag
abbrev pub without_mark : List ℕ → List ℕ
without_mark text = if starts_with nat_eq text (codes "W/") then drop 2 text else text

abbrev pub begins_with_tag : (tag opaque : List ℕ) → Bool
begins_with_tag tag opaque = starts_with nat_eq opaque tag && list_all is_blank (drop (length tag) opaque)

-- a member of a list is the ETag, strong or weak, surrounded by blanks
abbrev pub is_tag : (tag member : List ℕ) → Bool
is_tag tag member = begins_with_tag tag (without_mark (after_blanks member))

abbrev pub lists : (tag value : List ℕ) → Bool
lists tag value = list_any (is_tag tag) (slice_split (λ b. b == 44) value)

-- the value lists the ETag, or is `*`
abbrev pub names : (tag value : List ℕ) → Bool
names tag value = bytes_eq value (codes "*") || lists tag value

unfoldable pub is_known : List FieldValue → (tag : List ℕ) → Bool
is_known values tag = list_any (λ value. names tag value.bytes) values

-- the ETags that a client lists
abbrev pub known_by : (headers : Entries FieldValue) → List FieldValue
known_by headers = get_all headers (codes "if-none-match")

-- where the request may list ETags
abbrev pub known_in : Option (Entries FieldValue) → List FieldValue
known_in None = []
known_in (Some headers) = known_by headers
