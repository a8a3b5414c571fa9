-- Absolute http and https URLs, parsed by the URL Standard, section 4.4, and serialized by its section 4.5.
use Rattle.std.specs.Prelude.{◌≡◌, ℕ, ◌-◌, ◌==◌, ◌&&◌, ◌||◌, not, nat_le, nat_lt, nat_eq, Bool, true, List, [], ◌∷◌, ◌++◌, length, take}
use Rattle.std.specs.{Prelude.{drop, codes, bytes_eq, if◌then◌else◌, Result, Ok, Err, Option, Some, None, option_map}, List.list_all}
use Rattle.std.specs.{List.{starts_with, before_first, suffix_len}, Option.option_eq, Result.result_ok}
use Rattle.url.specs.{declared.error.ParseError.ParseError, declared.error.ParseError.TheVariants.{Overflow, OutOfMemory}, Parser.Parsed}
use Rattle.url.specs.{Parser.parse_url, Parts.{Parts, serialize, IsValid}}
use Rattle.bridge_io.specs.Names.{is_name}
use Rattle.url_parts.specs.{declared.fault.UrlFault.UrlFault, declared.fault.UrlFault.TheVariants.{Refused, Scheme, TooLong, Memory}}

-- 0x21 to 0x7E without `"`
abbrev pub is_address_byte : ℕ → Bool
is_address_byte b = nat_le 33 b && nat_le b 126 && not (b == 34)

abbrev pub is_web : List ℕ → Bool
is_web scheme = bytes_eq scheme (codes "http") || bytes_eq scheme (codes "https")

-- what the URL Standard writes
unfoldable pub text_of : Parts → List ℕ
text_of url = serialize url

-- the text of a URL, unless it is rejected, first for its bytes, then for its scheme, then for its length
abbrev pub accepted_url : Parts → Result (List ℕ) UrlFault
accepted_url url = let text = text_of url in
    if not (list_all is_address_byte text) then Err Refused
    else (if not (is_web url.scheme) then Err Scheme
    else (if nat_lt 2048 (length text) then Err TooLong else Ok text))

-- what the URL Standard gives, unless it is rejected
abbrev pub accepted : Parsed Parts → Result (List ℕ) UrlFault
accepted (Ok url) = accepted_url url
accepted (Err e) = Err Refused

-- the URL that a text gives without a base
unfoldable pub absolute : List ℕ → Result (List ℕ) UrlFault
absolute text = accepted (parse_url None text)

-- a reference that needs no base
abbrev pub is_absolute : List ℕ → Bool
is_absolute reference = starts_with nat_eq reference (codes "http://") || starts_with nat_eq reference (codes "https://")

-- a text as a URL, where it is one
abbrev pub url_of : List ℕ → Option Parts
url_of text = result_ok (parse_url None text)

-- the URL that a reference resolves to against a base, given the base's text
unfoldable pub resolve : List ℕ → List ℕ → Result (List ℕ) UrlFault
resolve base reference = if is_absolute reference then absolute reference else accepted (parse_url (url_of base) reference)

abbrev pub resolve_more : (List ℕ → Result (List ℕ) UrlFault) → Result (List ℕ) UrlFault → Result (List ℕ) UrlFault
resolve_more next (Ok base) = next base
resolve_more next (Err fault) = Err fault

-- the URL that references give one after another, each resolved against the result of the one before, the first one against
-- a base
abbrev pub chain : List ℕ → List (List ℕ) → Result (List ℕ) UrlFault
chain base [] = Ok base
chain base (reference ∷ references) = resolve_more (λ next. chain next references) (resolve base reference)

-- a URL that resolves to itself against any base
pub record IsAddress (text : List ℕ) : Type 0 where
  pub web : is_absolute text ≡ true
  pub normal : absolute text ≡ Ok text

-- a parsed URL that is accepted
pub record IsBaseUrl (url : Parts) : Type 0 where
  pub valid : IsValid url
  pub accepted : accepted_url url ≡ Ok (text_of url)

-- `?` or `#`, which begin a query or a fragment
abbrev pub is_tail : ℕ → Bool
is_tail b = b == 63 || b == 35

abbrev pub without_tail : List ℕ → List ℕ
without_tail text = before_first is_tail text

-- a text up to and with its last `/`
abbrev pub through_last_slash : List ℕ → List ℕ
through_last_slash text = take (length text - suffix_len (λ b. not (b == 47)) text) text

-- a text without query and fragment, up to and with its last `/`
unfoldable pub folder_of : List ℕ → List ℕ
folder_of text = through_last_slash (without_tail text)

-- a folder's text followed by a name
abbrev pub is_name_in : List ℕ → List ℕ → Bool
is_name_in folder text = starts_with nat_eq text folder && is_name (drop (length folder) text)

-- the folder of a URL
pub record IsFolder (folder : List ℕ) : Type 0 where
  pub address : List ℕ
  pub is : IsAddress address
  pub folder_is : folder_of address ≡ folder

-- a base's URL, with the length of its folder's text
pub record IsBaseWith (url : Parts) (folder : ℕ) : Type 0 where
  pub is : IsBaseUrl url
  pub folder_is : folder ≡ length (folder_of (text_of url))

-- a text that is a URL, with the parsed URL
pub record IsBase (text : List ℕ) : Type 0 where
  pub url : Parts
  pub spelled : text_of url ≡ text
  pub is : IsBaseUrl url

-- whether a text is its own serialization by the URL Standard
abbrev pub is_normal : List ℕ → Bool
is_normal text = option_eq bytes_eq (option_map text_of (url_of text)) (Some text)

-- a URL, unless it is too long
abbrev pub unless_long : List ℕ → Result (List ℕ) UrlFault
unless_long text = if nat_lt 2048 (length text) then Err TooLong else Ok text

-- a text that has to be its own serialization, and isn't too long
unfoldable pub unchanged : List ℕ → Result (List ℕ) UrlFault
unchanged text = if not (is_normal text) then Err Refused else unless_long text

-- the URL of a name in the folder of a base
abbrev pub beside : List ℕ → List ℕ → Result (List ℕ) UrlFault
beside base name = unchanged (folder_of base ++ name)

abbrev pub if_name : List ℕ → Option (List ℕ)
if_name text = if is_name text then Some text else None

-- the name of a URL under a folder's text
abbrev pub local_name_of : List ℕ → List ℕ → Option (List ℕ)
local_name_of folder address = if starts_with nat_eq address folder then if_name (without_tail (drop (length folder) address)) else None

-- out of memory says nothing about the text
abbrev pub refusal : UrlFault → Option UrlFault
refusal Memory = None
refusal fault = Some fault

-- a URL of 4 GB counts as out of memory
abbrev pub fault_of : ParseError → UrlFault
fault_of OutOfMemory = Memory
fault_of Overflow = Memory
fault_of error = Refused
