-- Attribute lists as a grammar (RFC 8216 4.2): which texts write which names and values.
use Rattle.std.specs.Prelude.{◌≡◌, ℕ, ◌<◌, ◌==◌, ◌↔◌, ◌⊎◌, Bool, true, false, List, [], ◌∷◌, ◌++◌, length, slice_get, Some, Ok, Err}
use Rattle.std.specs.List.{list_any, list_all}
use Rattle.bridge_io.specs.declared.place.Place.{Place}
use Rattle.hls_lines.specs.Attributes.{NameValue, attributes_at, attributes_of, ends_value, is_name, is_quote, names_of}
use Rattle.hls_lines.specs.declared.fault.LineFault.TheVariants.{Attribute, DoubleAttribute}

abbrev pub is_space : ℕ → Bool
is_space b = b == 32

-- A value without quotes: one or more bytes, none of which is `"`, `,` or white space.
pub record IsPlain (value text : List ℕ) : Type 0 where
  pub is : text ≡ value
  pub some : 0 < length value
  pub clean : list_any ends_value value ≡ false

-- A value in quotes: bytes without `"`, or none.
pub record IsQuoted (value text : List ℕ) : Type 0 where
  pub is : text ≡ 34 ∷ (value ++ 34 ∷ [])
  pub clean : list_any is_quote value ≡ false

abbrev pub IsWrittenValue : List ℕ → List ℕ → Type 0
IsWrittenValue value text = IsPlain value text ⊎ IsQuoted value text

-- An attribute: its name, `=` and its value.
pub record IsWritten (attribute : NameValue) (text : List ℕ) : Type 0 where
  pub value : List ℕ
  pub is : text ≡ attribute.0 ++ 61 ∷ value
  pub named : is_name attribute.0 ≡ true
  pub valued : IsWrittenValue attribute.1 value

-- A comma with optional spaces around it.
pub record IsComma (text : List ℕ) : Type 0 where
  pub before : List ℕ
  pub behind : List ℕ
  pub is : text ≡ before ++ 44 ∷ behind
  pub spaces_before : list_all is_space before ≡ true
  pub spaces_behind : list_all is_space behind ≡ true

-- The start of a text, a comma, and the rest.
pub record IsJoined (Front Rest : List ℕ → Type 0) (text : List ℕ) : Type 0 where
  pub front : List ℕ
  pub comma : List ℕ
  pub rest : List ℕ
  pub is : text ≡ front ++ (comma ++ rest)
  pub front_is : Front front
  pub comma_is : IsComma comma
  pub rest_is : Rest rest

-- One attribute or more, joined by commas.
abbrev pub AreWritten : List NameValue → List ℕ → Type 0
AreWritten [] text = ⊥
AreWritten (attribute ∷ []) text = IsWritten attribute text
AreWritten (attribute ∷ (next ∷ others)) text = IsJoined (IsWritten attribute) (AreWritten (next ∷ others)) text

-- A name is repeated.
pub record HasDouble (names : List (List ℕ)) : Type 0 where
  pub first : ℕ
  pub second : ℕ
  pub name : List ℕ
  pub less : first < second
  pub at_first : slice_get names first ≡ Some name
  pub at_second : slice_get names second ≡ Some name

-- ---- laws

-- attributes are read from exactly the texts that write them
abbrev pub ReadAreWritten : Type 0
ReadAreWritten = (text : List ℕ) (attributes : List NameValue) → (attributes_at text ≡ Some attributes) ↔ AreWritten attributes text

-- no text writes two different lists
abbrev pub WrittenOneWay : Type 0
WrittenOneWay = (text : List ℕ) (one other : List NameValue) → AreWritten one text → AreWritten other text → one ≡ other

-- attributes are accepted where a text writes them and no name is repeated
abbrev pub AttributesAreTold : Type 0
AttributesAreTold = (text : List ℕ) (place : Place) (attributes : List NameValue)
    → (attributes_of text place ≡ Ok attributes) ↔ (AreWritten attributes text × (HasDouble (names_of attributes) → ⊥))

-- a text is rejected where it writes no list
abbrev pub OtherTextsAreRefused : Type 0
OtherTextsAreRefused = (text : List ℕ) (place : Place)
    → (attributes_of text place ≡ Err (Attribute place)) ↔ ((attributes : List NameValue) → AreWritten attributes text → ⊥)

-- and where it writes one with a repeated name
abbrev pub DoublesAreRefused : Type 0
DoublesAreRefused = (text : List ℕ) (place : Place) → (attributes_of text place ≡ Err (DoubleAttribute place)) ↔
    ((attributes : List NameValue) × (AreWritten attributes text × HasDouble (names_of attributes)))
