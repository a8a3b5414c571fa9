-- What calls do to a source, a sink and a store that model their contents.
use Rattle.std.specs.Prelude.{◌≡◌, ◌⊎◌, ℕ, ◌≤◌, ◌↔◌, List, [], ◌++◌, length, take, drop, Option, Some, Result, Ok, Err, bytes_eq, unwrap_or}
use Rattle.std.specs.{Prelude.if◌then◌else◌, Option.option_map, Io.KnownBytes.{append_known, prepend_known, IsAtEnd}}

-- A directory's files: the bytes of each file name.
abbrev pub Files : Type 0
Files = List ℕ → Option (List ℕ)

-- A missing file reads as an empty one.
abbrev pub content_of : Files → List ℕ → List ℕ
content_of files name = unwrap_or (files name) []

-- the files with these bytes at a name, and every other file as before
abbrev pub put : List ℕ → List ℕ → Files → Files
put name bytes files q = if bytes_eq name q then Some bytes else files q

-- the files with a piece at the end of a name's file
abbrev pub extended : List ℕ → List ℕ → Files → Files
extended name piece files = put name (content_of files name ++ piece) files

-- modelled files are modelled after, too, as `change` makes them
abbrev pub Changes : (Files → Files) → Option Files → Option Files → Type 0
Changes change before after = after ≡ option_map change before

-- a name's file was made empty, or nothing was done
abbrev pub MayEmpty : List ℕ → Option Files → Option Files → Type 0
MayEmpty name before after = (after ≡ before) ⊎ Changes (put name []) before after

-- a prefix of a piece was appended to a name's file, or nothing was done
abbrev pub MayExtend : List ℕ → List ℕ → Option Files → Option Files → Type 0
MayExtend name piece before after = (after ≡ before) ⊎ ((n : ℕ) × Changes (extended name (take n piece)) before after)

-- n bytes of a file from offset `at` are at the start of a buffer; n is 0 exactly at the file's end or past it
pub record ReadsAt (bytes : List ℕ) (at n : ℕ) (buf : List ℕ) : Type 0 where
  pub same : take n buf ≡ take n (drop at bytes)
  pub within : n ≤ length (drop at bytes)
  pub end : (n ≡ 0) ↔ (length bytes ≤ at)

-- modelled output grew by a piece
abbrev pub Appends : List ℕ → Option (List ℕ) → Option (List ℕ) → Type 0
Appends piece before after = after ≡ append_known before piece

-- modelled output grew by a prefix of a piece
abbrev pub AppendsFront : List ℕ → Option (List ℕ) → Option (List ℕ) → Type 0
AppendsFront piece before after = (n : ℕ) × Appends (take n piece) before after

-- the bytes that a read returned were the first unread ones, 0 only at the end, and an error consumed none
abbrev pub Takes : {E : Type 0} → Result ℕ E → List ℕ → Option (List ℕ) → Option (List ℕ) → Type 0
Takes (Ok n) buf before after = (before ≡ prepend_known (take n buf) after) × (n ≡ 0 → IsAtEnd after)
Takes (Err e) buf before after = after ≡ before
