-- The reader of playlists finds no fault in what is written.
use Rattle.std.specs.Prelude.{◌≡◌, ℕ, ◌^◌, ◌<◌, ◌≤◌, false, List, length, All, Some, Ok, IfSome, Option}
use Rattle.url_parts.specs.{Spelling.PlaylistPlace}
use Rattle.hls_media.specs.{Laws.IsBoundedRange, Media.{is_long, media_of}}
use Rattle.hls_writer.specs.{Playlists.{Head, Item, followed_text}, Spelled.spelled_items}
use Rattle.laws_of_playlists.specs.ReadMedia.{AreReadable, IsReadableHead, Spells, media_of_items, nanos_of}

-- The numbers of a segment are such as a reader takes.
pub record IsTakenItem (digits : ℕ) (item : Item) : Type 0 where
  pub range : IfSome item.part.range IsBoundedRange
  pub map : IfSome item.map.range IsBoundedRange
  pub lasts : nanos_of digits item.duration ≤ 10 ^ 15

-- and those of a head
pub record IsTakenHead (head : Head) : Type 0 where
  pub target : head.target < 2 ^ 31
  pub sequence : head.sequence < 2 ^ 63
  pub first_section : head.first_section < 2 ^ 63

-- a duration that isn't above the target duration, to the nearest second
abbrev pub IsShortItem : (target digits : ℕ) → Item → Type 0
IsShortItem target digits item = is_long target (Some (nanos_of digits item.duration)) ≡ false

-- a playlist whose text is read back, with the numbers that a reader takes
pub record IsTaken (head : Head) (items : List Item) : Type 0 where
  pub readable_head : IsReadableHead head
  pub readable : AreReadable head.digits items
  pub small : IsTakenHead head
  pub few : length items ≤ 100_000
  pub each : All (IsTakenItem head.digits) items
  pub short : All (IsShortItem head.target head.digits) items

-- ---- laws

-- the reader takes the text as that playlist, however URLs are spelled
abbrev pub WrittenAreTaken : Type 0
WrittenAreTaken = (place : Option PlaylistPlace) (head : Head) (items : List Item) (url : List ℕ) → Spells place url → IsTaken head items
    → media_of (followed_text head (spelled_items place items)) url ≡ Ok (media_of_items head items)
