-- What written media playlists are read as (RFC 8216, 4.3.2 and 4.3.3).
use Rattle.std.specs.Prelude.{◌≡◌, ℕ, ◌+◌, ◌-◌, ◌*◌, ◌/◌, ◌^◌, ◌<◌, ◌≤◌, true, ⊤, List, [], ◌∷◌, map, length, All, Some, Ok, IfSome, Option}
use Rattle.std.specs.Prelude.{◌++◌, codes, decimal}
use Rattle.url_parts.specs.{Addresses.IsAddress, Spelling.{PlaylistPlace, StandsFor, spelled}, declared.address.Part.Part}
use Rattle.url_parts.specs.declared.range.Range.{Range}
use Rattle.timeline.specs.{Expansions.Timing, Listed.part_of_timing}
use Rattle.presentation.specs.{declared.parts.Content.Content, Presented.{Presented, is_finished}, Verifying.longest_of}
use Rattle.hls_lines.specs.Lines.{PlaylistLine, lines_of}
use Rattle.hls_media.specs.{Media.{map_value, media_values}, Values.{duration_of, number_of, range_from}, declared.media.Media.Media}
use Rattle.hls_media.specs.declared.media.MediaSegment.{MediaSegment}
use Rattle.hls_writer.specs.declared.finished.{Targets.Targets, Targets.TheVariants.{Own, Shared}}
use Rattle.hls_writer.specs.{Finished.{media_text, target_in, target_of, track_items}, Lines.{range_bytes, seconds_bytes}}
use Rattle.hls_writer.specs.Playlists.{Head, Item}
use Rattle.hls_writer.specs.{Playlists.{finished_text, followed_text}, Spelled.spelled_items, Verified.IsVerified}
use Rattle.laws_of_playlists.specs.ReadLines.{map_bytes}

-- ---- segments that are read back as they were written

-- `decimal` writes at most 64 digits
abbrev pub IsShortNumber : ℕ → Type 0
IsShortNumber n = n < 10 ^ 64

-- a byte range isn't empty
pub record IsReadableRange (range : Range) : Type 0 where
  pub some : 0 < range.count
  pub count : IsShortNumber range.count
  pub first : IsShortNumber range.first

-- the URL resolves to itself against any base
pub record IsReadablePart (part : Part) : Type 0 where
  pub address : IsAddress part.address
  pub range : IfSome part.range IsReadableRange

-- the whole seconds of an EXTINF have at most 20 digits
abbrev pub IsShortDuration : (digits units : ℕ) → Type 0
IsShortDuration digits units = units / 10 ^ digits < 10 ^ 20

pub record IsReadableItem (digits : ℕ) (item : Item) : Type 0 where
  pub part : IsReadablePart item.part
  pub map : IsReadablePart item.map
  pub short : IsShortDuration digits item.duration

-- sections don't fall, and segments of one section have one map
pub record IsNext (former item : Item) : Type 0 where
  pub section : former.section ≤ item.section
  pub map : former.section ≡ item.section → item.map ≡ former.map

abbrev pub GoOn : Item → List Item → Type 0
GoOn former [] = ⊤
GoOn former (item ∷ items) = IsNext former item × GoOn item items

abbrev pub AreInOrder : List Item → Type 0
AreInOrder [] = ⊤
AreInOrder (item ∷ items) = GoOn item items

pub record AreReadable (digits : ℕ) (items : List Item) : Type 0 where
  pub few : digits ≤ 9
  pub each : All (IsReadableItem digits) items
  pub order : AreInOrder items

-- how URLs are written in a playlist, each of which stands there for the URL
abbrev pub Spells : Option PlaylistPlace → (playlist : List ℕ) → Type 0
Spells place playlist = (address : List ℕ) → IsAddress address → StandsFor playlist address (spelled place address)

-- ---- what they are read as

-- units of which 10 to a number of digits make a second, in nanoseconds
abbrev pub nanos_of : (digits units : ℕ) → ℕ
nanos_of digits units = units * 10 ^ (9 - digits)

abbrev pub segment_in : (section digits : ℕ) → Item → MediaSegment
segment_in section digits item = record {
  address = item.part.address;
  range = item.part.range;
  map = Some item.map;
  duration = nanos_of digits item.duration;
  section = section;
}

-- sections are counted from the playlist's first one
abbrev pub segment_of : (base first digits : ℕ) → Item → MediaSegment
segment_of base first digits item = segment_in (base + (item.section - first)) digits item

abbrev pub segments_of : (base digits : ℕ) → List Item → List MediaSegment
segments_of base digits [] = []
segments_of base digits (item ∷ items) = map (segment_of base item.section digits) (item ∷ items)

-- a text is read as a playlist, whatever its URL
abbrev pub ReadsAs : (text url : List ℕ) → Media → Type 0
ReadsAs text url media = (lines : List PlaylistLine) × ((lines_of text ≡ Ok lines) × (media_values url lines ≡ media))

-- ---- laws

abbrev pub NumbersAreRead : Type 0
NumbersAreRead = (n : ℕ) → IsShortNumber n → number_of (decimal n) ≡ Some n

abbrev pub DurationsAreRead : Type 0
DurationsAreRead = (digits units : ℕ) → digits ≤ 9 → IsShortDuration digits units
    → duration_of (seconds_bytes digits units ++ codes ",") ≡ Some (nanos_of digits units)

-- wherever a byte range without an offset would begin
abbrev pub RangesAreRead : Type 0
RangesAreRead = (otherwise : Option ℕ) (range : Range) → IsReadableRange range → range_from otherwise (range_bytes range) ≡ Some range

abbrev pub MapsAreRead : Type 0
MapsAreRead = (url : List ℕ) (part : Part) → IsReadablePart part → map_value url (map_bytes part) ≡ part

-- how URLs are spelled makes no difference
abbrev pub FinishedAreRead : Type 0
FinishedAreRead = (place : Option PlaylistPlace) (target digits : ℕ) (items : List Item) (url : List ℕ) → Spells place url
    → IsShortNumber target → AreReadable digits items → ReadsAs (finished_text target digits (spelled_items place items)) url (record {
      target = target;
      sequence = 0;
      ended = true;
      segments = segments_of 0 digits items;
    })

pub record IsReadableHead (head : Head) : Type 0 where
  pub target : IsShortNumber head.target
  pub sequence : IsShortNumber head.sequence
  pub first_section : IsShortNumber head.first_section

abbrev pub media_of_items : Head → List Item → Media
media_of_items head items = record {
  target = head.target;
  sequence = head.sequence;
  ended = head.ended;
  segments = segments_of head.first_section head.digits items;
}

abbrev pub FollowedAreRead : Type 0
FollowedAreRead = (head : Head) (items : List Item) (url : List ℕ) → IsReadableHead head → AreReadable head.digits items
    → ReadsAs (followed_text head items) url (media_of_items head items)

-- how URLs are spelled makes no difference
abbrev pub SpelledAreRead : Type 0
SpelledAreRead = (place : Option PlaylistPlace) (head : Head) (items : List Item) (url : List ℕ) → Spells place url
    → IsReadableHead head → AreReadable head.digits items
    → ReadsAs (followed_text head (spelled_items place items)) url (media_of_items head items)

-- ---- the playlists of a presentation

-- the init segment, and each URL of a segment
pub record IsReadableContent (content : Content) : Type 0 where
  pub initialization : IsReadablePart content.initialization
  pub parts : (x : Timing) (part : Part) → part_of_timing content.runs x ≡ Ok part → IsReadablePart part

-- a track's playlist with the segments of each section in order, and with a target duration of its own
abbrev pub track_media : Presented → (digits track : ℕ) → Media
track_media p digits track = record {
  target = target_of (10 ^ digits) (longest_of p (10 ^ digits) track);
  sequence = 0;
  ended = true;
  segments = map (λ item. segment_in item.section digits item) (track_items p (10 ^ digits) track);
}

-- the whole seconds of durations have at most 20 digits
abbrev pub AreShort : Presented → (digits track : ℕ) → Type 0
AreShort p digits track = IsShortDuration digits (longest_of p (10 ^ digits) track)

pub record IsReadableTrack (p : Presented) (digits track : ℕ) : Type 0 where
  pub finished : is_finished p ≡ true
  pub verified : IsVerified p digits
  pub few : digits ≤ 9
  pub contents : All IsReadableContent p.contents
  pub short : AreShort p digits track

-- So have those of all tracks, where they share a target.
abbrev pub AreShortFor : Targets → Presented → (digits : ℕ) → Type 0
AreShortFor Own p digits = ⊤
AreShortFor Shared p digits = (t : ℕ) → t < length p.tracks → AreShort p digits t

-- a track's playlist with its target duration
abbrev pub media_with : Targets → Presented → (digits track : ℕ) → Media
media_with targets p digits track = record (track_media p digits track) { target = target_in targets p (10 ^ digits) track }

abbrev pub TracksAreRead : Type 0
TracksAreRead = (place : Option PlaylistPlace) (targets : Targets) (p : Presented) (digits track : ℕ) (url : List ℕ) → Spells place url
    → track < length p.tracks → IsReadableTrack p digits track → AreShortFor targets p digits
    → ReadsAs (media_text place targets p digits track) url (media_with targets p digits track)
