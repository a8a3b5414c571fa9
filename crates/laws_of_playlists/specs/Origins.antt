-- What holds for a presentation that came from an MPD.
pub use Rattle.mpd_rules.specs.Ranges.{IsSomeBytes}
use Rattle.std.specs.Prelude.{◌≡◌, ℕ, ℤ, ◌*◌, ◌<◌, ◌≤◌, List, length, All, IfSome, Option, Some, None, Ok}
use Rattle.url_parts.specs.{Addresses.{IsAddress, absolute}, declared.address.Part.Part}
use Rattle.timeline.specs.{Expansions.{SegmentTimeline, Timing}, Listed.part_of_timing}
use Rattle.mpd_levels.specs.{declared.indexed.IndexRow.IndexRow, Segments.Segments}
use Rattle.mpd_rules.specs.{declared.rows.PeriodRow.PeriodRow, declared.rows.TrackRow.TrackRow, Indexes.index_told}
use Rattle.mpd_rules.specs.{Rules.{indexed_mpd_of, typed_mpd_of}, Typed.TypedMpd}
use Rattle.mpd_tree.specs.{Trees.{Head, Forest, nothing, element, Element}, Meaning.reading_of}
use Rattle.presentation.specs.{declared.parts.Content.Content, Presented.{Presented, listed_at}, Printing.{IsCounted, durations_of}}
use Rattle.mpd_presentation.specs.{Origins.CameFromStaticMpd, Told.presented_of, PresentedLaws.IsInPace}
use Rattle.laws_of_playlists.specs.Tracks.{AreWritable, AreWritableIfFew}

-- ---- MPDs, static and dynamic

-- from a valid MPD, at a time where it is dynamic
pub record CameFromMpd (p : Presented) : Type 0 where
  pub tree : Element
  pub mpd : TypedMpd (Option Segments)
  pub url : List ℕ
  pub now : Option ℤ
  pub typed : typed_mpd_of tree ≡ Ok mpd
  pub presented : presented_of mpd url now ≡ Ok p

abbrev pub of_static : (p : Presented) → CameFromStaticMpd p → CameFromMpd p
of_static p from = record {
  tree = from.tree;
  mpd = from.mpd;
  url = from.url;
  now = from.now;
  typed = from.typed;
  presented = from.presented;
}

-- ---- the URL of an MPD, and its texts

abbrev pub IsByte : ℕ → Type 0
IsByte b = b < 256

abbrev pub IsOfBytes : List ℕ → Type 0
IsOfBytes text = All IsByte text

-- the texts of an element itself are bytes
pub record IsHeadOfBytes (head : Head) : Type 0 where
  pub values : All (λ attribute. IsOfBytes attribute.value) head.attributes
  pub text : IsOfBytes head.text

abbrev pub AreOfBytes : Forest → Type 0
AreOfBytes nothing = Unit {0}
AreOfBytes (element head children others) = IsHeadOfBytes head × AreOfBytes children × AreOfBytes others

pub record IsElementOfBytes (e : Element) : Type 0 where
  pub head : IsHeadOfBytes e.head
  pub children : AreOfBytes e.children

-- what is read from bytes has texts of bytes
abbrev pub ReadingsAreOfBytes : Type 0
ReadingsAreOfBytes = (bytes : List ℕ) (tree : Element) → IsOfBytes bytes → reading_of bytes ≡ Ok tree → IsElementOfBytes tree

-- a text that resolves to itself is a URL
abbrev pub OwnTextsAreAddresses : Type 0
OwnTextsAreAddresses = (text : List ℕ) → absolute text ≡ Ok text → IsAddress text

-- an MPD that was read from bytes, at a URL
pub record IsFound (mpd : Element) (base : List ℕ) : Type 0 where
  pub tree : IsElementOfBytes mpd
  pub url : IsAddress base

-- ---- tracks

abbrev pub TracksAreWritable : Type 0
TracksAreWritable = (p : Presented) → CameFromMpd p → AreWritable p.tracks

-- there is a track and a section
abbrev pub HaveTracks : Type 0
HaveTracks = (p : Presented) → CameFromMpd p → 0 < length p.tracks

abbrev pub HaveFewTracks : Type 0
HaveFewTracks = (p : Presented) → CameFromMpd p → length p.tracks ≤ 200

abbrev pub HaveSections : Type 0
HaveSections = (p : Presented) → CameFromMpd p → 0 < length p.sections

-- those of each Period of an MPD whose files have a `sidx`
abbrev pub IndexedTracksAreWritable : Type 0
IndexedTracksAreWritable = (tree : Element) (mpd : TypedMpd (Option IndexRow)) → indexed_mpd_of tree ≡ Ok mpd
    → All (λ (period : PeriodRow (Option IndexRow)). AreWritableIfFew period.tracks) mpd.periods

-- for a static MPD

abbrev pub StaticTracksAreWritable : Type 0
StaticTracksAreWritable = (p : Presented) → CameFromStaticMpd p → AreWritable p.tracks

abbrev pub StaticHaveTracks : Type 0
StaticHaveTracks = (p : Presented) → CameFromStaticMpd p → 0 < length p.tracks

abbrev pub StaticHaveFewTracks : Type 0
StaticHaveFewTracks = (p : Presented) → CameFromStaticMpd p → length p.tracks ≤ 200

abbrev pub StaticHaveSections : Type 0
StaticHaveSections = (p : Presented) → CameFromStaticMpd p → 0 < length p.sections

-- ---- the `sidx` of files

-- the byte range of a Representation's `sidx` is given, and isn't empty; without an Initialization there is a byte before
-- it
pub record HasIndex (row : TrackRow (Option IndexRow)) : Type 0 where
  pub index : IndexRow
  pub there : row.segments ≡ Some index
  pub range : index.range ≡ Some (index_told row.segments).range
  pub bytes : IsSomeBytes (index_told row.segments).range
  pub before : (index_told row.segments).initialization ≡ None → 0 < (index_told row.segments).range.first

abbrev pub IndexesAreTold : Type 0
IndexesAreTold = (tree : Element) (mpd : TypedMpd (Option IndexRow)) → indexed_mpd_of tree ≡ Ok mpd
    → All (λ (period : PeriodRow (Option IndexRow)). All HasIndex period.tracks) mpd.periods

-- ---- URLs

-- a file, or a byte range of it
pub record IsLocated (part : Part) : Type 0 where
  pub address : IsAddress part.address
  pub range : IfSome part.range IsSomeBytes

abbrev pub InitializationsAreLocated : Type 0
InitializationsAreLocated = (p : Presented) (from : CameFromMpd p) → IsFound from.tree from.url
    → All (λ (content : Content). IsLocated content.initialization) p.contents

abbrev pub StaticInitializationsAreLocated : Type 0
StaticInitializationsAreLocated = (p : Presented) (from : CameFromStaticMpd p) → IsFound from.tree from.url
    → All (λ (content : Content). IsLocated content.initialization) p.contents

-- each segment that is made
abbrev pub AreLocated : SegmentTimeline → Type 0
AreLocated timeline = (x : Timing) (part : Part) → part_of_timing timeline x ≡ Ok part → IsLocated part

abbrev pub PartsAreLocated : Type 0
PartsAreLocated = (p : Presented) (from : CameFromMpd p) → IsFound from.tree from.url
    → All (λ (content : Content). AreLocated content.runs) p.contents

abbrev pub StaticPartsAreLocated : Type 0
StaticPartsAreLocated = (p : Presented) (from : CameFromStaticMpd p) → IsFound from.tree from.url
    → All (λ (content : Content). AreLocated content.runs) p.contents

-- ---- times

-- where `count` succeeds for segments that continue to an open end
abbrev pub AreInPace : Type 0
AreInPace = (p : Presented) (s t : ℕ) → CameFromMpd p → IsCounted p s t → IsInPace (listed_at p s t)

abbrev pub StaticAreInPace : Type 0
StaticAreInPace = (p : Presented) (s t : ℕ) → CameFromStaticMpd p → IsInPace (listed_at p s t)

-- a printed duration is at most 2,000,000 s
abbrev pub AreShortInPace : Type 0
AreShortInPace = (xs : List Timing) (unit : ℕ) → IsInPace xs → All (λ duration. duration ≤ 2000000 * unit) (durations_of unit xs)
