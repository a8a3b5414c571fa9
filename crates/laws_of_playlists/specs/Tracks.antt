-- What holds for the tracks of an MPD: their order, their languages and their codecs.
use Rattle.std.specs.{Prelude.{◌≡◌, ℕ, ◌<◌, ◌^◌, true, false, List, filter, length, map, All, IfSome}, List.list_any}
use Rattle.std.specs.List.Sorted.{IsNonDecreasingBy}
use Rattle.bridge_io.specs.declared.media.Kind.{Kind}
use Rattle.mpd_values.specs.{Codecs.{are_codes, codes_of, is_foreign}, Languages.is_language}
use Rattle.mpd_rules.specs.declared.rows.TrackRow.{TrackRow}
use Rattle.presentation.specs.{declared.track.Track.Track, Order.{by_kind, is_of}}
use Rattle.mpd_presentation.specs.Rows.{in_order, track_of}

-- the tracks of one kind
abbrev pub tracks_of_kind : Kind → List Track → List Track
tracks_of_kind kind tracks = filter (λ (track : Track). is_of kind track.kind) tracks

-- two tracks of one set have the same language
abbrev pub HaveOneLanguage : (one other : Track) → Type 0
HaveOneLanguage one other = one.kind ≡ other.kind → one.set ≡ other.set → one.language ≡ other.language

-- in the order of a presentation (ISO/IEC 23009-1, 5.3.3)
pub record AreOrdered (tracks : List Track) : Type 0 where
  -- video, then audio, then text
  pub kinds : tracks ≡ by_kind (λ (track : Track). track.kind) tracks
  -- of one kind, set by set
  pub sets : (kind : Kind) → IsNonDecreasingBy (λ (track : Track). track.set) (tracks_of_kind kind tracks)
  pub languages : All (λ one. All (HaveOneLanguage one) tracks) tracks

-- a list of codecs, none of which is of another kind
pub record AreOwnCodes (kind : Kind) (text : List ℕ) : Type 0 where
  pub are : are_codes text ≡ true
  pub own : list_any (is_foreign kind) (codes_of text) ≡ false

-- a language and codecs that a playlist can contain
pub record IsTold (track : Track) : Type 0 where
  pub language : IfSome track.language (λ tag. is_language tag ≡ true)
  pub codecs : IfSome track.codecs (AreOwnCodes track.kind)

pub record AreWritable (tracks : List Track) : Type 0 where
  pub ordered : AreOrdered tracks
  pub told : All IsTold tracks
  -- as many as memory holds
  pub few : length tracks < 2 ^ 64

-- ---- the tracks of a Period's Representations, however their segments are addressed: video, audio, text, each in document
-- order

-- where memory can hold them
abbrev pub AreWritableIfFew : {X : Type 0} → List (TrackRow X) → Type 0
AreWritableIfFew rows = length rows < 2 ^ 64 → AreWritable (map track_of (in_order rows))
