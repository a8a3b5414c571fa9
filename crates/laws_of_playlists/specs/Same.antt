-- What the playlists of a presentation mean (RFC 8216, 4.3), with each time rounded down to the unit that durations are
-- written in.
use Rattle.std.specs.Prelude.{◌≡◌, ℕ, ◌+◌, ◌^◌, ◌<◌, ◌≤◌, List, [], ◌∷◌, length}
use Rattle.exact_time.specs.{Time.IsTime, Rounding.IsRising}
use Rattle.timeline.specs.Expansions.{Timing}
use Rattle.hls_media.specs.declared.media.MediaSegment.{MediaSegment}
use Rattle.hls_meaning.specs.Meanings.{Source, meaning_of_sources}
use Rattle.meaning.specs.Same.{SameFloor}
use Rattle.presentation.specs.{declared.track.Track.Track, Meanings.{language_of, meaning_of}, Presented.{Presented, listed_at}}
use Rattle.presentation.specs.Printing.{begin_of, ends_of}
use Rattle.hls_writer.specs.{Playlists.Item, Verified.IsVerified}
use Rattle.laws_of_playlists.specs.ReadMedia.{segment_in, track_media}

-- ---- what is read

-- a written segment, as it is read back
abbrev pub read_of : (digits : ℕ) → Item → MediaSegment
read_of digits item = segment_in item.section digits item

-- a track of a master playlist with its media playlist, written for the presentation's track at an index
pub record IsRead (p : Presented) (digits place : ℕ) (track : Track) (source : Source) : Type 0 where
  pub kind : source.track.kind ≡ track.kind
  pub language : source.track.language ≡ language_of track.kind track.language
  pub segments : source.media.segments ≡ (track_media p digits place).segments

-- the same for tracks in order, given the index of the first one
abbrev pub AreReadFrom : Presented → (digits place : ℕ) → List Track → List Source → Type 0
AreReadFrom p digits t [] [] = Unit {0}
AreReadFrom p digits t (track ∷ tracks) (source ∷ sources) = IsRead p digits t track source × AreReadFrom p digits (t + 1) tracks sources
AreReadFrom p digits t tracks sources = ⊥

abbrev pub AreRead : Presented → (digits : ℕ) → List Source → Type 0
AreRead p digits sources = AreReadFrom p digits 0 p.tracks sources

-- ---- what holds of the presentation

-- no segment ends before the one before it, nor the first one before its start
abbrev pub EndInTurn : List Timing → Type 0
EndInTurn xs = IsTime (begin_of xs) × IsRising (begin_of xs) (ends_of xs)

abbrev pub SegmentsEndInTurn : Presented → Type 0
SegmentsEndInTurn p = (s t : ℕ) → s < length p.sections → t < length p.tracks → EndInTurn (listed_at p s t)

-- ---- the law

-- A presentation's playlists, read back, mean what it means, with each time rounded down.
abbrev pub ReadMeanTheSame : Type 0
ReadMeanTheSame = (p : Presented) (digits : ℕ) (sources : List Source) → IsVerified p digits → digits ≤ 9 → SegmentsEndInTurn p
    → AreRead p digits sources
    → SameFloor (10 ^ digits) (meaning_of p) (meaning_of_sources sources)
