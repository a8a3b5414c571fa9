-- The segments of a snapshot's tracks, section by section, and which of them the last accepted snapshot listed.
use Rattle.std.specs.Prelude.{ℕ, ◌+◌, ◌-◌, List, [], ◌∷◌, drop, length, slice_get, take, Option, Some, None, unwrap_or}
use Rattle.hls_media.specs.{declared.media.Media.Media, declared.media.MediaSegment.MediaSegment}
use Rattle.hls_presentation.specs.{Sections.groups_in, Tracks.Source}
use Rattle.hls_follow.specs.{declared.state.FollowedTrack.FollowedTrack, declared.stretches.Stretch.Stretch as Given}

-- The segments of a track in a section, and the times of those that were listed before, which come first.
pub record Stretch : Type 0 where
  pub segments : List MediaSegment
  pub known : List ℕ

abbrev pub stretch_of : Given → Stretch
stretch_of s = record { segments = s.segments.now; known = s.known.now }

-- the others
abbrev pub new_in : Stretch → List MediaSegment
new_in s = drop (length s.known) s.segments

-- ---- a track

-- The times of a playlist's segments that the last accepted one listed: a segment is known by its sequence number.
abbrev pub known_times : Option FollowedTrack → Media → List ℕ
known_times None media = []
known_times (Some former) media = drop (media.sequence - former.media.sequence) former.times

-- section by section
abbrev pub stretches_from : (known : List ℕ) → List (List MediaSegment) → List Stretch
stretches_from known [] = []
stretches_from known (group ∷ groups) =
    record { segments = group; known = take (length group) known } ∷ stretches_from (drop (length group) known) groups

-- an index out of range has nothing
abbrev pub stretch_at : ℕ → List Stretch → Stretch
stretch_at place stretches = unwrap_or (slice_get stretches place) (record { segments = []; known = [] })

-- ---- the kept tracks, from an index on

abbrev pub stretches_of_all : List FollowedTrack → (place : ℕ) → List Source → List (List Stretch)
stretches_of_all formers place [] = []
stretches_of_all formers place (s ∷ kept) =
    stretches_from (known_times (slice_get formers place) s.media) (groups_in s) ∷ stretches_of_all formers (place + 1) kept
