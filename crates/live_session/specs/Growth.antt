-- The tracks of a session as segments are added and removed.
use Rattle.std.specs.Prelude.{◌≡◌, ℕ, ◌+◌, ◌*◌, ◌^◌, ◌<◌, List, [], ◌∷◌, length, slice_get, Some}
use Rattle.exact_time.specs.declared.tick.Tick.{Tick}
use Rattle.hls_writer.specs.declared.items.MediaItem.{MediaItem}
use Rattle.followed.specs.Durations.{last_behind}
use Rattle.live_meaning.specs.{Removal.removed_of, Segments.{Kept, place_behind}, Histories.Common, States.{Track, kept_and_new, new_of}}
use Rattle.live_judge.specs.{declared.standing.Standing.Standing, declared.track.Fact.Fact, declared.track.LiveTrack.LiveTrack}
use Rattle.live_judge.specs.Shown.{in_force}
use Rattle.live_session.specs.{declared.made.MadeTrack.MadeTrack, Kept.{HasRoom, with_all, without_front}}

-- the content of a track, whatever room there is for more
abbrev pub inside_of : LiveTrack → List MediaItem × List Fact × ℕ × Tick
inside_of track = (track.items.items, track.facts.items, track.first, track.begin)

-- there is room for the new segments of each track
abbrev pub HaveRoom : List LiveTrack → List MadeTrack → Type 0
HaveRoom tracks made = (t : ℕ) (track : LiveTrack) (new : MadeTrack) → slice_get tracks t ≡ Some track → slice_get made t ≡ Some new
    → HasRoom (length new.segments.items) track

-- with the new segments of some of the tracks from the first one on
abbrev pub grown : List Track → List (List Kept) → List Track
grown tracks [] = tracks
grown [] (new ∷ news) = []
grown (track ∷ tracks) (new ∷ news) = with_all track new ∷ grown tracks news

-- a track with what an update lists after its last segment, given the track's index
abbrev pub track_grown : Common → (t : ℕ) → Track → Track
track_grown c t track = record {
  kept = kept_and_new c t track;
  first = track.first;
  last = last_behind track.last (new_of c t track);
  place = place_behind track.place (new_of c t track);
}

abbrev pub tracks_grown : Common → (t : ℕ) → List Track → List Track
tracks_grown c t [] = []
tracks_grown c t (track ∷ tracks) = track_grown c t track ∷ tracks_grown c (t + 1) tracks

-- without what isn't available any more
abbrev pub trimmed : Standing → Track → Track
trimmed s track = without_front (removed_of (in_force s).following (3 * s.target * 10 ^ s.digits) track.kept) track

-- some are kept, and their indices fit a number
pub record IsTrimmable (track : Track) : Type 0 where
  pub some : 0 < length track.kept
  pub fits : track.first + length track.kept < 2 ^ 63
