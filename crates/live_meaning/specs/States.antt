-- The state of a history, and how an update changes it.
use Rattle.std.specs.Prelude.{ℕ, ◌+◌, List, [], ◌∷◌, ◌++◌, length, map, drop, Option, None, option_map}
use Rattle.presentation.specs.Presented.{Presented}
use Rattle.followed.specs.Durations.{Last, durations, last_behind, told, told_behind}
use Rattle.live_meaning.specs.{Updates.{Update, Terms, unit_of}, Segments.{Kept, Segment, behind, listed_of, place_behind}}
use Rattle.live_meaning.specs.{Removal.removed_of, Histories.{Common, Past, Whole, common_with, least_length, numbering_of, whole_of}}

-- a track: the kept segments with their durations, the index of the first one among all, the last one that was listed with
-- the start of its section's first segment ever listed, and its Period's index
pub record Track : Type 0 where
  pub kept : List Kept
  pub first : ℕ
  pub last : Option Last
  pub place : ℕ

pub record State : Type 0 where
  pub common : Common
  pub tracks : List Track

abbrev pub track_of : (unit : ℕ) → Past → Track
track_of unit past =
    record {
      kept = drop past.first (told unit past.all);
      first = past.first;
      last = last_behind None past.all;
      place = place_behind 0 past.all;
    }

abbrev pub shown : Whole → State
shown w = record { common = w.common; tracks = map (track_of (unit_of w.common.terms)) w.pasts }

-- the state after accepted updates, the first one first; `None` after none
unfoldable pub state_of : Terms → List Update → Option State
state_of terms history = option_map shown (whole_of terms history)

-- ---- how an update changes a state

-- what an update lists after the last segment of a track, in the new presentation and numbering
abbrev pub new_of : Common → (track : ℕ) → Track → List Segment
new_of c t track = behind track.last track.place (listed_of (numbering_of c) c.force t)

abbrev pub new_told : Common → (track : ℕ) → Track → List Kept
new_told c t track = told_behind (unit_of c.terms) track.last (new_of c t track)

abbrev pub new_durations : Common → (track : ℕ) → Track → List ℕ
new_durations c t track = durations (new_told c t track)

abbrev pub kept_and_new : Common → (track : ℕ) → Track → List Kept
kept_and_new c t track = track.kept ++ new_told c t track

abbrev pub removed_from : Common → List Kept → ℕ
removed_from c ts = removed_of c.force.following (least_length c) ts

abbrev pub track_with : Common → Track → List Kept → (new : List Segment) → Track
track_with c track ts new = record {
  kept = drop (removed_from c ts) ts;
  first = track.first + removed_from c ts;
  last = last_behind track.last new;
  place = place_behind track.place new;
}

abbrev pub track_after : Common → (track : ℕ) → Track → Track
track_after c t track = track_with c track (kept_and_new c t track) (new_of c t track)

abbrev pub tracks_after : Common → (track : ℕ) → List Track → List Track
tracks_after c t [] = []
tracks_after c t (track ∷ tracks) = track_after c t track ∷ tracks_after c (t + 1) tracks

-- the state after an update with this presentation
unfoldable pub state_with : State → Update → Presented → State
state_with s u p = let c = common_with s.common u p in record { common = c; tracks = tracks_after c 0 s.tracks }

-- how many segments an update lists after the last ones
abbrev pub new_count : Common → (track : ℕ) → List Track → ℕ
new_count c t [] = 0
new_count c t (track ∷ tracks) = length (new_of c t track) + new_count c (t + 1) tracks
