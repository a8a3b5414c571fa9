-- What the audio groups of one family each hold.
use Rattle.std.specs.Prelude.{◌≡◌, ℕ, List, [], map, All, Option, Some, None, true}
use Rattle.std.specs.List.{AllZip, slice_get}
use Rattle.presentation.specs.declared.track.Track.{Track}
use Rattle.audio_groups.specs.declared.groups.{Filling.TheVariants.Pure, Sameness.TheVariants.Set}
use Rattle.audio_groups.specs.Groups.{firsts, groups_of, is_audio, renditions_of}

-- an audio track of a set with certain codecs stands at a place
pub record IsOf (tracks : List Track) (codecs : Option (List ℕ)) (set place : ℕ) : Type 0 where
  pub track : Track
  pub at : slice_get tracks place ≡ Some track
  pub audio : is_audio track.kind ≡ true
  pub set_is : track.set ≡ set
  pub codecs_are : track.codecs ≡ codecs

-- a set's member of a group with certain codecs: a track of the set with these codecs; there is none only where the set has none
abbrev pub IsMember : List Track → (codecs : Option (List ℕ)) → (set : ℕ) → Option ℕ → Type 0
IsMember tracks codecs set (Some place) = IsOf tracks codecs set place
IsMember tracks codecs set None = (place : ℕ) → IsOf tracks codecs set place → ⊥

-- the sets of the audio tracks, in the order in which they first occur
abbrev pub audio_sets : List Track → List ℕ
audio_sets tracks = map (λ one. one.set) (firsts Set [] (renditions_of tracks))

abbrev pub IsPure : List Track → List (Option ℕ) → Type 0
IsPure tracks members = (codecs : Option (List ℕ)) × AllZip (IsMember tracks codecs) (audio_sets tracks) members

-- All members of a group have the same codecs, and it has one member of each audio set that has a track with these codecs.
abbrev pub GroupsArePure : Type 0
GroupsArePure = (tracks : List Track) → All (IsPure tracks) (groups_of Pure tracks)
