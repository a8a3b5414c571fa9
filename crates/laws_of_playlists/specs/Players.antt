-- What holds of playlists that are written for players (RFC 8216, 4.3.4 and 6.2.4).
use Rattle.std.specs.Prelude.{◌==◌, ◌&&◌, bytes_eq, codes, count_by}
use Rattle.std.specs.Prelude.{◌≡◌, ◌⊎◌, ℕ, ◌<◌, ◌≤◌, true, List, [], ◌∷◌, length, map, slice_get, All, Option, Some, None, option_map}
use Rattle.std.specs.List.{AllZip}
use Rattle.bridge_io.specs.declared.media.Kind.{Kind, TheVariants.{Video, Audio, Text}}
use Rattle.track_hints.specs.declared.hints.Hints.{Hints}
use Rattle.presentation.specs.{declared.track.Track.Track, Presented.Presented}
use Rattle.audio_groups.specs.{Families.{family_in, in_families}, Groups.is_audio, Keys.own_group, Laws.audio_sets}
use Rattle.hls_writer.specs.{Attributes.{group_number, renditions, type_name}, Finished.{own_target, target_in}, Master.laid_out}
use Rattle.hls_writer.specs.Renditions.{LaidOut, members_in, own_rendition, renditions_of, text_rendition}
use Rattle.hls_writer.specs.Variants.{cast_of, codecs_at, codes_in, codes_of, variant_attributes, variants_of, video_variant}
use Rattle.hls_writer.specs.declared.finished.Targets.TheVariants.{Shared}

-- a member of a list
abbrev pub IsAmong : {X : Type 0} → X → List X → Type 0
IsAmong x [] = ⊥
IsAmong x (y ∷ ys) = (y ≡ x) ⊎ IsAmong x ys

-- a track of a kind stands at an index
pub record IsTrack (tracks : List Track) (kind : Kind) (place : ℕ) : Type 0 where
  pub track : Track
  pub at : slice_get tracks place ≡ Some track
  pub of : track.kind ≡ kind

-- ---- target durations

-- a track of video or audio
abbrev pub IsSeenOrHeard : List Track → ℕ → Type 0
IsSeenOrHeard tracks place = IsTrack tracks Video place ⊎ IsTrack tracks Audio place

-- The video and audio tracks have one target duration: the greatest of their own ones. A text track has its own.
pub record ShareOneTarget (p : Presented) (unit : ℕ) : Type 0 where
  pub target : ℕ
  pub shared : (t : ℕ) → IsSeenOrHeard p.tracks t → target_in Shared p unit t ≡ target
  pub most : (t : ℕ) → IsSeenOrHeard p.tracks t → own_target p unit t ≤ target
  -- it is the own one of one of them
  pub own : (t : ℕ) → IsSeenOrHeard p.tracks t → (s : ℕ) × (IsSeenOrHeard p.tracks s × (own_target p unit s ≡ target))
  pub texts : (t : ℕ) → IsTrack p.tracks Text t → target_in Shared p unit t ≡ own_target p unit t

abbrev pub TargetsAreShared : Type 0
TargetsAreShared = (p : Presented) (unit : ℕ) → ShareOneTarget p unit

-- ---- no track is missing

-- where the master is laid out in its groups, renditions and variants
pub record HasAllTracks (players : Option Hints) (tracks : List Track) (l : LaidOut) : Type 0 where
  -- each video track's playlist is the URI of a variant with each audio group, or without one where there are none
  pub videos : (p : ℕ) → IsTrack tracks Video p → (g : ℕ) → g < length l.groups
      → IsAmong (video_variant p (Some g)) (variants_of players tracks l.members)
  pub silent : (p : ℕ) → IsTrack tracks Video p → l.groups ≡ [] → IsAmong (video_variant p None) (variants_of players tracks l.members)
  -- each audio track is a member of its own group, in which it has a rendition
  pub audios : (p : ℕ) → IsTrack tracks Audio p → IsAmong p (members_in l.members (own_group l.grouped l.keys p))
  pub heard : (p : ℕ) → IsTrack tracks Audio p → IsAmong (own_rendition l p) (renditions_of l)
  -- a variant names each audio group
  pub groups : (g : ℕ) → g < length l.groups → IsAmong (Some g) (map (λ v. v.group) (variants_of players tracks l.members))
  -- each text track has a rendition in the group of subtitles, which each variant names
  pub texts : (p : ℕ) → IsTrack tracks Text p → (n : ℕ) × IsAmong (text_rendition l n p) (renditions_of l)
  pub subtitles : (p : ℕ) → IsTrack tracks Text p → (codes : Option (List (List ℕ)))
      → All (λ v. IsAmong (renditions (text_rendition l p p).group) (variant_attributes players tracks l.texts codes v))
      (variants_of players tracks l.members)

abbrev pub NoTrackIsMissing : Type 0
NoTrackIsMissing = (players : Option Hints) (tracks : List Track) → HasAllTracks players tracks (laid_out players tracks)

-- ---- families of codecs

-- an audio track of a set stands at an index, and its codecs are of a family
pub record IsOfFamily (tracks : List Track) (family : Option (List ℕ)) (set place : ℕ) : Type 0 where
  pub track : Track
  pub at : slice_get tracks place ≡ Some track
  pub audio : is_audio track.kind ≡ true
  pub set_is : track.set ≡ set
  pub family_is : option_map family_in track.codecs ≡ family

-- a set's member of a group of a family: a track of the set and the family; there is none only where the set has none
abbrev pub IsMemberOf : List Track → (family : Option (List ℕ)) → (set : ℕ) → Option ℕ → Type 0
IsMemberOf tracks family set (Some place) = IsOfFamily tracks family set place
IsMemberOf tracks family set None = (place : ℕ) → IsOfFamily tracks family set place → ⊥

-- a member, or none, for each audio set (a track keeps its set among the families)
abbrev pub IsOfOneFamily : List Track → List (Option ℕ) → Type 0
IsOfOneFamily tracks members = (family : Option (List ℕ)) × AllZip (IsMemberOf tracks family) (audio_sets (in_families tracks)) members

-- All members of an audio group have codecs of one family, and it has a member of each audio set that has a track of this family.
abbrev pub GroupsAreOfOneFamily : Type 0
GroupsAreOfOneFamily = (hints : Hints) (tracks : List Track) → All (IsOfOneFamily tracks) (laid_out (Some hints) tracks).groups

-- one of the tracks at some indices has a code
pub record HaveCode (tracks : List Track) (places : List ℕ) (code : List ℕ) : Type 0 where
  pub place : ℕ
  pub among : IsAmong place places
  pub text : List ℕ
  pub at : codecs_at tracks place ≡ Some text
  pub has : IsAmong code (codes_in text)

-- one of them has no codecs
abbrev pub LackCodecs : List Track → (places : List ℕ) → Type 0
LackCodecs tracks places = (place : ℕ) × (IsAmong place places × (codecs_at tracks place ≡ None))

-- the codes of CODECS are exactly theirs, and it is missing only where one of them has none
pub record TellsCodesOf (tracks : List Track) (places : List ℕ) : Type 0 where
  pub no_other : (codes : List (List ℕ)) → codes_of tracks places ≡ Some codes → (code : List ℕ) → IsAmong code codes
      → HaveCode tracks places code
  pub each : (codes : List (List ℕ)) → codes_of tracks places ≡ Some codes → (code : List ℕ) → HaveCode tracks places code
      → IsAmong code codes
  pub missing : codes_of tracks places ≡ None → LackCodecs tracks places

-- A variant's tracks are its video track, the members of its audio group, and the text tracks.
abbrev pub VariantsTellTheirCodes : Type 0
VariantsTellTheirCodes = (players : Option Hints) (tracks : List Track) → let l = laid_out players tracks in
    All (λ v. TellsCodesOf tracks (cast_of l.members l.texts v)) (variants_of players tracks l.members)

-- ---- the defaults

-- of the renditions of an audio group exactly one is DEFAULT
abbrev pub HasOneDefault : LaidOut → (group : ℕ) → Type 0
HasOneDefault l group = count_by (λ r. (bytes_eq (type_name r.group) (codes "AUDIO") && group_number r.group == group) && r.is_default)
    (renditions_of l) ≡ 1

abbrev pub DefaultsAreSingle : Type 0
DefaultsAreSingle = (hints : Hints) (tracks : List Track) (group : ℕ) → let l = laid_out (Some hints) tracks in
    group < length l.groups → HasOneDefault l group

-- a rendition that is DEFAULT is AUTOSELECT
abbrev pub DefaultsArePlayed : Type 0
DefaultsArePlayed = (hints : Hints) (tracks : List Track) →
    All (λ r. r.is_default ≡ true → r.is_autoselect ≡ true) (renditions_of (laid_out (Some hints) tracks))
