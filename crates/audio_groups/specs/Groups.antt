-- Audio groups (RFC 8216 4.3.4.1.1): which audio tracks a player may combine with a variant.
use Rattle.std.specs.Prelude.{ℕ, ◌+◌, ◌==◌, ◌&&◌, Bool, true, false, List, [], ◌∷◌, ◌++◌, map, take, position, count_by, bytes_eq}
use Rattle.std.specs.{Prelude.{if◌then◌else◌, Option, Some, None, unwrap_or}, Option.{option_eq, option_or}, List.list_any}
use Rattle.bridge_io.specs.{declared.media.Kind.Kind, declared.media.Kind.TheVariants.{Video, Audio, Text}}
use Rattle.presentation.specs.declared.track.Track.{Track}
use Rattle.audio_groups.specs.declared.groups.{Filling.Filling, Rendition.Rendition, Sameness.Sameness}
use Rattle.audio_groups.specs.declared.groups.Filling.TheVariants.{Filled, Pure}
use Rattle.audio_groups.specs.declared.groups.Sameness.TheVariants.{Key, Set}

abbrev pub is_audio : Kind → Bool
is_audio Audio = true
is_audio Video = false
is_audio Text = false

abbrev pub same_text : List ℕ → List ℕ → Bool
same_text one other = bytes_eq one other

-- an audio track with the codecs of another track; they are also the same where neither's are known
abbrev pub has_codes_of : Track → Track → Bool
has_codes_of track other = is_audio other.kind && option_eq same_text track.codecs other.codecs

-- and in the same set
abbrev pub is_alike : Track → Track → Bool
is_alike track other = track.set == other.set && has_codes_of track other

-- an audio track by its set, the first track with its codecs, and how many earlier tracks are alike
abbrev pub rendition_at : List Track → ℕ → Track → Rendition
rendition_at tracks place track = record {
  place = place;
  set = track.set;
  codes = unwrap_or (position (has_codes_of track) tracks) place;
  rank = count_by (is_alike track) (take place tracks);
}

-- those that were found before, and those of the tracks from an index on
abbrev pub renditions_from : List Track → List Rendition → ℕ → List Track → List Rendition
renditions_from tracks found place [] = found
renditions_from tracks found place (track ∷ later) =
    if is_audio track.kind then renditions_from tracks (found ++ rendition_at tracks place track ∷ []) (place + 1) later
    else renditions_from tracks found (place + 1) later

abbrev pub renditions_of : List Track → List Rendition
renditions_of tracks = renditions_from tracks [] 0 tracks

-- two renditions have the same codecs and the same rank, or are of the same set
abbrev pub is_same : Sameness → Rendition → Rendition → Bool
is_same Key one other = one.codes == other.codes && one.rank == other.rank
is_same Set one other = one.set == other.set

-- the key that such renditions have in common
abbrev pub key_of : Sameness → Rendition → ℕ × ℕ
key_of Key one = (one.codes, one.rank)
key_of Set one = (one.set, 0)

-- those renditions that are the first of their kind, after those that were found before
abbrev pub firsts : Sameness → List Rendition → List Rendition → List Rendition
firsts sameness found [] = found
firsts sameness found (one ∷ later) =
    if list_any (is_same sameness one) found then firsts sameness found later else firsts sameness (found ++ one ∷ []) later

-- the index of the last rendition of a set that has certain codecs
abbrev pub last_of : (Rendition → Bool) → Option ℕ → List Rendition → Option ℕ
last_of test last [] = last
last_of test last (one ∷ later) = if test one then last_of test (Some one.place) later else last_of test last later

abbrev pub is_of_codes : (key set : Rendition) → Rendition → Bool
is_of_codes key set other = set.set == other.set && key.codes == other.codes

abbrev pub last_with_codes : List Rendition → (key set : Rendition) → Option ℕ
last_with_codes renditions key set = last_of (is_of_codes key set) None renditions

abbrev pub is_of_key : (key set : Rendition) → Rendition → Bool
is_of_key key set other = set.set == other.set && is_same Key key other

-- the index of the first one of a set that has a key
abbrev pub first_place : (Rendition → Bool) → List Rendition → Option ℕ
first_place test [] = None
first_place test (one ∷ later) = if test one then Some one.place else first_place test later

abbrev pub first_with_key : List Rendition → (key set : Rendition) → Option ℕ
first_with_key renditions key set = first_place (is_of_key key set) renditions

-- a set's rendition with a group's codecs and rank, otherwise its last one with these codecs
abbrev pub found_in : List Rendition → (key set : Rendition) → Option ℕ
found_in renditions key set = option_or (first_with_key renditions key set) (last_with_codes renditions key set)

-- what a set without these codecs has in the group: its first rendition, or nothing
abbrev pub filler : Filling → (set : Rendition) → Option ℕ
filler Filled set = Some set.place
filler Pure set = None

abbrev pub member_of : Filling → List Rendition → (key set : Rendition) → Option ℕ
member_of filling renditions key set = option_or (found_in renditions key set) (filler filling set)

-- a group with a key: for each set its member, if it has one
abbrev pub group_for : Filling → List Rendition → (sets : List Rendition) → Rendition → List (Option ℕ)
group_for filling renditions sets key = map (member_of filling renditions key) sets

-- One group for each pair of codecs and rank, and in each the members of the sets, in the order in which they first occur.
unfoldable pub groups_of : Filling → List Track → List (List (Option ℕ))
groups_of filling tracks = let renditions = renditions_of tracks in
    map (group_for filling renditions (firsts Set [] renditions)) (firsts Key [] renditions)
