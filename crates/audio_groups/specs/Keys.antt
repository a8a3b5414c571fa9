-- The keys of audio groups: what their tracks have in common, apart from those that only fill them.
use Rattle.std.specs.Prelude.{ℕ, ◌+◌, ◌==◌, ◌&&◌, Bool, List, [], ◌∷◌, ◌++◌, take, slice_get, position, count_by}
use Rattle.std.specs.{Prelude.{if◌then◌else◌, unwrap_or}, List.list_any, Option.option_map_or}
use Rattle.presentation.specs.declared.track.Track.{Track}
use Rattle.audio_groups.specs.{Groups.{is_audio, is_alike, has_codes_of}, declared.keys.Key.Key}

-- The key of an audio track's group: its codecs, by the first track that has them, and the number of tracks with these
-- codecs before the track in its set.
abbrev pub key_at : List Track → ℕ → Track → Key
key_at tracks place track = record {
  codes = unwrap_or (position (has_codes_of track) tracks) place;
  rank = count_by (is_alike track) (take place tracks);
}

abbrev pub is_same_key : Key → Key → Bool
is_same_key one other = one.codes == other.codes && one.rank == other.rank

abbrev pub with_key : List Key → Key → List Key
with_key found key = if list_any (is_same_key key) found then found else found ++ key ∷ []

-- the keys of the audio tracks in the order in which they first occur: those of the groups in order
abbrev pub keys_from : List Track → List Key → ℕ → List Track → List Key
keys_from tracks found place [] = found
keys_from tracks found place (track ∷ later) =
    if is_audio track.kind then keys_from tracks (with_key found (key_at tracks place track)) (place + 1) later
    else keys_from tracks found (place + 1) later

abbrev pub keys_of : List Track → List Key
keys_of tracks = keys_from tracks [] 0 tracks

-- the group of an audio track's own codecs and rank
abbrev pub group_with_key : List Key → Key → ℕ
group_with_key keys key = unwrap_or (position (is_same_key key) keys) 0

abbrev pub own_group : List Track → List Key → ℕ → ℕ
own_group tracks keys place = option_map_or (λ track. group_with_key keys (key_at tracks place track)) (slice_get tracks place) 0
