-- What the written playlists of a followed presentation are read as.
use Rattle.std.specs.Prelude.{◌≡◌, ℕ, ◌^◌, ◌<◌, ◌≤◌, All, List, [], ◌∷◌, ◌++◌, length, Option, Some, None, Ok}
use Rattle.url_parts.specs.{Addresses.IsAddress, Spelling.PlaylistPlace}
use Rattle.mpd_tree.specs.{Trees.Element, Meaning.reading_of}
use Rattle.mpd_rules.specs.Rules.{typed_mpd_of}
use Rattle.hls_media.specs.{Media.media_of as read_media, declared.media.Media.Media}
use Rattle.reload_law.specs.Laws.{IsLawful}
use Rattle.live_meaning.specs.{Updates.{Terms, Update, Values, mpd_of}, States.{State, state_of}, Refusals.update_refusal}
use Rattle.live_meaning.specs.{Playlists.{FollowedPlaylist, live_text, playlist_of}, Laws.{Shows, accepted_of, media_of}}
use Rattle.laws_of_playlists.specs.{Origins.IsOfBytes, ReadMedia.{ReadsAs, Spells}}
use Rattle.laws_of_taken_playlists.specs.Laws.{IsTakenItem}

-- ---- the updates of a run

-- a valid MPD that was read from bytes
pub record IsRead (mpd : Values) : Type 0 where
  pub bytes : List ℕ
  pub are : IsOfBytes bytes
  pub tree : Element
  pub reading : reading_of bytes ≡ Ok tree
  pub typed : typed_mpd_of tree ≡ Ok mpd

abbrev pub IsReadIfAny : Option Values → Type 0
IsReadIfAny None = Unit {0}
IsReadIfAny (Some mpd) = IsRead mpd

abbrev pub AreRead : List Update → Type 0
AreRead updates = All (λ u. IsReadIfAny (mpd_of u)) updates

-- MPDs from a URL, with at most 9 decimals of a second and at most 10,000,000 updates
pub record IsFollowed (terms : Terms) (updates : List Update) : Type 0 where
  pub url : IsAddress terms.url
  pub digits : terms.digits ≤ 9
  pub read : AreRead updates
  pub few : length updates ≤ 10_000_000

-- ---- laws

-- each text is read as the playlist of an accepted history, however URLs are spelled
abbrev pub FollowedTextsAreRead : Type 0
FollowedTextsAreRead = (place : Option PlaylistPlace) (terms : Terms) (history : List Update) (s : State) (t : ℕ)
    (playlist : FollowedPlaylist)
    (url : List ℕ) → Spells place url → IsFollowed terms history → Shows terms history s → playlist_of s t ≡ Some playlist
    → ReadsAs (live_text place playlist) url (media_of playlist)

-- The numbers of a followed playlist are such as a reader takes: its target duration is below 2^31 seconds, its segments last at most
-- 1,000,000 seconds, and no byte range ends at 2^63 or behind.
pub record IsWithinLimits (playlist : FollowedPlaylist) : Type 0 where
  pub target : playlist.head.target < 2 ^ 31
  pub each : All (IsTakenItem playlist.head.digits) playlist.items

-- the reader takes the text of such a one as that playlist
abbrev pub FollowedTextsAreTaken : Type 0
FollowedTextsAreTaken = (place : Option PlaylistPlace) (terms : Terms) (history : List Update) (s : State) (t : ℕ)
    (playlist : FollowedPlaylist)
    (url : List ℕ) → Spells place url → IsFollowed terms history → Shows terms history s → playlist_of s t ≡ Some playlist
    → IsWithinLimits playlist → read_media (live_text place playlist) url ≡ Ok (media_of playlist)

-- two texts are read as playlists, the second of which is a valid update of the first
pub record Reloads (old new url : List ℕ) : Type 0 where
  pub before : Media
  pub after : Media
  pub old_is : ReadsAs old url before
  pub new_is : ReadsAs new url after
  pub lawful : IsLawful before after

-- Some updates come one after another, each accepted where it can follow the accepted ones before, and then one that is accepted:
-- the playlists of a track before and after that one.
pub record IsUpdate (terms : Terms) (updates : List Update) (u : Update) (t : ℕ) (old new : FollowedPlaylist) : Type 0 where
  pub followed : IsFollowed terms (updates ++ u ∷ [])
  pub accepted : update_refusal terms (accepted_of terms updates) u ≡ None
  pub before : State
  pub leaves : state_of terms (accepted_of terms updates) ≡ Some before
  pub after : State
  pub leaves_more : state_of terms (accepted_of terms (updates ++ u ∷ [])) ≡ Some after
  pub old_is : playlist_of before t ≡ Some old
  pub new_is : playlist_of after t ≡ Some new

-- the new text is a valid update of the previous one
abbrev pub FollowedTextsReload : Type 0
FollowedTextsReload = (place : Option PlaylistPlace) (terms : Terms) (updates : List Update) (u : Update) (t : ℕ)
    (old new : FollowedPlaylist)
    (url : List ℕ) → Spells place url → IsUpdate terms updates u t old new
    → Reloads (live_text place old) (live_text place new) url

-- so are the results of a reader, where it rejects neither
abbrev pub ReadTextsReload : Type 0
ReadTextsReload =
    (place : Option PlaylistPlace) (terms : Terms) (updates : List Update) (u : Update) (t : ℕ) (old new : FollowedPlaylist) (url : List ℕ)
    (before after : Media) → Spells place url → IsUpdate terms updates u t old new → read_media (live_text place old) url ≡ Ok before
    → read_media (live_text place new) url ≡ Ok after → IsLawful before after

-- where both playlists have numbers such as a reader takes, it takes both texts, and the update is valid
abbrev pub TakenTextsReload : Type 0
TakenTextsReload =
    (place : Option PlaylistPlace) (terms : Terms) (updates : List Update) (u : Update) (t : ℕ) (old new : FollowedPlaylist)
    (old_url new_url : List ℕ) → Spells place old_url → Spells place new_url → IsUpdate terms updates u t old new
    → IsWithinLimits old → IsWithinLimits new
    → (read_media (live_text place old) old_url ≡ Ok (media_of old))
    × ((read_media (live_text place new) new_url ≡ Ok (media_of new)) × IsLawful (media_of old) (media_of new))
