-- What the texts of published playlists are read as.
use Rattle.std.specs.Prelude.{◌≡◌, ℕ, ◌^◌, ◌<◌, Bool, List, All, Ok}
use Rattle.followed_text.specs.{Followed.{followed_of, text_of}, declared.followed.FollowedText.FollowedText}
use Rattle.laws_of_playlists.specs.ReadMedia.{ReadsAs}
use Rattle.laws_of_publishing.specs.Laws.{Accepted, Replaced, media_told}
use Rattle.laws_of_reloads.specs.Laws.{Reloads}

-- The list was read of a text, got from a URL of bytes.
pub record IsRead (list : FollowedText) : Type 0 where
  pub bytes : List ℕ
  pub url : List ℕ
  pub of_bytes : All (λ b. b < 256) url
  pub is : followed_of bytes url ≡ Ok list

-- the text is read as the list says, whatever the URL that it was fetched from
abbrev pub IsTold : FollowedText → Type 0
IsTold list = (url : List ℕ) → ReadsAs (text_of list) url (media_told list)

-- ---- laws

abbrev pub ReadTextsAreTold : Type 0
ReadTextsAreTold = (list : FollowedText) → IsRead list → IsTold list

-- a list with another target duration, and ended or not
abbrev pub list_with : (target : ℕ) → (ended : Bool) → FollowedText → FollowedText
list_with target ended list = record list { head = record list.head { target = target; ended = ended } }

abbrev pub FirstTextsAreTold : Type 0
FirstTextsAreTold = (list : FollowedText) (target : ℕ) (ended : Bool) → IsRead list → target < 2 ^ 31
    → IsTold (list_with target ended list)

abbrev pub PublishedTextsAreTold : Type 0
PublishedTextsAreTold = (a : Accepted) (r : Replaced a) → IsRead r.track.served → IsRead r.track.new → IsTold r.list

abbrev pub PublishedTextsReload : Type 0
PublishedTextsReload = (a : Accepted) (r : Replaced a) (url : List ℕ) → IsRead r.track.served → IsRead r.track.new
    → Reloads (text_of r.track.served) (text_of r.list) url
