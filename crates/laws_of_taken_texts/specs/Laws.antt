-- The texts of served and of published playlists are taken as what they were written from.
use Rattle.std.specs.Prelude.{◌≡◌, ℕ, ◌^◌, ◌<◌, ◌≤◌, Bool, List, length, Ok}
use Rattle.followed_text.specs.{Followed.{followed_of, text_of}, declared.followed.FollowedText.FollowedText}
use Rattle.laws_of_publishing.specs.Laws.{Accepted, Replaced}
use Rattle.laws_of_published_texts.specs.Laws.{IsRead, list_with}

-- the reader finds no fault in the text, and takes it as the list, whatever the URL that it was fetched from
abbrev pub IsTaken : FollowedText → Type 0
IsTaken list = (url : List ℕ) → followed_of (text_of list) url ≡ Ok list

-- ---- laws

abbrev pub ReadTextsAreTaken : Type 0
ReadTextsAreTaken = (list : FollowedText) → IsRead list → IsTaken list

abbrev pub FirstTextsAreTaken : Type 0
FirstTextsAreTaken = (list : FollowedText) (target : ℕ) (ended : Bool) → IsRead list → list.head.target ≤ target → target < 2 ^ 31
    → IsTaken (list_with target ended list)

-- with no more segments than a reader takes
abbrev pub PublishedTextsAreTaken : Type 0
PublishedTextsAreTaken = (a : Accepted) (r : Replaced a) → IsRead r.track.served → IsRead r.track.new → length r.list.items ≤ 100_000
    → IsTaken r.list
