-- What isn't refused is within the limits.
use Rattle.std.proofs.Common.{◌≡◌, ◌<◌, ◌^◌, ℕ, Bool, true, false, List, [], ◌∷◌, All, length, Result, Ok, Err, refl}
use Rattle.std.proofs.lemmas.{Bool.ltb-true, List.Elements.{All-cons, All-nil}}
use Rattle.std.specs.{Prelude.{nat_le, nat_lt, ◌&&◌, if◌then◌else◌}, List.list_all}
use Rattle.clap.proofs.WalkLemmas.{both}
use Rattle.followed_text.specs.declared.followed.FollowedText.{FollowedText}
use Rattle.hls_writer.specs.declared.items.MediaItem.{MediaItem}
use Rattle.laws_of_publishing.specs.Laws.{IsSmall}
use Rattle.publish_core.specs.Decisions.{is_small, is_within_limits}

-- a choice that wasn't refused
pub record Taken {X E : Type 0} (b : Bool) (x : Result X E) (y : X) : Type 0 where
  pub holds : b ≡ true
  pub value : x ≡ Ok y

pub taken : {X E : Type 0} (b : Bool) (x : Result X E) (e : E) (y : X) → (if b then x else Err e) ≡ Ok y → Taken b x y
taken true x e y is = record { holds = refl; value = is }
taken false x e y is = absurd (cc)

-- ---- a list's text

section_small : (item : MediaItem) → is_small item ≡ true → item.section < 2 ^ 63
section_small item is = ltb-true item.section (2 ^ 63) is

all_small : (items : List MediaItem) → list_all is_small items ≡ true → All (λ (item : MediaItem). item.section < 2 ^ 63) items
all_small [] is = All-nil (λ (item : MediaItem). item.section < 2 ^ 63)
all_small (item ∷ items) is = let parts = both (is_small item) (list_all is_small items) is in
    All-cons (λ (item : MediaItem). item.section < 2 ^ 63) item items (section_small item parts.0) (all_small items parts.1)

pub small_list : (list : FollowedText) (bytes : ℕ) → is_within_limits list bytes ≡ true → IsSmall list
small_list list bytes is =
    let three = both (nat_le (length list.items) 100000 && nat_le bytes 8388608 && nat_lt list.head.sequence (2 ^ 63))
    (list_all is_small list.items) is in
    let two = both (nat_le (length list.items) 100000 && nat_le bytes 8388608) (nat_lt list.head.sequence (2 ^ 63)) three.0 in
    record { sequence = ltb-true list.head.sequence (2 ^ 63) two.1; sections = all_small list.items three.1 }
