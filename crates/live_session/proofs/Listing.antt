-- The playlist of a track by what is written of its segments.
use Rattle.std.proofs.Common.{◌≡◌, List, [], ◌∷◌, ◌++◌, map, length, All, Option, Some, None, refl, sym, ◌∙◌, ap, arith}
use Rattle.std.proofs.{lemmas.List.Elements.{All-cons, All-head, All-nil, All-tail}, lemmas.List.length-map, lemmas.Option.slice_get-map}
use Rattle.std.specs.Prelude.{slice_get}
use Rattle.iso_time.specs.Instant.{IsWritable}
use Rattle.hls_writer.specs.{declared.items.MediaHead.MediaHead, declared.items.MediaItem.MediaItem, Items.{head_of, item_of, spelled_text}}
use Rattle.hls_writer.specs.{Playlists.{Item, followed_text}, Spelled.spelled_items}
use Rattle.url_parts.specs.Spelling.{PlaylistPlace}
use Rattle.live_meaning.specs.Playlists.{FollowedPlaylist, first_section, item_of as item_shown, live_text}
use Rattle.live_judge.specs.{declared.track.Fact.Fact, declared.track.LiveTrack.LiveTrack, Shown.{kept_of, kepts_of, track_shown}}
use Rattle.live_session.specs.Written.{IsDated, IsWritten}

items_are : (items : List MediaItem) (facts : List Fact) → length items ≡ length facts
    → map item_shown (kepts_of items facts) ≡ map item_of items
items_are [] facts same = refl
items_are (i ∷ items) [] same = absurd (omega arith)
items_are (i ∷ items) (f ∷ facts) same = ap (λ (xs : List Item). item_of i ∷ xs) (items_are items facts (omega arith))

pub items_in : {track : LiveTrack} {xs : List Item} → IsWritten track → map item_shown (track_shown track).kept ≡ xs
    → xs ≡ map item_of track.items.items
items_in {track} written shown = sym shown ∙ items_are track.items.items track.facts.items written.paired

pub text_is : {track : LiveTrack} {playlist : FollowedPlaylist} (place : Option PlaylistPlace) (head : MediaHead) → IsWritten track
    → head_of head ≡ playlist.head → map item_shown (track_shown track).kept ≡ playlist.items
    → spelled_text place head track.items.items ≡ live_text place playlist
text_is {track} {playlist} place head written first shown =
    ap (λ h. followed_text h (spelled_items place (map item_of track.items.items))) first
    ∙ ap (λ items. followed_text playlist.head (spelled_items place items)) (sym (items_in written shown))

items_dated : (items : List MediaItem) (facts : List Fact) → length items ≡ length facts → All IsDated (kepts_of items facts)
    → All (λ (item : MediaItem). IsWritable item.date) items
items_dated [] facts same all = All-nil (λ (item : MediaItem). IsWritable item.date)
items_dated (i ∷ items) [] same all = absurd (omega arith)
items_dated (i ∷ items) (f ∷ facts) same all =
    All-cons (λ (item : MediaItem). IsWritable item.date) i items (All-head IsDated (kept_of i f) (kepts_of items facts) all)
    (items_dated items facts (omega arith) (All-tail IsDated (kept_of i f) (kepts_of items facts) all))

pub all_dated : {track : LiveTrack} → IsWritten track → All (λ (item : MediaItem). IsWritable item.date) track.items.items
all_dated {track} written = items_dated track.items.items track.facts.items written.paired written.dates

pub first_there : (items : List MediaItem) (facts : List Fact) (item : MediaItem) → length items ≡ length facts
    → slice_get items 0 ≡ Some item → item.section ≡ first_section (kepts_of items facts)
first_there [] facts item same is = absurd (cc)
first_there (i ∷ items) [] item same is = absurd (omega arith)
first_there (i ∷ items) (f ∷ facts) item same is = let e : item ≡ i = cc in ap (λ (x : MediaItem). x.section) e

pub first_none : (items : List MediaItem) (facts : List Fact) → slice_get items 0 ≡ None → 0 ≡ first_section (kepts_of items facts)
first_none [] facts none = refl
first_none (i ∷ items) facts none = absurd (cc)

pub all_behind : {X : Type 0} (P : X → Type 0) (xs ys : List X) → All P (xs ++ ys) → All P ys
all_behind P [] ys all = all
all_behind P (x ∷ xs) ys all = all_behind P xs ys (All-tail P x (xs ++ ys) all)

pub all_before : {X : Type 0} (P : X → Type 0) (xs ys : List X) → All P (xs ++ ys) → All P xs
all_before P [] ys all = All-nil P
all_before P (x ∷ xs) ys all = All-cons P x xs (All-head P x (xs ++ ys) all) (all_before P xs ys (All-tail P x (xs ++ ys) all))

pub ruleset listed = (items_in, length-map, slice_get-map)
