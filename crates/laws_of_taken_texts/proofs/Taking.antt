-- A list with the bounds of what is read is taken of its text.
use Rattle.std.proofs.Common.{◌≡◌, ℕ, ◌-◌, ◌*◌, ◌/◌, ◌^◌, ◌≤◌, List, [], ◌∷◌, length, map, Some, None}
use Rattle.std.proofs.Common.{Ok, refl, sym, ◌∙◌, ap, ap₂, arith, subst}
use Rattle.std.proofs.{Math.Nat.{mul-div_cancel, one-le-pow}, lemmas.List.length-map, lemmas.List.Elements.{All-head, All-map}}
use Rattle.std.proofs.lemmas.Slice.Eq.{bytes_eq-Decides}
use Rattle.std.specs.List.{All}
use Rattle.url_parts.proofs.Spellings.{stands_alone}
use Rattle.hls_lines.specs.Lines.{PlaylistLine, lines_of, start}
use Rattle.hls_media.specs.Media.{media_of, media_values}
use Rattle.hls_writer.specs.{Items.{head_of, item_of}, Playlists.{Head, Item, followed_text}, declared.items.MediaItem.MediaItem}
use Rattle.hls_writer.proofs.Spelled.{plain_items}
use Rattle.followed_text.specs.Followed.{candidate_of, dates_of, digits_from, digits_of, followed_from, followed_of, items_of, text_of}
use Rattle.followed_text.specs.declared.followed.FollowedText.{FollowedText}
use Rattle.publish_law.specs.Lists.{first_section}
use Rattle.laws_of_playlists.specs.{ReadLines.said_from_place, ReadMedia.{IsReadableItem, media_of_items}}
use Rattle.laws_of_playlists.proofs.Items.{followed_are_read}
use Rattle.laws_of_publishing.specs.Laws.{media_told, segment_told}
use Rattle.laws_of_published_texts.proofs.{Lines.{lines_are, written}, Maps.IsGood, Sound.{IsSound, sound_is_told}}
use Rattle.laws_of_taken_playlists.specs.Laws.{IsShortItem, IsTaken, IsTakenHead, IsTakenItem}
use Rattle.laws_of_taken_playlists.proofs.Whole.{written_are_taken}
use Rattle.laws_of_taken_texts.proofs.{Dates.{IsDated, IsShortFor, dates_told, list_dates}, Parts.decimals_are}

-- The numbers and dates of a list are such as a reader takes.
pub record IsBoundedList (list : FollowedText) : Type 0 where
  pub digits : digits_from list.head.digits ≡ Some list.head.digits
  pub head : IsTakenHead (head_of list.head)
  pub few : length list.items ≤ 100_000
  pub some : 1 ≤ length list.items
  pub each : All (λ (item : MediaItem). IsTakenItem list.head.digits (item_of item)) list.items
  pub short : All (IsShortFor list.head.target list.head.digits) list.items
  pub dated : All IsDated list.items

-- ---- items

again : (digits : ℕ) (items : List MediaItem)
    → items_of digits (map (segment_told digits) items) (map (λ (item : MediaItem). item.date) items) ≡ items
again digits [] = refl
again digits (item ∷ items) =
    let same : item.duration * 10 ^ (9 - digits) / 10 ^ (9 - digits) ≡ item.duration =
    mul-div_cancel item.duration (one-le-pow (9 - digits) 10 (omega arith)) in
    rw same (ap (λ more. item ∷ more) (again digits items))

from_told : (list : FollowedText) (items : List MediaItem) → items ≡ list.items → 1 ≤ length items
    → list.head.first_section ≡ first_section 0 items → followed_from (media_told list) list.head.digits items ≡ Some list
from_told list [] are some first = absurd (omega (arith, some))
from_told list (item ∷ items) are some first =
    ap₂ (λ (n : ℕ) (l : List MediaItem). Some (record { head = record list.head { first_section = n }; items = l })) (sym first) are

-- the first EXTINF
first_digits : (head : Head) (items : List MediaItem) → 1 ≤ length items → head.digits ≤ 9 → All (IsGood head.digits) items
    → digits_of (said_from_place start (written head (map item_of items))) ≡ digits_from head.digits
first_digits head [] some few all = absurd (omega (arith, some))
first_digits head (item ∷ items) some few all =
    ap digits_from (decimals_are head.digits item.duration few (All-head (IsGood head.digits) item items all).short)

module _ (list : FollowedText) (sound : IsSound list) (bounded : IsBoundedList list) where
  abbrev digits : ℕ
  digits = list.head.digits

  abbrev head : Head
  head = head_of list.head

  abbrev items : List Item
  items = map item_of list.items

  abbrev lines : List PlaylistLine
  lines = said_from_place start (written head items)

  readable : All (IsReadableItem digits) items
  readable = All-map (IsReadableItem digits) item_of list.items sound.good

  lines_told : lines_of (text_of list) ≡ Ok lines
  lines_told = lines_are head items (omega (arith, bounded.head.target)) (omega (arith, bounded.head.sequence)) readable

  is_taken : IsTaken head items
  is_taken = record {
    readable_head = sound.head;
    readable = record { few = sound.few; each = readable; order = sound.order };
    small = bounded.head;
    few = omega (arith, bounded.few, length-map list.items item_of);
    each = All-map (IsTakenItem digits) item_of list.items bounded.each;
    short = All-map (IsShortItem list.head.target digits) item_of list.items bounded.short;
  }

  module _ (url : List ℕ) where
    told_is : media_of_items head items ≡ media_told list
    told_is =
        let read = followed_are_read head items url is_taken.readable_head is_taken.readable in
        let told = sound_is_told followed_are_read list sound url in
        let both : Ok read.0 ≡ Ok told.0 = sym read.1.0 ∙ told.1.0 in
        let same : read.0 ≡ told.0 = cc in
        sym read.1.1 ∙ ap (media_values url) same ∙ told.1.1

    media_is : media_of (text_of list) url ≡ Ok (media_told list)
    media_is = subst (λ (written : List Item). media_of (followed_text head written) url ≡ Ok (media_of_items head items))
        (plain_items items) (written_are_taken None head items url (stands_alone url) is_taken)
        ∙ ap Ok told_is

  dates_are_told : dates_of lines ≡ map (λ (item : MediaItem). item.date) list.items
  dates_are_told = list_dates head list.items ∙ dates_told list.items bounded.dated

  candidate_is : candidate_of (text_of list) (media_told list) ≡ Some list
  unfolding candidate_of
  candidate_is = rw (
    lines_told,
    first_digits head list.items bounded.some sound.few sound.good,
    bounded.digits,
    dates_are_told,
    again digits list.items,
  ) (from_told list list.items refl bounded.some sound.first)

  -- the text of a list that can be read is taken, whatever its URL
  pub taken : (url : List ℕ) → followed_of (text_of list) url ≡ Ok list
  unfolding followed_of
  taken url = rw (media_is url, candidate_is, (bytes_eq-Decides (text_of list) (text_of list)).1 refl) refl
