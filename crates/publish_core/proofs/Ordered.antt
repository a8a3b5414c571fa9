-- Texts that are read have segments, in the order of their sections.
use Rattle.followed_text.specs.declared.fault.FollowedFault.TheVariants as fault
use Rattle.std.proofs.Common.{◌≡◌, ◌<◌, ◌≤◌, ℕ, ℤ, zero, suc, Bool, true, false, List, [], ◌∷◌, length, All, Option, Some}
use Rattle.std.proofs.Common.{None, option_map}
use Rattle.std.proofs.Common.{Result, Ok, Err, ap, arith, refl, subst}
use Rattle.std.proofs.lemmas.List.Elements.{All-cons, All-head, All-nil, All-tail}
use Rattle.std.specs.{Prelude.{bytes_eq, if◌then◌else◌}, List.Sorted.IsNonDecreasingBy}
use Rattle.bridge_io.specs.Answer.{and_then}
use Rattle.hls_lines.specs.{Lines.{PlaylistLine, lines_of}, declared.fault.LineFault.LineFault}
use Rattle.hls_media.specs.{Laws.{IsBounded, ReadIsBounded}, Media.media_of, declared.fault.MediaFault.MediaFault}
use Rattle.hls_media.specs.declared.media.{Media.Media, MediaSegment.MediaSegment}
use Rattle.hls_writer.specs.declared.items.{MediaHead.MediaHead, MediaItem.MediaItem}
use Rattle.url_parts.specs.declared.address.Part.{Part}
use Rattle.followed_text.specs.Followed.{candidate_in, candidate_of, candidate_with, dates_of, digits_of, followed_from}
use Rattle.followed_text.specs.Followed.{followed_of, form_of}
use Rattle.followed_text.specs.Followed.{item_with, items_of, media_or_fault, text_of, with_item}
use Rattle.followed_text.specs.declared.{followed.FollowedText.FollowedText}

-- There is a segment, and no section's number is below that of a segment before.
pub record IsInOrder (list : FollowedText) : Type 0 where
  pub some : 0 < length list.items
  pub sections : IsNonDecreasingBy (λ (item : MediaItem). item.section) list.items

abbrev pub ReadIsInOrder : Type 0
ReadIsInOrder = (bytes url : List ℕ) (list : FollowedText) → followed_of bytes url ≡ Ok list → IsInOrder list

-- ---- lists in order

module _ {X : Type 0} (n : X → ℕ) where
  above_first : (x : X) (xs : List X) → IsNonDecreasingBy n (x ∷ xs) → All (λ y. n x ≤ n y) xs
  above_first x xs order = λ k d within. order zero (suc k) d (omega arith) (omega arith)

  without_first : (x : X) (xs : List X) → IsNonDecreasingBy n (x ∷ xs) → IsNonDecreasingBy n xs
  without_first x xs order = λ i j d before within. order (suc i) (suc j) d (omega arith) (omega arith)

  with_first : (x : X) (xs : List X) → All (λ y. n x ≤ n y) xs → IsNonDecreasingBy n xs → IsNonDecreasingBy n (x ∷ xs)
  with_first x xs above order zero zero d before within = omega arith
  with_first x xs above order zero (suc j) d before within = above j d (omega arith)
  with_first x xs above order (suc i) zero d before within = absurd (omega arith)
  with_first x xs above order (suc i) (suc j) d before within = order i j d (omega arith) (omega arith)

abbrev section_of : MediaItem → ℕ
section_of item = item.section

abbrev IsAbove : ℕ → MediaItem → Type 0
IsAbove low item = low ≤ item.section

-- ---- the items of segments

above_with : (digits low : ℕ) (segment : MediaSegment) (date : ℤ) (map : Option Part) (items : List MediaItem) → low ≤ segment.section
    → All (IsAbove low) items → All (IsAbove low) (with_item (option_map (item_with digits segment date) map) items)
above_with digits low segment date None items first others = others
above_with digits low segment date (Some map) items first others =
    All-cons (IsAbove low) (item_with digits segment date map) items first others

all_above : (digits low : ℕ) (segments : List MediaSegment) (dates : List ℤ) → All (λ (s : MediaSegment). low ≤ s.section) segments
    → All (IsAbove low) (items_of digits segments dates)
all_above digits low [] dates above = All-nil (IsAbove low)
all_above digits low (segment ∷ segments) [] above = All-nil (IsAbove low)
all_above digits low (segment ∷ segments) (date ∷ dates) above =
    above_with digits low segment date segment.map (items_of digits segments dates)
    (All-head (λ (s : MediaSegment). low ≤ s.section) segment segments above)
    (all_above digits low segments dates (All-tail (λ (s : MediaSegment). low ≤ s.section) segment segments above))

ordered_with : (digits : ℕ) (segment : MediaSegment) (date : ℤ) (map : Option Part) (items : List MediaItem)
    → All (IsAbove segment.section) items → IsNonDecreasingBy section_of items
    → IsNonDecreasingBy section_of (with_item (option_map (item_with digits segment date) map) items)
ordered_with digits segment date None items above order = order
ordered_with digits segment date (Some map) items above order =
    with_first section_of (item_with digits segment date map) items above order

ordered : (digits : ℕ) (segments : List MediaSegment) (dates : List ℤ)
    → IsNonDecreasingBy (λ (s : MediaSegment). s.section) segments → IsNonDecreasingBy section_of (items_of digits segments dates)
ordered digits [] dates order = λ i j d before within. absurd (omega arith)
ordered digits (segment ∷ segments) [] order = λ i j d before within. absurd (omega arith)
ordered digits (segment ∷ segments) (date ∷ dates) order =
    ordered_with digits segment date segment.map (items_of digits segments dates)
    (all_above digits segment.section segments dates (above_first (λ (s : MediaSegment). s.section) segment segments order))
    (ordered digits segments dates (without_first (λ (s : MediaSegment). s.section) segment segments order))

-- ---- the text

from_items : (media : Media) (digits : ℕ) (items : List MediaItem) (list : FollowedText) → followed_from media digits items ≡ Some list
    → IsNonDecreasingBy section_of items → IsInOrder list
from_items media digits [] list is order = absurd (cc)
from_items media digits (item ∷ items) list is order =
    let head : MediaHead = record {
      target = media.target;
      sequence = media.sequence;
      first_section = item.section;
      ended = media.ended;
      digits = digits;
    } in
    let made : FollowedText = record { head = head; items = item ∷ items } in
    let same : made ≡ list = cc in
    subst IsInOrder same (record { some = omega arith; sections = order })

from_digits : (media : Media) (digits : Option ℕ) (dates : List ℤ) (list : FollowedText) → candidate_with media digits dates ≡ Some list
    → IsBounded media → IsInOrder list
from_digits media None dates list is bounded = absurd (cc)
from_digits media (Some digits) dates list is bounded = from_items media digits (items_of digits media.segments dates) list is
    (ordered digits media.segments dates bounded.sections)

from_lines : (media : Media) (lines : Result (List PlaylistLine) LineFault) (list : FollowedText) → candidate_in media lines ≡ Some list
    → IsBounded media → IsInOrder list
from_lines media (Err f) list is bounded = absurd (cc)
from_lines media (Ok lines) list is bounded = from_digits media (digits_of lines) (dates_of lines) list is bounded

is_candidate : (bytes : List ℕ) (found : Option FollowedText) (list : FollowedText) → form_of bytes found ≡ Ok list → found ≡ Some list
is_candidate bytes None list is = absurd (cc)
is_candidate bytes (Some followed) list is = go (bytes_eq (text_of followed) bytes) is
  where
    go : (b : Bool) → (if b then Ok followed else Err fault.Form) ≡ Ok list → Some followed ≡ Some list
    go true same = (let one : followed ≡ list = cc in ap Some one)
    go false same = absurd (cc)

from_media : (bytes : List ℕ) (media : Media) (list : FollowedText) → form_of bytes (candidate_of bytes media) ≡ Ok list
    → IsBounded media → IsInOrder list
unfolding candidate_of
from_media bytes media list is bounded =
    from_lines media (lines_of bytes) list (is_candidate bytes (candidate_of bytes media) list is) bounded

pub read_in_order : ReadIsBounded → ReadIsInOrder
unfolding followed_of
read_in_order bounded bytes url list is = go (media_of bytes url) refl is
  where
    go : (r : Result Media MediaFault) → media_of bytes url ≡ r
        → and_then (media_or_fault r) (λ media. form_of bytes (candidate_of bytes media)) ≡ Ok list → IsInOrder list
    go (Ok media) read same = from_media bytes media list same (bounded bytes url media read)
    go (Err f) read same = absurd (cc)
