-- What is read is readable, and is told by its text.
use Rattle.std.proofs.Common.{◌≡◌, ℕ, ℤ, suc, ◌+◌, ◌-◌, ◌/◌, ◌^◌, ◌<◌, ◌≤◌, List, [], ◌∷◌, length, map, Option, Some, None, Ok, IfSome}
use Rattle.std.proofs.Common.{get_or}
use Rattle.std.proofs.{Common.{option_map, refl, sym, ap, ap₂, ◌∙◌, subst, arith}, lemmas.List.length-map}
use Rattle.std.proofs.{lemmas.List.Elements.{All-cons, All-map, All-nil}}
use Rattle.std.proofs.Math.Nat.{div-le_self}
use Rattle.std.specs.{List.All, List.Sorted.IsNonDecreasingBy}
use Rattle.url_parts.specs.declared.{address.Part.Part, range.Range.Range}
use Rattle.hls_lines.specs.Lines.{PlaylistLine, lines_of, start}
use Rattle.bridge_io.specs.Places.{place_of}
use Rattle.hls_media.specs.{Laws.{IsBounded, IsBoundedRange, IsBoundedSegment, ReadIsBounded, ReadIsMeant}, Media.{media_in, media_of}}
use Rattle.hls_media.specs.{Media.media_values, Told.SegmentsAreTold}
use Rattle.hls_media.proofs.Bounded.{media_in-ok}
use Rattle.hls_media.specs.declared.media.{Media.Media, MediaSegment.MediaSegment}
use Rattle.hls_writer.specs.{Items.{head_of, item_of, items_text}, declared.items.MediaItem.MediaItem}
use Rattle.followed_text.specs.{Followed.{item_with, items_of, with_item}, declared.followed.FollowedText.FollowedText}
use Rattle.publish_law.specs.Lists.{first_section}
use Rattle.laws_of_mpds.specs.Written.{HasAddresses, ReadHaveAddresses}
use Rattle.laws_of_playlists.specs.ReadMedia.{AreInOrder, FollowedAreRead, GoOn, IsReadableHead, IsReadableItem, IsReadableRange}
use Rattle.laws_of_playlists.specs.ReadMedia.{segment_of, segments_of}
use Rattle.laws_of_publishing.specs.Laws.{segment_told}
use Rattle.laws_of_published_texts.specs.Laws.{IsRead, IsTold}
use Rattle.laws_of_playlists.specs.ReadLines.{said_from_place}
use Rattle.laws_of_published_texts.proofs.{First.{first_is_told, number_below}, Given.{IsGiven, given}, Lines.{lines_are, written}}
use Rattle.laws_of_published_texts.proofs.Maps.{IsGood, Rising, alike, alike_from, alike_readable, like, maps_of, same_maps, same_text}

-- ---- items of segments

abbrev Fits : MediaSegment → Type 0
Fits s = IsBoundedSegment s × HasAddresses s

range_good : (o : Option Range) → IfSome o IsBoundedRange → IfSome o IsReadableRange
range_good None is = tt
range_good (Some range) is = record { some = omega (arith, is.count); count = omega (arith, is.ends); first = omega (arith, is.ends) }

module _ (digits : ℕ) where
  good_one : (s : MediaSegment) (date : ℤ) (m : Part) → s.map ≡ Some m → Fits s → IsGood digits (item_with digits s date m)
  good_one s date m is fits =
      let bounded = rw is at fits.0.map in
      let addressed = rw is at fits.1.initialization in
      let lasts = fits.0.duration in record {
        part = record { address = fits.1.own; range = range_good s.range fits.0.range };
        map = record { address = addressed; range = range_good m.range bounded };
        short = let units = s.duration / 10 ^ (9 - digits) in
            omega (arith, lasts, div-le_self s.duration (10 ^ (9 - digits)), div-le_self units (10 ^ digits));
      }

  abbrev pub item_by : MediaSegment → ℤ → Option Part → Option MediaItem
  item_by s date o = option_map (item_with digits s date) o

  -- each item of what its segment is
  module _ (P : MediaItem → Type 0) (Q : MediaSegment → Type 0)
      (one : (s : MediaSegment) (date : ℤ) (m : Part) → s.map ≡ Some m → Q s → P (item_with digits s date m)) where
    each_with : (s : MediaSegment) (date : ℤ) (o : Option Part) (rest : List MediaItem) → s.map ≡ o → Q s → All P rest
        → All P (with_item (item_by s date o) rest)
    each_with s date None rest is own all = all
    each_with s date (Some m) rest is own all = All-cons P (item_with digits s date m) rest (one s date m is own) all

    pub each_item : (segments : List MediaSegment) (dates : List ℤ) → All Q segments → All P (items_of digits segments dates)
    each_item [] dates all = All-nil P
    each_item (s ∷ ss) [] all = All-nil P
    each_item (s ∷ ss) (date ∷ dates) all =
        each_with s date s.map (items_of digits ss dates) refl (all 0 s (omega arith))
        (each_item ss dates (λ k d within. all (suc k) d (omega arith)))

  pub good_items : (segments : List MediaSegment) (dates : List ℤ) → All Fits segments
      → All (IsGood digits) (items_of digits segments dates)
  good_items = each_item (IsGood digits) Fits good_one

  rising_with : (low : ℕ) (s : MediaSegment) (date : ℤ) (o : Option Part) (rest : List MediaItem) → low ≤ s.section
      → Rising s.section rest → Rising low rest → Rising low (with_item (item_by s date o) rest)
  rising_with low s date None rest le high all = all
  rising_with low s date (Some m) rest le high all = (le, high)

  pub rising_items : (low : ℕ) (segments : List MediaSegment) (dates : List ℤ)
      → ((k : ℕ) (d : MediaSegment) → k < length segments → low ≤ (get_or segments k d).section)
      → IsNonDecreasingBy (λ (s : MediaSegment). s.section) segments → Rising low (items_of digits segments dates)
  rising_items low [] dates above order = tt
  rising_items low (s ∷ ss) [] above order = tt
  rising_items low (s ∷ ss) (date ∷ dates) above order =
      let later : IsNonDecreasingBy (λ (s : MediaSegment). s.section) ss =
      λ i j d le within. order (suc i) (suc j) d (omega arith) (omega arith) in
      rising_with low s date s.map (items_of digits ss dates) (above 0 s (omega arith))
      (rising_items s.section ss dates (λ k d within. order 0 (suc k) d (omega arith) (omega arith)) later)
      (rising_items low ss dates (λ k d within. above (suc k) d (omega arith)) later)

  few_with : (s : MediaSegment) (date : ℤ) (o : Option Part) (rest : List MediaItem)
      → length (with_item (item_by s date o) rest) ≤ 1 + length rest
  few_with s date None rest = omega arith
  few_with s date (Some m) rest = omega arith

  pub fewer : (segments : List MediaSegment) (dates : List ℤ) → length (items_of digits segments dates) ≤ length segments
  fewer [] dates = omega arith
  fewer (s ∷ ss) [] = omega arith
  fewer (s ∷ ss) (date ∷ dates) = omega (arith, few_with s date s.map (items_of digits ss dates), fewer ss dates)

  abbrev segment_maps : List MediaSegment → List (Option Part)
  segment_maps segments = map (λ (s : MediaSegment). s.map) segments

  abbrev item_maps : List MediaItem → List (Option Part)
  item_maps items = map (λ (item : MediaItem). Some item.map) items

  maps_with : (s : MediaSegment) (date : ℤ) (o : Option Part) (ss : List MediaSegment) (rest : List MediaItem) → s.map ≡ o
      → length rest ≤ length ss → (length rest ≡ length ss → segment_maps ss ≡ item_maps rest)
      → length (with_item (item_by s date o) rest) ≡ suc (length ss) → segment_maps (s ∷ ss) ≡ item_maps (with_item (item_by s date o) rest)
  maps_with s date None ss rest is few more same = absurd (omega (arith, few, same))
  maps_with s date (Some m) ss rest is few more same =
      ap₂ (λ (o : Option Part) (others : List (Option Part)). o ∷ others) is (more (omega (arith, same)))

  pub maps_are : (segments : List MediaSegment) (dates : List ℤ) → length (items_of digits segments dates) ≡ length segments
      → segment_maps segments ≡ item_maps (items_of digits segments dates)
  maps_are [] dates same = refl
  maps_are (s ∷ ss) [] same = absurd (omega (arith, same))
  maps_are (s ∷ ss) (date ∷ dates) same =
      maps_with s date s.map ss (items_of digits ss dates) refl (fewer ss dates) (maps_are ss dates) same

-- ---- segments of items

maps_in : (base first digits : ℕ) (items : List MediaItem)
    → map (λ (s : MediaSegment). s.map) (map (segment_of base first digits) (map item_of items))
    ≡ map (λ (item : MediaItem). Some item.map) items
maps_in base first digits [] = refl
maps_in base first digits (item ∷ items) = ap (λ others. Some item.map ∷ others) (maps_in base first digits items)

read_maps : (base digits : ℕ) (items : List MediaItem)
    → map (λ (s : MediaSegment). s.map) (segments_of base digits (map item_of items)) ≡ map (λ (item : MediaItem). Some item.map) items
read_maps base digits [] = refl
read_maps base digits (item ∷ items) = maps_in base item.section digits (item ∷ items)

unwrapped : (xs ys : List MediaItem) → map (λ (item : MediaItem). Some item.map) xs ≡ map (λ (item : MediaItem). Some item.map) ys
    → maps_of xs ≡ maps_of ys
unwrapped [] [] same = refl
unwrapped [] (y ∷ ys) same = absurd (cc)
unwrapped (x ∷ xs) [] same = absurd (cc)
unwrapped (x ∷ xs) (y ∷ ys) same =
    let first : x.map ≡ y.map = cc in
    let more : map (λ (item : MediaItem). Some item.map) xs ≡ map (λ (item : MediaItem). Some item.map) ys = cc in
    ap₂ (λ (m : Part) (others : List Part). m ∷ others) first (unwrapped xs ys more)

same_length_from : (former : MediaItem) (items : List MediaItem) → length (alike_from former items) ≡ length items
same_length_from former [] = refl
same_length_from former (item ∷ items) = ap (λ n. suc n) (same_length_from (like former item) items)

same_length : (items : List MediaItem) → length (alike items) ≡ length items
same_length [] = refl
same_length (item ∷ items) = ap (λ n. suc n) (same_length_from item items)

-- ---- lists

-- what a list tells can be read again
pub record IsSound (list : FollowedText) : Type 0 where
  pub few : list.head.digits ≤ 9
  pub good : All (IsGood list.head.digits) list.items
  pub order : AreInOrder (map item_of list.items)
  pub head : IsReadableHead (head_of list.head)
  pub first : list.head.first_section ≡ first_section 0 list.items

rising_from : (former : MediaItem) (items : List MediaItem) → GoOn (item_of former) (map item_of items) → Rising former.section items
rising_from former [] on = tt
rising_from former (item ∷ items) on = (on.0.section, rising_from item items on.1)

rising_of : (items : List MediaItem) → AreInOrder (map item_of items) → Rising 0 items
rising_of [] order = tt
rising_of (item ∷ items) order = (omega arith, rising_from item items order)

pub rising_weaker : (low high : ℕ) (items : List MediaItem) → low ≤ high → Rising high items → Rising low items
rising_weaker low high [] le is = tt
rising_weaker low high (item ∷ items) le is = (omega (arith, le, is.0), is.1)

counted : (digits first : ℕ) (items : List MediaItem) → Rising first items
    → map (segment_of first first digits) (map item_of items) ≡ map (segment_told digits) items
counted digits first [] rising = refl
counted digits first (item ∷ items) rising =
    let here : first + (item.section - first) ≡ item.section = omega (arith, rising.0) in
    cc (here, counted digits first items (rising_weaker first item.section items rising.0 rising.1))

segments_are : (digits : ℕ) (items : List MediaItem) → Rising 0 items
    → segments_of (first_section 0 items) digits (map item_of items) ≡ map (segment_told digits) items
segments_are digits [] rising = refl
segments_are digits (item ∷ items) rising = counted digits item.section (item ∷ items) (omega arith, rising.1)

pub sound_is_told : FollowedAreRead → (list : FollowedText) → IsSound list → IsTold list
sound_is_told again list sound url =
    let digits = list.head.digits in
    let is = again (head_of list.head) (map item_of list.items) url sound.head (record {
      few = sound.few;
      each = All-map (IsReadableItem digits) item_of list.items sound.good;
      order = sound.order;
    }) in
    let segments = segments_are digits list.items (rising_of list.items sound.order) in
    (is.0, (is.1.0, cc (is.1.1, segments, sound.first)))

module _ (bounded : ReadIsBounded) (meant : ReadIsMeant) (addressed : ReadHaveAddresses) (told : SegmentsAreTold) where
  module _ (list : FollowedText) (read : IsRead list) where
    abbrev g : IsGiven read.bytes read.url list
    g = given read.bytes read.url list read.is

    abbrev bounds : IsBounded g.media
    bounds = bounded read.bytes read.url g.media g.media_is

    fits : All Fits g.media.segments
    fits = λ k d within. (bounds.segments k d within, addressed read.bytes read.url g.media read.of_bytes g.media_is k d within)

    pub read_good : All (IsGood list.head.digits) list.items
    read_good = subst (All (IsGood list.head.digits)) (sym g.items) (good_items list.head.digits g.media.segments g.dates fits)

    pub read_rising : Rising 0 list.items
    read_rising =
        subst (Rising 0) (sym g.items)
        (rising_items list.head.digits 0 g.media.segments g.dates (λ k d within. omega arith) bounds.sections)

    abbrev lines : List PlaylistLine
    lines = said_from_place start (written (head_of list.head) (map item_of list.items))

    pub lines_told : lines_of read.bytes ≡ Ok lines
    lines_told = ap lines_of (sym g.text) ∙ lines_are (head_of list.head) (map item_of list.items)
        (omega (arith, bounds.target, g.target)) (omega (arith, bounds.sequence, g.sequence))
        (All-map (IsReadableItem list.head.digits) item_of list.items read_good)

    pub media_told_in : media_in (place_of read.bytes (length read.bytes)) read.url lines ≡ Ok g.media
    unfolding media_of
    media_told_in = rw lines_told at g.media_is

    pub first_below : list.head.first_section < 2 ^ 63
    first_below =
        let is = media_in-ok (place_of read.bytes (length read.bytes)) read.url lines g.media media_told_in in
        let below = number_below read.url (head_of list.head) (map item_of list.items) is.0 in
        let first = first_is_told told read.url (head_of list.head) list.items g.some g.media.segments
        (ap (λ (m : Media). m.segments) is.1) list.head.digits g.dates g.items in
        omega (arith, below, first, g.first)

    read_head : IsReadableHead (head_of list.head)
    read_head = record {
      target = omega (arith, bounds.target, g.target);
      sequence = omega (arith, bounds.sequence, g.sequence);
      first_section = omega (arith, first_below);
    }

    same_items : FollowedAreRead → alike list.items ≡ list.items
    same_items again =
        let digits = list.head.digits in
        let is = again (head_of list.head) (map item_of (alike list.items)) read.url read_head
        (alike_readable digits list.items g.digits read_good read_rising) in
        let own = meant read.bytes read.url g.media g.media_is in
        let text : items_text list.head (alike list.items) ≡ read.bytes = same_text list.head list.items ∙ g.text in
        let lines : Ok is.0 ≡ Ok own.0 = sym is.1.0 ∙ ap lines_of text ∙ own.1.0 in
        let line : is.0 ≡ own.0 = cc in
        let media = sym is.1.1 ∙ ap (media_values read.url) line ∙ own.1.1 in
        let segments : segments_of list.head.first_section digits (map item_of (alike list.items)) ≡ g.media.segments =
        ap (λ (m : Media). m.segments) media in
        let told = sym (read_maps list.head.first_section digits (alike list.items)) ∙ ap (segment_maps digits) segments in
        let many : length list.items ≡ length g.media.segments =
        sym (same_length list.items) ∙ sym (length-map (alike list.items) (λ (item : MediaItem). Some item.map))
        ∙ ap (λ (l : List (Option Part)). length l) told ∙ length-map g.media.segments (λ (s : MediaSegment). s.map) in
        let maps = maps_are digits g.media.segments g.dates (ap (λ (l : List MediaItem). length l) (sym g.items) ∙ many) in
        let both = told ∙ maps ∙ ap (item_maps digits) (sym g.items) in
        same_maps list.items (unwrapped (alike list.items) list.items both)

    pub read_is_sound : FollowedAreRead → IsSound list
    read_is_sound again = record {
      few = g.digits;
      good = read_good;
      order = subst (λ items. AreInOrder (map item_of items)) (same_items again)
          (alike_readable list.head.digits list.items g.digits read_good read_rising).order;
      head = read_head;
      first = g.first;
    }
