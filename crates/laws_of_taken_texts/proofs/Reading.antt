-- What is read has the bounds with which it is taken of its text again.
use Rattle.std.proofs.Common.{◌≡◌, ℕ, ℤ, suc, ◌-◌, ◌^◌, ◌≤◌, List, [], ◌∷◌, length, map, take}
use Rattle.std.proofs.Common.{Option, Some, None, Result, Ok, Err, refl, sym, ◌∙◌, ap, subst, arith}
use Rattle.std.proofs.{Math.Nat.div-mul-le_self, lemmas.List.{length-map, take_all}}
use Rattle.std.specs.{List.{All, flat_map}}
use Rattle.bridge_io.specs.{Firsts.first_of, Places.place_of}
use Rattle.url_parts.specs.declared.address.Part.{Part}
use Rattle.hls_lines.specs.Lines.{PlaylistLine, lines_of, start}
use Rattle.hls_media.specs.{Laws.{IsBounded, IsBoundedSegment, ReadIsBounded, ReadIsMeant}, Media.{long_faults}}
use Rattle.hls_media.specs.{Media.{media_in, media_values}, Told.SegmentsAreTold}
use Rattle.hls_media.specs.declared.{fault.MediaFault.MediaFault, media.{Media.Media, MediaSegment.MediaSegment}}
use Rattle.hls_media.proofs.{Bounded.media_in-ok, Wholes.media_in-long}
use Rattle.hls_writer.specs.{Items.{head_of, item_of}, declared.items.MediaItem.MediaItem}
use Rattle.followed_text.specs.Followed.{dates_of, item_with, items_of, with_item}
use Rattle.followed_text.specs.declared.followed.FollowedText.{FollowedText}
use Rattle.laws_of_mpds.specs.Written.{ReadHaveAddresses}
use Rattle.laws_of_playlists.specs.{ReadLines.said_from_place, ReadMedia.{FollowedAreRead}}
use Rattle.laws_of_publishing.specs.Laws.{media_told, segment_told}
use Rattle.laws_of_published_texts.specs.Laws.{IsRead}
use Rattle.laws_of_published_texts.proofs.{Given.{IsGiven, given}, Lines.written}
use Rattle.laws_of_published_texts.proofs.Sound.{IsSound, each_item, fewer, first_below, item_by, lines_told, media_told_in, read_is_sound}
use Rattle.laws_of_published_texts.proofs.Sound.{sound_is_told}
use Rattle.laws_of_taken_texts.proofs.Dates.{IsDated, IsShortFor, all_short, date_told, dated, few_dates, list_dates}
use Rattle.laws_of_taken_playlists.{specs.Laws.IsTakenItem, proofs.Whole.target_kept}
use Rattle.laws_of_taken_texts.proofs.{Taking.IsBoundedList}

module _ (digits : ℕ) where
  dates_with : (s : MediaSegment) (date : ℤ) (o : Option Part) (ss : List MediaSegment) (dates : List ℤ) (rest : List MediaItem)
      → length rest ≤ length ss → (length rest ≡ length ss → map (λ (item : MediaItem). item.date) rest ≡ take (length ss) dates)
      → length (with_item (item_by digits s date o) rest) ≡ suc (length ss)
      → map (λ (item : MediaItem). item.date) (with_item (item_by digits s date o) rest) ≡ take (suc (length ss)) (date ∷ dates)
  dates_with s date None ss dates rest few more same = absurd (omega (arith, few, same))
  dates_with s date (Some m) ss dates rest few more same = ap (λ others. date ∷ others) (more (omega (arith, same)))

  -- where no segment is dropped, the items have the dates in order
  same_dates : (segments : List MediaSegment) (dates : List ℤ) → length (items_of digits segments dates) ≡ length segments
      → map (λ (item : MediaItem). item.date) (items_of digits segments dates) ≡ take (length segments) dates
  same_dates [] dates same = refl
  same_dates (s ∷ ss) [] same = absurd (omega (arith, same))
  same_dates (s ∷ ss) (date ∷ dates) same =
      dates_with s date s.map ss dates (items_of digits ss dates) (fewer digits ss dates) (same_dates ss dates) same

  taken_one : (s : MediaSegment) (date : ℤ) (m : Part) → s.map ≡ Some m → IsBoundedSegment s
      → IsTakenItem digits (item_of (item_with digits s date m))
  taken_one s date m is bounded = record {
    range = bounded.range;
    map = rw is at bounded.map;
    lasts = omega (arith, bounded.duration, div-mul-le_self s.duration (10 ^ (9 - digits)));
  }

no_first : (faults : List MediaFault) → first_of faults ≡ None → faults ≡ []
no_first [] none = refl
no_first (f ∷ fs) none = absurd (cc)

not_both : (r : Result Media MediaFault) (f : MediaFault) (media : Media) → r ≡ Err f → r ≡ Ok media → ⊥
not_both (Ok other) f media fault is = absurd (cc (fault))
not_both (Err other) f media fault is = absurd (cc (is))

module _ (bounded : ReadIsBounded) (meant : ReadIsMeant) (addressed : ReadHaveAddresses) (told : SegmentsAreTold) (again : FollowedAreRead)
    (list : FollowedText) (read : IsRead list) where
  abbrev g : IsGiven read.bytes read.url list
  g = given read.bytes read.url list read.is

  abbrev bounds : IsBounded g.media
  bounds = bounded read.bytes read.url g.media g.media_is

  abbrev digits : ℕ
  digits = list.head.digits

  abbrev lines : List PlaylistLine
  lines = said_from_place start (written (head_of list.head) (map item_of list.items))

  sound : IsSound list
  sound = read_is_sound bounded meant addressed told list read again

  lines_are_told : lines_of read.bytes ≡ Ok lines
  lines_are_told = lines_told bounded meant addressed told list read

  good_media : media_in (place_of read.bytes (length read.bytes)) read.url lines ≡ Ok g.media
  good_media = media_told_in bounded meant addressed told list read

  values : media_values read.url lines ≡ g.media
  values = (media_in-ok (place_of read.bytes (length read.bytes)) read.url lines g.media good_media).1

  media_is : g.media ≡ media_told list
  media_is =
      let told = sound_is_told again list sound read.url in
      let both : Ok told.0 ≡ Ok lines = sym told.1.0 ∙ ap lines_of g.text ∙ lines_are_told in
      let same : told.0 ≡ lines = cc in
      sym values ∙ ap (media_values read.url) (sym same) ∙ told.1.1

  none_long : (o : Option MediaFault) → first_of (long_faults list.head.target lines) ≡ o → o ≡ None
  none_long None of = refl
  none_long (Some f) of =
      let kept = target_kept read.url (head_of list.head) (map item_of list.items) g.media values ∙ ap Some (sym g.target) in
      let is = media_in-ok (place_of read.bytes (length read.bytes)) read.url lines g.media good_media in
      let at_fault = media_in-long (place_of read.bytes (length read.bytes)) read.url lines list.head.target f is.0 kept of in
      absurd (not_both _ f g.media at_fault good_media)

  short : All (IsShortFor list.head.target digits) list.items
  short = all_short list.head.target (head_of list.head) list.items g.digits sound.good
      (no_first (long_faults list.head.target lines) (none_long (first_of (long_faults list.head.target lines)) refl))

  many : length list.items ≡ length g.media.segments
  many = sym (ap (λ (m : Media). length m.segments) media_is ∙ length-map list.items (segment_told digits))

  all_dated : All IsDated list.items
  all_dated =
      let both : Ok g.lines ≡ Ok lines = sym g.lines_are ∙ lines_are_told in
      let same : g.lines ≡ lines = cc in
      let dates : g.dates ≡ flat_map date_told list.items =
      sym g.dates_are ∙ ap dates_of same ∙ list_dates (head_of list.head) list.items in
      let count = sym (ap (λ (l : List MediaItem). length l) g.items) ∙ many in
      dated list.items (ap (map (λ (item : MediaItem). item.date)) g.items ∙ same_dates digits g.media.segments g.dates count
      ∙ ap (take (length g.media.segments)) dates
      ∙ take_all (length g.media.segments) (flat_map date_told list.items) (omega (arith, many, few_dates list.items)))

  pub read_is_bounded : IsBoundedList list
  read_is_bounded = record {
    digits = g.digits_are;
    head = record {
      target = omega (arith, bounds.target, g.target);
      sequence = omega (arith, bounds.sequence, g.sequence);
      first_section = first_below bounded meant addressed told list read;
    };
    few = omega (arith, bounds.few, many);
    some = g.some;
    each = subst (All (λ (item : MediaItem). IsTakenItem digits (item_of item))) (sym g.items)
        (each_item digits (λ (item : MediaItem). IsTakenItem digits (item_of item)) IsBoundedSegment (taken_one digits) g.media.segments
        g.dates bounds.segments);
    short = short;
    dated = all_dated;
  }
