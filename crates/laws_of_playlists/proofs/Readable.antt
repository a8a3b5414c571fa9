-- Which lines are readable.
use Rattle.std.proofs.Common.{◌≡◌, ℕ, ◌/◌, ◌^◌, ◌&&◌, Bool, true, false, not, List, [], ◌∷◌, ◌++◌, cond, eqb, nat_le, option_map, Option}
use Rattle.std.proofs.{Common.{Some, None, IfSome, refl, arith}, lemmas.Bool.{and_from, and_parts}, lemmas.Bool.Decides.nat_tests}
use Rattle.std.proofs.lemmas.List.Elements.{All-append, All-cons, All-head, All-nil, All-replicate, All-tail}
use Rattle.std.proofs.lemmas.List.Folds.{list_all-append}
use Rattle.std.specs.{Prelude.{decimal, ℤ}, Char.is_ascii_digit, List.{All, list_all}}
use Rattle.iso_time.specs.{Civil.{instant_text, moment_text}, Digits.{optional_text, padded_digits}}
use Rattle.iso_time.proofs.PaddedLemmas.{AreDigits-padded_digits}
use Rattle.url_parts.specs.{Addresses.is_address_byte, Spelling.{PlaylistPlace, StandsFor, spelled}, declared.range.Range.Range}
use Rattle.hls_writer.specs.Lines.{WrittenLine, version, target_duration, media_sequence, discontinuity_sequence, on_demand, discontinuity}
use Rattle.hls_writer.specs.Lines.{initialization, program_date_time, duration, byte_range, uri, end_list, line_bytes, range_attribute}
use Rattle.hls_writer.specs.{Lines.{range_bytes, seconds_bytes}, Playlists.{Item, begins_section, end_lines, item_lines, items_lines}}
use Rattle.hls_writer.specs.{Playlists.{own_lines, present, rise}, Spelled.{spelled_item, spelled_items, spelled_part}}
use Rattle.laws_of_playlists.specs.{ReadLines.{IsReadable, IsUriOrTag, ends_visibly, is_printable}, ReadMedia.IsReadableItem}
use Rattle.laws_of_playlists.specs.ReadMedia.{IsReadableRange, IsShortDuration, IsShortNumber, Spells}
use Rattle.laws_of_playlists.proofs.{LineTexts.plain_ascii, WrittenLines.weaker, Values.{decimal_is, digits_all}}

-- a visible character of ASCII
abbrev pub is_visible : ℕ → Bool
is_visible b = nat_le 33 b && nat_le b 126

-- a text of such characters
abbrev pub IsVisible : List ℕ → Type 0
IsVisible text = list_all is_visible text ≡ true

printable : (b : ℕ) → is_visible b ≡ true → is_printable b ≡ true
printable b visible = grind (arith, nat_tests)

no_space : (b : ℕ) → is_visible b ≡ true → not (eqb b 32) ≡ true
no_space b visible = grind (arith, nat_tests)

ends : (text : List ℕ) → IsVisible text → ends_visibly text ≡ true
ends [] all = refl
ends (b ∷ []) all = no_space b (and_parts (is_visible b) true all).0
ends (b ∷ (c ∷ bs)) all = ends (c ∷ bs) (and_parts (is_visible b) (list_all is_visible (c ∷ bs)) all).1

pub readable : (line : WrittenLine) → IsVisible (line_bytes line) → IsUriOrTag line → IsReadable line
readable line visible whole = record {
  plain = plain_ascii (line_bytes line) (weaker is_visible is_printable printable (line_bytes line) visible);
  ends = ends (line_bytes line) visible;
  whole = whole;
}

pub both_visible : (xs ys : List ℕ) → IsVisible xs → IsVisible ys → IsVisible (xs ++ ys)
both_visible xs ys first second = rw (list_all-append is_visible xs ys, first) second

digit_visible : (b : ℕ) → is_ascii_digit b ≡ true → is_visible b ≡ true
digit_visible b digit = grind (arith, nat_tests)

address_visible : (b : ℕ) → is_address_byte b ≡ true → is_visible b ≡ true
address_visible b address = grind (arith, nat_tests)

pub number_visible : (n : ℕ) → IsShortNumber n → IsVisible (decimal n)
number_visible n short = weaker is_ascii_digit is_visible digit_visible (decimal n)
    (rw (← digits_all (decimal n)) ((decimal_is n short).digits))

padded_visible : (width n : ℕ) → IsVisible (padded_digits width n)
padded_visible width n = weaker is_ascii_digit is_visible digit_visible (padded_digits width n)
    (rw (← digits_all (padded_digits width n)) (AreDigits-padded_digits width n).ascii)

marked : (front : List ℕ) (mark width n : ℕ) → is_visible mark ≡ true → IsVisible front → IsVisible (front ++ mark ∷ padded_digits width n)
marked front mark width n visible before = both_visible front (mark ∷ padded_digits width n) before
    (and_from _ _ visible (padded_visible width n))

moment_visible : (year month day hour minute second millis : ℕ) → IsVisible (moment_text year month day hour minute second millis)
unfolding moment_text
moment_visible year month day hour minute second millis =
    let to_month = padded_digits 4 year ++ 45 ∷ padded_digits 2 month in
    let to_day = to_month ++ 45 ∷ padded_digits 2 day in
    let to_hour = to_day ++ 84 ∷ padded_digits 2 hour in
    let to_minute = to_hour ++ 58 ∷ padded_digits 2 minute in
    let to_second = to_minute ++ 58 ∷ padded_digits 2 second in
    let date = marked to_month 45 2 day refl (marked (padded_digits 4 year) 45 2 month refl (padded_visible 4 year)) in
    let clock = marked to_minute 58 2 second refl (marked to_hour 58 2 minute refl (marked to_day 84 2 hour refl date)) in
    both_visible (to_second ++ 46 ∷ padded_digits 3 millis) (90 ∷ []) (marked to_second 46 3 millis refl clock) refl

instant_visible : (instant : ℤ) → IsVisible (instant_text instant)
unfolding instant_text
instant_visible instant = moment_visible _ _ _ _ _ _ _

range_visible : (range : Range) → IsReadableRange range → IsVisible (range_bytes range)
range_visible range is = both_visible (decimal range.count) (64 ∷ decimal range.first) (number_visible range.count is.count)
    (number_visible range.first is.first)

seconds_visible : (digits units : ℕ) → IsShortDuration digits units → IsVisible (seconds_bytes digits units)
seconds_visible digits units short = both_visible (decimal (units / 10 ^ digits)) (46 ∷ padded_digits digits units)
    (number_visible (units / 10 ^ digits) (omega arith)) (padded_visible digits units)

-- ---- lines

module _ (n : ℕ) (short : IsShortNumber n) where
  pub version_readable : IsReadable (version n)
  unfolding line_bytes
  version_readable = readable (version n) (number_visible n short) tt

  pub target_readable : IsReadable (target_duration n)
  unfolding line_bytes
  target_readable = readable (target_duration n) (number_visible n short) tt

  pub sequence_readable : IsReadable (media_sequence n)
  unfolding line_bytes
  sequence_readable = readable (media_sequence n) (number_visible n short) tt

  pub section_readable : IsReadable (discontinuity_sequence n)
  unfolding line_bytes
  section_readable = readable (discontinuity_sequence n) (number_visible n short) tt

pub on_demand_readable : IsReadable on_demand
unfolding line_bytes
on_demand_readable = readable on_demand refl tt

discontinuity_readable : IsReadable discontinuity
unfolding line_bytes
discontinuity_readable = readable discontinuity refl tt

end_readable : IsReadable end_list
unfolding line_bytes
end_readable = readable end_list refl tt

optional_visible : (range : Option Range) → IfSome range IsReadableRange → IsVisible (optional_text range_attribute range)
optional_visible None is = refl
optional_visible (Some range) is = both_visible (range_bytes range) (34 ∷ []) (range_visible range is) refl

text_visible : (text : List ℕ) → list_all is_address_byte text ≡ true → IsVisible text
text_visible text bytes = weaker is_address_byte is_visible address_visible text bytes

map_readable : (text : List ℕ) (range : Option Range) → list_all is_address_byte text ≡ true → IfSome range IsReadableRange
    → IsReadable (initialization (record { address = text; range = range }))
unfolding line_bytes
map_readable text range bytes is = readable (initialization (record { address = text; range = range }))
    (both_visible (text ++ 34 ∷ []) (optional_text range_attribute range) (both_visible text (34 ∷ []) (text_visible text bytes) refl)
    (optional_visible range is)) tt

date_readable : (date : Option ℤ) → IfSome (option_map program_date_time date) IsReadable
unfolding line_bytes
date_readable None = tt
date_readable (Some instant) = readable (program_date_time instant) (instant_visible instant) tt

duration_readable : (digits units : ℕ) → IsShortDuration digits units → IsReadable (duration digits units)
unfolding line_bytes
duration_readable digits units short = readable (duration digits units)
    (both_visible (seconds_bytes digits units) (44 ∷ []) (seconds_visible digits units short) refl) tt

range_readable : (range : Option Range) → IfSome range IsReadableRange → IfSome (option_map byte_range range) IsReadable
unfolding line_bytes
range_readable None is = tt
range_readable (Some range) is = readable (byte_range range) (range_visible range is) tt

uri_readable : (url address text : List ℕ) → StandsFor url address text → IsReadable (uri text)
unfolding line_bytes
uri_readable url address text stands = readable (uri text) (text_visible text stands.bytes) stands.begins

-- ---- lines of items

line_if : (begins : Bool) (line : WrittenLine) → IsReadable line → IfSome (cond begins (Some line) None) IsReadable
line_if true line is = is
line_if false line is = tt

one_more : (line : Option WrittenLine) (lines : List (Option WrittenLine)) → IfSome line IsReadable → All IsReadable (present lines)
    → All IsReadable (present (line ∷ lines))
one_more None lines is all = all
one_more (Some line) lines is all = All-cons IsReadable line (present lines) is all

module _ (place : Option PlaylistPlace) (url : List ℕ) (spells : Spells place url) where
  own_readable : (digits : ℕ) (former : Option ℕ) (item : Item) → IsReadableItem digits item
      → All IsReadable (own_lines digits former (spelled_item place item))
  own_readable digits former item is =
      let date = option_map program_date_time item.date in
      let range = option_map byte_range item.part.range in
      let lasting = duration digits item.duration in
      let map = spelled_part place item.map in
      let text = spelled place item.part.address in
      let address = uri text in
      let from_range : List (Option WrittenLine) = range ∷ Some address ∷ [] in
      let from_duration : List (Option WrittenLine) = Some lasting ∷ from_range in
      one_more (cond (begins_section former item.section) (Some (initialization map)) None) (date ∷ from_duration)
      (line_if (begins_section former item.section) (initialization map)
      (map_readable map.address map.range (spells item.map.address is.map.address).bytes is.map.range))
      (one_more date from_duration (date_readable item.date)
      (one_more (Some lasting) from_range (duration_readable digits item.duration is.short)
      (one_more range (Some address ∷ []) (range_readable item.part.range is.part.range)
      (one_more (Some address) [] (uri_readable url item.part.address text (spells item.part.address is.part.address))
      (All-nil IsReadable)))))

  pub items_readable : (digits : ℕ) (former : Option ℕ) (items : List Item) → All (IsReadableItem digits) items
      → All IsReadable (items_lines digits former (spelled_items place items))
  items_readable digits former [] all = All-nil IsReadable
  items_readable digits former (item ∷ items) all =
      let is = All-head (IsReadableItem digits) item items all in
      let gaps = All-replicate IsReadable (rise former item.section) discontinuity discontinuity_readable in
      All-append IsReadable (item_lines digits former (spelled_item place item))
      (items_lines digits (Some item.section) (spelled_items place items))
      (All-append IsReadable _ (own_lines digits former (spelled_item place item)) gaps (own_readable digits former item is))
      (items_readable digits (Some item.section) items (All-tail (IsReadableItem digits) item items all))

pub end_lines_readable : (ended : Bool) → All IsReadable (end_lines ended)
end_lines_readable true = All-cons IsReadable end_list [] end_readable (All-nil IsReadable)
end_lines_readable false = All-nil IsReadable
