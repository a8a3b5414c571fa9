-- Numbers, durations, ranges and parts are read as they were written.
use Rattle.std.proofs.Common.{◌≡◌, ℕ, unwrap_or, take, zero, suc, ◌+◌, ◌-◌, ◌*◌, ◌/◌, ◌%◌, ◌^◌, ◌<◌, ◌≤◌, ◌&&◌, Bool, true, false, List, []}
use Rattle.std.proofs.Common.{◌∷◌, ◌++◌, length, eqb, codes, Option, Some, None, Ok, Err, IfSome, refl, sym, ◌∙◌, ap, arith, inl, inr}
use Rattle.std.proofs.{Math.Nat.{pow-suc, div-one, div-div-eq-div-mul}, lemmas.Bool.{and_parts, cases_Bool, le-leb, lt-ltb}}
use Rattle.std.proofs.{lemmas.Bool.Decides.nat_tests, lemmas.Fmt.{decimal_is_IsNumeral_wide, length-decimal-le_wide}}
use Rattle.std.proofs.{lemmas.List.{append-nil, take_all}, lemmas.List.Folds.list_any-append, lemmas.Nat.{pow-add, div-add-mod'}}
use Rattle.std.proofs.{lemmas.Str.digit_value_digit, lemmas.Str.Parse.{IsNumeralModel, numerals_by_value, tells_all_ascii_digits}}
use Rattle.std.specs.{Prelude.decimal, Char.{digit_value, is_ascii_digit}, List.{list_any, list_all}, Str.all_ascii_digits}
use Rattle.std.specs.Str.Parse.{digits_value, digits_value_after}
use Rattle.iso_time.specs.Digits.{padded_digits}
use Rattle.iso_time.proofs.PaddedLemmas.{AreDigits-padded_digits}
use Rattle.url.specs.{Parser.{Parsed, parse_url}, Parts.Parts}
use Rattle.url_parts.specs.Addresses.{IsAddress, absolute, accepted, is_absolute, is_address_byte, is_web, resolve, text_of, url_of}
use Rattle.url_parts.specs.Spelling.{StandsFor, begins_uri}
use Rattle.url_parts.specs.declared.range.Range.{Range}
use Rattle.url_parts.proofs.Bases.{at_web, bytes_from_accepted, web_from_accepted}
use Rattle.hls_lines.specs.{Attributes.{NameValue, is_quote}, Grammar.{AreWritten, IsWritten}}
use Rattle.hls_lines.proofs.{AttributeTexts.parts_there, Grammar.read_are_written}
use Rattle.hls_media.specs.{Addresses.{address_of, written}, Media.map_value, Values.{before_title, decimal_parts, duration_of}}
use Rattle.hls_media.specs.Values.{fraction_nanos, nanos_of as nanos_in, is_at, is_comma, is_point, is_run, number_of, range_from}
use Rattle.hls_writer.specs.Lines.{range_bytes, seconds_bytes}
use Rattle.laws_of_playlists.specs.{ReadLines.map_bytes, ReadMedia.{IsReadableRange, IsShortDuration, IsShortNumber}}
use Rattle.laws_of_playlists.specs.ReadMedia.{nanos_of}

-- ---- digits

model : IsNumeralModel (λ ds. all_ascii_digits ds ≡ true) (digits_value 10)
model = numerals_by_value _ tells_all_ascii_digits

-- the text of a number
pub record IsNumber (n : ℕ) (text : List ℕ) : Type 0 where
  pub some : 0 < length text
  pub digits : all_ascii_digits text ≡ true
  pub value : digits_value 10 text ≡ n

pub decimal_is : (n : ℕ) → IsShortNumber n → IsNumber n (decimal n)
decimal_is n short = let is = decimal_is_IsNumeral_wide n short in
    record { some = is.0.0; digits = model.from (decimal n) is.0.1; value = is.1 }

pub digits_all : (ds : List ℕ) → all_ascii_digits ds ≡ list_all is_ascii_digit ds
digits_all [] = refl
digits_all (d ∷ ds) = ap (λ all. is_ascii_digit d && all) (digits_all ds)

-- digits behind those of k give a number but for its places above them
padded_after : (width n k : ℕ) → digits_value_after 10 k (padded_digits width n) + n / 10 ^ width * 10 ^ width ≡ k * 10 ^ width + n
unfolding padded_digits
padded_after zero n k = rw (div-one n) (omega arith)
padded_after (suc width) n k =
    let p = 10 ^ width in
    let q = n / p in
    let digit = q % 10 in
    let higher = ap (λ (m : ℕ). n / m) (pow-suc 10 width) ∙ sym (div-div-eq-div-mul n p 10) in
    let worth : digit_value (48 + digit) ≡ digit = omega (arith, digit_value_digit (48 + digit)) in
    let parts : q * p ≡ (q / 10 * 10 + digit) * p = ap (λ (m : ℕ). m * p) (sym (div-add-mod' q 10)) in
    let more = padded_after width n (k * 10 + digit) in
    let first : digits_value_after 10 k (padded_digits (suc width) n) ≡ digits_value_after 10 (k * 10 + digit) (padded_digits width n) =
    ap (λ (v : ℕ). digits_value_after 10 (k * 10 + v) (padded_digits width n)) worth in
    rw (first, higher, pow-suc 10 width) (omega (arith, parts, more))

digits_value-padded : (width n : ℕ) → n / 10 ^ width * 10 ^ width + digits_value 10 (padded_digits width n) ≡ n
digits_value-padded width n = omega (arith, padded_after width n 0)

-- no digit is a mark
none : (p q : ℕ → Bool) → ((b : ℕ) → p b ≡ true → q b ≡ false) → (bytes : List ℕ) → list_all p bytes ≡ true → list_any q bytes ≡ false
none p q h [] all = refl
none p q h (b ∷ bs) all = let parts = and_parts (p b) (list_all p bs) all in rw (h b parts.0) (none p q h bs parts.1)

none_in : (q : ℕ → Bool) → ((b : ℕ) → is_ascii_digit b ≡ true → q b ≡ false) → (ds : List ℕ) → all_ascii_digits ds ≡ true
    → list_any q ds ≡ false
none_in q h ds all = none is_ascii_digit q h ds (sym (digits_all ds) ∙ all)

no_at : (b : ℕ) → is_ascii_digit b ≡ true → is_at b ≡ false
no_at b digit = grind (arith, nat_tests)

no_comma : (b : ℕ) → is_ascii_digit b ≡ true → is_comma b ≡ false
no_comma b digit = grind (arith, nat_tests)

no_point : (b : ℕ) → is_ascii_digit b ≡ true → is_point b ≡ false
no_point b digit = grind (arith, nat_tests)

no_quote : (b : ℕ) → is_ascii_digit b ≡ true → is_quote b ≡ false
no_quote b digit = grind (arith, nat_tests)

-- ---- numbers, ranges and durations

pub number_is : (n : ℕ) → IsShortNumber n → number_of (decimal n) ≡ Some n
unfolding number_of
number_is n short = let is = decimal_is n short in rw (is.digits, lt-ltb 0 (length (decimal n)) is.some) (ap Some is.value)

not_zero : (n : ℕ) → 0 < n → eqb n 0 ≡ false
not_zero n some = grind (arith, nat_tests)

pub range_is : (otherwise : Option ℕ) (range : Range) → IsReadableRange range → range_from otherwise (range_bytes range) ≡ Some range
unfolding range_from
range_is otherwise range is = rw (
  parts_there is_at (decimal range.count) (decimal range.first) 64
      (none_in is_at no_at (decimal range.count) (decimal_is range.count is.count).digits) refl,
  number_is range.count is.count,
  number_is range.first is.first,
  not_zero range.count is.some,
) refl

run_is : (least most : ℕ) (ds : List ℕ) → all_ascii_digits ds ≡ true → least ≤ length ds → length ds ≤ most → is_run least most ds ≡ true
run_is least most ds digits enough few = rw (digits, le-leb least (length ds) enough, le-leb (length ds) most few) refl

scaled : (whole unit rest units place : ℕ) → whole * unit + rest ≡ units → whole * (unit * place) + rest * place ≡ units * place
scaled whole unit rest units place e = rw (← e) (omega arith)

module _ (digits units : ℕ) (few : digits ≤ 9) (short : IsShortDuration digits units) where
  abbrev whole : ℕ
  whole = units / 10 ^ digits

  abbrev padded : List ℕ
  padded = padded_digits digits units

  number : IsNumber whole (decimal whole)
  number = decimal_is whole (omega arith)

  untitled : before_title (seconds_bytes digits units ++ 44 ∷ []) ≡ seconds_bytes digits units
  untitled =
      let free : list_any is_comma (decimal whole ++ 46 ∷ padded) ≡ false = list_any-append is_comma (decimal whole) (46 ∷ padded)
      ∙ rw (none_in is_comma no_comma (decimal whole) number.digits)
      (none_in is_comma no_comma padded (AreDigits-padded_digits digits units).ascii) in
      ap (λ (o : Option (List ℕ × List ℕ)). (unwrap_or o (seconds_bytes digits units ++ 44 ∷ [], [])).0)
      (parts_there is_comma (seconds_bytes digits units) [] 44 free refl)

  in_parts : decimal_parts (seconds_bytes digits units) ≡ (decimal whole, padded)
  in_parts = ap (λ (o : Option (List ℕ × List ℕ)). unwrap_or o (seconds_bytes digits units, []))
      (parts_there is_point (decimal whole) padded 46 (none_in is_point no_point (decimal whole) number.digits) refl)

  in_nanos : nanos_in (decimal whole, padded) ≡ Some (nanos_of digits units)
  unfolding fraction_nanos
  in_nanos =
      let run = AreDigits-padded_digits digits units in
      let size : length padded ≡ digits = omega (arith, run.enough, run.few) in
      let nine : 9 ≡ digits + (9 - digits) = omega arith in
      let tens : 10 ^ 9 ≡ 10 ^ digits * 10 ^ (9 - digits) = ap (λ (n : ℕ). 10 ^ n) nine ∙ pow-add 10 digits (9 - digits) in
      let first = run_is 1 20 (decimal whole) number.digits (omega (arith, number.some))
      (length-decimal-le_wide 20 whole (omega arith) short (omega arith)) in
      let second = run_is 0 30 padded run.ascii (omega arith) (omega (arith, size)) in
      let value = scaled whole (10 ^ digits) (digits_value 10 padded) units (10 ^ (9 - digits)) (digits_value-padded digits units) in
      let told : digits_value 10 (decimal whole) * 10 ^ 9 + digits_value 10 (take 9 padded) * 10 ^ (9 - length padded)
      ≡ nanos_of digits units =
      rw (number.value, take_all 9 padded (omega (arith, size)), size, tens) value in
      rw (first, second) (ap Some told)

  pub duration_is : duration_of (seconds_bytes digits units ++ codes ",") ≡ Some (nanos_of digits units)
  unfolding duration_of
  duration_is = ap (λ (t : List ℕ). nanos_in (decimal_parts t)) untitled ∙ ap nanos_in in_parts ∙ in_nanos

-- ---- addresses

-- an address that is written of a URL
pub record IsAddressOf (address text : List ℕ) : Type 0 where
  pub same : text ≡ address
  pub bytes : list_all is_address_byte address ≡ true
  pub begins : begins_uri address ≡ true

web_front : (scheme rest : List ℕ) → is_web scheme ≡ true → begins_uri (scheme ++ rest) ≡ true
web_front scheme rest web = at_web (λ s. begins_uri (s ++ rest) ≡ true) scheme web refl refl

web_begins : (url : Parts) → is_web url.scheme ≡ true → begins_uri (text_of url) ≡ true
unfolding text_of
web_begins url web = web_front url.scheme _ web

accepted_is : (parsed : Parsed Parts) (address : List ℕ) → accepted parsed ≡ Ok address → IsAddressOf address (written parsed)
accepted_is (Err e) address is = absurd (cc)
accepted_is (Ok url) address is =
    let same : text_of url ≡ address = grind arith in
    record {
      same = same;
      bytes = ap (list_all is_address_byte) (sym same) ∙ bytes_from_accepted url address is;
      begins = ap begins_uri (sym same) ∙ web_begins url (web_from_accepted url address is);
    }

-- an address is resolved to itself
pub address_is : (url address : List ℕ) → IsAddress address → IsAddressOf address (address_of url address)
unfolding address_of absolute
address_is url address is = rw is.web (accepted_is (parse_url None address) address is.normal)

accepted_same : (parsed : Parsed Parts) (address : List ℕ) → accepted parsed ≡ Ok address → written parsed ≡ address
accepted_same (Err e) address is = absurd (cc)
accepted_same (Ok url) address is = grind arith

-- what a text gives in a playlist is what it is read as there
pub given_is : (url text address : List ℕ) → resolve url text ≡ Ok address → address_of url text ≡ address
unfolding address_of absolute resolve
given_is url text address given = elim (cases_Bool (is_absolute text)) [
  | inl web ↦ rw web (accepted_same (parse_url None text) address (rw web at given))
  | inr other ↦ rw other (accepted_same (parse_url (url_of url) text) address (rw other at given))
]

unquoted : (b : ℕ) → is_address_byte b ≡ true → is_quote b ≡ false
unquoted b address = grind (arith, nat_tests)

-- ---- parts

-- a text that stands for a URL in a playlist
module _ (url address text : List ℕ) (stands : StandsFor url address text) where
  same : address_of url text ≡ address
  same = given_is url text address stands.given

  abbrev uri_attribute : NameValue
  uri_attribute = (codes "URI", text)

  uri_alone : IsWritten uri_attribute (map_bytes (record { address = text; range = None }))
  uri_alone = record {
    value = 34 ∷ (text ++ 34 ∷ []);
    is = ap (λ (t : List ℕ). codes "URI=\"" ++ t) (append-nil (text ++ 34 ∷ []));
    named = refl;
    valued = inr (record { is = refl; clean = none is_address_byte is_quote unquoted text stands.bytes });
  }

  uri_written : IsWritten uri_attribute (codes "URI=\"" ++ text ++ 34 ∷ [])
  uri_written = record {
    value = 34 ∷ (text ++ 34 ∷ []);
    is = refl;
    named = refl;
    valued = inr (record { is = refl; clean = none is_address_byte is_quote unquoted text stands.bytes });
  }

  range_written : (range : Range) → IsReadableRange range
      → IsWritten (codes "BYTERANGE", range_bytes range) (codes "BYTERANGE=\"" ++ range_bytes range ++ 34 ∷ [])
  range_written range readable =
      let clean = list_any-append is_quote (decimal range.count) (64 ∷ decimal range.first)
      ∙ rw (
        none_in is_quote no_quote (decimal range.count) (decimal_is range.count readable.count).digits,
        none_in is_quote no_quote (decimal range.first) (decimal_is range.first readable.first).digits,
      ) refl in
      record { value = 34 ∷ (range_bytes range ++ 34 ∷ []); is = refl; named = refl; valued = inr (record { is = refl; clean = clean }) }

  both_written : (range : Range) → IsReadableRange range
      → AreWritten (uri_attribute ∷ (codes "BYTERANGE", range_bytes range) ∷ [])
      (map_bytes (record { address = text; range = Some range }))
  both_written range readable = record {
    front = codes "URI=\"" ++ text ++ 34 ∷ [];
    comma = 44 ∷ [];
    rest = codes "BYTERANGE=\"" ++ range_bytes range ++ 34 ∷ [];
    is = refl;
    front_is = uri_written;
    comma_is = record { before = []; behind = []; is = refl; spaces_before = refl; spaces_behind = refl };
    rest_is = range_written range readable;
  }

  pub map_is : (range : Option Range) → IfSome range IsReadableRange
      → map_value url (map_bytes (record { address = text; range = range })) ≡ record { address = address; range = range }
  unfolding map_value
  map_is None readable = rw (
    (read_are_written (map_bytes (record { address = text; range = None })) (uri_attribute ∷ [])).1 uri_alone,
    same,
  ) refl
  map_is (Some range) readable =
      rw (
        (read_are_written (map_bytes (record { address = text; range = Some range }))
            (uri_attribute ∷ (codes "BYTERANGE", range_bytes range) ∷ [])).1 (both_written range readable),
        same,
        range_is (Some 0) range readable,
      ) refl
