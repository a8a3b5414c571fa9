-- The values of written lines are taken, and not only told.
use Rattle.std.proofs.Common.{◌≡◌, ℕ, ◌<◌, ◌^◌, Bool, true, false, List, [], ◌∷◌, ◌++◌}
use Rattle.std.proofs.Common.{codes, Option, Some, None, Ok, IfSome, refl, inr, arith}
use Rattle.std.proofs.{Common.{sym, ◌∙◌, ap}, lemmas.Bool.{and_parts, lt-ltb}, lemmas.Bool.Decides.nat_tests, lemmas.List.append-nil}
use Rattle.std.proofs.lemmas.List.Folds.{list_any-append}
use Rattle.std.specs.{Prelude.decimal, Char.is_ascii_digit, List.{list_all, list_any}}
use Rattle.bridge_io.specs.declared.place.Place.{Place}
use Rattle.url_parts.specs.{Addresses.is_address_byte, Spelling.StandsFor, declared.range.Range.Range}
use Rattle.hls_lines.specs.{Attributes.{NameValue, attributes_of, is_quote}, Grammar.{AreWritten, IsWritten}}
use Rattle.hls_lines.proofs.{AttributeTexts.parts_there, Grammar.read_are_written}
use Rattle.hls_media.specs.{Laws.IsBoundedRange, Media.map_of, Values.{end_of, is_at, is_comma, is_point, is_range}}
use Rattle.hls_writer.specs.Lines.{range_bytes}
use Rattle.laws_of_playlists.specs.{ReadLines.map_bytes, ReadMedia.IsReadableRange}
use Rattle.laws_of_playlists.proofs.Values.{decimal_is, digits_all, range_is}

-- no byte of a text that passes one test passes another
pub none : (p q : ℕ → Bool) → ((b : ℕ) → p b ≡ true → q b ≡ false) → (bytes : List ℕ) → list_all p bytes ≡ true → list_any q bytes ≡ false
none p q h [] all = refl
none p q h (b ∷ bs) all = let parts = and_parts (p b) (list_all p bs) all in rw (h b parts.0) (none p q h bs parts.1)

pub no_at : (b : ℕ) → is_ascii_digit b ≡ true → is_at b ≡ false
no_at b digit = grind (arith, nat_tests)

pub no_comma : (b : ℕ) → is_ascii_digit b ≡ true → is_comma b ≡ false
no_comma b digit = grind (arith, nat_tests)

pub no_point : (b : ℕ) → is_ascii_digit b ≡ true → is_point b ≡ false
no_point b digit = grind (arith, nat_tests)

pub no_quote : (b : ℕ) → is_ascii_digit b ≡ true → is_quote b ≡ false
no_quote b digit = grind (arith, nat_tests)

pub unquoted : (b : ℕ) → is_address_byte b ≡ true → is_quote b ≡ false
unquoted b address = grind (arith, nat_tests)

pub all_digits : (n : ℕ) → n < 10 ^ 64 → list_all is_ascii_digit (decimal n) ≡ true
all_digits n short = sym (digits_all (decimal n)) ∙ (decimal_is n short).digits

-- ---- ranges

pub in_range : (range : Range) → IsReadableRange range → IsBoundedRange range → is_range (range_bytes range) ≡ true
unfolding is_range
in_range range readable bounded = rw (
  parts_there is_at (decimal range.count) (decimal range.first) 64
      (none is_ascii_digit is_at no_at (decimal range.count) (all_digits range.count readable.count)) refl,
  range_is None range readable,
  lt-ltb (end_of range) (2 ^ 63) bounded.ends,
) refl

-- ---- maps

module _ (url address text : List ℕ) (stands : StandsFor url address text) where
  module _ (place : Place) where
    abbrev uri_attribute : NameValue
    uri_attribute = (codes "URI", text)

    quoted : (written : List ℕ) → written ≡ codes "URI=\"" ++ text ++ 34 ∷ [] → IsWritten uri_attribute written
    quoted written is = record {
      value = 34 ∷ (text ++ 34 ∷ []);
      is = is;
      named = refl;
      valued = inr (record {
        is = refl;
        clean = none is_address_byte is_quote unquoted text stands.bytes;
      });
    }

    ranged : (range : Range) → IsReadableRange range
        → AreWritten (uri_attribute ∷ (codes "BYTERANGE", range_bytes range) ∷ [])
        (map_bytes (record { address = text; range = Some range }))
    ranged range readable =
        let clean = list_any-append is_quote (decimal range.count) (64 ∷ decimal range.first)
        ∙ rw (
          none is_ascii_digit is_quote no_quote (decimal range.count) (all_digits range.count readable.count),
          none is_ascii_digit is_quote no_quote (decimal range.first) (all_digits range.first readable.first),
        ) refl in record {
          front = codes "URI=\"" ++ text ++ 34 ∷ [];
          comma = 44 ∷ [];
          rest = codes "BYTERANGE=\"" ++ range_bytes range ++ 34 ∷ [];
          is = refl;
          front_is = quoted _ refl;
          comma_is = record { before = []; behind = []; is = refl; spaces_before = refl; spaces_behind = refl };
          rest_is = record {
            value = 34 ∷ (range_bytes range ++ 34 ∷ []);
            is = refl;
            named = refl;
            valued = inr (record { is = refl; clean = clean });
          };
        }

    pub map_taken : (range : Option Range) → IfSome range IsReadableRange → IfSome range IsBoundedRange
        → map_of url (map_bytes (record { address = text; range = range })) place ≡ Ok (record { address = address; range = range })
    unfolding map_of attributes_of
    map_taken None readable bounded = rw (
      (read_are_written (map_bytes (record { address = text; range = None })) (uri_attribute ∷ [])).1
          (quoted _ (ap (λ (t : List ℕ). codes "URI=\"" ++ t) (append-nil (text ++ 34 ∷ [])))),
      stands.given,
    ) refl
    map_taken (Some range) readable bounded = rw (
      (read_are_written (map_bytes (record { address = text; range = Some range }))
          (uri_attribute ∷ (codes "BYTERANGE", range_bytes range) ∷ [])).1 (ranged range readable),
      range_is (Some 0) range readable,
      lt-ltb (end_of range) (2 ^ 63) bounded.ends,
      stands.given,
    ) refl
