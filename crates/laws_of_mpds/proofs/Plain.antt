-- Texts of printable ASCII, which values can carry.
use Rattle.std.proofs.Common.{◌≡◌, ℕ, zero, suc, ◌+◌, ◌-◌, ◌/◌, ◌%◌, ◌^◌, ◌<◌, ◌==◌, ◌&&◌, nat_le, nat_lt, Bool, true, false, List, []}
use Rattle.std.proofs.Common.{◌∷◌, ◌++◌, None, Ok, Err, option_map, if◌then◌else◌, IsUtf8, refl, ◌∙◌, ap, subst, arith}
use Rattle.std.proofs.{lemmas.Bool.and_parts, lemmas.List.Folds.list_all-append, lemmas.Nat.mod_below}
use Rattle.std.proofs.lemmas.Str.{IsUtf8-append, IsUtf8-encode, IsUtf8-nil, encode_ascii}
use Rattle.std.specs.{Prelude.decimal, Fmt.{digits, digits_onto}, List.list_all}
use Rattle.bridge_io.specs.{declared.media.Kind.Kind, declared.media.Kind.TheVariants.{Video, Audio, Text}, declared.media.Ratio.Ratio}
use Rattle.iso_time.specs.{Digits.padded_digits, Duration.{is_empty, duration_text, nanos_text, without_zeros}}
use Rattle.url.specs.Parser.{Parsed, parse_url}
use Rattle.url_parts.specs.{Addresses.{IsAddress, absolute, accepted, is_address_byte}, declared.range.Range.Range}
use Rattle.url_parts.proofs.Bases.{bytes_from_accepted}
use Rattle.mpd_tree.specs.Characters.{begins_with_noncharacter, begins_with_bad_character, first_bad_character}
use Rattle.dash_writer.specs.{Values.{range_text, rate_text, id_text, seconds_text}, Outline.mime_type}
use Rattle.laws_of_mpds.specs.Texts.{IsCarried}
use Rattle.laws_of_mpds.proofs.Addressed.{accepted_text}
use lib.Utf8.{low_scalar}

abbrev pub is_plain : ℕ → Bool
is_plain b = nat_le 32 b && nat_lt b 127

abbrev pub ArePlain : List ℕ → Type 0
ArePlain text = list_all is_plain text ≡ true

utf8 : (text : List ℕ) → ArePlain text → IsUtf8 text
utf8 [] plain = IsUtf8-nil
utf8 (b ∷ bs) plain =
    let parts = and_parts (is_plain b) (list_all is_plain bs) plain in
    let small : b < 128 = grind arith in
    IsUtf8-append (b ∷ []) bs (subst IsUtf8 (encode_ascii b small) (IsUtf8-encode b (low_scalar b (omega (arith, small)))))
    (utf8 bs parts.1)

no_bad : (text : List ℕ) → ArePlain text → first_bad_character text ≡ None
unfolding begins_with_bad_character begins_with_noncharacter
no_bad [] plain = refl
no_bad (b ∷ bs) plain =
    let parts = and_parts (is_plain b) (list_all is_plain bs) plain in
    let high : nat_lt b 32 ≡ false = grind arith in
    let other : (239 == b) ≡ false = grind arith in
    rw (high, other) (ap (option_map suc) (no_bad bs parts.1))

no_controls : (text : List ℕ) → ArePlain text → list_all (λ b. nat_le 32 b) text ≡ true
no_controls [] plain = refl
no_controls (b ∷ bs) plain =
    let parts = and_parts (is_plain b) (list_all is_plain bs) plain in
    let high : nat_le 32 b ≡ true = grind arith in
    rw high (no_controls bs parts.1)

pub carried : (text : List ℕ) → ArePlain text → IsCarried text
carried text plain = record {
  clean = record { utf8 = utf8 text plain; no_bad_character = no_bad text plain };
  no_controls = no_controls text plain;
}

pub both : (a b : List ℕ) → ArePlain a → ArePlain b → ArePlain (a ++ b)
both a b A B = list_all-append is_plain a b ∙ rw A B

before : (b : ℕ) (bs : List ℕ) → is_plain b ≡ true → ArePlain bs → ArePlain (b ∷ bs)
before b bs B plain = rw B plain

-- ---- those without spaces

abbrev pub is_visible : ℕ → Bool
is_visible b = nat_le 33 b && nat_lt b 127

abbrev pub AreVisible : List ℕ → Type 0
AreVisible text = list_all is_visible text ≡ true

pub plain_of : (text : List ℕ) → AreVisible text → ArePlain text
plain_of [] visible = refl
plain_of (b ∷ bs) visible =
    let parts = and_parts (is_visible b) (list_all is_visible bs) visible in
    let here : is_plain b ≡ true = grind arith in
    before b bs here (plain_of bs parts.1)

both_visible : (a b : List ℕ) → AreVisible a → AreVisible b → AreVisible (a ++ b)
both_visible a b A B = list_all-append is_visible a b ∙ rw A B

next_visible : (b : ℕ) (bs : List ℕ) → is_visible b ≡ true → AreVisible bs → AreVisible (b ∷ bs)
next_visible b bs B visible = rw B visible

pub joined_visible : (a : List ℕ) (b : ℕ) (bs : List ℕ) → AreVisible a → is_visible b ≡ true → AreVisible bs → AreVisible (a ++ b ∷ bs)
joined_visible a b bs front B visible = both_visible a (b ∷ bs) front (next_visible b bs B visible)

-- ---- numbers

digit_visible : (d : ℕ) → d < 10 → is_visible (48 + d) ≡ true
digit_visible d h = grind arith

glyph_visible : (n : ℕ) → is_visible (if nat_lt (n % 10) 10 then 48 + n % 10 else 87 + n % 10) ≡ true
glyph_visible n =
    let below = mod_below n 10 (omega arith) in
    let is : nat_lt (n % 10) 10 ≡ true = grind arith in
    rw is (digit_visible (n % 10) below)

abbrev glyph : ℕ → ℕ
glyph n = if nat_lt (n % 10) 10 then 48 + n % 10 else 87 + n % 10

onto_visible : (k n : ℕ) (acc : List ℕ) → AreVisible acc → AreVisible (digits_onto k 10 false n acc)
onto_visible zero n acc visible = visible
onto_visible (suc k) n acc visible =
    go (n / 10 == 0) (next_visible (glyph n) acc (glyph_visible n) visible) (onto_visible k (n / 10) (glyph n ∷ acc) (next_visible
    (glyph n) acc
    (glyph_visible n) visible)) where
      go : (last : Bool) → AreVisible (glyph n ∷ acc) → AreVisible (digits_onto k 10 false (n / 10) (glyph n ∷ acc))
          → AreVisible (if last then glyph n ∷ acc else digits_onto k 10 false (n / 10) (glyph n ∷ acc))
      go true here later = here
      go false here later = later

decimal_visible : (n : ℕ) → AreVisible (decimal n)
unfolding digits
decimal_visible n = onto_visible 64 n [] refl

pub padded_visible : (width n : ℕ) → AreVisible (padded_digits width n)
unfolding padded_digits
padded_visible zero n = refl
padded_visible (suc width) n = next_visible (48 + n / 10 ^ width % 10) (padded_digits width n)
    (digit_visible (n / 10 ^ width % 10) (mod_below (n / 10 ^ width) 10 (omega arith))) (padded_visible width n)

zeros_visible : (ds : List ℕ) → AreVisible ds → AreVisible (without_zeros ds)
unfolding without_zeros
zeros_visible [] visible = refl
zeros_visible (d ∷ ds) visible =
    let parts = and_parts (is_visible d) (list_all is_visible ds) visible in
    go ((d == 48) && is_empty (without_zeros ds)) parts.0 (zeros_visible ds parts.1) where
      go : (none : Bool) → is_visible d ≡ true → AreVisible (without_zeros ds) → AreVisible (if none then [] else d ∷ without_zeros ds)
      go true here later = refl
      go false here later = next_visible d (without_zeros ds) here later

nanos_visible : (nanos : ℕ) → AreVisible (nanos_text nanos)
nanos_visible nanos = go (nanos == 0) where
  go : (none : Bool) → AreVisible (if none then [] else 46 ∷ without_zeros (padded_digits 9 nanos))
  go true = refl
  go false = zeros_visible (padded_digits 9 nanos) (padded_visible 9 nanos)

pub duration_visible : (nanos : ℕ) → AreVisible (duration_text nanos)
unfolding duration_text
duration_visible nanos = both_visible (decimal (nanos / 10 ^ 9) ++ nanos_text (nanos % 10 ^ 9)) (83 ∷ [])
    (both_visible (decimal (nanos / 10 ^ 9)) (nanos_text (nanos % 10 ^ 9)) (decimal_visible (nanos / 10 ^ 9)) (nanos_visible
    (nanos % 10 ^ 9))) refl

seconds_visible : (n : ℕ) → AreVisible (seconds_text n)
seconds_visible n = both_visible (decimal n) (83 ∷ []) (decimal_visible n) refl

pub decimal_plain : (n : ℕ) → ArePlain (decimal n)
decimal_plain n = plain_of (decimal n) (decimal_visible n)

pub duration_plain : (nanos : ℕ) → ArePlain (duration_text nanos)
duration_plain nanos = plain_of (duration_text nanos) (duration_visible nanos)

pub seconds_plain : (n : ℕ) → ArePlain (seconds_text n)
seconds_plain n = plain_of (seconds_text n) (seconds_visible n)

pub range_plain : (range : Range) → ArePlain (range_text range)
range_plain range = both (decimal range.first) (45 ∷ decimal (range.first + range.count - 1)) (decimal_plain range.first)
    (decimal_plain (range.first + range.count - 1))

pub rate_plain : (ratio : Ratio) → ArePlain (rate_text ratio)
rate_plain ratio = go (ratio.n % ratio.m == 0) where
  go : (whole : Bool) → ArePlain (if whole then decimal (ratio.n / ratio.m) else decimal ratio.n ++ 47 ∷ decimal ratio.m)
  go true = decimal_plain (ratio.n / ratio.m)
  go false = both (decimal ratio.n) (47 ∷ decimal ratio.m) (decimal_plain ratio.n) (decimal_plain ratio.m)

pub id_plain : (place : ℕ) → ArePlain (id_text place)
id_plain place = decimal_plain place

pub mime_plain : (kind : Kind) → ArePlain (mime_type kind)
mime_plain Video = refl
mime_plain Audio = refl
mime_plain Text = refl

-- ---- addresses

bytes_plain : (text : List ℕ) → list_all is_address_byte text ≡ true → ArePlain text
bytes_plain [] all = refl
bytes_plain (b ∷ bs) all =
    let parts = and_parts (is_address_byte b) (list_all is_address_byte bs) all in
    let here : is_plain b ≡ true = grind arith in
    before b bs here (bytes_plain bs parts.1)

parsed_plain : (r : Parsed _) (text : List ℕ) → accepted r ≡ Ok text → ArePlain text
parsed_plain (Ok url) text is = bytes_plain text (subst (λ t. list_all is_address_byte t
    ≡ true) (accepted_text url text is) (bytes_from_accepted url text is))
parsed_plain (Err e) text is = absurd (cc)

pub address_plain : (text : List ℕ) → IsAddress text → ArePlain text
unfolding absolute
address_plain text is = parsed_plain (parse_url None text) text is.normal
