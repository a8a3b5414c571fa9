-- The lines of a file are of bytes.
use Rattle.std.proofs.Common.{◌≡◌, ℕ, ◌-◌, ◌+◌, ◌/◌, ◌%◌, ◌<◌, ◌==◌, nat_lt, Bool, true, false, List, [], ◌∷◌, length, All, Option, Some}
use Rattle.std.proofs.{Common.{None, IfSome, unwrap_or, Ok, Err, if◌then◌else◌, refl, ◌∙◌, subst, arith}, lemmas.Bool.and_parts}
use Rattle.std.proofs.{lemmas.Bool.{cond_both, ltb-true}, lemmas.List.Elements.{All-nil, All-cons}, lemmas.List.Folds.list_all-append}
use Rattle.std.proofs.lemmas.Str.{IsUtf8-from_is_utf8}
use Rattle.std.specs.{Prelude.{codes, nat_eq, IsUtf8}, List.{AllByRecursion, list_all, slice_split, starts_with, suffix_len}, Str.is_utf8}
use Rattle.std.specs.Str.Lossy.{utf8_valid_len}
use lib.Utf8.{scalar, scalars, encode, encodes}
use Rattle.byte_scan.specs.Lines.{is_line_feed}
use Rattle.bridge_io.specs.{declared.place.Place.Place, Places.place_of}
use Rattle.hls_lines.specs.Lines.{PlaylistLine, behind, clean, is_blank, is_colon, line_behind, line_of, lines_of, has_header}
use Rattle.hls_lines.specs.Lines.{lines_if_clean, said_from, start, tag, tag_parts, text_lines, trimmed, unless_control, uri, with_line}
use Rattle.hls_lines.specs.{Characters.first_control, Marks.{after_mark, parts_at}, declared.fault.LineFault.LineFault}
use Rattle.hls_lines.specs.declared.fault.LineFault.TheVariants.{Header, NotUtf8}
use Rattle.laws_of_mpds.proofs.{Plain.{ArePlain, is_plain}, Parts.{Are, cut, front, marked, split}}

abbrev pub is_byte : ℕ → Bool
is_byte b = nat_lt b 256

abbrev pub AreBytes : List ℕ → Type 0
AreBytes text = list_all is_byte text ≡ true

-- ---- characters

byte : (b : ℕ) → b < 256 → is_byte b ≡ true
byte b h = grind arith

character : (c : ℕ) → c < 1114112 → AreBytes (encode c)
unfolding encode
character c small =
    let last : is_byte (128 + c % 64) ≡ true = byte (128 + c % 64) (omega arith) in
    let third : is_byte (128 + (c / 64) % 64) ≡ true = byte (128 + (c / 64) % 64) (omega arith) in
    let second : is_byte (128 + (c / 4096) % 64) ≡ true = byte (128 + (c / 4096) % 64) (omega arith) in
    let four = (240 + c / 262144) ∷ (128 + (c / 4096) % 64) ∷ (128 + (c / 64) % 64) ∷ (128 + c % 64) ∷ [] in
    let three = (224 + c / 4096) ∷ (128 + (c / 64) % 64) ∷ (128 + c % 64) ∷ [] in
    let two = (192 + c / 64) ∷ (128 + c % 64) ∷ [] in
    cond_both (nat_lt c 128) (c ∷ []) (if nat_lt c 2048 then two else if nat_lt c 65536 then three else four) AreBytes
    (λ is. let less = ltb-true c 128 is in rw (byte c (omega arith)) refl)
    (λ _. cond_both (nat_lt c 2048) two (if nat_lt c 65536 then three else four) AreBytes
    (λ is. let less = ltb-true c 2048 is in rw (byte (192 + c / 64) (omega arith), last) refl)
    (λ _. cond_both (nat_lt c 65536) three four AreBytes
    (λ is. let less = ltb-true c 65536 is in rw (byte (224 + c / 4096) (omega arith), third, last) refl)
    (λ _. rw (byte (240 + c / 262144) (omega arith), second, third, last) refl)))

scalar_small : (c : ℕ) → scalar c ≡ true → c < 1114112
scalar_small c is = grind arith

characters : (cs : List ℕ) → scalars cs ≡ true → AreBytes (encodes cs)
characters [] is = refl
characters (c ∷ cs) is =
    let parts = and_parts (scalar c) (scalars cs) is in
    list_all-append is_byte (encode c) (encodes cs) ∙ rw (character c (scalar_small c parts.0), characters cs parts.1) refl

pub utf8_bytes : (text : List ℕ) → IsUtf8 text → AreBytes text
utf8_bytes text u = subst AreBytes u.1.1 (characters u.0 u.1.0)

-- ---- lines

-- the references of a line are of bytes
abbrev pub IsOfBytes : PlaylistLine → Type 0
IsOfBytes (tag name rest place) = AreBytes rest
IsOfBytes (uri text place) = AreBytes text

parted : (parts : Option (List ℕ × List ℕ)) (text : List ℕ) → IfSome parts (λ x. Are is_byte x.0 × Are is_byte x.1)
    → AreBytes (unwrap_or parts (text, [])).1
parted None text all = refl
parted (Some parts) text all = all.1

marked_by : (begins : Bool) (text : List ℕ) (place : Place) → AreBytes text
    → IfSome (if begins then Some (tag (tag_parts text).0 (tag_parts text).1 place) else None) IsOfBytes
marked_by true text place all = parted (parts_at is_colon text) text (cut is_byte is_colon text all)
marked_by false text place all = tt

behind_mark : (found : Option (List ℕ)) (text : List ℕ) (place : Place) → AreBytes text → IfSome found AreBytes
    → IfSome (line_behind found text place) IsOfBytes
behind_mark (Some found) text place all is = marked_by (starts_with nat_eq found (codes "EXT")) found place is
behind_mark None text place all is = all

line_by : (empty : Bool) (text : List ℕ) (place : Place) → AreBytes text
    → IfSome (if empty then None else line_behind (after_mark 35 text) text place) IsOfBytes
line_by true text place all = tt
line_by false text place all = behind_mark (after_mark 35 text) text place all (marked is_byte 35 text all)

line : (text : List ℕ) (place : Place) → AreBytes text → IfSome (line_of text place) IsOfBytes
line text place all = line_by (length text == 0) text place all

one_more : (found : Option PlaylistLine) (lines : List PlaylistLine) → IfSome found IsOfBytes → All IsOfBytes lines
    → All IsOfBytes (with_line found lines)
one_more None lines one all = all
one_more (Some found) lines one all = All-cons IsOfBytes found lines one all

said : (place : Place) (texts : List (List ℕ)) → AllByRecursion (Are is_byte) texts → All IsOfBytes (said_from place texts)
said place [] all = All-nil IsOfBytes
said place (text ∷ texts) all =
    one_more (line_of (trimmed text) place) (said_from (behind text place) texts)
    (line (trimmed text) place (front is_byte (length text - suffix_len is_blank text) text all.0)) (said (behind text place) texts all.1)

with_header : (b : Bool) (fault : LineFault) (values lines : List PlaylistLine) → (if b then Ok values else Err fault) ≡ Ok lines
    → values ≡ lines
with_header true fault values lines is = cc
with_header false fault values lines is = absurd (cc)

cleaned : (text : List ℕ) (control : Option ℕ) (lines : List PlaylistLine) → AreBytes text
    → lines_if_clean (unless_control text control) ≡ Ok lines
    → All IsOfBytes lines
cleaned text (Some at) lines all is = absurd (cc)
cleaned text None lines all is =
    subst (All IsOfBytes) (with_header (has_header text) (Header start) (text_lines start text) lines is)
    (said start (slice_split is_line_feed text) (split is_byte is_line_feed text all))

if_text : (b : Bool) (text : List ℕ) (fault : LineFault) (lines : List PlaylistLine) → is_utf8 text ≡ b
    → lines_if_clean (if b then unless_control text (first_control text) else Err fault) ≡ Ok lines → All IsOfBytes lines
if_text true text fault lines utf8 is = cleaned text (first_control text) lines (utf8_bytes text (IsUtf8-from_is_utf8 text utf8)) is
if_text false text fault lines utf8 is = absurd (cc)

-- those of a file
pub lines_are_bytes : (text : List ℕ) (lines : List PlaylistLine) → lines_of text ≡ Ok lines → All IsOfBytes lines
unfolding lines_of clean
lines_are_bytes text lines is = if_text (is_utf8 text) text (NotUtf8 (place_of text (utf8_valid_len text))) lines refl is

pub all_bytes : (text : List ℕ) → AreBytes text → All (λ b. b < 256) text
all_bytes [] all = All-nil (λ b. b < 256)
all_bytes (b ∷ bs) all =
    let parts = and_parts (is_byte b) (list_all is_byte bs) all in
    let small : b < 256 = grind arith in
    All-cons (λ b. b < 256) b bs small (all_bytes bs parts.1)

plain_is_byte : (b : ℕ) → is_plain b ≡ true → is_byte b ≡ true
plain_is_byte b is = grind arith

pub plain_bytes : (text : List ℕ) → ArePlain text → AreBytes text
plain_bytes [] all = refl
plain_bytes (b ∷ bs) all = let parts = and_parts (is_plain b) (list_all is_plain bs) all in
    rw (plain_is_byte b parts.0) (plain_bytes bs parts.1)
