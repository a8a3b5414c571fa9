-- Written lines are read as they were written.
use Rattle.hls_lines.specs.Lines as said
use Rattle.std.proofs.Common.{◌≡◌, ℕ, suc, ◌-◌, ◌&&◌, ◌||◌, Bool, true, false, not, List, [], ◌∷◌, ◌++◌, length, take, reverse, eqb, nat_eq}
use Rattle.std.proofs.Common.{codes, Some, None, Ok, refl, sym, ◌∙◌, ap, subst, arith, inl, inr, append_assoc}
use Rattle.std.proofs.lemmas.Bool.{and_from, and_parts}
use Rattle.std.proofs.{lemmas.Bool.{le-ltb, not-true, or_from, or_parts}, lemmas.Bool.Decides.nat_tests}
use Rattle.std.proofs.{lemmas.List.{reverse-append, take_all}, lemmas.List.Elements.{All-cons, All-head, All-nil, All-tail}}
use Rattle.std.proofs.lemmas.List.Splits.{slice_split_at}
use Rattle.std.proofs.lemmas.Str.{IsUtf8-append, IsUtf8-from_ascii, IsUtf8-nil, is_utf8-from_IsUtf8}
use Rattle.std.proofs.lemmas.Str.Ascii.{IsAscii-cons, IsAscii-nil}
use Rattle.std.specs.{List.{All, list_any, list_all, position_or_len, prefix_len, slice_split, starts_with, suffix_len}, Str.IsUtf8}
use Rattle.std.specs.Prelude.{decimal, nat_le, nat_lt}
use Rattle.byte_scan.specs.{Class.is_outside, declared.class.Class.TheVariants.Playlist, Lines.is_line_feed}
use Rattle.bridge_io.specs.declared.place.Place.{Place}
use Rattle.hls_lines.specs.{Characters.{begins_with_high_control, first_control, high_control_from}, LineGrammar.EndsUnblank, Lines.behind}
use Rattle.hls_lines.specs.Lines.{clean, has_header, is_blank, is_colon, line_of, lines_of, said_from, start, trimmed, with_line}
use Rattle.hls_lines.proofs.AttributeTexts.{parts_there}
use Rattle.track_hints.specs.Labels.{begins_with_control, has_control, is_high_control}
use Rattle.hls_writer.specs.{Attributes.attributes_bytes, Lines.{WrittenLine, header, version, target_duration, media_sequence}}
use Rattle.hls_writer.specs.Lines.{independent_segments, discontinuity_sequence, on_demand, discontinuity, initialization}
use Rattle.hls_writer.specs.Lines.{program_date_time}
use Rattle.hls_writer.specs.Lines.{duration, byte_range, uri, end_list, rendition, variant, line_bytes, lines_text, range_bytes}
use Rattle.hls_writer.specs.Lines.{seconds_bytes}
use Rattle.iso_time.specs.Civil.{instant_text}
use Rattle.laws_of_playlists.specs.ReadLines.{IsReadable, IsUriOrTag, WrittenLinesAreRead, ends_visibly}
use Rattle.url_parts.specs.Spelling.{begins_uri}
use Rattle.laws_of_playlists.specs.ReadLines.{map_bytes, said_at, said_from_place}
use Rattle.laws_of_playlists.proofs.LineTexts.{plain_ascii}

-- ---- tests of each byte

pub weaker : (p q : ℕ → Bool) → ((b : ℕ) → p b ≡ true → q b ≡ true) → (bytes : List ℕ) → list_all p bytes ≡ true → list_all q bytes ≡ true
weaker p q h [] all = refl
weaker p q h (b ∷ bs) all = let parts = and_parts (p b) (list_all p bs) all in and_from _ _ (h b parts.0) (weaker p q h bs parts.1)

-- ---- what a line says

some_bytes : (n : ℕ) → eqb (suc n) 0 ≡ false
some_bytes n = grind (arith, nat_tests)

tag_is : (name rest : List ℕ) (place : Place) → starts_with nat_eq (name ++ 58 ∷ rest) (codes "EXT") ≡ true → list_any is_colon name ≡ false
    → line_of (35 ∷ (name ++ 58 ∷ rest)) place ≡ Some (said.tag name rest place)
tag_is name rest place marked free = rw (some_bytes (length (name ++ 58 ∷ rest)), marked, parts_there is_colon name rest 58 free refl) refl

uri_is : (text : List ℕ) (place : Place) → begins_uri text ≡ true → line_of text place ≡ Some (said.uri text place)
uri_is [] place begins = absurd (cc)
uri_is (b ∷ bs) place begins = let other : eqb b 35 ≡ false = not-true (eqb b 35) begins in rw (some_bytes (length bs), other) refl

says : (line : WrittenLine) (place : Place) → IsUriOrTag line → line_of (line_bytes line) place ≡ Some (said_at line place)
unfolding line_bytes
says header place whole = refl
says independent_segments place whole = refl
says (version number) place whole = tag_is (codes "EXT-X-VERSION") (decimal number) place refl refl
says (target_duration seconds) place whole = tag_is (codes "EXT-X-TARGETDURATION") (decimal seconds) place refl refl
says (media_sequence number) place whole = tag_is (codes "EXT-X-MEDIA-SEQUENCE") (decimal number) place refl refl
says (discontinuity_sequence number) place whole = tag_is (codes "EXT-X-DISCONTINUITY-SEQUENCE") (decimal number) place refl refl
says on_demand place whole = refl
says discontinuity place whole = refl
says (initialization part) place whole = tag_is (codes "EXT-X-MAP") (map_bytes part) place refl refl
says (program_date_time instant) place whole = tag_is (codes "EXT-X-PROGRAM-DATE-TIME") (instant_text instant) place refl refl
says (duration digits units) place whole = tag_is (codes "EXTINF") (seconds_bytes digits units ++ codes ",") place refl refl
says (byte_range range) place whole = tag_is (codes "EXT-X-BYTERANGE") (range_bytes range) place refl refl
says (uri address) place whole = uri_is address place whole
says end_list place whole = refl
says (rendition first others) place whole = tag_is (codes "EXT-X-MEDIA") (attributes_bytes first others) place refl refl
says (variant first others) place whole = tag_is (codes "EXT-X-STREAM-INF") (attributes_bytes first others) place refl refl

-- ---- lines without blanks at their ends

unblank : (b : ℕ) (high : Bool) → (nat_lt b 32 || (eqb b 127 || eqb b 194 && high)) ≡ false → not (eqb b 32) ≡ true → is_blank b ≡ false
unblank b high free other = grind (arith, nat_tests)

ends_unblank : (line : List ℕ) → has_control line ≡ false → ends_visibly line ≡ true → EndsUnblank line
ends_unblank [] free ends = inl refl
ends_unblank (b ∷ []) free ends =
    inr ([], (b, (refl, unblank b false (or_parts (begins_with_control b []) false free).0 ends)))
ends_unblank (b ∷ (c ∷ bs)) free ends =
    more (ends_unblank (c ∷ bs) (or_parts (begins_with_control b (c ∷ bs)) (has_control (c ∷ bs)) free).1 ends)
  where
    more : EndsUnblank (c ∷ bs) → EndsUnblank (b ∷ (c ∷ bs))
    more (inl never) = absurd (cc)
    more (inr (front, (last, (e, other)))) = inr (b ∷ front, (last, (ap (λ t. b ∷ t) e, other)))

trimmed_is : (line : List ℕ) → EndsUnblank line → trimmed line ≡ line
trimmed_is line (inl e) = rw e refl
trimmed_is line (inr (front, (last, (e, other)))) =
    let none : suffix_len is_blank line ≡ 0 = ap (λ t. prefix_len is_blank (reverse t)) e
    ∙ ap (prefix_len is_blank) (reverse-append front (last ∷ [])) ∙ rw other refl in
    ap (λ n. take (length line - n) line) none ∙ take_all (length line - 0) line (omega arith)

not_feed : (b : ℕ) (high : Bool) → (nat_lt b 32 || (eqb b 127 || eqb b 194 && high)) ≡ false → is_line_feed b ≡ false
not_feed b high free = grind (arith, nat_tests)

no_feed : (line : List ℕ) → has_control line ≡ false → All (λ b. is_line_feed b ≡ false) line
no_feed [] free = All-nil (λ (b : ℕ). is_line_feed b ≡ false)
no_feed (b ∷ bs) free = let parts = or_parts (begins_with_control b bs) (has_control bs) free in
    All-cons (λ (b : ℕ). is_line_feed b ≡ false) b bs (not_feed b (is_high_control bs) parts.0) (no_feed bs parts.1)

said_lines : (place : Place) (lines : List WrittenLine) → All IsReadable lines
    → said_from place (slice_split is_line_feed (lines_text lines)) ≡ said_from_place place lines
said_lines place [] all = refl
said_lines place (line ∷ lines) all =
    let is = All-head IsReadable line lines all in
    let bytes = line_bytes line in
    let here = ap (λ text. line_of text place) (trimmed_is bytes (ends_unblank bytes is.plain.free is.ends)) ∙ says line place is.whole in
    ap (λ text. said_from place (slice_split is_line_feed text)) (append_assoc bytes (10 ∷ []) (lines_text lines))
    ∙ ap (said_from place) (slice_split_at is_line_feed bytes 10 (lines_text lines) (no_feed bytes is.plain.free) refl)
    ∙ ap (λ what. with_line what (said_from (behind bytes place) (slice_split is_line_feed (lines_text lines)))) here
    ∙ ap (λ others. said_at line place ∷ others) (said_lines (behind bytes place) lines (All-tail IsReadable line lines all))

-- ---- a text of such lines is clean

-- no byte and no pair of bytes is a control character that ends the reading
abbrev is_bad : ℕ → List ℕ → Bool
is_bad b bs = is_outside Playlist b || begins_with_high_control (b ∷ bs)

abbrev has_bad : List ℕ → Bool
has_bad [] = false
has_bad (b ∷ bs) = is_bad b bs || has_bad bs

kept_good : (b c : ℕ) → (nat_lt b 32 || (eqb b 127 || eqb b 194 && (nat_le 128 c && nat_le c 159))) ≡ false
    → (is_outside Playlist b || eqb b 194 && nat_le 128 c && nat_le c 159) ≡ false
kept_good b c free = grind (arith, nat_tests)

last_good : (b : ℕ) → (nat_lt b 32 || (eqb b 127 || eqb b 194 && false)) ≡ false
    → (is_outside Playlist b || eqb b 194 && nat_le 128 10 && nat_le 10 159) ≡ false
last_good b free = grind (arith, nat_tests)

feed_good : (rest : List ℕ) → is_bad 10 rest ≡ false
feed_good [] = refl
feed_good (b ∷ rest) = refl

line_good : (line rest : List ℕ) → has_control line ≡ false → has_bad rest ≡ false → has_bad (line ++ 10 ∷ rest) ≡ false
line_good [] rest free good = or_from (is_bad 10 rest) (has_bad rest) (feed_good rest) good
line_good (b ∷ []) rest free good = let parts = or_parts (begins_with_control b []) false free in
    or_from (is_bad b (10 ∷ rest)) (has_bad (10 ∷ rest)) (last_good b parts.0)
    (or_from (is_bad 10 rest) (has_bad rest) (feed_good rest) good)
line_good (b ∷ (c ∷ bs)) rest free good = let parts = or_parts (begins_with_control b (c ∷ bs)) (has_control (c ∷ bs)) free in
    or_from (is_bad b (c ∷ (bs ++ 10 ∷ rest))) (has_bad (c ∷ (bs ++ 10 ∷ rest))) (kept_good b c parts.0)
    (line_good (c ∷ bs) rest parts.1 good)

lines_good : (lines : List WrittenLine) → All IsReadable lines → has_bad (lines_text lines) ≡ false
lines_good [] all = refl
lines_good (line ∷ lines) all = let is = All-head IsReadable line lines all in
    subst (λ (text : List ℕ). has_bad text ≡ false) (sym (append_assoc (line_bytes line) (10 ∷ []) (lines_text lines)))
    (line_good (line_bytes line) (lines_text lines) is.plain.free (lines_good lines (All-tail IsReadable line lines all)))

lines_utf8 : (lines : List WrittenLine) → All IsReadable lines → IsUtf8 (lines_text lines)
lines_utf8 [] all = IsUtf8-nil
lines_utf8 (line ∷ lines) all = let is = All-head IsReadable line lines all in
    IsUtf8-append (line_bytes line ++ 10 ∷ []) (lines_text lines)
    (IsUtf8-append (line_bytes line) (10 ∷ []) is.plain.utf8 (IsUtf8-from_ascii (10 ∷ []) (IsAscii-cons 10 [] (omega arith) IsAscii-nil)))
    (lines_utf8 lines (All-tail IsReadable line lines all))

no_low : (bytes : List ℕ) → has_bad bytes ≡ false → position_or_len (is_outside Playlist) bytes ≡ length bytes
no_low [] good = refl
no_low (b ∷ bs) good =
    let parts = or_parts (is_bad b bs) (has_bad bs) good in
    let one = or_parts (is_outside Playlist b) (begins_with_high_control (b ∷ bs)) parts.0 in
    rw one.0 (omega (arith, no_low bs parts.1))

no_high : (at : ℕ) (bytes : List ℕ) → has_bad bytes ≡ false → high_control_from at bytes ≡ None
no_high at [] good = refl
no_high at (b ∷ bs) good =
    let parts = or_parts (is_bad b bs) (has_bad bs) good in
    let one = or_parts (is_outside Playlist b) (begins_with_high_control (b ∷ bs)) parts.0 in
    rw one.1 (no_high (suc at) bs parts.1)

no_control : (bytes : List ℕ) → has_bad bytes ≡ false → first_control bytes ≡ None
no_control bytes good = rw (no_low bytes good, le-ltb (length bytes) (length bytes) (omega arith), no_high 0 bytes good) refl

-- ---- the law

headed : (lines : List WrittenLine) → has_header (lines_text (header ∷ lines)) ≡ true
unfolding line_bytes
headed lines = refl

header_readable : IsReadable header
unfolding line_bytes
header_readable = record { plain = plain_ascii (codes "#EXTM3U") refl; ends = refl; whole = tt }

pub written_are_read : WrittenLinesAreRead
unfolding lines_of clean
written_are_read lines all =
    let whole = All-cons IsReadable header lines header_readable all in
    let bytes = lines_text (header ∷ lines) in
    rw (
      is_utf8-from_IsUtf8 bytes (lines_utf8 (header ∷ lines) whole),
      no_control bytes (lines_good (header ∷ lines) whole),
      headed lines,
    )
    (ap Ok (said_lines start (header ∷ lines) whole))
