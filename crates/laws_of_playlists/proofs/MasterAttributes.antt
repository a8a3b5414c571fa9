-- The attributes of a master's lines are read as they were written.
use Rattle.std.proofs.Common.{◌≡◌, ℕ, zero, suc, ◌+◌, ◌/◌, ◌%◌, ◌^◌, ◌<◌, Bool, true, false, not, ◌&&◌, eqb, leb, List, [], ◌∷◌, ◌++◌}
use Rattle.std.proofs.Common.{length, map, codes, decimal, Option, Ok, refl, sym, subst, arith, inl, inr, append-nil, length-append}
use Rattle.std.proofs.{lemmas.Bool.{and_from, and_parts, not-true, or_from, or_parts}, lemmas.Bool.Decides.nat_tests}
use Rattle.std.proofs.lemmas.List.Folds.{list_all-append, list_any-append}
use Rattle.std.specs.{Bool.⊤, List.{AllByRecursion, list_any, list_all}}
use Rattle.iso_time.specs.Digits.{padded_digits}
use Rattle.bridge_io.specs.declared.place.Place.{Place}
use Rattle.hls_lines.specs.Attributes.{NameValue, attributes_of, ends_value, is_name, is_name_byte, is_quote, names_of, repeats_after}
use Rattle.hls_lines.specs.Grammar.{AreWritten, IsWritten, IsWrittenValue}
use Rattle.hls_lines.proofs.Grammar.{read}
use Rattle.hls_writer.specs.Attributes.{WrittenAttribute, media_type, group_id, name, label, language, default, autoselect, forced}
use Rattle.hls_writer.specs.Attributes.{describes_video, transcribes_sound, channels, playlist, bandwidth, codecs, resolution, frame_rate}
use Rattle.hls_writer.specs.Attributes.{renditions, no_captions, attribute_bytes, attributes_bytes, codes_bytes, group_bytes, playlist_name}
use Rattle.hls_writer.specs.Attributes.{quoted, tag_or_undetermined, thousandths_bytes, type_name, yes_or_no}
use Rattle.laws_of_playlists.specs.ReadLines.{IsPlain, ends_visibly, is_printable}
use Rattle.laws_of_playlists.proofs.{WrittenLines.weaker, MasterTypes.{IsKnown, RenditionGroup, audio_group, of_known, text_group}}
use Rattle.laws_of_playlists.proofs.LineTexts.{plain_append, plain_ascii, plain_behind}
use Rattle.laws_of_playlists.proofs.MasterNames.{decimal_digits, decimal_some, is_digit, named}

-- ---- a name and a value

abbrev pub pair_of : WrittenAttribute → NameValue
pair_of (media_type group) = (codes "TYPE", type_name group)
pair_of (group_id group) = (codes "GROUP-ID", group_bytes group)
pair_of (name stem number) = (codes "NAME", named stem number)
pair_of (label text) = (codes "NAME", text)
pair_of (language tag) = (codes "LANGUAGE", tag)
pair_of (default is) = (codes "DEFAULT", yes_or_no is)
pair_of (autoselect is) = (codes "AUTOSELECT", yes_or_no is)
pair_of forced = (codes "FORCED", codes "YES")
pair_of describes_video = (codes "CHARACTERISTICS", codes "public.accessibility.describes-video")
pair_of transcribes_sound = (
  codes "CHARACTERISTICS",
  codes "public.accessibility.transcribes-spoken-dialog,public.accessibility.describes-music-and-sound",
)
pair_of (channels count) = (codes "CHANNELS", decimal count)
pair_of (playlist track) = (codes "URI", playlist_name track)
pair_of (bandwidth bits) = (codes "BANDWIDTH", decimal bits)
pair_of (codecs list) = (codes "CODECS", codes_bytes list)
pair_of (resolution size) = (codes "RESOLUTION", decimal size.width ++ 120 ∷ decimal size.height)
pair_of (frame_rate thousandths) = (codes "FRAME-RATE", thousandths_bytes thousandths)
pair_of (renditions group) = (type_name group, group_bytes group)
pair_of no_captions = (codes "CLOSED-CAPTIONS", codes "NONE")

-- ---- characters

-- a printed ASCII character or a space, but no `"`
abbrev pub is_carried : ℕ → Bool
is_carried b = leb 32 b && (leb b 126 && not (eqb b 34))

abbrev pub IsCarried : List ℕ → Type 0
IsCarried text = list_all is_carried text ≡ true

pub carried_append : (xs ys : List ℕ) → IsCarried xs → IsCarried ys → IsCarried (xs ++ ys)
carried_append xs ys first second = rw (list_all-append is_carried xs ys, first) second

digit_carried : (b : ℕ) → is_digit b ≡ true → is_carried b ≡ true
digit_carried b e = grind (arith, nat_tests)

digit_plain : (b : ℕ) → is_digit b ≡ true → not (ends_value b) ≡ true
digit_plain b e = grind (arith, nat_tests)

carried_printable : (b : ℕ) → is_carried b ≡ true → is_printable b ≡ true
carried_printable b e = grind (arith, nat_tests)

carried_unquoted : (b : ℕ) → is_carried b ≡ true → not (is_quote b) ≡ true
carried_unquoted b e = grind (arith, nat_tests)

number_carried : (n : ℕ) → IsCarried (decimal n)
number_carried n = weaker is_digit is_carried digit_carried (decimal n) (decimal_digits n)

none_any : (test : ℕ → Bool) (bs : List ℕ) → list_all (λ b. not (test b)) bs ≡ true → list_any test bs ≡ false
none_any test [] all = refl
none_any test (b ∷ bs) all = let parts = and_parts (not (test b)) (list_all (λ c. not (test c)) bs) all in
    or_from (test b) (list_any test bs) (not-true (test b) parts.0) (none_any test bs parts.1)

unquoted : (text : List ℕ) → IsCarried text → list_any is_quote text ≡ false
unquoted text carried = none_any is_quote text (weaker is_carried (λ b. not (is_quote b)) carried_unquoted text carried)

pub carried_text : (text : List ℕ) → IsCarried text → list_all is_printable text ≡ true
carried_text text = weaker is_carried is_printable carried_printable text

-- what an attribute can have in quotes
pub record IsSaid (text : List ℕ) : Type 0 where
  pub plain : IsPlain text
  pub unquoted : list_any is_quote text ≡ false

pub carried_said : (text : List ℕ) → IsCarried text → IsSaid text
carried_said text carried = record { plain = plain_ascii text (carried_text text carried); unquoted = unquoted text carried }

-- ---- numbers

abbrev is_plain : ℕ → Bool
is_plain b = not (ends_value b)

number_plain : (n : ℕ) → list_all is_plain (decimal n) ≡ true
number_plain n = weaker is_digit is_plain digit_plain (decimal n) (decimal_digits n)

padded_digits_are : (width n : ℕ) → list_all is_digit (padded_digits width n) ≡ true
unfolding padded_digits
padded_digits_are zero n = refl
padded_digits_are (suc width) n = let one : is_digit (48 + n / 10 ^ width % 10) ≡ true = digit (n / 10 ^ width) in
    and_from _ _ one (padded_digits_are width n)
  where
    digit : (m : ℕ) → is_digit (48 + m % 10) ≡ true
    digit m = grind (arith, nat_tests)

-- ---- values

-- a value that is written as it is
plain_value : (value : List ℕ) → 0 < length value → list_all is_plain value ≡ true → IsWrittenValue value value
plain_value value some all = inl (record { is = refl; some = some; clean = none_any ends_value value all })

quoted_value : (value : List ℕ) → IsSaid value → IsWrittenValue value (quoted value)
quoted_value value said = inr (record { is = refl; clean = said.unquoted })

marked_value : (front rest : List ℕ) (mark : ℕ) → 0 < length front → list_all is_plain front ≡ true → is_plain mark ≡ true
    → list_all is_plain rest ≡ true → IsWrittenValue (front ++ mark ∷ rest) (front ++ mark ∷ rest)
marked_value front rest mark some plain is more = plain_value (front ++ mark ∷ rest)
    (omega (arith, length-append front (mark ∷ rest), some)) (rw (list_all-append is_plain front (mark ∷ rest), plain, is) more)

-- what is carried of an attribute
abbrev pub IsFine : WrittenAttribute → Type 0
IsFine (media_type group) = IsKnown group
IsFine (group_id group) = IsKnown group
IsFine (renditions group) = IsKnown group
IsFine (name stem number) = IsSaid (tag_or_undetermined stem)
IsFine (label text) = IsSaid text
IsFine (language tag) = IsCarried tag
IsFine (codecs list) = IsCarried (codes_bytes list)
IsFine _ = ⊤

group_carried : (group : RenditionGroup) → IsKnown group → IsCarried (group_bytes group)
group_carried = of_known (λ group. IsCarried (group_bytes group))
    (λ number. carried_append (codes "a") (decimal number) refl (number_carried number))
    (carried_append (codes "s") (decimal 0) refl (number_carried 0))

pub playlist_carried : (track : ℕ) → IsCarried (playlist_name track)
playlist_carried track = carried_append (codes "t" ++ decimal track) (codes ".m3u8")
    (carried_append (codes "t") (decimal track) refl (number_carried track)) refl

name_said : (stem : Option (List ℕ)) (number : ℕ) → IsSaid (tag_or_undetermined stem) → IsSaid (named stem number)
name_said stem number said = let rest = carried_said (45 ∷ decimal number) (number_carried number) in record {
  plain = plain_append (tag_or_undetermined stem) 45 (decimal number) (omega arith) said.plain rest.plain;
  unquoted = rw (list_any-append is_quote (tag_or_undetermined stem) (45 ∷ decimal number), said.unquoted) rest.unquoted;
}

abbrev Written : WrittenAttribute → Type 0
Written attribute = IsWritten (pair_of attribute) (attribute_bytes attribute)

of_value : (attribute : NameValue) (value : List ℕ) → is_name attribute.0 ≡ true → IsWrittenValue attribute.1 value
    → IsWritten attribute (attribute.0 ++ 61 ∷ value)
of_value attribute value named valued = record { value = value; is = refl; named = named; valued = valued }

pub attribute_written : (attribute : WrittenAttribute) → IsFine attribute → Written attribute
unfolding attribute_bytes
attribute_written (media_type group) fine = of_known (λ group. Written (media_type group))
    (λ number. of_value (codes "TYPE", codes "AUDIO") (codes "AUDIO") refl (plain_value (codes "AUDIO") (omega arith) refl))
    (of_value (codes "TYPE", codes "SUBTITLES") (codes "SUBTITLES") refl (plain_value (codes "SUBTITLES") (omega arith) refl)) group fine
attribute_written (group_id group) fine = of_value (codes "GROUP-ID", group_bytes group) (quoted (group_bytes group)) refl
    (quoted_value (group_bytes group) (carried_said (group_bytes group) (group_carried group fine)))
attribute_written (name stem number) fine = of_value (codes "NAME", named stem number) (quoted (named stem number)) refl
    (quoted_value (named stem number) (name_said stem number fine))
attribute_written (label text) fine = of_value (codes "NAME", text) (quoted text) refl (quoted_value text fine)
attribute_written (language tag) fine = of_value (codes "LANGUAGE", tag) (quoted tag) refl (quoted_value tag (carried_said tag fine))
attribute_written (default true) fine = of_value (codes "DEFAULT", codes "YES") (codes "YES") refl
    (plain_value (codes "YES") (omega arith) refl)
attribute_written (default false) fine = of_value (codes "DEFAULT", codes "NO") (codes "NO") refl
    (plain_value (codes "NO") (omega arith) refl)
attribute_written (autoselect true) fine = of_value (codes "AUTOSELECT", codes "YES") (codes "YES") refl
    (plain_value (codes "YES") (omega arith) refl)
attribute_written (autoselect false) fine = of_value (codes "AUTOSELECT", codes "NO") (codes "NO") refl
    (plain_value (codes "NO") (omega arith) refl)
attribute_written forced fine = of_value (codes "FORCED", codes "YES") (codes "YES") refl (plain_value (codes "YES") (omega arith) refl)
attribute_written describes_video fine = let text = (pair_of describes_video).1 in
    of_value (codes "CHARACTERISTICS", text) (quoted text) refl (quoted_value text (carried_said text refl))
attribute_written transcribes_sound fine = let text = (pair_of transcribes_sound).1 in
    of_value (codes "CHARACTERISTICS", text) (quoted text) refl (quoted_value text (carried_said text refl))
attribute_written (channels count) fine = of_value (codes "CHANNELS", decimal count) (quoted (decimal count)) refl
    (quoted_value (decimal count) (carried_said (decimal count) (number_carried count)))
attribute_written (playlist track) fine = of_value (codes "URI", playlist_name track) (quoted (playlist_name track)) refl
    (quoted_value (playlist_name track) (carried_said (playlist_name track) (playlist_carried track)))
attribute_written (bandwidth bits) fine = of_value (codes "BANDWIDTH", decimal bits) (decimal bits) refl
    (plain_value (decimal bits) (decimal_some bits) (number_plain bits))
attribute_written (codecs list) fine = of_value (codes "CODECS", codes_bytes list) (quoted (codes_bytes list)) refl
    (quoted_value (codes_bytes list) (carried_said (codes_bytes list) fine))
attribute_written (resolution size) fine = of_value (codes "RESOLUTION", decimal size.width ++ 120 ∷ decimal size.height)
    (decimal size.width ++ 120 ∷ decimal size.height) refl
    (marked_value (decimal size.width) (decimal size.height) 120 (decimal_some size.width) (number_plain size.width) refl
    (number_plain size.height))
attribute_written (frame_rate thousandths) fine = of_value (codes "FRAME-RATE", thousandths_bytes thousandths)
    (thousandths_bytes thousandths) refl
    (marked_value (decimal (thousandths / 1000)) (padded_digits 3 thousandths) 46 (decimal_some (thousandths / 1000))
    (number_plain (thousandths / 1000)) refl (weaker is_digit is_plain digit_plain (padded_digits 3 thousandths)
    (padded_digits_are 3 thousandths)))
attribute_written (renditions group) fine = of_known (λ group. IsCarried (group_bytes group) → Written (renditions group))
    (λ number carried. of_value (codes "AUDIO", group_bytes (audio_group number)) (quoted (group_bytes (audio_group number))) refl
    (quoted_value (group_bytes (audio_group number)) (carried_said (group_bytes (audio_group number)) carried)))
    (λ carried. of_value (codes "SUBTITLES", group_bytes text_group) (quoted (group_bytes text_group)) refl
    (quoted_value (group_bytes text_group) (carried_said (group_bytes text_group) carried))) group fine (group_carried group fine)
attribute_written no_captions fine = of_value (codes "CLOSED-CAPTIONS", codes "NONE") (codes "NONE") refl
    (plain_value (codes "NONE") (omega arith) refl)

-- ---- lists

pub all_written : (first : WrittenAttribute) (others : List WrittenAttribute) → AllByRecursion IsFine (first ∷ others)
    → AreWritten (map pair_of (first ∷ others)) (attributes_bytes first others)
all_written first [] fine = subst (IsWritten (pair_of first)) (sym (append-nil (attribute_bytes first))) (attribute_written first fine.0)
all_written first (next ∷ others) fine = record {
  front = attribute_bytes first;
  comma = 44 ∷ [];
  rest = attributes_bytes next others;
  is = refl;
  front_is = attribute_written first fine.0;
  comma_is = record { before = []; behind = []; is = refl; spaces_before = refl; spaces_behind = refl };
  rest_is = all_written next others fine.1;
}

-- attributes are told where no name stands twice
pub attributes_are : (first : WrittenAttribute) (others : List WrittenAttribute) (place : Place) → AllByRecursion IsFine (first ∷ others)
    → repeats_after [] (names_of (map pair_of (first ∷ others))) ≡ false
    → attributes_of (attributes_bytes first others) place ≡ Ok (map pair_of (first ∷ others))
unfolding attributes_of
attributes_are first others place fine once =
    rw (read (map pair_of (first ∷ others)) (attributes_bytes first others) (all_written first others fine), once) refl

-- ---- their characters

-- a text that isn't empty ends where its end ends
pub ends_append : (xs ys : List ℕ) → 0 < length ys → ends_visibly ys ≡ true → ends_visibly (xs ++ ys) ≡ true
ends_append [] ys some e = e
ends_append (x ∷ []) [] some e = absurd (omega arith)
ends_append (x ∷ []) (y ∷ ys) some e = e
ends_append (x ∷ (z ∷ xs)) ys some e = ends_append (z ∷ xs) ys some e

-- ---- the text of a list

-- without control characters, and with a visible one at its end
pub record IsReadableText (text : List ℕ) : Type 0 where
  pub some : 0 < length text
  pub plain : IsPlain text
  pub ends : ends_visibly text ≡ true

value_said : (attribute : WrittenAttribute) → IsFine attribute → IsSaid (pair_of attribute).1
value_said (media_type group) fine = of_known (λ group. IsSaid (type_name group)) (λ number. carried_said (codes "AUDIO") refl)
    (carried_said (codes "SUBTITLES") refl) group fine
value_said (group_id group) fine = carried_said (group_bytes group) (group_carried group fine)
value_said (name stem number) fine = name_said stem number fine
value_said (label text) fine = fine
value_said (language tag) fine = carried_said tag fine
value_said (default true) fine = carried_said (codes "YES") refl
value_said (default false) fine = carried_said (codes "NO") refl
value_said (autoselect true) fine = carried_said (codes "YES") refl
value_said (autoselect false) fine = carried_said (codes "NO") refl
value_said forced fine = carried_said (codes "YES") refl
value_said describes_video fine = carried_said (pair_of describes_video).1 refl
value_said transcribes_sound fine = carried_said (pair_of transcribes_sound).1 refl
value_said (channels count) fine = carried_said (decimal count) (number_carried count)
value_said (playlist track) fine = carried_said (playlist_name track) (playlist_carried track)
value_said (bandwidth bits) fine = carried_said (decimal bits) (number_carried bits)
value_said (codecs list) fine = carried_said (codes_bytes list) fine
value_said (resolution size) fine = carried_said (decimal size.width ++ 120 ∷ decimal size.height)
    (carried_append (decimal size.width) (120 ∷ decimal size.height) (number_carried size.width) (number_carried size.height))
value_said (frame_rate thousandths) fine = carried_said (thousandths_bytes thousandths)
    (carried_append (decimal (thousandths / 1000)) (46 ∷ padded_digits 3 thousandths) (number_carried (thousandths / 1000))
    (weaker is_digit is_carried digit_carried (padded_digits 3 thousandths) (padded_digits_are 3 thousandths)))
value_said (renditions group) fine = carried_said (group_bytes group) (group_carried group fine)
value_said no_captions fine = carried_said (codes "NONE") refl

name_printable : (b : ℕ) → is_name_byte b ≡ true → is_printable b ≡ true
name_printable b e = grind (arith, nat_tests)

ends_plain : (text : List ℕ) → list_any ends_value text ≡ false → ends_visibly text ≡ true
ends_plain [] free = refl
ends_plain (b ∷ []) free = no_space b (or_parts (ends_value b) false free).0
  where
    no_space : (b : ℕ) → ends_value b ≡ false → not (eqb b 32) ≡ true
    no_space b e = grind (arith, nat_tests)
ends_plain (b ∷ (c ∷ bs)) free = ends_plain (c ∷ bs) (or_parts (ends_value b) (list_any ends_value (c ∷ bs)) free).1

ends_cons : (b : ℕ) (text : List ℕ) → 0 < length text → ends_visibly text ≡ true → ends_visibly (b ∷ text) ≡ true
ends_cons b [] some e = absurd (omega arith)
ends_cons b (c ∷ text) some e = e

readable_written : (attribute : NameValue) (text : List ℕ) → IsWritten attribute text → IsSaid attribute.1 → IsReadableText text
readable_written attribute text is said = subst IsReadableText (sym is.is) (of_value is.valued)
  where
    front : list_all is_printable attribute.0 ≡ true
    front = weaker is_name_byte is_printable name_printable attribute.0
        (and_parts (not (eqb (length attribute.0) 0)) (list_all is_name_byte attribute.0) is.named).1

    of_value : IsWrittenValue attribute.1 is.value → IsReadableText (attribute.0 ++ 61 ∷ is.value)
    of_value (inl plain) = subst (λ (value : List ℕ). IsReadableText (attribute.0 ++ 61 ∷ value)) (sym plain.is) (record {
      some = omega (arith, length-append attribute.0 (61 ∷ attribute.1));
      plain = plain_behind attribute.0 (61 ∷ attribute.1) front (plain_behind (61 ∷ []) attribute.1 refl said.plain);
      ends = ends_append attribute.0 (61 ∷ attribute.1) (omega arith)
          (ends_cons 61 attribute.1 plain.some (ends_plain attribute.1 plain.clean));
    })
    of_value (inr quoted) = subst (λ (value : List ℕ). IsReadableText (attribute.0 ++ 61 ∷ value)) (sym quoted.is) (record {
      some = omega (arith, length-append attribute.0 (61 ∷ (34 ∷ (attribute.1 ++ 34 ∷ []))));
      plain = plain_behind attribute.0 (61 ∷ (34 ∷ (attribute.1 ++ 34 ∷ []))) front (plain_behind (61 ∷ (34 ∷ [])) (attribute.1 ++ 34 ∷ [])
          refl (plain_append attribute.1 34 [] (omega arith) said.plain (plain_ascii (34 ∷ []) refl)));
      ends = ends_append attribute.0 (61 ∷ (34 ∷ (attribute.1 ++ 34 ∷ []))) (omega arith)
          (ends_append (61 ∷ (34 ∷ attribute.1)) (34 ∷ []) (omega arith) refl);
    })

readable_attribute : (attribute : WrittenAttribute) → IsFine attribute → IsReadableText (attribute_bytes attribute)
readable_attribute attribute fine = readable_written (pair_of attribute) (attribute_bytes attribute) (attribute_written attribute fine)
    (value_said attribute fine)

pub readable_attributes : (first : WrittenAttribute) (others : List WrittenAttribute) → AllByRecursion IsFine (first ∷ others)
    → IsReadableText (attributes_bytes first others)
readable_attributes first [] fine = subst IsReadableText (sym (append-nil (attribute_bytes first))) (readable_attribute first fine.0)
readable_attributes first (next ∷ others) fine =
    let one = readable_attribute first fine.0 in
    let rest = readable_attributes next others fine.1 in record {
      some = omega (arith, length-append (attribute_bytes first) (44 ∷ attributes_bytes next others));
      plain = plain_append (attribute_bytes first) 44 (attributes_bytes next others) (omega arith) one.plain
          (plain_behind (44 ∷ []) (attributes_bytes next others) refl rest.plain);
      ends = ends_append (attribute_bytes first) (44 ∷ attributes_bytes next others) (omega arith)
          (ends_cons 44 (attributes_bytes next others) rest.some rest.ends);
    }
