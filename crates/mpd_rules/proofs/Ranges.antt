-- The ranges that an MPD's attributes tell.
use Rattle.mpd_levels.specs.declared.level.Means.TheVariants as means
use Rattle.std.proofs.Common.{◌≡◌, ℕ, ◌+◌, ◌-◌, ◌<◌, ◌≤◌, ◌^◌, ◌&&◌, Bool, true, false, List, length, Option, Some, None, IfSome, nat_le}
use Rattle.std.proofs.{Common.{nat_lt, refl, arith}, lemmas.Bool.Decides.nat_tests}
use Rattle.std.specs.{Prelude.{codes, drop, take, position, option_and_then, option_map, if◌then◌else◌, ◌==◌, ◌∷◌, []}, Char.is_ascii_digit}
use Rattle.std.specs.{Str.Parse.digits_value, List.list_all}
use Rattle.url_parts.specs.{declared.range.Range.Range, Ranges.{place_of, range_at, range_between, range_of}}
use Rattle.mpd_values.specs.{declared.blank.Blank.TheVariants.Space, Blanks.trimmed}
use Rattle.mpd_tree.specs.Trees.{Element}
use Rattle.mpd_profile.specs.Heads.{or_else, value_named}
use Rattle.mpd_levels.specs.{declared.indexed.IndexRow.IndexRow, declared.level.Means.Means}
use Rattle.mpd_levels.specs.{Indexed.{base_in, index_by, index_in, index_of}, Levels.{base_name, used}, Readings.{child_named, range_in}}
use Rattle.mpd_rules.specs.Ranges.{IsSomeBytes}

third : (a b c : Bool) → (a && b && c) ≡ true → c ≡ true
third true true c is = is
third true false c is = absurd (cc)
third false b c is = absurd (cc)

pub below_bound : (n bound : ℕ) → nat_lt n bound ≡ true → n < bound
below_bound n bound is = grind (arith, nat_tests)

in_order : (first last : ℕ) → nat_le first last ≡ true → first ≤ last
in_order first last is = grind (arith, nat_tests)

pub if_passes : (b : Bool) (n : ℕ) (P : ℕ → Type 0) → (b ≡ true → P n) → IfSome (if b then Some n else None) P
if_passes true n P passes = passes refl
if_passes false n P passes = tt

abbrev IsPlace : ℕ → Type 0
IsPlace n = n < 2 ^ 63

place_is : (digits : List ℕ) → IfSome (place_of digits) IsPlace
place_is digits =
    let value = digits_value 10 digits in
    let one = list_all is_ascii_digit digits in
    let two = nat_lt 0 (length digits) in
    let small = nat_lt value (2 ^ 63) in
    if_passes (one && two && small) value IsPlace (λ is. below_bound value (2 ^ 63) (third one two small is))

abbrev range_from : (first last : ℕ) → Range
range_from first last = record { first = first; count = last - first + 1 }

span : (first last : ℕ) (b : Bool) → first < 2 ^ 63 → last < 2 ^ 63 → nat_le first last ≡ b
    → IfSome (if b then Some (range_from first last) else None) IsSomeBytes
span first last true low high order = (let before = in_order first last order in record { some = omega arith; bounded = omega arith })
span first last false low high order = tt

between : (first last : Option ℕ) → IfSome first IsPlace → IfSome last IsPlace → IfSome (range_between first last) IsSomeBytes
between (Some first) (Some last) low high = span first last (nat_le first last) low high refl
between (Some first) None low high = tt
between None last low high = tt

range_some : (text : List ℕ) → IfSome (range_of text) IsSomeBytes
range_some text = at_hyphen (position (λ b. b == 45) text)
  where
    at_hyphen : (o : Option ℕ) → IfSome (range_at text o) IsSomeBytes
    at_hyphen None = tt
    at_hyphen (Some hyphen) = between (place_of (take hyphen text)) (place_of (drop (hyphen + 1) text)) (place_is (take hyphen text))
        (place_is (drop (hyphen + 1) text))

pub named_some : (o : Option (List ℕ)) → IfSome (option_and_then range_in o) IsSomeBytes
named_some None = tt
named_some (Some text) = range_some (trimmed Space text)

-- ---- the bytes of an index

-- the row's range, if it tells one
abbrev pub HasBytes : IndexRow → Type 0
HasBytes row = IfSome row.range IsSomeBytes

or_bytes : (child : Option Element) (other : Option IndexRow) → IfSome other HasBytes
    → IfSome (or_else (option_map index_in child) other) HasBytes
or_bytes None other has = has
or_bytes (Some base) other has = named_some (value_named (codes "indexRange") base.head)

base_bytes : (levels : List Element) → IfSome (base_in levels) HasBytes
base_bytes [] = tt
base_bytes (level ∷ levels) = or_bytes (child_named base_name level) (base_in levels) (base_bytes levels)

by_bytes : (means : Option Means) (levels : List Element) → IfSome (index_by means levels) HasBytes
by_bytes (Some means.Base) levels = base_bytes levels
by_bytes (Some means.Template) levels = tt
by_bytes (Some means.List) levels = tt
by_bytes None levels = tt

pub index_bytes : (levels : List Element) → IfSome (index_of levels) HasBytes
unfolding index_of
index_bytes levels = by_bytes (used levels) levels
