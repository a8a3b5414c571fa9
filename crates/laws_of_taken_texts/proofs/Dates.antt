-- What dates and durations the lines of a written playlist tell.
use Rattle.hls_lines.specs.Lines as said
use Rattle.std.proofs.Common.{◌≡◌, ℕ, ℤ, zero, suc, ◌≤◌, Bool, true, false, List, [], ◌∷◌, ◌++◌, length, map, replicate, codes, option_map}
use Rattle.std.proofs.Common.{Option, Some, None, Result, Ok, Err, refl, sym, ◌∙◌, ap, arith, inl, inr, append_assoc, length-append}
use Rattle.std.proofs.{lemmas.Bool.cases_Bool, lemmas.List.{append-nil, length-map}}
use Rattle.std.proofs.lemmas.List.Elements.{All-cons, All-head, All-nil, All-tail}
use Rattle.std.specs.{Prelude.if◌then◌else◌, List.{All, flat_map}, Result.result_ok}
use Rattle.bridge_io.specs.declared.place.Place.{Place}
use Rattle.iso_time.specs.{Civil.instant_text, Instant.instant_of, declared.instant.InstantFault.InstantFault}
use Rattle.url_parts.specs.declared.{address.Part.Part, range.Range.Range}
use Rattle.hls_lines.specs.Lines.{PlaylistLine, behind, start}
use Rattle.hls_media.specs.{Media.{is_long, long_faults}, Values.duration_of}
use Rattle.hls_writer.specs.Lines.{WrittenLine, discontinuity, initialization, program_date_time, duration, byte_range, uri, line_bytes}
use Rattle.hls_writer.specs.{Lines.seconds_bytes, Items.item_of, Playlists.{Head, begins_section, end_lines, items_lines, own_lines}}
use Rattle.hls_writer.specs.{Playlists.{present, rise}, declared.items.MediaItem.MediaItem}
use Rattle.followed_text.specs.Followed.{date_of, dates_of, with_date}
use Rattle.laws_of_playlists.specs.{ReadLines.said_from_place, ReadMedia.nanos_of}
use Rattle.laws_of_playlists.proofs.Values.{duration_is}
use Rattle.laws_of_published_texts.proofs.{Lines.written, Maps.IsGood}

-- ---- what only dates and durations tell

-- what the lines of a segment tell, where those of an init segment, a byte range and a URI tell nothing
abbrev pub told : {X : Type 0} → (WrittenLine → List X) → (digits : ℕ) → MediaItem → List X
told tells digits item = tells (program_date_time item.date) ++ tells (duration digits item.duration)

module _ {X : Type 0} (tells : WrittenLine → List X) (no_gap : tells discontinuity ≡ [])
    (no_map : (m : Part) → tells (initialization m) ≡ [])
    (no_range : (r : Range) → tells (byte_range r) ≡ []) (no_uri : (a : List ℕ) → tells (uri a) ≡ []) where
  none_in : (o : Option Range) (address : List ℕ) (rest : List WrittenLine)
      → flat_map tells (present (option_map byte_range o ∷ Some (uri address) ∷ []) ++ rest) ≡ flat_map tells rest
  none_in None address rest = rw (no_uri address) refl
  none_in (Some range) address rest = rw (no_range range, no_uri address) refl

  from_date : (digits : ℕ) (item : MediaItem) (rest : List WrittenLine)
      → flat_map tells (present (Some (program_date_time item.date) ∷ Some (duration digits item.duration)
      ∷ option_map byte_range item.range ∷ Some (uri item.address) ∷ []) ++ rest) ≡ told tells digits item ++ flat_map tells rest
  from_date digits item rest =
      ap (λ more. tells (program_date_time item.date) ++ (tells (duration digits item.duration) ++ more))
      (none_in item.range item.address rest)
      ∙ sym (append_assoc (tells (program_date_time item.date)) (tells (duration digits item.duration)) (flat_map tells rest))

  own_told : (digits : ℕ) (former : Option ℕ) (item : MediaItem) (rest : List WrittenLine)
      → flat_map tells (own_lines digits former (item_of item) ++ rest) ≡ told tells digits item ++ flat_map tells rest
  own_told digits former item rest = elim (cases_Bool (begins_section former item.section)) [
    | inl begins ↦ rw (begins, no_map item.map) (from_date digits item rest)
    | inr other ↦ rw other (from_date digits item rest)
  ]

  gaps_told : (k : ℕ) (rest : List WrittenLine) → flat_map tells (replicate k discontinuity ++ rest) ≡ flat_map tells rest
  gaps_told zero rest = refl
  gaps_told (suc k) rest = rw no_gap (gaps_told k rest)

  pub items_told : (digits : ℕ) (former : Option ℕ) (items : List MediaItem) (rest : List WrittenLine)
      → flat_map tells (items_lines digits former (map item_of items) ++ rest) ≡ flat_map (told tells digits) items ++ flat_map tells rest
  items_told digits former [] rest = refl
  items_told digits former (item ∷ items) rest =
      let more = items_lines digits (Some item.section) (map item_of items) ++ rest in
      let gaps = replicate (rise former item.section) discontinuity in
      let own = own_lines digits former (item_of item) in
      ap (flat_map tells) (append_assoc (gaps ++ own) (items_lines digits (Some item.section) (map item_of items)) rest
      ∙ append_assoc gaps own more)
      ∙ gaps_told (rise former item.section) (own ++ more) ∙ own_told digits former item more
      ∙ ap (λ others. told tells digits item ++ others) (items_told digits (Some item.section) items rest)
      ∙ sym (append_assoc (told tells digits item) (flat_map (told tells digits) items) (flat_map tells rest))

-- ---- dates

-- the date that a line tells, if it is read as one
abbrev pub date_in : WrittenLine → List ℤ
date_in (program_date_time instant) = with_date (date_of (said.tag (codes "EXT-X-PROGRAM-DATE-TIME") (instant_text instant) start)) []
date_in line = []

with_dates : (o : Option ℤ) (dates : List ℤ) → with_date o dates ≡ with_date o [] ++ dates
with_dates None dates = refl
with_dates (Some date) dates = refl

pub dates_are : (place : Place) (lines : List WrittenLine) → dates_of (said_from_place place lines) ≡ flat_map date_in lines
dates_are place [] = refl
dates_are place (program_date_time instant ∷ lines) =
    with_dates (date_of (said.tag (codes "EXT-X-PROGRAM-DATE-TIME") (instant_text instant) start)) _
    ∙ ap (λ more. date_in (program_date_time instant) ++ more) (dates_are (behind (line_bytes (program_date_time instant)) place) lines)
dates_are place (line ∷ lines) = dates_are (behind (line_bytes line) place) lines

-- a date is read as it is written: it has no part of a millisecond
abbrev pub IsDated : MediaItem → Type 0
IsDated item = instant_of (instant_text item.date) ≡ Ok item.date

abbrev pub date_told : MediaItem → List ℤ
date_told item = date_in (program_date_time item.date) ++ []

pub dates_told : (items : List MediaItem) → All IsDated items → flat_map date_told items ≡ map (λ (item : MediaItem). item.date) items
dates_told [] all = refl
dates_told (item ∷ items) all =
    rw (All-head IsDated item items all) (ap (λ more. item.date ∷ more) (dates_told items (All-tail IsDated item items all)))

few_with : (o : Option ℤ) → length (with_date o [] ++ []) ≤ 1
few_with None = omega arith
few_with (Some date) = omega arith

pub few_dates : (items : List MediaItem) → length (flat_map date_told items) ≤ length items
few_dates [] = omega arith
few_dates (item ∷ items) = omega (
  arith,
  length-append (date_told item) (flat_map date_told items),
  few_with (result_ok (instant_of (instant_text item.date))),
  few_dates items,
)

pub dated : (items : List MediaItem) → map (λ (item : MediaItem). item.date) items ≡ flat_map date_told items → All IsDated items
dated [] is = All-nil IsDated
dated (item ∷ items) is = by_result (dated items) (instant_of (instant_text item.date)) refl
  where
    by_result : (map (λ (item : MediaItem). item.date) items ≡ flat_map date_told items → All IsDated items)
        → (r : Result ℤ InstantFault) → instant_of (instant_text item.date) ≡ r → All IsDated (item ∷ items)
    by_result later (Err f) of =
        let short : item.date ∷ map (λ (item : MediaItem). item.date) items ≡ flat_map date_told items = rw of at is in
        let many = ap (λ (l : List ℤ). length l) short in
        absurd (omega (arith, many, length-map items (λ (item : MediaItem). item.date), few_dates items))
    by_result later (Ok date) of =
        let both : item.date ∷ map (λ (item : MediaItem). item.date) items ≡ date ∷ flat_map date_told items = rw of at is in
        let own : date ≡ item.date = cc in
        let more : map (λ (item : MediaItem). item.date) items ≡ flat_map date_told items = cc in
        All-cons IsDated item items (of ∙ ap Ok own) (later more)

no_date : (ended : Bool) → flat_map date_in (end_lines ended) ≡ []
no_date true = refl
no_date false = refl

pub list_dates : (head : Head) (items : List MediaItem)
    → dates_of (said_from_place start (written head (map item_of items))) ≡ flat_map date_told items
list_dates head items =
    dates_are start (written head (map item_of items))
    ∙ items_told date_in refl (λ m. refl) (λ r. refl) (λ a. refl) head.digits None items (end_lines head.ended)
    ∙ ap (λ more. flat_map date_told items ++ more) (no_date head.ended) ∙ append-nil (flat_map date_told items)

-- ---- durations

-- a duration that isn't above the target duration, to the nearest second
abbrev pub IsShortFor : (target digits : ℕ) → MediaItem → Type 0
IsShortFor target digits item = is_long target (Some (nanos_of digits item.duration)) ≡ false

-- a duration that is too long
abbrev pub long_in : (target : ℕ) → WrittenLine → List ℕ
long_in target (duration digits units) =
    if is_long target (duration_of (seconds_bytes digits units ++ codes ",")) then units ∷ [] else []
long_in target line = []

module _ (target : ℕ) where
  pub long_are : (place : Place) (lines : List WrittenLine) → long_faults target (said_from_place place lines) ≡ []
      → flat_map (long_in target) lines ≡ []
  long_are place [] none = refl
  long_are place (duration digits units ∷ lines) none = elim (cases_Bool
      (is_long target (duration_of (seconds_bytes digits units ++ codes ",")))) [
        | inl long ↦ let never = rw long at none in absurd (cc)
        | inr short ↦ rw short (long_are (behind (line_bytes (duration digits units)) place) lines (rw short at none))
      ]
  long_are place (line ∷ lines) none = long_are (behind (line_bytes line) place) lines none

  short_from : (digits : ℕ) → digits ≤ 9 → (items : List MediaItem) → All (IsGood digits) items
      → flat_map (told (long_in target) digits) items ≡ [] → All (IsShortFor target digits) items
  short_from digits few [] good none = All-nil (IsShortFor target digits)
  short_from digits few (item ∷ items) good none =
      let lasts = duration_is digits item.duration few (All-head (IsGood digits) item items good).short in
      elim (cases_Bool (is_long target (Some (nanos_of digits item.duration)))) [
        | inl long ↦
            let never : item.duration ∷ flat_map (told (long_in target) digits) items ≡ [] = rw (lasts, long) at none in absurd (cc)
        | inr short ↦
            let more : flat_map (told (long_in target) digits) items ≡ [] = rw (lasts, short) at none in
            All-cons (IsShortFor target digits) item items short
            (short_from digits few items (All-tail (IsGood digits) item items good) more)
      ]

  front_empty : (xs ys : List ℕ) → xs ++ ys ≡ [] → xs ≡ []
  front_empty [] ys none = refl
  front_empty (x ∷ xs) ys none = absurd (cc)

  pub all_short : (head : Head) (items : List MediaItem) → head.digits ≤ 9 → All (IsGood head.digits) items
      → long_faults target (said_from_place start (written head (map item_of items))) ≡ []
      → All (IsShortFor target head.digits) items
  all_short head items few good none =
      let from_lines = items_told (long_in target) refl (λ m. refl) (λ r. refl) (λ a. refl) head.digits None items (end_lines head.ended) in
      short_from head.digits few items good (front_empty (flat_map (told (long_in target) head.digits) items) _
      (sym from_lines ∙ long_are start (written head (map item_of items)) none))
