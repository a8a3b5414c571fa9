-- What is read is bounded.
use Rattle.hls_media.specs.declared.fault.MediaFault.TheVariants as fault
use Rattle.hls_media.specs.declared.tag.Tag.TheVariants as tags
use Rattle.std.proofs.Common.{◌≡◌, ℕ, zero, suc, ◌+◌, ◌-◌, ◌^◌, ◌<◌, ◌≤◌, Bool, true, false, ◌||◌, List, [], ◌∷◌, ◌++◌, length, not, nat_lt}
use Rattle.std.proofs.Common.{nat_eq, cond, codes, Option, Some, None, Result, Ok, Err, IfSome, unwrap_or, is_some, refl, sym, ◌∙◌, ap}
use Rattle.std.proofs.{Common.{subst, arith, length-append}, lemmas.Bool.ltb-true, lemmas.Bool.Decides.nat_tests}
use Rattle.std.proofs.{lemmas.List.Elements.All-append, lemmas.List.Sorted.{IsNonDecreasingBy-push, IsNonDecreasingBy-short}}
use Rattle.std.specs.{List.{All, list_any}, List.Sorted.IsNonDecreasingBy}
use Rattle.bridge_io.specs.{Answer.and_then, Firsts.first_of, declared.place.Place.Place, Places.place_of}
use Rattle.hls_lines.specs.{Attributes.{attributes_of, value_of}, Lines.{PlaylistLine, tag, uri, is_uri, lines_of}}
use Rattle.hls_lines.specs.{declared.fault.LineFault.LineFault, Marks.parts_at}
use Rattle.url_parts.specs.{Addresses.resolve, declared.address.Part.Part, declared.range.Range.Range}
use Rattle.hls_media.specs.Laws.{IsBounded, IsBoundedPart, IsBoundedRange, IsBoundedSegment, ReadIsBounded, ReadIsMeant}
use Rattle.hls_media.specs.Media.{address_or_fault, after, after_all, after_tag, after_uri, attributes_or_fault, fault_in, faults_of}
use Rattle.hls_media.specs.Media.{former_end, length_or_fault, line_fault, line_faults, lines_or_fault, map_at, map_in, map_of}
use Rattle.hls_media.specs.Media.{map_range_of, media_at, media_in, media_of, media_values, most_segments, range_or_fault, section_of}
use Rattle.hls_media.specs.Media.{segment_lasting, segment_of, segment_range, segment_value, segment_with, tag_fault, value_or_fault}
use Rattle.hls_media.specs.{Media.{values_or_fault, with_fault}, States.{State, nothing}, Tags.tag_of, Values.{below, duration_of, end_of}}
use Rattle.hls_media.specs.Values.{first_byte, fitting, number_of, range_from, range_parts, range_with, is_at}
use Rattle.hls_media.specs.{declared.fault.MediaFault.MediaFault, declared.media.Media.Media, declared.media.MediaSegment.MediaSegment}
use Rattle.hls_media.specs.declared.tag.Tag.{Tag}
use Rattle.hls_media.proofs.Meanings.{map_told, segment_told}

-- ---- steps without a fault

pub both_ok : {A B : Type 0} (r : Result A MediaFault) (next : A → Result B MediaFault) (b : B) → and_then r next ≡ Ok b
    → (a : A) × ((r ≡ Ok a) × (next a ≡ Ok b))
both_ok (Ok a) next b e = (a, (refl, e))
both_ok (Err f) next b e = absurd (cc)

pub without_fault : {A : Type 0} (r : Result A MediaFault) → fault_in r ≡ None → (a : A) × (r ≡ Ok a)
without_fault (Ok a) e = (a, refl)
without_fault (Err f) e = absurd (cc)

-- ---- numbers

below_bound : (bound : ℕ) (place : Place) (o : Option ℕ) → fault_in (value_or_fault place (below bound o)) ≡ None → unwrap_or o 0 < bound
below_bound bound place None h = absurd (cc)
below_bound bound place (Some m) h = told (nat_lt m bound) refl h
  where
    told : (b : Bool) → nat_lt m bound ≡ b → fault_in (value_or_fault place (cond b (Some m) None)) ≡ None → m < bound
    told true e h = ltb-true _ _ e
    told false e h = absurd (cc)

-- a number that is told neither twice nor late
once_below : (bound : ℕ) (place : Place) (o : Option ℕ) (b : Bool)
    → fault_in (cond b (Err (fault.Misplaced place)) (value_or_fault place (below bound o))) ≡ None → (b ≡ false) × (unwrap_or o 0 < bound)
once_below bound place o true h = absurd (cc)
once_below bound place o false h = (refl, below_bound bound place o h)

lasts_at_most : (place : Place) (o : Option ℕ) (b : Bool) → fault_in (cond b (Err (fault.Misplaced place)) (length_or_fault place o))
    ≡ None → unwrap_or o 0 ≤ 10 ^ 15
lasts_at_most place o true h = absurd (cc)
lasts_at_most place None false h = absurd (cc)
lasts_at_most place (Some m) false h = told (nat_lt (10 ^ 15) m) refl h
  where
    told : (b : Bool) → nat_lt (10 ^ 15) m ≡ b → fault_in (cond b (Err (fault.Duration place)) (Ok m)) ≡ None → m ≤ 10 ^ 15
    told true e h = absurd (cc)
    told false e h = grind (arith, nat_tests)

-- ---- ranges

counted : (count first : Option ℕ) (range : Range) → range_with count first ≡ Some range → 1 ≤ range.count
counted None first range e = absurd (cc)
counted (Some n) None range e = absurd (cc)
counted (Some n) (Some first) range e = told (nat_eq n 0) refl e
  where
    told : (b : Bool) → nat_eq n 0 ≡ b → cond b None (Some (record { first = first; count = n })) ≡ Some range → 1 ≤ range.count
    told true z e = absurd (cc)
    told false z e = let same : n ≡ range.count = cc in grind (arith, nat_tests)

from_counted : (otherwise : Option ℕ) (text : List ℕ) (range : Range) → range_from otherwise text ≡ Some range → 1 ≤ range.count
unfolding range_from
from_counted otherwise text range e = let parts = range_parts (parts_at is_at text) text in
    counted (number_of parts.0) (first_byte otherwise parts.1) range e

pub fits : (otherwise : Option ℕ) (text : List ℕ) (range : Range) → fitting (range_from otherwise text) ≡ Some range → IsBoundedRange range
fits otherwise text range e = of_range (range_from otherwise text) refl e
  where
    of_range : (o : Option Range) → range_from otherwise text ≡ o → fitting o ≡ Some range → IsBoundedRange range
    of_range None f e = absurd (cc)
    of_range (Some r) f e = told (nat_lt (end_of r) (2 ^ 63)) refl e
      where
        told : (b : Bool) → nat_lt (end_of r) (2 ^ 63) ≡ b → cond b (Some r) None ≡ Some range → IsBoundedRange range
        told false z e = absurd (cc)
        told true z e = let same : r ≡ range = cc in record {
          count = from_counted otherwise text range (f ∙ ap Some same);
          ends = rw same at (ltb-true _ _ z);
        }

map_range_fits : (place : Place) (o : Option (List ℕ)) (range : Option Range) → map_range_of place o ≡ Ok range
    → IfSome range IsBoundedRange
map_range_fits place None range e = let same : None ≡ range = cc in rw (← same) tt
map_range_fits place (Some text) range e = told (fitting (range_from (Some 0) text)) refl e
  where
    told : (f : Option Range) → fitting (range_from (Some 0) text) ≡ f → and_then (value_or_fault place f) (λ r. Ok (Some r)) ≡ Ok range
        → IfSome range IsBoundedRange
    told None f e = absurd (cc)
    told (Some r) f e = let same : Some r ≡ range = cc in rw (← same) (fits (Some 0) text r f)

-- ---- maps and segments

map_fits : (url rest : List ℕ) (place : Place) (part : Part) → map_of url rest place ≡ Ok part → IsBoundedPart part
unfolding map_of
map_fits url rest place part e =
    let listed = both_ok (attributes_or_fault (attributes_of rest place)) (map_in url place) part e in
    let written = value_of (codes "BYTERANGE") listed.0 in
    let named = both_ok (value_or_fault place (value_of (codes "URI") listed.0))
    (λ reference. and_then (map_range_of place written) (map_at url place reference)) part listed.1.1 in
    let ranged = both_ok (map_range_of place written) (map_at url place named.0) part named.1.1 in
    let joined = both_ok (address_or_fault place (resolve url named.0))
    (λ address. Ok (record { address = address; range = ranged.0 })) part ranged.1.1 in
    let same : ranged.0 ≡ part.range = cc (joined.1.1) in
    rw (← same) (map_range_fits place written ranged.0 ranged.1.0)

-- what a segment took
record IsTaken (s : State) (segment : MediaSegment) : Type 0 where
  room : nat_eq (length s.segments) most_segments ≡ false
  range : IfSome segment.range IsBoundedRange

segment_range_fits : (s : State) (address : List ℕ) (o : Option (List ℕ × Place)) (range : Option Range)
    → segment_range s address o ≡ Ok range → IfSome range IsBoundedRange
segment_range_fits s address None range e = let same : None ≡ range = cc in rw (← same) tt
segment_range_fits s address (Some written) range e = told (fitting (range_from (former_end address s.segments) written.0)) refl e
  where
    told : (f : Option Range) → fitting (range_from (former_end address s.segments) written.0) ≡ f → range_or_fault written.1 f ≡ Ok range
        → IfSome range IsBoundedRange
    told None f e = absurd (cc)
    told (Some r) f e = let same : Some r ≡ range = cc in rw (← same) (fits (former_end address s.segments) written.0 r f)

taken : (url : List ℕ) (s : State) (text : List ℕ) (place : Place) (segment : MediaSegment) → segment_of url s text place ≡ Ok segment
    → IsTaken s segment
unfolding segment_of
taken url s text place segment e = lasting s.duration e
  where
    within : (duration : ℕ) (b : Bool) → nat_eq (length s.segments) most_segments ≡ b
        → cond b (Err (fault.Limit place)) (and_then (address_or_fault place (resolve url text))
        (λ address. segment_with s duration address (segment_range s address s.range))) ≡ Ok segment
        → IsTaken s segment
    within duration true z e = absurd (cc)
    within duration false z e =
        let found = both_ok (address_or_fault place (resolve url text))
        (λ address. segment_with s duration address (segment_range s address s.range)) segment e in
        let ranged = both_ok (segment_range s found.0 s.range)
        (λ range. Ok (record { address = found.0; range = range; map = s.map; duration = duration; section = section_of s })) segment
        found.1.1 in
        let same : ranged.0 ≡ segment.range = cc (ranged.1.1) in
        record { room = z; range = rw (← same) (segment_range_fits s found.0 s.range ranged.0 ranged.1.0) }

    lasting : (o : Option ℕ) → segment_lasting url s text place o ≡ Ok segment → IsTaken s segment
    lasting None e = absurd (cc)
    lasting (Some duration) e = within duration _ refl e

-- ---- states

-- segments so far, none of which is in a section behind one
record IsListed (segments : List MediaSegment) (section : ℕ) : Type 0 where
  few : length segments ≤ 100_000
  each : All IsBoundedSegment segments
  rising : IsNonDecreasingBy (λ (segment : MediaSegment). segment.section) segments
  passed : All (λ segment. segment.section ≤ section) segments

IsListed-none : (xs : List MediaSegment) (section : ℕ) → length xs ≡ 0 → IsListed xs section
IsListed-none xs section none = record {
  few = omega arith;
  each = λ k d less. absurd (omega arith);
  rising = IsNonDecreasingBy-short (λ (segment : MediaSegment). segment.section) xs (omega arith);
  passed = λ k d less. absurd (omega arith);
}

IsListed-later : (xs : List MediaSegment) (section later : ℕ) → section ≤ later → IsListed xs section → IsListed xs later
IsListed-later xs section later le is = record {
  few = is.few;
  each = is.each;
  rising = is.rising;
  passed = λ k d less. omega (arith, is.passed k d less);
}

All-one : (P : MediaSegment → Type 0) (x : MediaSegment) → P x → All P (x ∷ [])
All-one P x holds zero d less = holds
All-one P x holds (suc k) d less = absurd (omega arith)

IsListed-push : (xs : List MediaSegment) (x : MediaSegment) (section : ℕ) → IsListed xs section → IsBoundedSegment x → x.section ≡ section
    → nat_eq (length xs) 100_000 ≡ false → IsListed (xs ++ x ∷ []) section
IsListed-push xs x section is bounded here room = record {
  few = let more = length-append xs (x ∷ []) in grind (arith, nat_tests, more, is.few);
  each = All-append IsBoundedSegment xs (x ∷ []) is.each (All-one IsBoundedSegment x bounded);
  rising = IsNonDecreasingBy-push (λ (segment : MediaSegment). segment.section) xs x is.rising
      (λ d some. omega (arith, is.passed (length xs - 1) d (omega arith)));
  passed = All-append (λ segment. segment.section ≤ section) xs (x ∷ []) is.passed
      (All-one (λ segment. segment.section ≤ section) x (omega arith));
}

record InBounds (s : State) : Type 0 where
  target : unwrap_or s.target 0 < 2 ^ 31
  sequence : unwrap_or s.sequence 0 < 2 ^ 63
  duration : unwrap_or s.duration 0 ≤ 10 ^ 15
  map : IfSome s.map IsBoundedPart
  listed : IsListed s.segments (section_of s)

begin : InBounds nothing
begin = record { target = omega arith; sequence = omega arith; duration = omega arith; map = tt; listed = IsListed-none [] 0 refl }

late : (a : Bool) (n : ℕ) → (a || not (nat_eq n 0)) ≡ false → n ≡ 0
late true n e = absurd (cc)
late false n e = grind (arith, nat_tests)

after_tag_in : (url : List ℕ) (s : State) (t : Tag) (rest : List ℕ) (place : Place) (follows : Bool) → InBounds s
    → tag_fault url s t rest place follows ≡ None → InBounds (after_tag url s t rest place)
after_tag_in url s tags.TargetDuration rest place follows is none =
    record {
      target = (once_below (2 ^ 31) place (number_of rest) (is_some s.target) none).1;
      sequence = is.sequence;
      duration = is.duration;
      map = is.map;
      listed = is.listed;
    }
after_tag_in url s tags.MediaSequence rest place follows is none =
    record {
      target = is.target;
      sequence = (once_below (2 ^ 63) place (number_of rest)
          (is_some s.sequence || not (nat_eq (length s.segments) 0)) none).1;
      duration = is.duration;
      map = is.map;
      listed = is.listed;
    }
after_tag_in url s tags.DiscontinuitySequence rest place follows is none =
    let first = once_below (2 ^ 63) place (number_of rest) (is_some s.first_section || not (nat_eq (length s.segments) 0)) none in
    record {
      target = is.target;
      sequence = is.sequence;
      duration = is.duration;
      map = is.map;
      listed = IsListed-none s.segments _ (late (is_some s.first_section) (length s.segments) first.0);
    }
after_tag_in url s tags.Duration rest place follows is none =
    record {
      target = is.target;
      sequence = is.sequence;
      duration = lasts_at_most place (duration_of rest) (is_some s.duration || not follows) none;
      map = is.map;
      listed = is.listed;
    }
after_tag_in url s tags.Discontinuity rest place follows is none =
    record {
      target = is.target;
      sequence = is.sequence;
      duration = is.duration;
      map = is.map;
      listed = IsListed-later s.segments (section_of s) (unwrap_or s.first_section 0 + (s.discontinuities + 1)) (omega arith) is.listed;
    }
after_tag_in url s tags.Map rest place follows is none =
    let made = without_fault (map_of url rest place) none in
    let fits = subst IsBoundedPart (sym (map_told url rest place made.0 made.1)) (map_fits url rest place made.0 made.1) in
    record { target = is.target; sequence = is.sequence; duration = is.duration; map = fits; listed = is.listed }
after_tag_in url s tags.ByteRange rest place follows is none = record {
  target = is.target;
  sequence = is.sequence;
  duration = is.duration;
  map = is.map;
  listed = is.listed;
}
after_tag_in url s tags.EndList rest place follows is none = record {
  target = is.target;
  sequence = is.sequence;
  duration = is.duration;
  map = is.map;
  listed = is.listed;
}
after_tag_in url s _ rest place follows is none = is

bounded_value : (url : List ℕ) (s : State) (text : List ℕ) (segment : MediaSegment) → InBounds s → segment_value url s text ≡ segment
    → IsTaken s segment → IsBoundedSegment (segment_value url s text)
unfolding segment_value
bounded_value url s text segment is e taken = record {
  duration = is.duration;
  range = subst (λ (x : MediaSegment). IfSome x.range IsBoundedRange) (sym e) taken.range;
  map = is.map;
}

in_section : (url : List ℕ) (s : State) (text : List ℕ) → (segment_value url s text).section ≡ section_of s
unfolding segment_value
in_section url s text = refl

after_uri_in : (url : List ℕ) (s : State) (text : List ℕ) (place : Place) → InBounds s → fault_in (segment_of url s text place) ≡ None
    → InBounds (after_uri url s text)
after_uri_in url s text place is none =
    let made = without_fault (segment_of url s text place) none in
    let took = taken url s text place made.0 made.1 in
    let value = segment_value url s text in
    let told : value ≡ made.0 = segment_told url s text place made.0 made.1 in
    record {
      target = is.target;
      sequence = is.sequence;
      duration = omega arith;
      map = is.map;
      listed = IsListed-push s.segments value (section_of s) is.listed (bounded_value url s text made.0 is told took)
          (in_section url s text) took.room;
    }

pub nothing_with : (o : Option MediaFault) (others : List MediaFault) → with_fault o others ≡ [] → (o ≡ None) × (others ≡ [])
nothing_with None others e = (refl, e)
nothing_with (Some f) others e = absurd (cc)

line_in : (url : List ℕ) (s : State) (line : PlaylistLine) (follows : Bool) → InBounds s → line_fault url s line follows ≡ None
    → InBounds (after url s line)
line_in url s (tag name rest place) follows is none = after_tag_in url s (tag_of name) rest place follows is none
line_in url s (uri text place) follows is none = after_uri_in url s text place is none

all_in : (url : List ℕ) (s : State) (lines : List PlaylistLine) → InBounds s → line_faults url s lines ≡ []
    → InBounds (after_all url s lines)
all_in url s [] is none = is
all_in url s (line ∷ lines) is none =
    let parts = nothing_with (line_fault url s line (list_any is_uri lines)) (line_faults url (after url s line) lines) none in
    all_in url (after url s line) lines (line_in url s line (list_any is_uri lines) is parts.0) parts.1

-- ---- whole playlists

none_before : (xs ys : List MediaFault) → first_of (xs ++ ys) ≡ None → xs ≡ []
none_before [] ys e = refl
none_before (x ∷ xs) ys e = absurd (cc)

bounded : (media : Media) (s : State) → InBounds s → media_at s ≡ media → IsBounded media
bounded media s is e = rw (← e) (record {
  target = is.target;
  sequence = is.sequence;
  few = is.listed.few;
  segments = is.listed.each;
  sections = is.listed.rising;
})

-- no line of a playlist that is read is at fault, and it is what its lines mean
pub media_in-ok : (end : Place) (url : List ℕ) (lines : List PlaylistLine) (media : Media) → media_in end url lines ≡ Ok media
    → (line_faults url nothing lines ≡ []) × (media_values url lines ≡ media)
unfolding media_in
media_in-ok end url lines media e = told (first_of (faults_of end url lines)) refl e
  where
    told : (o : Option MediaFault) → first_of (faults_of end url lines) ≡ o → values_or_fault o (media_values url lines) ≡ Ok media
        → (line_faults url nothing lines ≡ []) × (media_values url lines ≡ media)
    told None f e = (none_before (line_faults url nothing lines) _ f, cc)
    told (Some fault) f e = absurd (cc)

in_bounds : (end : Place) (url : List ℕ) (lines : List PlaylistLine) (media : Media) → media_in end url lines ≡ Ok media → IsBounded media
unfolding media_values
in_bounds end url lines media e =
    let read = media_in-ok end url lines media e in
    bounded media (after_all url nothing lines) (all_in url nothing lines begin read.0) read.1

-- the lines of a playlist that is read
pub read_lines_ok : (bytes url : List ℕ) (media : Media) → media_of bytes url ≡ Ok media → (lines : List PlaylistLine)
    × ((lines_or_fault (lines_of bytes) ≡ Ok lines) × (media_in (place_of bytes (length bytes)) url lines ≡ Ok media))
unfolding media_of
read_lines_ok bytes url media e = both_ok (lines_or_fault (lines_of bytes)) (media_in (place_of bytes (length bytes)) url) media e

pub read_is_bounded : ReadIsBounded
read_is_bounded bytes url media e = let read = read_lines_ok bytes url media e in
    in_bounds (place_of bytes (length bytes)) url read.0 media read.1.1

lines_ok : (r : Result (List PlaylistLine) LineFault) (lines : List PlaylistLine) → lines_or_fault r ≡ Ok lines → r ≡ Ok lines
lines_ok (Ok found) lines e = let same : found ≡ lines = cc in ap Ok same
lines_ok (Err f) lines e = absurd (cc)

pub read_is_meant : ReadIsMeant
read_is_meant bytes url media e =
    let read = read_lines_ok bytes url media e in
    (read.0, (lines_ok (lines_of bytes) read.0 read.1.0, (media_in-ok (place_of bytes (length bytes)) url read.0 media read.1.1).1))
