-- What is read without a fault is what the lines mean.
use Rattle.hls_media.specs.declared.fault.MediaFault.TheVariants as fault
use Rattle.std.proofs.Common.{◌≡◌, ◌^◌, ℕ, Bool, true, false, List, [], length, not, cond, nat_lt, Option, Some, None, Result, Ok, Err}
use Rattle.std.proofs.Common.{option_map, unwrap_or, is_some, codes, refl, ◌∙◌}
use Rattle.std.specs.List.{list_all}
use Rattle.bridge_io.specs.{declared.place.Place.Place, Answer.and_then}
use Rattle.hls_lines.specs.Attributes.{NameValue, attributes_at, attributes_of, unless_double, value_of, repeats_after, names_of}
use Rattle.hls_lines.specs.{declared.fault.LineFault.LineFault, declared.fault.LineFault.TheVariants.DoubleAttribute}
use Rattle.url.specs.{Parser.{Parsed, parse_url}, Parts.Parts}
use Rattle.url_parts.specs.Addresses.{resolve, absolute, accepted, is_absolute, is_address_byte, is_web, text_of, url_of}
use Rattle.url_parts.specs.{declared.address.Part.Part, declared.fault.UrlFault.UrlFault, declared.fault.UrlFault.TheVariants.Refused}
use Rattle.url_parts.specs.{declared.fault.UrlFault.TheVariants.{Scheme, TooLong}, declared.range.Range.Range}
use Rattle.hls_media.specs.{Addresses.{written, address_of}, Media.{no_range, listed, map_range, map_value, former_end, section_of}}
use Rattle.hls_media.specs.Media.{segment_value, value_or_fault, target_of, early_number_of, length_or_fault, length_of, written_range_of}
use Rattle.hls_media.specs.Media.{attributes_or_fault, address_or_fault, map_range_of, map_at, map_in, map_of, range_or_fault}
use Rattle.hls_media.specs.{Media.{segment_range, segment_with, segment_lasting, segment_of}, States.State, Values.{number_of, below}}
use Rattle.hls_media.specs.{Values.{duration_of, range_from, fitting, end_of, is_range}, declared.fault.MediaFault.MediaFault}
use Rattle.hls_media.specs.declared.media.MediaSegment.{MediaSegment}

-- ---- numbers and durations

below_told : (bound n : ℕ) (place : Place) (o : Option ℕ) → value_or_fault place (below bound o) ≡ Ok n → unwrap_or o 0 ≡ n
below_told bound n place None h = cc
below_told bound n place (Some m) h = told (nat_lt m bound) h
  where
    told : (b : Bool) → value_or_fault place (cond b (Some m) None) ≡ Ok n → m ≡ n
    told true h = cc
    told false h = cc

once_told : (bound n : ℕ) (place : Place) (o : Option ℕ) (b : Bool)
    → cond b (Err (fault.Misplaced place)) (value_or_fault place (below bound o)) ≡ Ok n → unwrap_or o 0 ≡ n
once_told bound n place o true h = cc
once_told bound n place o false h = below_told bound n place o h

pub target_told : (s : State) (rest : List ℕ) (place : Place) (n : ℕ) → target_of s rest place ≡ Ok n → unwrap_or (number_of rest) 0 ≡ n
target_told s rest place n h = once_told (2 ^ 31) n place (number_of rest) (is_some s.target) h

pub early_told : (s : State) (former : Option ℕ) (rest : List ℕ) (place : Place) (n : ℕ) → early_number_of s former rest place ≡ Ok n
    → unwrap_or (number_of rest) 0 ≡ n
early_told s former rest place n h = once_told (2 ^ 63) n place (number_of rest) _ h

length_told_of : (n : ℕ) (place : Place) (o : Option ℕ) (b : Bool) → cond b (Err (fault.Misplaced place)) (length_or_fault place o) ≡ Ok n
    → unwrap_or o 0 ≡ n
length_told_of n place o true h = cc
length_told_of n place None false h = cc
length_told_of n place (Some m) false h = told (nat_lt (10 ^ 15) m) h
  where
    told : (b : Bool) → cond b (Err (fault.Duration place)) (Ok m) ≡ Ok n → m ≡ n
    told true h = cc
    told false h = cc

pub length_told : (s : State) (rest : List ℕ) (place : Place) (follows : Bool) (n : ℕ) → length_of s rest place follows ≡ Ok n
    → unwrap_or (duration_of rest) 0 ≡ n
length_told s rest place follows n h = length_told_of n place (duration_of rest) _ h

pub range_told : (rest : List ℕ) (place : Place) (follows : Bool) (text : List ℕ) → written_range_of rest place follows ≡ Ok text
    → rest ≡ text
range_told rest place follows text h = told (not follows) (is_range rest) h
  where
    told : (a b : Bool) → cond a (Err (fault.Misplaced place)) (cond b (Ok rest) (Err (fault.Value place))) ≡ Ok text → rest ≡ text
    told true b h = cc
    told false true h = cc
    told false false h = cc

-- ---- addresses

accepted_told : (p : Parsed Parts) (address : List ℕ) → accepted p ≡ Ok address → written p ≡ address
accepted_told (Err e) address h = cc
accepted_told (Ok url) address h = told (not (list_all is_address_byte (text_of url))) (not (is_web url.scheme))
    (nat_lt 2048 (length (text_of url))) h
  where
    told : (a b c : Bool) → cond a (Err Refused) (cond b (Err Scheme) (cond c (Err TooLong) (Ok (text_of url)))) ≡ Ok address
        → text_of url ≡ address
    told true b c h = cc
    told false true c h = cc
    told false false true h = cc
    told false false false h = cc

by_form : (p q : Parsed Parts) (address : List ℕ) (b : Bool) → cond b (accepted p) (accepted q) ≡ Ok address
    → cond b (written p) (written q) ≡ address
by_form p q address true h = accepted_told p address h
by_form p q address false h = accepted_told q address h

address_told : (base reference address : List ℕ) → resolve base reference ≡ Ok address → address_of base reference ≡ address
unfolding resolve absolute address_of
address_told base reference address h = by_form (parse_url None reference) (parse_url (url_of base) reference) address
    (is_absolute reference) h

-- ---- ranges and maps

fitting_told : (o : Option Range) (range : Range) → fitting o ≡ Some range → o ≡ Some range
fitting_told None range h = cc
fitting_told (Some r) range h = told (nat_lt (end_of r) (2 ^ 63)) h
  where
    told : (b : Bool) → cond b (Some r) None ≡ Some range → Some r ≡ Some range
    told true h = h
    told false h = cc

map_range_told : (place : Place) (o : Option (List ℕ)) (range : Option Range) → map_range_of place o ≡ Ok range
    → option_map map_range o ≡ range
map_range_told place None range h = cc
map_range_told place (Some text) range h = told (fitting (range_from (Some 0) text)) refl h
  where
    told : (f : Option Range) → fitting (range_from (Some 0) text) ≡ f → and_then (value_or_fault place f) (λ r. Ok (Some r)) ≡ Ok range
        → Some (map_range text) ≡ range
    told None e h = cc
    told (Some r) e h = let same = fitting_told (range_from (Some 0) text) r e in rw same cc

part_told : (url : List ℕ) (place : Place) (part : Part) (o b : Option (List ℕ))
    → and_then (value_or_fault place o) (λ reference. and_then (map_range_of place b) (map_at url place reference)) ≡ Ok part
    → (address_of url (unwrap_or o []) ≡ part.address) × (option_map map_range b ≡ part.range)
part_told url place part None b h = cc
part_told url place part (Some reference) b h = with_range (map_range_of place b) refl h
  where
    with_address : (range : Option Range) (a : Result (List ℕ) UrlFault) → map_range_of place b ≡ Ok range → resolve url reference ≡ a
        → and_then (address_or_fault place a) (λ address. Ok (record { address = address; range = range })) ≡ Ok part
        → (address_of url reference ≡ part.address) × (option_map map_range b ≡ part.range)
    with_address range (Err f) r e h = cc
    with_address range (Ok address) r e h = (address_told url reference address e ∙ cc, map_range_told place b range r ∙ cc)

    with_range : (r : Result (Option Range) MediaFault) → map_range_of place b ≡ r → and_then r (map_at url place reference) ≡ Ok part
        → (address_of url reference ≡ part.address) × (option_map map_range b ≡ part.range)
    with_range (Err f) r h = cc
    with_range (Ok range) r h = with_address range (resolve url reference) r refl h

listed_told : (rest : List ℕ) (place : Place) (attributes : List NameValue) → attributes_of rest place ≡ Ok attributes
    → listed rest ≡ attributes
unfolding attributes_of
listed_told rest place attributes h = told (attributes_at rest) h
  where
    told : (o : Option (List NameValue)) → unless_double place o ≡ Ok attributes → unwrap_or o [] ≡ attributes
    told None h = cc
    told (Some found) h = kept (repeats_after [] (names_of found)) h
      where
        kept : (b : Bool) → cond b (Err (DoubleAttribute place)) (Ok found) ≡ Ok attributes → found ≡ attributes
        kept true h = cc
        kept false h = cc

map_told_of : (url rest : List ℕ) (place : Place) (part : Part) (r : Result (List NameValue) LineFault) → attributes_of rest place ≡ r
    → and_then (attributes_or_fault r) (map_in url place) ≡ Ok part → map_value url rest ≡ part
unfolding map_value
map_told_of url rest place part (Err f) e h = cc
map_told_of url rest place part (Ok attributes) e h =
    let same = listed_told rest place attributes e in
    let told = part_told url place part (value_of (codes "URI") attributes) (value_of (codes "BYTERANGE") attributes) h in
    rw same (λ i. record { address = told.0 i; range = told.1 i })

pub map_told : (url rest : List ℕ) (place : Place) (part : Part) → map_of url rest place ≡ Ok part → map_value url rest ≡ part
unfolding map_of
map_told url rest place part h = map_told_of url rest place part (attributes_of rest place) refl h

-- ---- segments

abbrev range_meant : State → List ℕ → Option (List ℕ × Place) → Option Range
range_meant s address range = option_map (λ written. unwrap_or (range_from (former_end address s.segments) written.0) no_range) range

segment_range_told : (s : State) (address : List ℕ) (o : Option (List ℕ × Place)) (range : Option Range)
    → segment_range s address o ≡ Ok range → range_meant s address o ≡ range
segment_range_told s address None range h = cc
segment_range_told s address (Some written) range h = told (fitting (range_from (former_end address s.segments) written.0)) refl h
  where
    told : (f : Option Range) → fitting (range_from (former_end address s.segments) written.0) ≡ f → range_or_fault written.1 f ≡ Ok range
        → Some (unwrap_or (range_from (former_end address s.segments) written.0) no_range) ≡ range
    told None e h = cc
    told (Some r) e h = let same = fitting_told (range_from (former_end address s.segments) written.0) r e in rw same cc

segment_made : (url : List ℕ) (s : State) (text address : List ℕ) (duration : ℕ) (range : Option Range) (segment : MediaSegment)
    → s.duration ≡ Some duration → address_of url text ≡ address
    → range_meant s address s.range ≡ range → record {
      address = address;
      range = range;
      map = s.map;
      duration = duration;
      section = section_of s;
    } ≡ segment → segment_value url s text ≡ segment
unfolding segment_value
segment_made url s text address duration range segment d a r h = rw (a, r, d) h

module _ (url : List ℕ) (s : State) (text : List ℕ) (place : Place) (segment : MediaSegment) where
  with_range : (duration : ℕ) (address : List ℕ) (r : Result (Option Range) MediaFault) → s.duration ≡ Some duration
      → address_of url text ≡ address → segment_range s address s.range ≡ r
      → segment_with s duration address r ≡ Ok segment → segment_value url s text ≡ segment
  with_range duration address (Err f) d a e h = cc
  with_range duration address (Ok range) d a e h = segment_made url s text address duration range segment d a
      (segment_range_told s address s.range range e) cc

  with_address : (duration : ℕ) (a : Result (List ℕ) UrlFault) → s.duration ≡ Some duration → resolve url text ≡ a
      → and_then (address_or_fault place a) (λ address. segment_with s duration address (segment_range s address s.range)) ≡ Ok segment
      → segment_value url s text ≡ segment
  with_address duration (Err f) d e h = cc
  with_address duration (Ok address) d e h = with_range duration address (segment_range s address s.range) d
      (address_told url text address e) refl h

  within_limit : (duration : ℕ) (b : Bool) → s.duration ≡ Some duration
      → cond b (Err (fault.Limit place)) (and_then (address_or_fault place (resolve url text))
      (λ address. segment_with s duration address (segment_range s address s.range))) ≡ Ok segment
      → segment_value url s text ≡ segment
  within_limit duration true d h = cc
  within_limit duration false d h = with_address duration (resolve url text) d refl h

  lasting : (o : Option ℕ) → s.duration ≡ o → segment_lasting url s text place o ≡ Ok segment → segment_value url s text ≡ segment
  lasting None d h = cc
  lasting (Some duration) d h = within_limit duration _ d h

pub segment_told : (url : List ℕ) (s : State) (text : List ℕ) (place : Place) (segment : MediaSegment)
    → segment_of url s text place ≡ Ok segment → segment_value url s text ≡ segment
unfolding segment_of
segment_told url s text place segment h = lasting url s text place segment s.duration refl h
