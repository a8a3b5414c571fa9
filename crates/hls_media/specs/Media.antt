-- Media playlists (RFC 8216 4.3.2 and 4.3.3): what their lines mean, and which lines are invalid.
use Rattle.hls_media.specs.declared.fault.MediaFault.TheVariants as fault
use Rattle.hls_media.specs.declared.tag.Tag.TheVariants as tags
use Rattle.std.specs.Prelude.{ℕ, ◌+◌, ◌-◌, ◌*◌, ◌^◌, ◌==◌, ◌&&◌, ◌||◌, not, nat_lt, Bool, true, false, List, [], ◌∷◌, ◌++◌, length, codes}
use Rattle.std.specs.Prelude.{bytes_eq, if◌then◌else◌, unwrap_or, is_some, slice_get, Option, Some, None, option_and_then, option_map}
use Rattle.std.specs.{Prelude.{Result, Ok, Err}, List.list_any}
use Rattle.bridge_io.specs.{Answer.and_then, Firsts.first_of, Places.place_of, declared.place.Place.Place}
use Rattle.hls_lines.specs.{Attributes.{NameValue, attributes_at, attributes_of, value_of}, Lines.{PlaylistLine, tag, uri, is_uri}}
use Rattle.hls_lines.specs.{Lines.lines_of, declared.fault.LineFault.LineFault}
use Rattle.url_parts.specs.{Addresses.resolve, declared.address.Part.Part, declared.fault.UrlFault.UrlFault, declared.range.Range.Range}
use Rattle.hls_media.specs.{Addresses.address_of, States.{State, nothing}, Tags.tag_of, Values.{number_of, below, duration_of, range_from}}
use Rattle.hls_media.specs.{Values.{fitting, end_of, is_range}, declared.fault.MediaFault.MediaFault, declared.media.Media.Media}
use Rattle.hls_media.specs.{declared.media.MediaSegment.MediaSegment, declared.tag.Tag.Tag}

-- ---- meanings, without any bound

abbrev pub no_range : Range
no_range = record { first = 0; count = 0 }

-- the attributes of an attribute list
abbrev pub listed : List ℕ → List NameValue
listed text = unwrap_or (attributes_at text) []

-- a byte range that begins at 0 where it has no offset
abbrev pub map_range : List ℕ → Range
map_range text = unwrap_or (range_from (Some 0) text) no_range

-- the init segment of an EXT-X-MAP
unfoldable pub map_value : List ℕ → List ℕ → Part
map_value url rest = record {
  address = address_of url (unwrap_or (value_of (codes "URI") (listed rest)) []);
  range = option_map map_range (value_of (codes "BYTERANGE") (listed rest));
}

-- the last member of a list
abbrev pub last_of : {A : Type 0} → List A → Option A
last_of members = slice_get members (length members - 1)

-- where a segment's byte range ends, if it has one of that URL
abbrev pub end_within : List ℕ → MediaSegment → Option ℕ
end_within address segment = if bytes_eq segment.address address then option_map end_of segment.range else None

-- where a byte range without offset begins for a URL
abbrev pub former_end : List ℕ → List MediaSegment → Option ℕ
former_end address segments = option_and_then (end_within address) (last_of segments)

abbrev pub section_of : State → ℕ
section_of s = unwrap_or s.first_section 0 + s.discontinuities

-- the segment that a URI ends
unfoldable pub segment_value : List ℕ → State → List ℕ → MediaSegment
segment_value url s text = let address = address_of url text in record {
  address = address;
  range = option_map (λ written. unwrap_or (range_from (former_end address s.segments) written.0) no_range) s.range;
  map = s.map;
  duration = unwrap_or s.duration 0;
  section = section_of s;
}

-- the state after a tag
abbrev pub after_tag : List ℕ → State → Tag → List ℕ → Place → State
after_tag url s tags.TargetDuration rest place = record s { target = Some (unwrap_or (number_of rest) 0) }
after_tag url s tags.MediaSequence rest place = record s { sequence = Some (unwrap_or (number_of rest) 0) }
after_tag url s tags.DiscontinuitySequence rest place = record s { first_section = Some (unwrap_or (number_of rest) 0) }
after_tag url s tags.Duration rest place = record s { duration = Some (unwrap_or (duration_of rest) 0) }
after_tag url s tags.ByteRange rest place = record s { range = Some (rest, place) }
after_tag url s tags.Discontinuity rest place = record s { discontinuities = s.discontinuities + 1 }
after_tag url s tags.Map rest place = record s { map = Some (map_value url rest) }
after_tag url s tags.EndList rest place = record s { ended = true }
after_tag url s _ rest place = s

abbrev pub after_uri : List ℕ → State → List ℕ → State
after_uri url s text = record s { duration = None; range = None; segments = s.segments ++ segment_value url s text ∷ [] }

abbrev pub after : List ℕ → State → PlaylistLine → State
after url s (tag name rest place) = after_tag url s (tag_of name) rest place
after url s (uri text place) = after_uri url s text

-- after all lines
abbrev pub after_all : List ℕ → State → List PlaylistLine → State
after_all url s [] = s
after_all url s (line ∷ lines) = after_all url (after url s line) lines

abbrev pub media_at : State → Media
media_at s = record {
  target = unwrap_or s.target 0;
  sequence = unwrap_or s.sequence 0;
  ended = s.ended;
  segments = s.segments;
}

-- What the lines of a media playlist mean, of which no number, count or length is bounded.
unfoldable pub media_values : List ℕ → List PlaylistLine → Media
media_values url lines = media_at (after_all url nothing lines)

-- ---- faults

abbrev pub unless : Bool → MediaFault → Option MediaFault
unless true f = None
unless false f = Some f

abbrev pub value_or_fault : {A : Type 0} → Place → Option A → Result A MediaFault
value_or_fault place (Some value) = Ok value
value_or_fault place None = Err (fault.Value place)

-- the target duration, which may occur only once
abbrev pub target_of : State → List ℕ → Place → Result ℕ MediaFault
target_of s rest place = if is_some s.target then Err (fault.Misplaced place) else value_or_fault place (below (2 ^ 31) (number_of rest))

-- a number that may occur only once, before the first segment
abbrev pub early_number_of : State → Option ℕ → List ℕ → Place → Result ℕ MediaFault
early_number_of s former rest place = if is_some former || not (length s.segments == 0) then Err (fault.Misplaced place)
    else value_or_fault place (below (2 ^ 63) (number_of rest))

-- at most 1,000,000 seconds
abbrev pub length_or_fault : Place → Option ℕ → Result ℕ MediaFault
length_or_fault place None = Err (fault.Value place)
length_or_fault place (Some nanos) = if nat_lt (10 ^ 15) nanos then Err (fault.Duration place) else Ok nanos

-- a duration, which a URI has to follow
abbrev pub length_of : State → List ℕ → Place → Bool → Result ℕ MediaFault
length_of s rest place uri_follows = if is_some s.duration || not uri_follows then Err (fault.Misplaced place)
    else length_or_fault place (duration_of rest)

-- a byte range, which a URI has to follow
abbrev pub written_range_of : List ℕ → Place → Bool → Result (List ℕ) MediaFault
written_range_of rest place uri_follows = if not uri_follows then Err (fault.Misplaced place)
    else (if is_range rest then Ok rest else Err (fault.Value place))

abbrev pub attributes_or_fault : Result (List NameValue) LineFault → Result (List NameValue) MediaFault
attributes_or_fault (Ok attributes) = Ok attributes
attributes_or_fault (Err f) = Err (fault.Line f)

abbrev pub address_or_fault : Place → Result (List ℕ) UrlFault → Result (List ℕ) MediaFault
address_or_fault place (Ok address) = Ok address
address_or_fault place (Err f) = Err (fault.Url f place)

-- the byte range of a map, if there is one
abbrev pub map_range_of : Place → Option (List ℕ) → Result (Option Range) MediaFault
map_range_of place None = Ok None
map_range_of place (Some text) = and_then (value_or_fault place (fitting (range_from (Some 0) text))) (λ range. Ok (Some range))

-- the URL of a map with its byte range
abbrev pub map_at : List ℕ → Place → List ℕ → Option Range → Result Part MediaFault
map_at url place reference range = and_then (address_or_fault place (resolve url reference))
    (λ address. Ok (record { address = address; range = range }))

abbrev pub map_in : List ℕ → Place → List NameValue → Result Part MediaFault
map_in url place attributes = and_then (value_or_fault place (value_of (codes "URI") attributes))
    (λ reference. and_then (map_range_of place (value_of (codes "BYTERANGE") attributes)) (map_at url place reference))

unfoldable pub map_of : List ℕ → List ℕ → Place → Result Part MediaFault
map_of url rest place = and_then (attributes_or_fault (attributes_of rest place)) (map_in url place)

abbrev pub fault_in : {A : Type 0} → Result A MediaFault → Option MediaFault
fault_in (Ok a) = None
fault_in (Err f) = Some f

-- a key's method is NONE
abbrev pub key_in : Place → List NameValue → Result (Unit {0}) MediaFault
key_in place attributes = and_then (value_or_fault place (value_of (codes "METHOD") attributes))
    (λ method. if bytes_eq method (codes "NONE") then Ok tt else Err (fault.Encryption place))

unfoldable pub key_of : List ℕ → Place → Result (Unit {0}) MediaFault
key_of rest place = and_then (attributes_or_fault (attributes_of rest place)) (key_in place)

abbrev pub tag_fault : List ℕ → State → Tag → List ℕ → Place → Bool → Option MediaFault
tag_fault url s tags.TargetDuration rest place uri_follows = fault_in (target_of s rest place)
tag_fault url s tags.MediaSequence rest place uri_follows = fault_in (early_number_of s s.sequence rest place)
tag_fault url s tags.DiscontinuitySequence rest place uri_follows = fault_in (early_number_of s s.first_section rest place)
tag_fault url s tags.Duration rest place uri_follows = fault_in (length_of s rest place uri_follows)
tag_fault url s tags.ByteRange rest place uri_follows = fault_in (written_range_of rest place uri_follows)
tag_fault url s tags.Map rest place uri_follows = fault_in (map_of url rest place)
tag_fault url s tags.Key rest place uri_follows = fault_in (key_of rest place)
tag_fault url s tags.SessionKey rest place uri_follows = Some (fault.Encryption place)
tag_fault url s tags.DateRange rest place uri_follows = Some (fault.Events place)
tag_fault url s tags.LowLatency rest place uri_follows = Some (fault.LowLatency place)
tag_fault url s tags.Unsupported rest place uri_follows = Some (fault.Unsupported place)
tag_fault url s tags.Master rest place uri_follows = Some (fault.Misplaced place)
tag_fault url s _ rest place uri_follows = None

abbrev pub range_or_fault : Place → Option Range → Result (Option Range) MediaFault
range_or_fault place (Some range) = Ok (Some range)
range_or_fault place None = Err (fault.RangeStart place)

-- the byte range of a segment, if there is one
abbrev pub segment_range : State → List ℕ → Option (List ℕ × Place) → Result (Option Range) MediaFault
segment_range s address None = Ok None
segment_range s address (Some written) = range_or_fault written.1 (fitting (range_from (former_end address s.segments) written.0))

abbrev pub most_segments : ℕ
most_segments = 100_000

abbrev pub segment_with : State → ℕ → List ℕ → Result (Option Range) MediaFault → Result MediaSegment MediaFault
segment_with s duration address range = and_then range
    (λ range. Ok (record { address = address; range = range; map = s.map; duration = duration; section = section_of s }))

abbrev pub segment_at : List ℕ → State → List ℕ → Place → ℕ → Result MediaSegment MediaFault
segment_at url s text place duration = if length s.segments == most_segments then Err (fault.Limit place)
    else and_then (address_or_fault place (resolve url text)) (λ address. segment_with s duration address (segment_range s address s.range))

abbrev pub segment_lasting : List ℕ → State → List ℕ → Place → Option ℕ → Result MediaSegment MediaFault
segment_lasting url s text place None = Err (fault.Misplaced place)
segment_lasting url s text place (Some duration) = segment_at url s text place duration

unfoldable pub segment_of : List ℕ → State → List ℕ → Place → Result MediaSegment MediaFault
segment_of url s text place = segment_lasting url s text place s.duration

-- the fault of a line, given whether a URI follows in the file
abbrev pub line_fault : List ℕ → State → PlaylistLine → Bool → Option MediaFault
line_fault url s (tag name rest place) uri_follows = tag_fault url s (tag_of name) rest place uri_follows
line_fault url s (uri text place) uri_follows = fault_in (segment_of url s text place)

abbrev pub with_fault : Option MediaFault → List MediaFault → List MediaFault
with_fault None others = others
with_fault (Some f) others = f ∷ others

-- the faults of lines, in order
abbrev pub line_faults : List ℕ → State → List PlaylistLine → List MediaFault
line_faults url s [] = []
line_faults url s (line ∷ lines) = with_fault (line_fault url s line (list_any is_uri lines)) (line_faults url (after url s line) lines)

-- a duration is more than half a second above the target
abbrev pub is_long : ℕ → Option ℕ → Bool
is_long target None = false
is_long target (Some nanos) = nat_lt (target * 10 ^ 9 + 5 * 10 ^ 8) nanos

-- a segment's isn't
abbrev pub is_short : ℕ → MediaSegment → Bool
is_short target segment = not (is_long target (Some segment.duration))

-- the faults of such durations, at their lines
abbrev pub long_faults : ℕ → List PlaylistLine → List MediaFault
long_faults target [] = []
long_faults target (uri text place ∷ lines) = long_faults target lines
long_faults target (tag name rest place ∷ lines) =
    with_fault (unless (not (bytes_eq name (codes "EXTINF") && is_long target (duration_of rest))) (fault.LongSegment place))
    (long_faults target lines)

-- the faults of the playlist as a whole
abbrev pub whole_faults : Place → Option ℕ → List PlaylistLine → List MediaFault
whole_faults end None lines = fault.NoTarget end ∷ []
whole_faults end (Some target) lines = long_faults target lines

-- the faults of a playlist of these lines; the first one is reported
abbrev pub faults_of : Place → List ℕ → List PlaylistLine → List MediaFault
faults_of end url lines = line_faults url nothing lines ++ whole_faults end (after_all url nothing lines).target lines

abbrev pub values_or_fault : Option MediaFault → Media → Result Media MediaFault
values_or_fault None media = Ok media
values_or_fault (Some f) media = Err f

-- the lines of a file, or its fault
abbrev pub lines_or_fault : Result (List PlaylistLine) LineFault → Result (List PlaylistLine) MediaFault
lines_or_fault (Ok lines) = Ok lines
lines_or_fault (Err f) = Err (fault.Line f)

-- what lines mean, or their first fault
unfoldable pub media_in : Place → List ℕ → List PlaylistLine → Result Media MediaFault
media_in end url lines = values_or_fault (first_of (faults_of end url lines)) (media_values url lines)

-- What a media playlist means, or its first fault.
unfoldable pub media_of : List ℕ → List ℕ → Result Media MediaFault
media_of bytes url = and_then (lines_or_fault (lines_of bytes)) (media_in (place_of bytes (length bytes)) url)

-- out of memory says nothing about the playlist
abbrev pub refusal : MediaFault → Option MediaFault
refusal fault.Memory = None
refusal f = Some f
