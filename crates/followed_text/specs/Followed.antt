-- The texts of playlists that follow a presentation, read back as what they were written from.
use Rattle.followed_text.specs.declared.fault.FollowedFault.TheVariants as fault
use Rattle.hls_media.specs.declared.fault.MediaFault.TheVariants as media_fault
use Rattle.std.specs.Prelude.{ℕ, ℤ, ◌-◌, ◌/◌, ◌^◌, ◌&&◌, nat_le, bytes_eq, if◌then◌else◌, codes, length, List, [], ◌∷◌}
use Rattle.std.specs.{Prelude.{Option, Some, None, option_map, Result, Ok, Err}, Result.result_ok}
use Rattle.bridge_io.specs.Answer.{and_then}
use Rattle.iso_time.specs.Instant.{instant_of}
use Rattle.url_parts.specs.declared.address.Part.{Part}
use Rattle.hls_lines.specs.{Lines.{PlaylistLine, tag, uri, lines_of}, declared.fault.LineFault.LineFault}
use Rattle.hls_media.specs.{Media.media_of, Values.{before_title, decimal_parts}, declared.fault.MediaFault.MediaFault}
use Rattle.hls_media.specs.declared.media.{Media.Media, MediaSegment.MediaSegment}
use Rattle.hls_writer.specs.{Items.items_text, declared.items.MediaItem.MediaItem}
use Rattle.followed_text.specs.declared.{fault.FollowedFault.FollowedFault, followed.FollowedText.FollowedText}

-- ---- the dates

-- the time of an EXT-X-PROGRAM-DATE-TIME
abbrev pub date_of : PlaylistLine → Option ℤ
date_of (tag name rest place) = if bytes_eq name (codes "EXT-X-PROGRAM-DATE-TIME") then result_ok (instant_of rest) else None
date_of (uri text place) = None

abbrev pub with_date : Option ℤ → List ℤ → List ℤ
with_date None dates = dates
with_date (Some date) dates = date ∷ dates

abbrev pub dates_of : List PlaylistLine → List ℤ
dates_of [] = []
dates_of (line ∷ lines) = with_date (date_of line) (dates_of lines)

-- ---- the decimals

-- how many decimals a duration has
abbrev pub decimals : List ℕ → ℕ
decimals rest = length (decimal_parts (before_title rest)).1

-- a number of decimals that is printed
abbrev pub digits_from : ℕ → Option ℕ
digits_from n = if nat_le 3 n && nat_le n 9 then Some n else None

-- that of the first EXTINF
abbrev pub digits_of : List PlaylistLine → Option ℕ
digits_of [] = None
digits_of (uri text place ∷ lines) = digits_of lines
digits_of (tag name rest place ∷ lines) = if bytes_eq name (codes "EXTINF") then digits_from (decimals rest) else digits_of lines

-- ---- the items

abbrev pub item_with : (digits : ℕ) → MediaSegment → ℤ → Part → MediaItem
item_with digits segment date map = record {
  address = segment.address;
  range = segment.range;
  map = map;
  duration = segment.duration / 10 ^ (9 - digits);
  section = segment.section;
  date = date;
}

-- a segment with a map and a date, as it was printed
abbrev pub item_of : (digits : ℕ) → MediaSegment → ℤ → Option MediaItem
item_of digits segment date = option_map (item_with digits segment date) segment.map

abbrev pub with_item : Option MediaItem → List MediaItem → List MediaItem
with_item None items = items
with_item (Some item) items = item ∷ items

-- the segments, each with its date
abbrev pub items_of : (digits : ℕ) → List MediaSegment → List ℤ → List MediaItem
items_of digits [] dates = []
items_of digits (segment ∷ segments) [] = []
items_of digits (segment ∷ segments) (date ∷ dates) = with_item (item_of digits segment date) (items_of digits segments dates)

-- ---- the text

abbrev pub followed_from : Media → (digits : ℕ) → List MediaItem → Option FollowedText
followed_from media digits [] = None
followed_from media digits (item ∷ items) = Some (record {
  head = record {
    target = media.target;
    sequence = media.sequence;
    first_section = item.section;
    ended = media.ended;
    digits = digits;
  };
  items = item ∷ items;
})

abbrev pub candidate_with : Media → Option ℕ → (dates : List ℤ) → Option FollowedText
candidate_with media None dates = None
candidate_with media (Some digits) dates = followed_from media digits (items_of digits media.segments dates)

abbrev pub candidate_in : Media → Result (List PlaylistLine) LineFault → Option FollowedText
candidate_in media (Ok lines) = candidate_with media (digits_of lines) (dates_of lines)
candidate_in media (Err f) = None

-- what a text was written from, if anything: the segments of its playlist with the dates, and the decimals of its first EXTINF
unfoldable pub candidate_of : (bytes : List ℕ) → Media → Option FollowedText
candidate_of bytes media = candidate_in media (lines_of bytes)

-- the text of a playlist that follows a presentation
abbrev pub text_of : FollowedText → List ℕ
text_of followed = items_text followed.head followed.items

-- it was written from this where it is written so again
abbrev pub form_of : (bytes : List ℕ) → Option FollowedText → Result FollowedText FollowedFault
form_of bytes None = Err fault.Form
form_of bytes (Some followed) = if bytes_eq (text_of followed) bytes then Ok followed else Err fault.Form

-- out of memory says nothing about the text
abbrev pub media_or_fault : Result Media MediaFault → Result Media FollowedFault
media_or_fault (Ok media) = Ok media
media_or_fault (Err f) = Err (fault.Media f)

-- What the text of a playlist that follows a presentation was written from, or why it is no such text.
unfoldable pub followed_of : (bytes url : List ℕ) → Result FollowedText FollowedFault
followed_of bytes url = and_then (media_or_fault (media_of bytes url)) (λ media. form_of bytes (candidate_of bytes media))

abbrev pub refusal : FollowedFault → Option FollowedFault
refusal (fault.Media media_fault.Memory) = None
refusal fault.Memory = None
refusal f = Some f
