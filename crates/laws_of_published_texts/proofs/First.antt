-- The first section's number of a list that was read is the one that its text tells.
use Rattle.std.proofs.Common.{◌≡◌, ℕ, ℤ, ◌^◌, ◌<◌, ◌≤◌, Bool, true, false, List, [], ◌∷◌, ◌++◌, length, map, cond, nat_lt, take, drop, option_map}
use Rattle.std.proofs.Common.{Option, Some, None, unwrap_or, refl, ◌∙◌, ap, subst, arith}
use Rattle.std.proofs.{lemmas.Bool.ltb-true, lemmas.Option.same_Some}
use Rattle.std.specs.{Prelude.{decimal, slice_get}, List.{list_any}}
use Rattle.bridge_io.specs.declared.place.Place.{Place}
use Rattle.url_parts.specs.declared.{address.Part.Part, range.Range.Range}
use Rattle.hls_lines.specs.Lines.{PlaylistLine, behind, is_uri, start}
use Rattle.hls_media.specs.Media.{after, fault_in, line_fault, line_faults, media_values, value_or_fault}
use Rattle.hls_media.specs.{States.{State, nothing}, Tags.tag_of, Told.{SegmentsAreTold, segment_behind}, Values.{below, number_of}}
use Rattle.hls_media.specs.declared.{media.{MediaSegment.MediaSegment}}
use Rattle.hls_media.proofs.Bounded.{nothing_with}
use Rattle.hls_writer.specs.Lines.{WrittenLine, header, version, target_duration, media_sequence, discontinuity_sequence}
use Rattle.hls_writer.specs.Lines.{initialization, program_date_time, duration, byte_range, uri, line_bytes}
use Rattle.hls_writer.specs.{Items.item_of, Playlists.{Head, Item, end_lines, items_lines, present}, declared.items.MediaItem.MediaItem}
use Rattle.followed_text.specs.Followed.{items_of}
use Rattle.publish_law.specs.Lists.{first_section}
use Rattle.laws_of_playlists.specs.ReadLines.{said_at, said_from_place}
use Rattle.laws_of_published_texts.proofs.Lines.{written}

-- ---- its bound

bound_from : (bound : ℕ) (place : Place) (o : Option ℕ) → fault_in (value_or_fault place (below bound o)) ≡ None → unwrap_or o 0 < bound
bound_from bound place None none = absurd (cc)
bound_from bound place (Some n) none = told (nat_lt n bound) refl none
  where
    told : (b : Bool) → nat_lt n bound ≡ b → fault_in (value_or_fault place (cond b (Some n) None)) ≡ None → n < bound
    told true less none = ltb-true n bound less
    told false less none = absurd (cc)

next : (url : List ℕ) (s : State) (line : WrittenLine) (lines : List WrittenLine) (place : Place)
    → line_faults url s (said_from_place place (line ∷ lines)) ≡ []
    → line_faults url (after url s (said_at line place)) (said_from_place (behind (line_bytes line) place) lines) ≡ []
next url s line lines place none =
    let rest = said_from_place (behind (line_bytes line) place) lines in
    (nothing_with (line_fault url s (said_at line place) (list_any is_uri rest)) (line_faults url (after url s (said_at line place)) rest)
    none).1

pub number_below : (url : List ℕ) (head : Head) (items : List Item) → line_faults url nothing (said_from_place start (written head items)) ≡ []
    → unwrap_or (number_of (decimal head.first_section)) 0 < 2 ^ 63
unfolding tag_of
number_below url head items none =
    let body = items_lines head.digits None items ++ end_lines head.ended in
    let from_section = discontinuity_sequence head.first_section ∷ body in
    let from_sequence = media_sequence head.sequence ∷ from_section in
    let from_target = target_duration head.target ∷ from_sequence in
    let a = behind (line_bytes header) start in
    let b = behind (line_bytes (version 6)) a in
    let c = behind (line_bytes (target_duration head.target)) b in
    let d = behind (line_bytes (media_sequence head.sequence)) c in
    let s = after url nothing (said_at (target_duration head.target) b) in
    let t = after url s (said_at (media_sequence head.sequence) c) in
    let at_version = next url nothing header (version 6 ∷ from_target) start none in
    let at_target = next url nothing (version 6) from_target a at_version in
    let at_sequence = next url nothing (target_duration head.target) from_sequence b at_target in
    let at_section = next url s (media_sequence head.sequence) from_section c at_sequence in
    let number = number_of (decimal head.first_section) in
    let rest = said_from_place (behind (line_bytes (discontinuity_sequence head.first_section)) d) body in
    bound_from (2 ^ 63) d number
    (nothing_with (fault_in (value_or_fault d (below (2 ^ 63) number)))
    (line_faults url (after url t (said_at (discontinuity_sequence head.first_section) d)) rest) at_section).0

-- ---- the first segment

-- It is in the section that the text tells, and has an init segment.
record IsFirst (segments : List MediaSegment) (section : ℕ) : Type 0 where
  segment : MediaSegment
  init : Part
  there : slice_get segments 0 ≡ Some segment
  init_is : segment.map ≡ Some init
  section_is : segment.section ≡ section

module _ (url : List ℕ) (told : SegmentsAreTold) (head : Head) (item : MediaItem) (more end : List WrittenLine) where
  abbrev lines_with : Option Range → List PlaylistLine
  lines_with range = said_from_place start (header ∷ version 6 ∷ target_duration head.target ∷ media_sequence head.sequence
      ∷ discontinuity_sequence head.first_section ∷ initialization item.map ∷ program_date_time item.date
      ∷ duration head.digits item.duration ∷ ((present (option_map byte_range range ∷ Some (uri item.address) ∷ []) ++ more) ++ end))

  first_in : (range : Option Range)
      → IsFirst (media_values url (lines_with range)).segments (unwrap_or (number_of (decimal head.first_section)) 0)
  unfolding tag_of
  first_in None = let lines = lines_with None in record {
    segment = segment_behind url (take 8 lines) item.address;
    init = _;
    there = told url (take 8 lines) item.address _ (drop 9 lines);
    init_is = refl;
    section_is = omega arith;
  }
  first_in (Some range) = let lines = lines_with (Some range) in record {
    segment = segment_behind url (take 9 lines) item.address;
    init = _;
    there = told url (take 9 lines) item.address _ (drop 10 lines);
    init_is = refl;
    section_is = omega arith;
  }

first_item : (digits section : ℕ) (segments : List MediaSegment) (dates : List ℤ) → IsFirst segments section
    → 1 ≤ length (items_of digits segments dates) → first_section 0 (items_of digits segments dates) ≡ section
first_item digits section [] dates is some = absurd (omega (arith, some))
first_item digits section (s ∷ ss) [] is some = absurd (omega (arith, some))
first_item digits section (s ∷ ss) (date ∷ dates) is some =
    let same = same_Some s is.segment is.there in
    let init : s.map ≡ Some is.init = ap (λ (x : MediaSegment). x.map) same ∙ is.init_is in
    rw init (ap (λ (x : MediaSegment). x.section) same ∙ is.section_is)

pub first_is_told : SegmentsAreTold → (url : List ℕ) (head : Head) (items : List MediaItem) → 1 ≤ length items
    → (segments : List MediaSegment) → (media_values url (said_from_place start (written head (map item_of items)))).segments ≡ segments
    → (digits : ℕ) (dates : List ℤ) → items ≡ items_of digits segments dates
    → first_section 0 items ≡ unwrap_or (number_of (decimal head.first_section)) 0
first_is_told told url head [] some segments are digits dates is = absurd (omega (arith, some))
first_is_told told url head (item ∷ items) some segments are digits dates is =
    let section = unwrap_or (number_of (decimal head.first_section)) 0 in
    let more = items_lines head.digits (Some item.section) (map item_of items) in
    let first = subst (λ (l : List MediaSegment). IsFirst l section) are (first_in url told head item more (end_lines head.ended) item.range) in
    ap (first_section 0) is ∙ first_item digits section segments dates first (subst (λ (l : List MediaItem). 1 ≤ length l) is some)
