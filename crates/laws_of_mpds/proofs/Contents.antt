-- What is read of a track in a section means what was written.
use Rattle.timeline.specs.declared.names.Names.TheVariants as names
use Rattle.std.proofs.Common.{◌≡◌, ℕ, zero, suc, ◌+◌, ◌-◌, ◌<◌, ◌≤◌, max, cond, Bool, true, false, List, [], ◌∷◌, length, map, drop, get_or}
use Rattle.std.proofs.{Common.{slice_index_or, Option, Some, None, unwrap_or, refl, sym, ◌∙◌, ap, ap₂, arith}, Math.Seq.drop-cons}
use Rattle.std.proofs.{lemmas.Bool.and_parts, lemmas.List.{drop_all, length-map}, lemmas.Option.slice_get-get_or}
use Rattle.std.specs.{Prelude.slice_get, List.{AllByRecursion, list_all}}
use Rattle.exact_time.specs.Time.{Time}
use Rattle.url_parts.specs.{declared.address.Part.Part, declared.range.Range.Range}
use Rattle.segment_forms.specs.{declared.form.Form.Form, declared.form.Form.TheVariants.{Plain, Players}, declared.pattern.Pattern.Pattern}
use Rattle.segment_forms.specs.{Media.{LiteralsName, NamesEach, TemplatesName, doubled, media_of}, Patterns.pattern_of}
use Rattle.template_ids.specs.Templates.{named}
use Rattle.timeline.specs.{declared.entry.End.End, declared.window.Window.Window, Expansions.{Closed, Extent, SegmentTimeline, numbered}}
use Rattle.timeline.specs.Listed.{instant_of, is_listed, listed, part_of_timing}
use Rattle.mpd_levels.specs.Segments.{Segments, if_any}
use Rattle.mpd_rules.specs.declared.rows.Description.{Description}
use Rattle.presentation.specs.{declared.parts.Content.Content, Presented.{listed_in, whole_window}, Meanings.{address_of, entry_of}}
use Rattle.presentation.specs.Meanings.{entry_with, listed_part, own_part, part_meant, part_with, segment_of}
use Rattle.mpd_presentation.specs.{Meanings.content_meant, Scales.scale_of}
use Rattle.dash_writer.specs.{Forms.{addresses_of, is_whole, pattern_in}, Segments.{duration_of, part_or_none}}
use Rattle.laws_of_mpds.specs.{Rows.in_row, Told.{list_told, players_told, segments_told, template_told, told_of, url_of}}
use Rattle.laws_of_mpds.specs.{Contents.{IsOwnPart, IsPlain, IsPlainFrom, ContentsAreMeant, TimedContentsAreMeant}, Forms.FormsGiveTheSame}
use Rattle.laws_of_mpds.proofs.{Addressed.own_address, Patterns.{HasPattern, first_low, has_pattern}, Times.{all_listed, durations_are}}
use Rattle.laws_of_mpds.proofs.Times.{extents_closed, length_row_at, row_at, row_is, timeline_expands}

-- ---- the files of segments

-- the segments of a timeline have these files, in order
abbrev pub HasParts : SegmentTimeline → List Part → Type 0
HasParts tl parts = (k : ℕ) (start end : Time) → k < length parts
    → part_meant tl (record { start = start; end = end; number = tl.first_number + k }) ≡ own_part (slice_get parts k)

pub own_parts : (tl : SegmentTimeline) (parts : List Part) → tl.names ≡ names.Addresses parts → HasParts tl parts
unfolding part_meant
own_parts tl parts named k start end within =
    let place : tl.first_number + k - tl.first_number ≡ k = omega arith in
    rw (named, place) refl

-- the reference at a place gives the part there
part_again : (url : List ℕ) (parts : List Part) (k : ℕ) → k < length parts → AllByRecursion IsOwnPart parts
    → listed_part url (slice_get (map url_of parts) k) ≡ own_part (slice_get parts k)
part_again url [] k within own = absurd (omega (arith, within))
part_again url (p ∷ parts) zero within own = ap (λ address. record {
  address = address;
  range = p.range;
}) (own_address url p.address own.0.address)
part_again url (p ∷ parts) (suc k) within own = part_again url parts k (omega (arith, within)) own.1

referred_parts : (tl : SegmentTimeline) (url : List ℕ) (parts : List Part) → tl.names ≡ names.Shared (map url_of parts) url
    → AllByRecursion IsOwnPart parts → HasParts tl parts
unfolding part_meant
referred_parts tl url parts named own k start end within =
    let place : tl.first_number + k - tl.first_number ≡ k = omega arith in
    rw (named, place) (part_again url parts k within own)

-- so does the address at a place, where no part is a byte range
whole_again : (url : List ℕ) (parts : List Part) (k : ℕ) → k < length parts → AllByRecursion IsOwnPart parts
    → list_all is_whole parts ≡ true
    → part_with None (address_of url (slice_index_or (addresses_of parts) k [])) ≡ own_part (slice_get parts k)
whole_again url [] k within own whole = absurd (omega (arith, within))
whole_again url (p ∷ parts) zero within own whole =
    no_range p.range (and_parts (is_whole p) (list_all is_whole parts) whole).0
    ∙ ap (λ address. record { address = address; range = p.range }) (own_address url p.address own.0.address)
  where
    no_range : (range : Option Range) → is_whole (record { address = p.address; range = range }) ≡ true
        → part_with None (address_of url p.address) ≡ record { address = address_of url p.address; range = range }
    no_range None is = refl
    no_range (Some range) is = absurd (cc)
whole_again url (p ∷ parts) (suc k) within own whole =
    whole_again url parts k (omega (arith, within)) own.1 (and_parts (is_whole p) (list_all is_whole parts) whole).1

named_parts : (tl : SegmentTimeline) (media id : List ℕ) (bandwidth : ℕ) (url : List ℕ) (parts : List Part) (first : ℕ)
    → tl.names ≡ names.Template media id bandwidth url → tl.first_number ≡ first → NamesEach (addresses_of parts) first media
    → AllByRecursion IsOwnPart parts → list_all is_whole parts ≡ true → HasParts tl parts
unfolding part_meant
named_parts tl media id bandwidth url parts first named counted each own whole k start end within =
    let below : k < length (addresses_of parts) = omega (arith, within, length-map parts (λ (part : Part). part.address)) in
    let number : tl.first_number + k ≡ first + k = ap (λ n. n + k) counted in
    rw named (ap (λ name. part_with None (address_of url name)) (each.names (record {
      id = id;
      bandwidth = bandwidth;
      number = tl.first_number + k;
      time = _;
    }) k below number) ∙ whole_again url parts k within own whole)

-- ---- the same segments

-- two timelines have the same files from a place on
module _ (window : Window) (tl other : SegmentTimeline) (parts : List Part) (one : HasParts tl parts) (two : HasParts other parts) where
  same_segments : (k n m : ℕ) (xs : List Extent) → n ≡ tl.first_number + k → m ≡ other.first_number + k → k + length xs ≤ length parts
      → map (segment_of other) (listed window (numbered m xs)) ≡ map (segment_of tl) (listed window (numbered n xs))
  same_segments k n m [] is also within = refl
  same_segments k n m (x ∷ xs) is also within =
      let part : part_meant other (record { start = x.start; end = x.end; number = m })
      ≡ part_meant tl (record { start = x.start; end = x.end; number = n }) =
      ap (λ number. part_meant other (record { start = x.start; end = x.end; number = number })) also
      ∙ two k x.start x.end (omega (arith, within)) ∙ sym (one k x.start x.end (omega (arith, within)))
      ∙ ap (λ number. part_meant tl (record { start = x.start; end = x.end; number = number })) (sym is) in
      go (is_listed window (record { start = x.start; end = x.end; number = n })) part
      (same_segments (k + 1) (n + 1) (m + 1) xs (omega (arith, is)) (omega (arith, also)) (omega (arith, within)))
    where
      go : (seen : Bool) → part_meant other (record { start = x.start; end = x.end; number = m })
          ≡ part_meant tl (record { start = x.start; end = x.end; number = n })
          → map (segment_of other) (listed window (numbered (m + 1) xs)) ≡ map (segment_of tl) (listed window (numbered (n + 1) xs))
          → map (segment_of other) (cond seen (record { start = x.start; end = x.end; number = m } ∷ listed window (numbered (m + 1) xs))
          (listed window (numbered (m + 1) xs)))
          ≡ map (segment_of tl) (cond seen (record { start = x.start; end = x.end; number = n } ∷ listed window (numbered (n + 1) xs))
          (listed window (numbered (n + 1) xs)))
      go true part later = ap₂ (λ part segments. record { part = part; start = x.start; end = x.end } ∷ segments) part later
      go false part later = later

-- and so the same entry
same_entries : (initialization : Part) (tl other : SegmentTimeline) (xs ys : List _)
    → map (segment_of other) ys ≡ map (segment_of tl) xs
    → entry_with initialization other ys ≡ entry_with initialization tl xs
same_entries initialization tl other [] [] same = refl
same_entries initialization tl other [] (y ∷ ys) same = absurd (cc)
same_entries initialization tl other (x ∷ xs) [] same = absurd (cc)
same_entries initialization tl other (x ∷ xs) (y ∷ ys) same = ap (λ segments. Some (record {
  initialization = initialization;
  segments = segments;
})) same

-- segments with these times and files
pub record IsGiven (content : Content) (part : Part) (xs : List Extent) (parts : List Part) : Type 0 where
  pub initialization : content.initialization ≡ part
  pub members : content.runs.members ≡ map Closed xs
  pub files : HasParts content.runs parts

given_listed : (window : Window) (content : Content) (xs : List Extent) → content.runs.members ≡ map Closed xs
    → listed_in window content.runs ≡ listed window (numbered content.runs.first_number xs)
given_listed window content xs members =
    rw members (ap (λ ys. listed window (numbered content.runs.first_number ys)) (extents_closed (instant_of window) xs))

pub given_same : (window : Window) (one two : Content) (part : Part) (xs : List Extent) (parts : List Part) → IsGiven one part xs parts
    → IsGiven two part xs parts → length xs ≡ length parts → entry_of window two ≡ entry_of window one
given_same window one two part xs parts first second paired =
    ap₂ (λ initialization ys. entry_with initialization two.runs ys) second.initialization (given_listed window two xs second.members)
    ∙ same_entries part one.runs two.runs (listed window (numbered one.runs.first_number xs)) (listed window
    (numbered two.runs.first_number xs)) (same_segments window one.runs two.runs parts first.files second.files 0
    one.runs.first_number two.runs.first_number xs (omega arith) (omega arith) (omega (arith, paired)))
    ∙ ap₂ (λ initialization ys. entry_with initialization one.runs ys) (sym first.initialization) (sym (given_listed window one xs
    first.members))

-- ---- what is read

whole_list : {X : Type 0} (xs : List X) → unwrap_or (if_any xs) [] ≡ xs
whole_list [] = refl
whole_list (x ∷ xs) = refl

module _ (templates : TemplatesName) (literals : LiteralsName) (ticks offset first : ℕ) (part : Part) (ds : List ℕ) (parts : List Part)
    (url : List ℕ) (end : End) (d : Description) (own : IsOwnPart part) (all : AllByRecursion IsOwnPart parts) (bases : d.bases ≡ []) where
  abbrev row : List Extent
  row = row_at (max 1 ticks) offset first ds

  list_given : (join : Bool) → IsGiven (content_meant url end d (list_told join ticks offset first part ds parts)) part row parts
  unfolding content_meant
  list_given join =
      let told = list_told join ticks offset first part ds parts in
      let runs = (content_meant url end d told).runs in
      let named : runs.names ≡ names.Shared (map url_of parts) url = rw (bases, whole_list (map url_of parts)) refl in
      record {
        initialization = rw (bases, own_address url part.address own.address) refl;
        members = timeline_expands join (scale_of told) end first ds;
        files = referred_parts runs url parts named all;
      }

  names_each : (xs : List (List ℕ)) (p : Pattern) → pattern_of xs ≡ Some p → NamesEach xs p.first_number (media_of xs)
  names_each [] p is = absurd (cc)
  names_each (address ∷ rest) p is = rw is (templates address rest p is)

  module _ (p : Pattern) (is : pattern_in part parts ≡ Some p) where
    abbrev told : Segments
    told = template_told ticks offset first part.address (media_of (addresses_of parts)) p.first_number ds

    template_given : IsGiven (content_meant url end d told) part row parts
    unfolding content_meant
    template_given =
        let has : HasPattern part parts p = has_pattern part parts p is in
        let whole = and_parts (is_whole part) (list_all is_whole parts) has.whole in
        let runs = (content_meant url end d told).runs in
        let by_template : runs.names ≡ names.Template (media_of (addresses_of parts)) d.id d.bandwidth url = rw bases refl in
        let low = first_low part parts p is in
        let counted : runs.first_number ≡ p.first_number = omega (arith, low) in
        let text : named (doubled part.address) (record { id = d.id; bandwidth = d.bandwidth; number = 0; time = 0 }) ≡ part.address =
        (literals part.address).names _ in
        record {
          initialization = rw (bases, text) (whole_again url (part ∷ []) 0 (omega arith) (own, tt) (rw whole.0 refl));
          members = timeline_expands true (scale_of told) end first ds;
          files = named_parts runs (media_of (addresses_of parts)) d.id d.bandwidth url parts p.first_number by_template counted
              (names_each (addresses_of parts) p has.found) all whole.1;
        }

  players_given : (found : Option Pattern) → pattern_in part parts ≡ found
      → IsGiven (content_meant url end d (players_told found ticks offset first part ds parts)) part row parts
  players_given None is = list_given false
  players_given (Some p) is = template_given p is

  pub form_given : (form : Form) → IsGiven (content_meant url end d (segments_told form ticks offset first part ds parts)) part row parts
  form_given Plain = list_given true
  form_given Players = players_given (pattern_in part parts) refl

pub forms_give : TemplatesName → LiteralsName → FormsGiveTheSame
forms_give templates literals window ticks offset first part ds parts url end d own all paired bases =
    let given = form_given templates literals ticks offset first part ds parts url end d own all bases in
    given_same window (content_meant url end d (segments_told Plain ticks offset first part ds parts))
    (content_meant url end d (segments_told Players ticks offset first part ds parts)) part (row_at (max 1 ticks) offset first ds) parts
    (given Plain) (given Players) (length_row_at (max 1 ticks) offset first ds ∙ paired)

-- ---- a content

pub listed_from : (from : ℕ) (c : Content) (plain : IsPlainFrom from c)
    → listed_in whole_window c.runs ≡ numbered c.runs.first_number (in_row c.runs.ticks from plain.durations)
listed_from from c plain = given_listed whole_window c (in_row c.runs.ticks from plain.durations) plain.members
    ∙ all_listed c.runs.ticks from c.runs.first_number plain.durations plain.positive plain.lasting

-- one from the section's start on is one from a time on
abbrev pub from_start : (c : Content) → IsPlain c → IsPlainFrom 0 c
from_start c plain = record {
  parts = plain.parts;
  durations = plain.durations;
  named = plain.named;
  members = plain.members;
  paired = plain.paired;
  positive = plain.positive;
  lasting = plain.lasting;
  initialization = plain.initialization;
  own = plain.own;
}

pub listed_is : (c : Content) (plain : IsPlain c) → listed_in whole_window c.runs
    ≡ numbered c.runs.first_number (in_row c.runs.ticks 0 plain.durations)
listed_is c plain = listed_from 0 c (from_start c plain)

pub length_row : (ticks from : ℕ) (ds : List ℕ) → length (in_row ticks from ds) ≡ length ds
length_row ticks from [] = refl
length_row ticks from (d ∷ ds) = ap suc (length_row ticks (from + d) ds)

-- the parts of segments are those from a place on
parts_behind : (tl : SegmentTimeline) (parts : List Part) (k n : ℕ) (xs : List Extent) → tl.names ≡ names.Addresses parts
    → n ≡ tl.first_number + k
    → k + length xs ≡ length parts
    → map (λ x. part_or_none (part_of_timing tl x)) (numbered n xs) ≡ drop k parts
parts_behind tl parts k n [] named is paired = sym (drop_all k parts (omega (arith, paired)))
parts_behind tl parts k n (x ∷ xs) named is paired =
    let here : n - tl.first_number ≡ k = omega (arith, is) in
    let within : k < length parts = omega (arith, paired) in
    let nowhere : Part = record { address = []; range = None } in
    let next : suc k ≡ k + 1 = omega arith in
    rw (named, here, slice_get-get_or parts k nowhere within)
    (ap (λ more. get_or parts k nowhere ∷ more)
    (parts_behind tl parts (k + 1) (n + 1) xs named (omega (arith, is)) (omega (arith, paired)) ∙ ap (λ j. drop j parts) (sym next))
    ∙ sym (drop-cons parts k nowhere within))

pub parts_are : (c : Content) (plain : IsPlain c) → map (λ x. part_or_none (part_of_timing c.runs x)) (listed_in whole_window c.runs)
    ≡ plain.parts
parts_are c plain =
    ap (map (λ x. part_or_none (part_of_timing c.runs x))) (listed_is c plain)
    ∙ parts_behind c.runs plain.parts 0 c.runs.first_number (in_row c.runs.ticks 0 plain.durations) plain.named (omega arith)
    (omega (arith, length_row c.runs.ticks 0 plain.durations, plain.paired))

-- what was written of it
pub told_is : (form : Form) (c : Content) (plain : IsPlain c)
    → told_of form c.runs c.initialization (listed_in whole_window c.runs)
    ≡ segments_told form c.runs.ticks 0 0 c.initialization plain.durations plain.parts
told_is form c plain =
    ap₂ (segments_told form c.runs.ticks 0 0 c.initialization)
    (ap (map duration_of) (listed_is c plain) ∙ durations_are c.runs.ticks 0 c.runs.first_number plain.durations) (parts_are c plain)

-- and what is read of that, at any window
pub contents_seen : TemplatesName → LiteralsName → (window : Window) (form : Form) (c : Content) (offset from : ℕ) (url : List ℕ)
    (end : End)
    (d : Description) (plain : IsPlainFrom from c)
    → d.bases ≡ []
    → entry_of window (content_meant url end d (segments_told form c.runs.ticks offset (offset + from) c.initialization plain.durations
    plain.parts))
    ≡ entry_of window c
contents_seen templates literals window form c offset from url end d plain bases =
    let ds = plain.durations in
    let ticks : max 1 c.runs.ticks ≡ c.runs.ticks = omega (arith, plain.positive) in
    let same : in_row c.runs.ticks from ds ≡ row_at (max 1 c.runs.ticks) offset (offset + from) ds =
    ap (λ t. in_row t from ds) (sym ticks) ∙ sym (row_is (max 1 c.runs.ticks) offset from ds) in
    given_same window c (content_meant url end d (segments_told form c.runs.ticks offset (offset + from) c.initialization ds
    plain.parts)) c.initialization (row_at (max 1 c.runs.ticks) offset (offset + from) ds) plain.parts
    (record {
      initialization = refl;
      members = plain.members ∙ ap (map Closed) same;
      files = own_parts c.runs plain.parts plain.named;
    })
    (form_given templates literals c.runs.ticks offset (offset + from) c.initialization ds plain.parts url end d plain.initialization
    plain.own bases form) (length_row_at (max 1 c.runs.ticks) offset (offset + from) ds ∙ plain.paired)

pub timed_contents : TemplatesName → LiteralsName → TimedContentsAreMeant
timed_contents templates literals form c offset from url end d plain bases =
    contents_seen templates literals whole_window form c offset from url end d plain bases

pub contents_are_meant : TemplatesName → LiteralsName → ContentsAreMeant
contents_are_meant templates literals form c url end d plain bases =
    ap (λ t. entry_of whole_window (content_meant url end d t)) (told_is form c plain)
    ∙ timed_contents templates literals form c 0 0 url end d (from_start c plain) bases
