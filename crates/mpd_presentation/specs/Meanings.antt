-- What an MPD means at its URL and a time (ISO/IEC 23009-1, 5.3), without any limit, and without bounds on numbers and on
-- the length of URLs.
use Rattle.timeline.specs.declared.names.Names.TheVariants as names
use Rattle.std.specs.Prelude.{ℕ, ℤ, ◌-◌, ◌^◌, ◌&&◌, nat_lt, max, Bool, List, [], map, length, Option, Some, None, option_and_then}
use Rattle.std.specs.{Prelude.{unwrap_or, if◌then◌else◌}, List.list_all, Option.option_map_or, Result.result_ok}
use Rattle.timeline.specs.{declared.entry.End.End, declared.names.Names.Names, declared.window.Window.Window, Expansions.SegmentTimeline}
use Rattle.timeline.specs.{Faults.members_by, Names.count_of, SegmentTimelines.timeline_from, Timelines.expansion_of_timeline}
use Rattle.mpd_entries.specs.declared.entry.SEntry.{SEntry}
use Rattle.meaning.specs.Meanings.{Entry, Meaning}
use Rattle.mpd_levels.specs.Segments.{Segments}
use Rattle.mpd_rules.specs.{declared.facts.Facts.Facts, declared.rows.Description.Description, Rules.dash_values, Typed.TypedMpd}
use Rattle.mpd_tree.specs.Meaning.{reading_of}
use Rattle.presentation.specs.{declared.parts.Content.Content, Presented.{window_at, whole_window}}
use Rattle.presentation.specs.Meanings.{part_with, Head, address_by, deepest, entry_of, head_with, meaning_with}
use Rattle.mpd_presentation.specs.{Rows.{Row, Period, first_rows, in_order}, Scales.scale_of}
use Rattle.mpd_presentation.specs.Told.{end_of, following_of, init_reference, names_of, segments_in}

-- ---- what an MPD means

-- a timeline takes precedence over a duration (5.3.9.2)
abbrev pub timeline_by : Option (List SEntry) → Segments → End → Names → SegmentTimeline
timeline_by (Some timeline) s end names = timeline_from (scale_of s) s.time_offset names
    (expansion_of_timeline (scale_of s) end timeline)
timeline_by None s end names = timeline_from (scale_of s) 0 names
    (members_by (max 1 s.timescale) end (unwrap_or s.duration 0) (count_of names))

abbrev pub content_with : Description → Segments → End → (base : List ℕ) → Content
content_with d s end base = record {
  initialization = part_with s.init_range (address_by base (init_reference d s s.init_template));
  runs = timeline_by s.timeline s end (names_of d s (unwrap_or s.media []) base);
}

-- the content of a Representation in its Period, which has this end
unfoldable pub content_meant : (url : List ℕ) → End → Description → Segments → Content
content_meant url end d s = content_with d s end (deepest url d.bases)

abbrev pub content_of_row : (url : List ℕ) → End → Row → Content
content_of_row url end row = content_meant url end row.description (segments_in row)

-- the window of a Period; that of a dynamic MPD depends on the time
abbrev pub window_in : Facts → (now : Option ℤ) → Period → Window
window_in facts now period = option_map_or (λ f. window_at f period.bounds.start) (following_of facts now) whole_window

abbrev pub row_meant : (url : List ℕ) → Facts → (now : Option ℤ) → Period → List (Option Entry)
row_meant url facts now period = map (λ row. entry_of (window_in facts now period) (content_of_row url (end_of period) row))
    (in_order period.tracks)

abbrev pub head_of_row : Row → Head
head_of_row row = head_with row.description.kind row.description.language

-- the tracks are the Representations of the first Period, video before audio before text
unfoldable pub mpd_meaning : TypedMpd (Option Segments) → (url : List ℕ) → (now : Option ℤ) → Meaning
mpd_meaning mpd url now = meaning_with (map head_of_row (in_order (first_rows mpd.periods))) (map (row_meant url mpd.facts now) mpd.periods)

-- its segments can be timed and numbered: the timescale isn't 0
abbrev pub is_counted : Segments → Bool
is_counted s = nat_lt 0 s.timescale && nat_lt s.start_number (2 ^ 63)

abbrev pub row_counted : Row → Bool
row_counted row = is_counted (segments_in row)

abbrev pub period_counted : Period → Bool
period_counted period = list_all row_counted period.tracks

abbrev pub are_counted : TypedMpd (Option Segments) → Bool
are_counted mpd = list_all period_counted mpd.periods

abbrev pub meaning_if_counted : TypedMpd (Option Segments) → (url : List ℕ) → (now : Option ℤ) → Option Meaning
meaning_if_counted mpd url now = if are_counted mpd then Some (mpd_meaning mpd url now) else None

-- What the text of an MPD means at its URL and a time. A text that isn't that of a tree has no meaning, nor has an MPD with a
-- timescale of 0 or a start number of 2^63 or more.
unfoldable pub dash_meaning : (bytes url : List ℕ) → (now : Option ℤ) → Option Meaning
dash_meaning bytes url now = option_and_then (λ tree. meaning_if_counted (dash_values tree) url now) (result_ok (reading_of bytes))
