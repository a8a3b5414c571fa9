-- What is read back of a track in a section means what was written.
use Rattle.std.specs.{Prelude.{◌≡◌, ℕ, ◌+◌, ◌<◌, List, [], length, map}, List.AllByRecursion}
use Rattle.segment_forms.specs.declared.form.Form.{Form}
use Rattle.url_parts.specs.{Addresses.IsAddress, declared.address.Part.Part}
use Rattle.timeline.specs.{declared.entry.End.End, declared.names.Names.TheVariants.Addresses, Expansions.Closed}
use Rattle.mpd_rules.specs.declared.rows.Description.{Description}
use Rattle.presentation.specs.{declared.parts.Content.Content, Presented.{listed_in, whole_window}, Meanings.entry_of}
use Rattle.mpd_presentation.specs.Meanings.{content_meant}
use Rattle.laws_of_mpds.specs.{Rows.in_row, Told.{IsReadable, IsShort, segments_told, told_of}}

-- a file, or a byte range, by a URL that resolves to itself
pub record IsOwnPart (part : Part) : Type 0 where
  pub address : IsAddress part.address
  pub readable : IsReadable part

-- consecutive segments from the section's start, each with a duration above 0 and its own URL
pub record IsPlain (c : Content) : Type 0 where
  pub parts : List Part
  pub durations : List ℕ
  pub named : c.runs.names ≡ Addresses parts
  pub members : c.runs.members ≡ map Closed (in_row c.runs.ticks 0 durations)
  pub paired : length durations ≡ length parts
  pub positive : 0 < c.runs.ticks
  pub lasting : AllByRecursion (λ d. 0 < d) durations
  pub ticks : IsShort c.runs.ticks
  pub short : AllByRecursion IsShort durations
  pub few : IsShort (length durations)
  pub initialization : IsOwnPart c.initialization
  pub own : AllByRecursion IsOwnPart parts

-- the same, where the first segment begins `from` ticks after the section's start
pub record IsPlainFrom (from : ℕ) (c : Content) : Type 0 where
  pub parts : List Part
  pub durations : List ℕ
  pub named : c.runs.names ≡ Addresses parts
  pub members : c.runs.members ≡ map Closed (in_row c.runs.ticks from durations)
  pub paired : length durations ≡ length parts
  pub positive : 0 < c.runs.ticks
  pub lasting : AllByRecursion (λ d. 0 < d) durations
  pub initialization : IsOwnPart c.initialization
  pub own : AllByRecursion IsOwnPart parts

-- whatever the URL of the MPD and the end of the Period
abbrev pub ContentsAreMeant : Type 0
ContentsAreMeant = (form : Form) (c : Content) (url : List ℕ) (end : End) (d : Description) → IsPlain c → d.bases ≡ []
    → entry_of whole_window (content_meant url end d (told_of form c.runs c.initialization (listed_in whole_window c.runs)))
    ≡ entry_of whole_window c

-- and at any media time of the section's start
abbrev pub TimedContentsAreMeant : Type 0
TimedContentsAreMeant = (form : Form) (c : Content) (offset from : ℕ) (url : List ℕ) (end : End) (d : Description)
    (plain : IsPlainFrom from c)
    → d.bases ≡ []
    → entry_of whole_window (content_meant url end d (segments_told form c.runs.ticks offset
    (offset + from) c.initialization plain.durations plain.parts))
    ≡ entry_of whole_window c
