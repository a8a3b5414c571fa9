-- The decode times of a presentation's media files, and which file is rejected for them (ISO/IEC 14496-12, 8.4.2 and 8.8.12).
use Rattle.fragment_times.specs.declared.fault.TimesFault.TheVariants as fault
use Rattle.bridge_report.specs.declared.refusal.Refusal.TheVariants as refusal
use Rattle.bridge_report.specs.declared.times_refusal.TimesRefusal.TheVariants as times
use Rattle.std.specs.Prelude.{ℕ, nat_lt, ◌&&◌, Bool, List, length, slice_get, if◌then◌else◌, Option, None, unwrap_or, Result}
use Rattle.std.specs.Option.{option_and_then}
use Rattle.bridge_io.specs.{Outside.Files, Answer.told_as}
use Rattle.url_parts.specs.{Addresses.local_name_of, declared.address.Part.Part}
use Rattle.fragment_times.specs.{declared.fault.SegmentSpot.SegmentSpot, declared.fault.TimesFault.TimesFault}
use Rattle.fragment_times.specs.{declared.times.SegmentTimes.SegmentTimes, Durations.durations_of, Times.{parts_of, times_of}}
use Rattle.segment_forms.specs.declared.form.Form.{Form}
use Rattle.presentation.specs.{declared.fault.PresentationFault.TheVariants.Memory, declared.parts.Content.Content}
use Rattle.presentation.specs.Presented.{Presented, content_at, listed_at}
use Rattle.bridge_playlists.specs.declared.place.StorePlace.{StorePlace}
use Rattle.bridge_report.specs.Reading.{Named}

-- ---- the file of a segment

-- the URL and byte range of a listed segment of a track in a section
abbrev pub listed_part : Presented → SegmentSpot → Option Part
listed_part p spot = option_and_then
    (λ (content : Content). slice_get (parts_of content.runs (listed_at p spot.section spot.track)) spot.segment)
    (content_at p spot.section spot.track)

abbrev pub is_within : Presented → SegmentSpot → Bool
is_within p spot = nat_lt spot.section (length p.sections) && nat_lt spot.track (length p.tracks)

-- `None` where it is out of range
abbrev pub part_at : Presented → SegmentSpot → Option Part
part_at p spot = if is_within p spot then listed_part p spot else None

abbrev pub file_at : (folder : List ℕ) → Presented → SegmentSpot → Option (List ℕ)
file_at folder p spot = option_and_then (λ (part : Part). local_name_of folder part.address) (part_at p spot)

-- ---- errors

-- An error names the manifest or a media file. I/O errors and out of memory have no error code.
abbrev pub named_by : (manifest : StorePlace) → Presented → TimesFault → Named
named_by manifest p fault.OutsideBase = (manifest.file, refusal.Times times.OutsideBase)
named_by manifest p (fault.File file told) = (file, refusal.Times (times.File told))
named_by manifest p (fault.Segment spot told) = (unwrap_or (file_at manifest.folder p spot) manifest.file, refusal.Times (times.File told))
named_by manifest p fault.Range = (manifest.file, refusal.Times times.Range)
named_by manifest p fault.Fault = (manifest.file, refusal.Presentation Memory)
named_by manifest p fault.Memory = (manifest.file, refusal.Presentation Memory)

-- ---- times

abbrev pub times_at : (manifest : StorePlace) → Files → Presented → Result (List SegmentTimes) Named
times_at manifest files p = told_as (named_by manifest p) (times_of manifest.folder files p)

abbrev pub durations_at : Form → (manifest : StorePlace) → Presented → List SegmentTimes → Result (List (List ℕ)) Named
durations_at form manifest p times = told_as (named_by manifest p) (durations_of form p times)
