-- Both forms of a written MPD mean the same.
use Rattle.std.specs.{Prelude.{◌≡◌, ℕ, ℤ, List, [], All, Option, length}, List.AllByRecursion}
use Rattle.url_parts.specs.declared.address.Part.{Part}
use Rattle.timeline.specs.{declared.entry.End.End, declared.window.Window.Window}
use Rattle.mpd_rules.specs.declared.rows.Description.{Description}
use Rattle.presentation.specs.{Presented.Presented, Meanings.entry_of}
use Rattle.mpd_presentation.specs.Meanings.{content_meant, dash_meaning}
use Rattle.segment_forms.specs.declared.form.Form.TheVariants.{Plain, Players}
use Rattle.dash_writer.specs.{Live.live_text, Manifest.manifest_text, Timed.timed_text}
use Rattle.dash_writer.specs.{declared.live.LiveMpd.LiveMpd, declared.timed.TickRun.TickRun}
use Rattle.laws_of_mpds.specs.{Contents.IsOwnPart, Live.IsReadableMpd, Meant.IsWritable, Texts.IsTellable, Timed.IsTimed}
use Rattle.laws_of_mpds.specs.Told.{segments_told}

-- Segments with a duration and a URL of their own are the same in both forms, at any timescale and media times, and whichever of
-- them can be seen.
abbrev pub FormsGiveTheSame : Type 0
FormsGiveTheSame = (window : Window) (ticks offset first : ℕ) (part : Part) (durations : List ℕ) (parts : List Part) (url : List ℕ)
    (end : End) (d : Description)
    → IsOwnPart part → AllByRecursion IsOwnPart parts → length durations ≡ length parts → d.bases ≡ []
    → entry_of window (content_meant url end d (segments_told Players ticks offset first part durations parts))
    ≡ entry_of window (content_meant url end d (segments_told Plain ticks offset first part durations parts))

-- ---- whole MPDs, at any URL and time

abbrev pub FormsMeanTheSame : Type 0
FormsMeanTheSame = (p : Presented) (url : List ℕ) (now : Option ℤ) → IsWritable p → All IsTellable p.tracks
    → dash_meaning (manifest_text Players p) url now ≡ dash_meaning (manifest_text Plain p) url now

-- with the decode times of the files
abbrev pub TimedFormsMeanTheSame : Type 0
TimedFormsMeanTheSame = (p : Presented) (times : List TickRun) (url : List ℕ) (now : Option ℤ) → IsWritable p → All IsTellable p.tracks
    → IsTimed p times → dash_meaning (timed_text Players p times) url now ≡ dash_meaning (timed_text Plain p times) url now

-- of live presentations: whatever can be seen of them at the time
abbrev pub LiveFormsMeanTheSame : Type 0
LiveFormsMeanTheSame = (mpd : LiveMpd) (url : List ℕ) (now : Option ℤ) → IsReadableMpd mpd
    → dash_meaning (live_text Players mpd) url now ≡ dash_meaning (live_text Plain mpd) url now
