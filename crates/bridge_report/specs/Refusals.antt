-- Why a command's input is rejected, and the report's line for it.
use Rattle.bridge_jobs.specs.declared.frame.FrameFault.TheVariants as frame
use Rattle.mpd_tree.specs.declared.fault.TextFault.TheVariants as text
use Rattle.mpd_profile.specs.declared.fault.RuleFault.TheVariants as rules
use Rattle.hls_lines.specs.declared.fault.LineFault.TheVariants as line
use Rattle.hls_master.specs.declared.fault.MasterFault.TheVariants as master
use Rattle.hls_media.specs.declared.fault.MediaFault.TheVariants as media
use Rattle.presentation.specs.declared.fault.Spot.TheVariants as address
use Rattle.presentation.specs.declared.fault.PresentationFault.TheVariants as presentation
use Rattle.layer_faults.specs.declared.live.LiveFault.TheVariants as live
use Rattle.bridge_report.specs.declared.refusal.Refusal.TheVariants as refusal
use Rattle.bridge_report.specs.declared.refusal.Stop.TheVariants as stop
use Rattle.std.specs.Prelude.{ℕ, List, [], ◌++◌, codes, decimal, Option, Some, None}
use Rattle.bridge_io.specs.Slurped.{Unread, Long, Missing}
use Rattle.bridge_jobs.specs.declared.frame.FrameFault.{FrameFault}
use Rattle.mpd_tree.specs.declared.fault.TextFault.{TextFault}
use Rattle.mpd_profile.specs.declared.fault.RuleFault.{RuleFault}
use Rattle.hls_lines.specs.declared.fault.LineFault.{LineFault}
use Rattle.hls_master.specs.declared.fault.MasterFault.{MasterFault}
use Rattle.hls_media.specs.declared.fault.MediaFault.{MediaFault}
use Rattle.presentation.specs.{declared.fault.Spot.Spot as AddressSpot, declared.fault.PresentationFault.PresentationFault}
use Rattle.layer_faults.specs.declared.live.LiveFault.{LiveFault}
use Rattle.bridge_report.specs.{declared.spot.Spot.Spot, declared.spot.Spot.TheVariants.{Byte, At, Segment}}
use Rattle.bridge_report.specs.{declared.refusal.Refusal.Refusal, declared.refusal.Stop.Stop, FileTimes.{times_spot, times_words}}
use Rattle.bridge_report.specs.Indexes.{index_spot, index_words}
use Rattle.bridge_report.specs.Words.{text_words, rule_words, presentation_words, media_words, master_words, hls_words, frame_words}
use Rattle.bridge_report.specs.Words.{update_words, live_words}

-- ---- where

abbrev pub text_spot : TextFault → Option Spot
text_spot (text.NotUtf8 place) = Some (At place)
text_spot (text.BadChar place) = Some (At place)
text_spot (text.Cut place) = Some (At place)
text_spot (text.Syntax place) = Some (At place)
text_spot (text.TagMismatch place) = Some (At place)
text_spot (text.DoubleAttribute place) = Some (At place)
text_spot (text.Entity place) = Some (At place)
text_spot (text.Doctype place) = Some (At place)
text_spot (text.Cdata place) = Some (At place)
text_spot (text.Instruction place) = Some (At place)
text_spot (text.Depth place) = Some (At place)
text_spot text.Memory = None

abbrev pub rule_spot : RuleFault → Option Spot
rule_spot (rules.Root place) = Some (At place)
rule_spot (rules.Namespace place) = Some (At place)
rule_spot (rules.Missing place) = Some (At place)
rule_spot (rules.Value place) = Some (At place)
rule_spot (rules.NoStart place) = Some (At place)
rule_spot (rules.PeriodOrder place) = Some (At place)
rule_spot (rules.Encryption place) = Some (At place)
rule_spot (rules.Events place) = Some (At place)
rule_spot (rules.LowLatency place) = Some (At place)
rule_spot (rules.Remote place) = Some (At place)
rule_spot (rules.Essential place) = Some (At place)
rule_spot (rules.Unsupported place) = Some (At place)
rule_spot (rules.IndexNeeded place) = Some (At place)
rule_spot (rules.NoTracks place) = Some (At place)
rule_spot rules.Memory = None

-- the spot of a URL
abbrev pub spot_told : AddressSpot → Spot
spot_told (address.At place) = At place
spot_told (address.Segment section track segment) = Segment section track segment

-- a track without segments is reported as its first segment
abbrev pub presentation_spot : PresentationFault → Option Spot
presentation_spot (presentation.PeriodsDiffer place) = Some (At place)
presentation_spot presentation.Limit = None
presentation_spot (presentation.NoSegments section track) = Some (Segment section track 0)
presentation_spot (presentation.Url fault spot) = Some (spot_told spot)
presentation_spot (presentation.Template fault place) = Some (At place)
presentation_spot (presentation.Timeline fault place) = Some (At place)
presentation_spot presentation.NeedsNow = None
presentation_spot presentation.Memory = None

abbrev pub line_spot : LineFault → Option Spot
line_spot (line.NotUtf8 place) = Some (At place)
line_spot (line.BadChar place) = Some (At place)
line_spot (line.Header place) = Some (At place)
line_spot (line.Attribute place) = Some (At place)
line_spot (line.DoubleAttribute place) = Some (At place)
line_spot line.Memory = None

abbrev pub media_spot : MediaFault → Option Spot
media_spot (media.Line fault) = line_spot fault
media_spot (media.NoTarget place) = Some (At place)
media_spot (media.Duration place) = Some (At place)
media_spot (media.LongSegment place) = Some (At place)
media_spot (media.RangeStart place) = Some (At place)
media_spot (media.Limit place) = Some (At place)
media_spot (media.Encryption place) = Some (At place)
media_spot (media.Events place) = Some (At place)
media_spot (media.LowLatency place) = Some (At place)
media_spot (media.Unsupported place) = Some (At place)
media_spot (media.Url fault place) = Some (At place)
media_spot (media.Value place) = Some (At place)
media_spot (media.Misplaced place) = Some (At place)
media_spot media.Memory = None

abbrev pub master_spot : MasterFault → Option Spot
master_spot (master.Line fault) = line_spot fault
master_spot (master.Missing place) = Some (At place)
master_spot (master.Value place) = Some (At place)
master_spot (master.Misplaced place) = Some (At place)
master_spot (master.Url fault place) = Some (At place)
master_spot (master.Muxed place) = Some (At place)
master_spot (master.GroupUnknown place) = Some (At place)
master_spot (master.SameName place) = Some (At place)
master_spot (master.Encryption place) = Some (At place)
master_spot (master.Unsupported place) = Some (At place)
master_spot (master.NoTracks place) = Some (At place)
master_spot (master.Limit place) = Some (At place)
master_spot master.Memory = None

-- a position in the stream
abbrev pub frame_spot : FrameFault → Option Spot
frame_spot (frame.Header place) = Some (At place)
frame_spot (frame.Cut place) = Some (At place)
frame_spot (frame.TooMany place) = Some (At place)
frame_spot frame.Fault = None
frame_spot frame.Memory = None

abbrev pub spot_of : Refusal → Option Spot
spot_of refusal.Base = None
spot_of (refusal.TooLong place) = Some (At place)
spot_of refusal.Absent = None
spot_of (refusal.Text fault) = text_spot fault
spot_of (refusal.Rules fault) = rule_spot fault
spot_of (refusal.Presentation fault) = presentation_spot fault
spot_of (refusal.Media fault) = media_spot fault
spot_of (refusal.Master fault) = master_spot fault
spot_of refusal.OutsideBase = None
spot_of refusal.TooManySegments = None
spot_of (refusal.Hls fault) = None
spot_of refusal.NotStatic = None
spot_of (refusal.Frame fault) = frame_spot fault
spot_of refusal.NotOpen = None
spot_of (refusal.Session fault) = None
spot_of (refusal.Index index) = index_spot index
spot_of (refusal.Times times) = times_spot times
spot_of (refusal.Live fault) = None

abbrev pub spot_text : Option Spot → List ℕ
spot_text None = []
spot_text (Some (Byte at)) = codes " at " ++ decimal at
spot_text (Some (At place)) = codes " at " ++ decimal place.at ++ codes " line " ++ decimal place.line
spot_text (Some (Segment section track segment)) = codes " section " ++ decimal section ++ codes " track " ++ decimal track
    ++ codes " segment " ++ decimal segment

-- ---- what

abbrev pub words_of : Refusal → List ℕ
words_of refusal.Base = codes "job 1 Base"
words_of (refusal.TooLong place) = codes "io 1 TooLong"
words_of refusal.Absent = codes "io 2 Absent"
words_of (refusal.Text fault) = text_words fault
words_of (refusal.Rules fault) = rule_words fault
words_of (refusal.Presentation fault) = presentation_words fault
words_of (refusal.Media fault) = media_words fault
words_of (refusal.Master fault) = master_words fault
words_of refusal.OutsideBase = codes "job 2 OutsideBase"
words_of refusal.TooManySegments = codes "job 3 Limit"
words_of (refusal.Hls fault) = hls_words fault
words_of refusal.NotStatic = codes "job 4 NotStatic"
words_of (refusal.Frame fault) = frame_words fault
words_of refusal.NotOpen = codes "frame 4 NotOpen"
words_of (refusal.Session fault) = update_words fault
words_of (refusal.Index index) = index_words index
words_of (refusal.Times times) = times_words times
words_of (refusal.Live fault) = live_words fault

-- the report's text for an error, without the file: its code, and the position, if there is one
unfoldable pub refusal_text : Refusal → List ℕ
refusal_text refusal = words_of refusal ++ spot_text (spot_of refusal)

-- the same with the name of the file, before the position
unfoldable pub file_refusal_text : (file : List ℕ) → Refusal → List ℕ
file_refusal_text file refusal = words_of refusal ++ (codes " " ++ file) ++ spot_text (spot_of refusal)

-- the report's line for a rejected file; `-` stands for no file
unfoldable pub refusal_line : (file : List ℕ) → Refusal → List ℕ
refusal_line file refusal = codes "refused " ++ file ++ codes " " ++ refusal_text refusal ++ codes "\n"

-- ---- results, where out of memory says nothing about the input

abbrev pub refused_in : Stop → Option Refusal
refused_in (stop.Refused refusal) = Some refusal
refused_in stop.Memory = None

abbrev pub stop_of_text : TextFault → Stop
stop_of_text text.Memory = stop.Memory
stop_of_text fault = stop.Refused (refusal.Text fault)

abbrev pub stop_of_rules : RuleFault → Stop
stop_of_rules rules.Memory = stop.Memory
stop_of_rules fault = stop.Refused (refusal.Rules fault)

abbrev pub stop_of_presentation : PresentationFault → Stop
stop_of_presentation presentation.Memory = stop.Memory
stop_of_presentation fault = stop.Refused (refusal.Presentation fault)

abbrev pub stop_of_media : MediaFault → Stop
stop_of_media media.Memory = stop.Memory
stop_of_media fault = stop.Refused (refusal.Media fault)

abbrev pub stop_of_live : LiveFault → Stop
stop_of_live live.Memory = stop.Memory
stop_of_live fault = stop.Refused (refusal.Live fault)

-- a file that isn't read whole
abbrev pub refusal_of_file : Unread → Refusal
refusal_of_file (Long place) = refusal.TooLong place
refusal_of_file Missing = refusal.Absent
