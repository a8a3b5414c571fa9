-- The error code of the report for each fault: the layer's word, the number and the name.
use Rattle.bridge_jobs.specs.declared.frame.FrameFault.TheVariants as frame
use Rattle.mpd_tree.specs.declared.fault.TextFault.TheVariants as text
use Rattle.mpd_profile.specs.declared.fault.RuleFault.TheVariants as rules
use Rattle.layer_faults.specs.declared.live.LiveFault.TheVariants as live
use Rattle.bridge_report.specs.declared.update_fault.UpdateFault.TheVariants as update
use Rattle.hls_lines.specs.declared.fault.LineFault.TheVariants as line
use Rattle.hls_master.specs.declared.fault.MasterFault.TheVariants as master
use Rattle.hls_media.specs.declared.fault.MediaFault.TheVariants as media
use Rattle.layer_faults.specs.declared.hls.HlsFault.TheVariants as hls
use Rattle.url_parts.specs.declared.fault.UrlFault.TheVariants as url
use Rattle.template_ids.specs.declared.fault.TemplateFault.TheVariants as template
use Rattle.timeline.specs.declared.fault.TimeFault.TheVariants as times
use Rattle.presentation.specs.declared.fault.PresentationFault.TheVariants as presentation
use Rattle.std.specs.Prelude.{ℕ, List, [], codes}
use Rattle.bridge_jobs.specs.declared.frame.FrameFault.{FrameFault}
use Rattle.mpd_tree.specs.declared.fault.TextFault.{TextFault}
use Rattle.mpd_profile.specs.declared.fault.RuleFault.{RuleFault}
use Rattle.layer_faults.specs.declared.live.LiveFault.{LiveFault}
use Rattle.bridge_report.specs.declared.update_fault.UpdateFault.{UpdateFault}
use Rattle.hls_lines.specs.declared.fault.LineFault.{LineFault}
use Rattle.hls_master.specs.declared.fault.MasterFault.{MasterFault}
use Rattle.hls_media.specs.declared.fault.MediaFault.{MediaFault}
use Rattle.layer_faults.specs.declared.hls.HlsFault.{HlsFault}
use Rattle.url_parts.specs.declared.fault.UrlFault.{UrlFault}
use Rattle.template_ids.specs.declared.fault.TemplateFault.{TemplateFault}
use Rattle.timeline.specs.declared.fault.TimeFault.{TimeFault}
use Rattle.presentation.specs.declared.fault.PresentationFault.{PresentationFault}

-- I/O errors and out of memory have no error code

abbrev pub text_words : TextFault → List ℕ
text_words (text.NotUtf8 place) = codes "text 1 NotUtf8"
text_words (text.BadChar place) = codes "text 2 BadChar"
text_words (text.Cut place) = codes "text 3 Cut"
text_words (text.Syntax place) = codes "text 4 Syntax"
text_words (text.TagMismatch place) = codes "text 5 TagMismatch"
text_words (text.DoubleAttribute place) = codes "text 6 DoubleAttribute"
text_words (text.Entity place) = codes "text 7 Entity"
text_words (text.Doctype place) = codes "text 8 Doctype"
text_words (text.Cdata place) = codes "text 9 Cdata"
text_words (text.Instruction place) = codes "text 10 Instruction"
text_words (text.Depth place) = codes "text 11 Depth"
text_words text.Memory = []

abbrev pub rule_words : RuleFault → List ℕ
rule_words (rules.Root place) = codes "rules 1 Root"
rule_words (rules.Namespace place) = codes "rules 2 Namespace"
rule_words (rules.Missing place) = codes "rules 3 Missing"
rule_words (rules.Value place) = codes "rules 4 Value"
rule_words (rules.NoStart place) = codes "rules 5 NoStart"
rule_words (rules.PeriodOrder place) = codes "rules 6 PeriodOrder"
rule_words (rules.Encryption place) = codes "rules 7 Encryption"
rule_words (rules.Events place) = codes "rules 8 Events"
rule_words (rules.LowLatency place) = codes "rules 9 LowLatency"
rule_words (rules.Remote place) = codes "rules 10 Remote"
rule_words (rules.Essential place) = codes "rules 11 Essential"
rule_words (rules.Unsupported place) = codes "rules 12 Unsupported"
rule_words (rules.IndexNeeded place) = codes "rules 13 IndexNeeded"
rule_words (rules.NoTracks place) = codes "rules 14 NoTracks"
rule_words rules.Memory = []

abbrev pub url_words : UrlFault → List ℕ
url_words url.Refused = codes "url 1 Refused"
url_words url.Scheme = codes "url 2 Scheme"
url_words url.TooLong = codes "url 3 TooLong"
url_words url.Memory = []

abbrev pub template_words : TemplateFault → List ℕ
template_words template.LoneDollar = codes "template 1 LoneDollar"
template_words template.Unknown = codes "template 2 Unknown"
template_words template.Width = codes "template 3 Width"
template_words template.Both = codes "template 4 Both"
template_words template.SubNumber = codes "template 5 SubNumber"
template_words template.Memory = []

abbrev pub time_words : TimeFault → List ℕ
time_words times.ZeroDuration = codes "timeline 1 ZeroDuration"
time_words times.Range = codes "timeline 2 Range"
time_words times.NoEnd = codes "timeline 3 NoEnd"
time_words times.Step = codes "timeline 4 Step"
time_words times.ListLength = codes "timeline 5 ListLength"
time_words times.TimeWithoutTimeline = codes "timeline 6 TimeWithoutTimeline"
time_words times.Memory = []

-- a fault of an inner layer has that layer's code
abbrev pub presentation_words : PresentationFault → List ℕ
presentation_words (presentation.PeriodsDiffer place) = codes "presentation 1 PeriodsDiffer"
presentation_words presentation.Limit = codes "presentation 2 Limit"
presentation_words (presentation.NoSegments section track) = codes "presentation 3 NoSegments"
presentation_words (presentation.Url fault spot) = url_words fault
presentation_words (presentation.Template fault place) = template_words fault
presentation_words (presentation.Timeline fault place) = time_words fault
presentation_words presentation.NeedsNow = codes "presentation 7 NeedsNow"
presentation_words presentation.Memory = []

abbrev pub line_words : LineFault → List ℕ
line_words (line.NotUtf8 place) = codes "line 1 NotUtf8"
line_words (line.BadChar place) = codes "line 2 BadChar"
line_words (line.Header place) = codes "line 3 Header"
line_words (line.Attribute place) = codes "line 4 Attribute"
line_words (line.DoubleAttribute place) = codes "line 5 DoubleAttribute"
line_words line.Memory = []

-- the same for a fault of an inner layer
abbrev pub media_words : MediaFault → List ℕ
media_words (media.Line fault) = line_words fault
media_words (media.NoTarget place) = codes "media 2 NoTarget"
media_words (media.Duration place) = codes "media 3 Duration"
media_words (media.LongSegment place) = codes "media 4 LongSegment"
media_words (media.RangeStart place) = codes "media 5 RangeStart"
media_words (media.Limit place) = codes "media 6 Limit"
media_words (media.Encryption place) = codes "media 7 Encryption"
media_words (media.Events place) = codes "media 8 Events"
media_words (media.LowLatency place) = codes "media 9 LowLatency"
media_words (media.Unsupported place) = codes "media 10 Unsupported"
media_words (media.Url fault place) = url_words fault
media_words (media.Value place) = codes "media 12 Value"
media_words (media.Misplaced place) = codes "media 13 Misplaced"
media_words media.Memory = []

abbrev pub master_words : MasterFault → List ℕ
master_words (master.Line fault) = line_words fault
master_words (master.Missing place) = codes "master 2 Missing"
master_words (master.Value place) = codes "master 3 Value"
master_words (master.Misplaced place) = codes "master 4 Misplaced"
master_words (master.Url fault place) = url_words fault
master_words (master.Muxed place) = codes "master 6 Muxed"
master_words (master.GroupUnknown place) = codes "master 7 GroupUnknown"
master_words (master.SameName place) = codes "master 8 SameName"
master_words (master.Encryption place) = codes "master 9 Encryption"
master_words (master.Unsupported place) = codes "master 10 Unsupported"
master_words (master.NoTracks place) = codes "master 11 NoTracks"
master_words (master.Limit place) = codes "master 12 Limit"
master_words master.Memory = []

abbrev pub hls_words : HlsFault → List ℕ
hls_words hls.NotEnded = codes "hls 1 NotEnded"
hls_words hls.NoMap = codes "hls 2 NoMap"
hls_words hls.MapChanged = codes "hls 3 MapChanged"
hls_words hls.ZeroDuration = codes "hls 4 ZeroDuration"
hls_words hls.SectionsDiffer = codes "hls 5 SectionsDiffer"
hls_words hls.Limit = codes "hls 6 Limit"
hls_words hls.NoTracks = codes "hls 7 NoTracks"
hls_words hls.Memory = []

abbrev pub frame_words : FrameFault → List ℕ
frame_words (frame.Header place) = codes "frame 1 Header"
frame_words (frame.Cut place) = codes "frame 2 Cut"
frame_words (frame.TooMany place) = codes "frame 3 TooMany"
frame_words frame.Fault = []
frame_words frame.Memory = []

abbrev pub update_words : UpdateFault → List ℕ
update_words update.ClockBack = codes "session 1 ClockBack"
update_words update.Older = codes "session 2 Older"
update_words update.Changed = codes "session 3 Changed"
update_words update.Moved = codes "session 4 Moved"
update_words update.Rewritten = codes "session 5 Rewritten"
update_words update.Step = codes "session 6 Step"
update_words update.LongSegment = codes "session 7 LongSegment"
update_words update.NotDynamic = codes "session 8 NotDynamic"
update_words update.Ended = codes "session 9 Ended"
update_words update.Window = codes "session 10 Window"
update_words update.Uneven = codes "session 13 Uneven"

-- a rule that a snapshot of live playlists breaks: the values that differ aren't reported
abbrev pub live_words : LiveFault → List ℕ
live_words live.Ended = codes "live 1 Ended"
live_words (live.ClockBack former now) = codes "live 2 ClockBack"
live_words live.NoMap = codes "live 3 NoMap"
live_words live.MapChanged = codes "live 4 MapChanged"
live_words live.ZeroDuration = codes "live 5 ZeroDuration"
live_words live.SectionsDiffer = codes "live 6 SectionsDiffer"
live_words live.NoTracks = codes "live 7 NoTracks"
live_words (live.Unlawful track rule) = codes "live 8 Unlawful"
live_words (live.SectionBack track former new) = codes "live 11 SectionBack"
live_words live.Limit = codes "live 9 Limit"
live_words live.Memory = []
