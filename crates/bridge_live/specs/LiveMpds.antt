-- A followed MPD: its update frames, why one is rejected, and the files for the state after the accepted ones.
use Rattle.bridge_jobs.specs.declared.frame.Frame.TheVariants as frame
use Rattle.live_meaning.specs.Refusals as rules
use Rattle.bridge_report.specs.declared.refusal.Refusal.TheVariants as refusal
use Rattle.bridge_report.specs.declared.update_fault.UpdateFault.TheVariants as update
use Rattle.std.specs.Prelude.{◌≡◌, ℕ, ◌+◌, ◌≤◌, ◌==◌, List, [], ◌∷◌, ◌++◌, map, length, codes, if◌then◌else◌, Option, Some, None}
use Rattle.std.specs.{Prelude.{option_map, Result, Ok, Err}, List.range_with_len, Option.option_map_or, Result.{result_ok, result_err}}
use Rattle.bridge_io.specs.Answer.{and_then, told_as}
use Rattle.bridge_jobs.specs.{Frames.frames_from, Laws.{in_folder, playlist_of}, declared.frame.Frame.Frame}
use Rattle.bridge_jobs.specs.declared.frame.FramePos.{FramePos}
use Rattle.hls_writer.specs.Master.{master_text}
use Rattle.live_meaning.specs.{Updates.{Update, Refresh, Reset, Tick, Terms}, States.State}
use Rattle.live_judge.specs.{Faults.told, declared.fault.RefreshFault.RefreshFault}
use Rattle.live_session.specs.{declared.session.Appended.Appended, Sessions.text_of}
use Rattle.bridge_report.specs.{Following.Followed, Refusals.{refusal_text, refused_in}, declared.refusal.Refusal.Refusal}
use Rattle.bridge_report.specs.declared.refusal.Stop.{Stop}
use Rattle.bridge_steps.specs.{Manifests.values_of, Players.players_in, Playlists.{OutputPlace, spelling_in}, Streams.Stream}
use Rattle.bridge_live.specs.{declared.channel.Channel.Channel, declared.live_mpd.LiveMpd.LiveMpd}
use Rattle.mpd_hints.specs.declared.starts.Sap.TheVariants.{Segments}
use Rattle.segment_forms.specs.declared.form.Form.{Form}
use Rattle.track_hints.specs.declared.hints.Hints.{Hints}

-- ---- why a frame is rejected

-- a rule that an update breaks, as in the report
abbrev pub told_of : rules.Refusal → Refusal
told_of (rules.ClockBack former now) = refusal.Session update.ClockBack
told_of (rules.Older former new) = refusal.Session update.Older
told_of rules.Changed = refusal.Session update.Changed
told_of (rules.Moved place) = refusal.Session update.Moved
told_of (rules.Rewritten track kept new) = refusal.Session update.Rewritten
told_of (rules.Step track end start) = refusal.Session update.Step
told_of (rules.LongSegment target printed) = refusal.Session update.LongSegment
told_of rules.NotDynamic = refusal.Session update.NotDynamic
told_of rules.Ended = refusal.Session update.Ended
told_of (rules.Window track count) = refusal.Session update.Window
told_of (rules.Presentation fault) = refusal.Presentation fault
told_of (rules.Uneven track first last) = refusal.Session update.Uneven
told_of rules.NotOpen = refusal.NotOpen

-- ---- the state after frames

-- the update of a frame, where its bytes are those of an MPD
unfoldable pub update_of : Frame → Result Update Refusal
update_of (frame.Mpd now body) = and_then (values_of body) (λ mpd. Ok (Refresh mpd now))
update_of (frame.Reset now body) = and_then (values_of body) (λ mpd. Ok (Reset mpd now))
update_of (frame.Tick now) = Ok (Tick now)

-- the state after a first frame, which has to be an MPD, or its first error
unfoldable pub first_state : Terms → Frame → Result State Refusal
first_state terms (frame.Mpd now body) = and_then (values_of body) (λ mpd. told_as told_of (rules.begun_of terms mpd now))
first_state terms (frame.Reset now body) = Err refusal.NotOpen
first_state terms (frame.Tick now) = Err refusal.NotOpen

-- the state after a further frame, or its first error
unfoldable pub next_state : State → Frame → Result State Refusal
next_state s x = and_then (update_of x) (λ u. told_as told_of (rules.next_of s u))

abbrev pub frame_state : Terms → Option State → Frame → Result State Refusal
frame_state terms None x = first_state terms x
frame_state terms (Some s) x = next_state s x

-- ---- how many segments frames append

-- 0 for an error, except that of a segment's URL: then as many as it was to append
unfoldable pub first_appends : Terms → Frame → ℕ
first_appends terms (frame.Mpd now body) = option_map_or (λ mpd. rules.first_appended_by terms mpd now) (result_ok (values_of body)) 0
first_appends terms (frame.Reset now body) = 0
first_appends terms (frame.Tick now) = 0

unfoldable pub next_appends : State → Frame → ℕ
next_appends s x = option_map_or (rules.appended_by s) (result_ok (update_of x)) 0

abbrev pub frame_appends : Terms → Option State → Frame → ℕ
frame_appends terms None x = first_appends terms x
frame_appends terms (Some s) x = next_appends s x

-- `n` segments are made, or at most `n` where the result is an error
abbrev pub AreMade : {X E : Type 0} → (n before after : ℕ) → Result X E → Type 0
AreMade n before after (Ok x) = after ≡ before + n
AreMade n before after (Err e) = (before ≤ after) × (after ≤ before + n)

-- a session's result, in the report's terms
abbrev pub IsTaken : Result Appended RefreshFault → Result ℕ Stop → Type 0
IsTaken (Ok appended) (Ok n) = n ≡ appended.0
IsTaken (Err fault) (Err stop) = refused_in stop ≡ option_map told_of (told fault)
IsTaken answer result = ⊥

-- how many frames were accepted
abbrev pub accepted_of : Option State → ℕ
accepted_of s = option_map_or (λ s. s.common.accepted) s 0

-- ---- files

abbrev pub track_text : OutputPlace → State → (track : ℕ) → List ℕ
track_text output s t = text_of (spelling_in output t) s t

abbrev pub track_file : OutputPlace → State → (track : ℕ) → List ℕ × List ℕ
track_file output s t = (in_folder output.folder (playlist_of t), track_text output s t)

abbrev pub track_files : OutputPlace → State → List (List ℕ × List ℕ)
track_files output s = map (track_file output s) (range_with_len 0 (length s.tracks))

abbrev pub master_file : (out : List ℕ) → (players : Option Hints) → State → List ℕ × List ℕ
master_file out players s = (in_folder out (codes "master.m3u8"), master_text players s.common.opened)

-- the playlists of the tracks in order, and after the first accepted frame the master playlist last, which is that of the
-- first MPD
abbrev pub live_files : OutputPlace → (players : Option Hints) → State → List (List ℕ × List ℕ)
live_files output players s =
    track_files output s ++ (if s.common.accepted == 1 then master_file output.folder players s ∷ [] else [])

-- ---- what is followed

abbrev pub session_of : Option Channel → Option State
session_of channel = option_map (λ c. c.session) channel

-- what a frame says for players, if it carries an MPD
abbrev pub frame_players : Form → Frame → Option Hints
frame_players form (frame.Mpd now body) = players_in form Segments body
frame_players form other = None

-- what the first accepted MPD says for players, after a frame
abbrev pub players_after : Form → Option Channel → Frame → Option Hints
players_after form None x = frame_players form x
players_after form (Some channel) x = channel.players

abbrev pub channel_with : (players : Option Hints) → State → Channel
channel_with players s = record { session = s; players = players }

abbrev pub judged_channel : (players : Option Hints) → Result State Refusal → Option Channel
judged_channel players judged = option_map (channel_with players) (result_ok judged)

abbrev pub channel_files : OutputPlace → Channel → List (List ℕ × List ℕ)
channel_files output channel = live_files output channel.players channel.session

-- the report's text where a frame is rejected
abbrev pub frame_refusal : Terms → Option State → Frame → Option (List ℕ)
frame_refusal terms s x = option_map refusal_text (result_err (frame_state terms s x))

abbrev pub followed_mpd : Form → Terms → OutputPlace → Followed (Option Channel) Frame
followed_mpd form terms output = record {
  refusal = λ c x. frame_refusal terms (session_of c) x;
  after = λ c x. judged_channel (players_after form c x) (frame_state terms (session_of c) x);
  files = λ c. option_map_or (channel_files output) c [];
  appended = λ c x. frame_appends terms (session_of c) x;
  makes = λ c x. frame_appends terms (session_of c) x;
}

abbrev pub told_by : LiveMpd → Followed (Option Channel) Frame
told_by mpd = followed_mpd mpd.form (record { url = mpd.url; digits = mpd.digits }) (record { folder = mpd.out; base = mpd.base })

-- the frames of a stream of bytes
abbrev pub frame_stream : FramePos → List ℕ → Stream Frame
frame_stream at bytes = let stream = frames_from at bytes in (stream.frames, stream.fault, stream.taken)
