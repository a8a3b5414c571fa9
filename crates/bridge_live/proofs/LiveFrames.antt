-- Frames of a followed MPD.
use Rattle.bridge_jobs.specs.declared.frame.Frame.TheVariants as frame
use Rattle.bridge_jobs.specs.declared.frame.FrameFault.TheVariants as fault
use Rattle.presentation.specs.declared.fault.PresentationFault.TheVariants as presented
use Rattle.live_judge.specs.declared.fault.RefreshFault.TheVariants as faults
use Rattle.live_meaning.specs.Refusals as rules
use Rattle.std.proofs.Common.{◌≡◌, ◌≤◌, ℕ, ℤ, ◌+◌, List, [], ◌∷◌, drop, Option, None, Some, option_map, IfSome, Result, Ok, Err, OnOk}
use Rattle.std.proofs.Common.{refl, sym, ap, ◌∙◌, subst, arith}
use Rattle.std.specs.{Prelude.{IfOk, IfErr}, Option.option_map_or, Result.{result_ok, result_err}}
use Rattle.bridge_io.proofs.AndThen.{steps_of}
use Rattle.bridge_io.specs.Answer.{Gives, and_then, told_as}
use Rattle.bridge_jobs.specs.Frames.{Framed, LeavesBehind, ReadsFrom, Stream as FrameStream, frame_size, framed_as, frames_from, next_frame}
use Rattle.bridge_jobs.specs.Frames.{refusal, stream_by}
use Rattle.bridge_jobs.proofs.Left.{same_rest}
use Rattle.bridge_jobs.specs.{Laws.FramesFollow, declared.frame.Frame.Frame, declared.frame.FramePos.FramePos}
use Rattle.bridge_jobs.specs.declared.frame.FrameFault.{FrameFault}
use Rattle.presentation.specs.{Counting.count_of_all, Laws.CountedAreListed}
use Rattle.presentation.proofs.Filling.{ok_under}
use Rattle.live_judge.specs.{Faults.told, declared.fault.RefreshFault.RefreshFault}
use Rattle.live_session.specs.{Sessions.CountsRefused, declared.session.Appended.Appended}
use Rattle.live_meaning.specs.{Updates.{Refresh, Reset, Terms, Update, Values}, States.State}
use Rattle.bridge_report.specs.{Refusals.{refusal_text, refused_in}, declared.refusal.Refusal.Refusal, declared.refusal.Stop.Stop}
use Rattle.bridge_steps.specs.Follow.{Accepts}
use Rattle.bridge_steps.specs.Playlists.{OutputPlace}
use Rattle.bridge_live.specs.LiveMpds.{IsTaken, first_appends, frame_appends, frame_state, frame_stream, followed_mpd, next_state}
use Rattle.bridge_steps.specs.Manifests.{values_of}
use Rattle.bridge_steps.specs.Streams.{ReadsFirst, first_size}
use Rattle.bridge_live.specs.LiveMpds.{channel_with, judged_channel, players_after, session_of, told_of, update_of}
use Rattle.bridge_live.specs.declared.channel.Channel.{Channel}
use Rattle.segment_forms.specs.declared.form.Form.{Form}
use Rattle.bridge_live.proofs.LiveStates.{first_is_one, first_lists, one_more_of}

-- ---- a stream that is read frame by frame

abbrev parts_of : FrameStream → List Frame × Option FrameFault × List ℕ
parts_of stream = (stream.frames, stream.fault, stream.taken)

abbrev behind : Framed → FrameStream
behind framed = frames_from framed.after framed.rest

module _ (follows : FramesFollow) (at : FramePos) (bytes : List ℕ) where
  read_on : (next : Result (Option Framed) FrameFault) → next_frame at bytes ≡ next
      → frame_stream at bytes ≡ parts_of (stream_by (frame_size at bytes) behind next)
  read_on next is = ap parts_of (follows at bytes ∙ ap (stream_by (frame_size at bytes) behind) is)

  sized : (next : Result (Option Framed) FrameFault) → next_frame at bytes ≡ next
      → first_size (frame_stream at bytes) ≡ frame_size at bytes
  sized (Ok None) is = ap first_size (read_on (Ok None) is)
  sized (Ok (Some framed)) is = ap first_size (read_on (Ok (Some framed)) is)
  sized (Err e) is = ap first_size (read_on (Err e) is)

  cut_off : (e : FrameFault) → IfSome (refusal e) (λ told. next_frame at bytes ≡ Err told)
      → IfSome (refusal e) (λ told. frame_stream at bytes ≡ ([], Some told, frame_size at bytes ∷ []))
  cut_off (fault.Header place) is = read_on (Err (fault.Header place)) is
  cut_off (fault.Cut place) is = read_on (Err (fault.Cut place)) is
  cut_off (fault.TooMany place) is = read_on (Err (fault.TooMany place)) is
  cut_off fault.Fault is = tt
  cut_off fault.Memory is = tt

pub frames_read : FramesFollow → (at after : FramePos) (result : Result (Option Frame) FrameFault) (before left : Option (List ℕ))
    → ReadsFrom (λ frame rest. option_map (λ f. framed_as f after rest) frame) result before left (next_frame at)
    → LeavesBehind result (frame_size at) before left → ReadsFirst frame_stream at after result before left
frames_read follows at after (Ok None) before left reads leaves = λ bytes told.
    let read = reads bytes told in let size = frame_size at bytes in
    (read.0, read.1, size, same_rest left read.0 (drop size bytes) read.1 (leaves bytes told), read_on follows at bytes (Ok None) read.2)
frames_read follows at after (Ok (Some x)) before left reads leaves = λ bytes told.
    let read = reads bytes told in let size = frame_size at bytes in (
      read.0,
      read.1,
      size,
      same_rest left read.0 (drop size bytes) read.1 (leaves bytes told),
      read_on follows at bytes (Ok (Some (framed_as x after read.0))) read.2,
    )
frames_read follows at after (Err e) before left reads leaves = λ bytes told. (
  frame_size at bytes,
  sized follows at bytes (next_frame at bytes) refl,
  leaves bytes told,
  cut_off follows at bytes e (reads bytes told),
)

-- ---- what is refused

refused_text : (o : Option Refusal) (m : Result State Refusal) → IfSome o (λ r. m ≡ Err r)
    → IfSome o (λ r. option_map refusal_text (result_err m) ≡ Some (refusal_text r))
refused_text None m is = tt
refused_text (Some r) m is = ap (λ answer. option_map refusal_text (result_err answer)) is

-- a frame that is refused is told so
pub refused_so : {V : Type 0} (form : Form) (terms : Terms) (output : OutputPlace) (c : Option Channel) (x : Frame) (value : V → State)
    (result : Result V Stop)
    → Gives value refused_in result (frame_state terms (session_of c) x)
    → IfErr result (λ stop. IfSome (refused_in stop) (λ r. (followed_mpd form terms output).refusal c x ≡ Some (refusal_text r)))
refused_so form terms output c x value (Ok v) state = tt
refused_so form terms output c x value (Err stop) state = refused_text (refused_in stop) (frame_state terms (session_of c) x) state

-- ---- what is accepted

module _ (form : Form) (terms : Terms) (output : OutputPlace) (c : Option Channel) (x : Frame) (after : State) where
  pub accepted_so : (n made made' : ℕ) → frame_state terms (session_of c) x ≡ Ok after → n ≡ frame_appends terms (session_of c) x
      → made' ≡ made + frame_appends terms (session_of c) x
      → Accepts (followed_mpd form terms output) c x (Some (channel_with (players_after form c x) after)) n made made'
  accepted_so n made made' state appended counts = record {
    accepted = ap (λ answer. option_map refusal_text (result_err answer)) state;
    after = sym (ap (judged_channel (players_after form c x)) state);
    appended = appended;
    made = counts;
  }

pub next_counts : (s after : State) (x : Frame) (result : Result ℕ Stop) → Gives (λ _. after) refused_in result (next_state s x)
    → OnOk result (after.common.accepted ≡ s.common.accepted + 1)
unfolding next_state
next_counts s after x (Ok n) is =
    let step = steps_of (update_of x) (λ u. told_as told_of (rules.next_of s u)) after is in
    one_more_of s step.value after (ok_under _ (rules.next_of s step.value) after step.then)
next_counts s after x (Err stop) is = tt

-- ---- what the session answers

told_again : (o : Option rules.Refusal) (stop : Stop) (meaning : Result State rules.Refusal) → IfSome o (λ r. meaning ≡ Err r)
    → refused_in stop ≡ option_map told_of o
    → IfSome (refused_in stop) (λ r. told_as told_of meaning ≡ Err r)
told_again None stop meaning is same = rw same tt
told_again (Some r) stop meaning is same = rw same (ap (told_as told_of) is)

pub taken_gives : (after : State) (meaning : Result State rules.Refusal) (answer : Result Appended RefreshFault) (result : Result ℕ Stop)
    → Gives (λ _. after) told answer meaning → IsTaken answer result → Gives (λ _. after) refused_in result (told_as told_of meaning)
taken_gives after meaning (Ok appended) (Ok n) is taken = ap (told_as told_of) is
taken_gives after meaning (Ok appended) (Err stop) is taken = absurd taken
taken_gives after meaning (Err f) (Ok n) is taken = absurd taken
taken_gives after meaning (Err f) (Err stop) is taken = told_again (told f) stop meaning is taken

-- ---- the same of a frame

pub refreshed : (x : Frame) (now : ℤ) (body : List ℕ) (values : Values) → x ≡ frame.Mpd now body → values_of body ≡ Ok values
    → update_of x ≡ Ok (Refresh values now)
unfolding update_of
refreshed x now body values is read = ap update_of is ∙ ap (λ r. and_then r (λ mpd. Ok (Refresh mpd now))) read

pub reset_so : (x : Frame) (now : ℤ) (body : List ℕ) (values : Values) → x ≡ frame.Reset now body → values_of body ≡ Ok values
    → update_of x ≡ Ok (Reset values now)
unfolding update_of
reset_so x now body values is read = ap update_of is ∙ ap (λ r. and_then r (λ mpd. Ok (Reset mpd now))) read

pub next_by : (after s : State) (x : Frame) (u : Update) (answer : Result Appended RefreshFault) (result : Result ℕ Stop)
    → update_of x ≡ Ok u
    → Gives (λ _. after) told answer (rules.next_of s u) → IsTaken answer result → Gives (λ _. after) refused_in result (next_state s x)
unfolding next_state
next_by after s x u answer result is gives taken =
    subst (λ r. Gives (λ _. after) refused_in result (and_then r (λ u. told_as told_of (rules.next_of s u)))) (sym is)
    (taken_gives after (rules.next_of s u) answer result gives taken)

-- ---- the first frame

pub first_read : (terms : Terms) (x : Frame) (now : ℤ) (body : List ℕ) (values : Values) → x ≡ frame.Mpd now body
    → values_of body ≡ Ok values
    → first_appends terms x ≡ rules.first_appended_by terms values now
unfolding first_appends
first_read terms x now body values is read =
    ap (first_appends terms) is ∙ ap (λ r. option_map_or (λ mpd. rules.first_appended_by terms mpd now) (result_ok r) 0) read

module _ (terms : Terms) (values : Values) (now : ℤ) where
  pub first_listed : CountedAreListed → (n : ℕ) (result : Result State Stop) → n ≡ rules.first_appended_by terms values now
      → Gives (λ s. s) refused_in result (told_as told_of (rules.begun_of terms values now))
      → IfOk result (λ s. count_of_all s.common.opened ≡ n)
  first_listed law n (Ok s) same state = first_lists law terms values now s (ok_under told_of (rules.begun_of terms values now) s state)
      ∙ sym same
  first_listed law n (Err stop) same state = tt

  pub first_one : (result : Result State Stop) → Gives (λ s. s) refused_in result (told_as told_of (rules.begun_of terms values now))
      → IfOk result (λ s. s.common.accepted ≡ 1)
  first_one (Ok s) state = first_is_one terms values now s (ok_under told_of (rules.begun_of terms values now) s state)
  first_one (Err stop) state = tt

-- ---- segments that are made where the session refuses

pub made_within : (n made made' : ℕ) (f : RefreshFault) → CountsRefused n made made' f → (made ≤ made') × (made' ≤ made + n)
made_within n made made' faults.Memory counts = counts
made_within n made made' (faults.Presentation (presented.Url f spot)) counts = counts
made_within n made made' (faults.Presentation (presented.PeriodsDiffer place)) counts = (omega (arith, counts), omega (arith, counts))
made_within n made made' (faults.Presentation presented.Limit) counts = (omega (arith, counts), omega (arith, counts))
made_within n made made' (faults.Presentation (presented.NoSegments section track)) counts = (omega (arith, counts), omega (arith, counts))
made_within n made made' (faults.Presentation (presented.Template f place)) counts = (omega (arith, counts), omega (arith, counts))
made_within n made made' (faults.Presentation (presented.Timeline f place)) counts = (omega (arith, counts), omega (arith, counts))
made_within n made made' (faults.Presentation presented.NeedsNow) counts = (omega (arith, counts), omega (arith, counts))
made_within n made made' (faults.Presentation presented.Memory) counts = (omega (arith, counts), omega (arith, counts))
made_within n made made' (faults.ClockBack former now) counts = (omega (arith, counts), omega (arith, counts))
made_within n made made' (faults.Older former new) counts = (omega (arith, counts), omega (arith, counts))
made_within n made made' faults.Changed counts = (omega (arith, counts), omega (arith, counts))
made_within n made made' (faults.Moved section) counts = (omega (arith, counts), omega (arith, counts))
made_within n made made' (faults.Rewritten track kept new) counts = (omega (arith, counts), omega (arith, counts))
made_within n made made' (faults.Step track end start) counts = (omega (arith, counts), omega (arith, counts))
made_within n made made' (faults.LongSegment target printed) counts = (omega (arith, counts), omega (arith, counts))
made_within n made made' faults.NotDynamic counts = (omega (arith, counts), omega (arith, counts))
made_within n made made' faults.Ended counts = (omega (arith, counts), omega (arith, counts))
made_within n made made' (faults.Window track count) counts = (omega (arith, counts), omega (arith, counts))
made_within n made made' (faults.Uneven track first last) counts = (omega (arith, counts), omega (arith, counts))
