-- Rounds that are judged by the files of their segments, and what they leave.
use Rattle.fragment_times.specs.declared.fault.TimesFault.TheVariants as times
use Rattle.hls_follow.specs.declared.timed_fault.TimedFault.TheVariants as timed
use Rattle.layer_faults.specs.declared.live.LiveFault.TheVariants as live
use Rattle.bridge_report.specs.declared.refusal.Refusal.TheVariants as refusal
use Rattle.std.proofs.Common.{◌≡◌, ℕ, ℤ, ◌+◌, List, length, Option, None, Some, IfSome, Result, Ok, Err, OnErr, OnOk}
use Rattle.std.proofs.Common.{sym, ap, ◌∙◌, subst, arith}
use Rattle.std.specs.{Prelude.{IfErr, IfOk, IsSome}, Option.option_map_or, Result.{result_err, result_ok, result_unwrap_or}}
use Rattle.bridge_io.specs.{Answer.{Gives, and_then, told_as}, Outside.Files}
use Rattle.fragment_times.specs.declared.fault.TimesFault.{TimesFault}
use Rattle.layer_faults.specs.declared.live.LiveFault.{LiveFault}
use Rattle.hls_media.specs.declared.media.Media.{Media}
use Rattle.hls_follow.specs.{OwnTimes.timed_told, Rounds.{Following, appended_by}, TimedRounds.next_timed}
use Rattle.hls_follow.specs.declared.timed_fault.TimedFault.{TimedFault}
use Rattle.bridge_jobs.specs.declared.round.Round.{Round}
use Rattle.bridge_report.specs.{FrameStops.{frame_text, stop_text}, Refusals.{refusal_text, refused_in, stop_of_live}}
use Rattle.bridge_report.specs.{declared.frame_stop.FrameStop.FrameStop, declared.refusal.Refusal.Refusal, declared.refusal.Stop.Stop}
use Rattle.bridge_steps.specs.Follow.{Accepts}
use Rattle.bridge_steps.proofs.Stopped.{stopped_so}
use Rattle.bridge_reach.specs.Rounds.{IsKept, medias_of, round_appends}
use Rattle.bridge_reach.specs.TimedRounds.{fault_text, followed_timed, taken, timed_state, times_text}
use Rattle.bridge_reach.specs.{declared.rounds.LiveRounds.LiveRounds, declared.timed_rounds.TimedHls.TimedHls}

-- ---- what the playlists and their files answer

module _ (hls : TimedHls) (s : LiveRounds) (now : ℤ) (medias : List Media) (all : Files) where
  abbrev next : Result Following TimedFault
  next = next_timed s.follow now medias hls.folder all

  abbrev left : Following → Result LiveRounds (List ℕ)
  left follow = Ok (let t : LiveRounds = record { follow = follow; accepted = s.accepted + 1 } in t)

  pub taken_so : (follow : Following) → next ≡ Ok follow → taken hls all s now medias ≡ left follow
  unfolding taken
  taken_so follow is = ap (λ r. and_then (told_as (fault_text hls) r) left) is

  refused_at : (told : TimedFault) → next ≡ Err told → taken hls all s now medias ≡ Err (fault_text hls told)
  unfolding taken
  refused_at told is = ap (λ r. and_then (told_as (fault_text hls) r) left) is

  -- the playlists are refused
  unlive : (fault : LiveFault) → IfSome (timed_told (timed.Live fault)) (λ told. next ≡ Err told)
      → IfSome (refused_in (stop_of_live fault)) (λ r. taken hls all s now medias ≡ Err (refusal_text r))
  unlive live.Memory is = tt
  unlive live.Ended is = refused_at _ is
  unlive (live.ClockBack former now') is = refused_at _ is
  unlive live.NoMap is = refused_at _ is
  unlive live.MapChanged is = refused_at _ is
  unlive live.ZeroDuration is = refused_at _ is
  unlive live.SectionsDiffer is = refused_at _ is
  unlive live.NoTracks is = refused_at _ is
  unlive (live.Unlawful track rule) is = refused_at _ is
  unlive (live.SectionBack track former new) is = refused_at _ is
  unlive live.Limit is = refused_at _ is

  pub live_refused : (fault : LiveFault) (text : Option (List ℕ)) → IfSome text (λ t. stop_text (stop_of_live fault) ≡ Some t)
      → IfSome (timed_told (timed.Live fault)) (λ told. next ≡ Err told) → IfSome text (λ t. taken hls all s now medias ≡ Err t)
  live_refused fault text told is =
      stopped_so (stop_of_live fault) text (λ t. taken hls all s now medias ≡ Err t) told (unlive fault is)

  -- a file is refused
  named : (text : List ℕ) (told : TimedFault) → next ≡ Err told → fault_text hls told ≡ text → taken hls all s now medias ≡ Err text
  named text told is same = refused_at told is ∙ ap Err same

  untimed : (fault : TimesFault) (text : List ℕ) → times_text hls fault ≡ Some text
      → IfSome (timed_told (timed.Times fault)) (λ told. next ≡ Err told) → taken hls all s now medias ≡ Err text
  untimed times.OutsideBase text told is = named text (timed.Times times.OutsideBase) is (cc)
  untimed times.Range text told is = named text (timed.Times times.Range) is (cc)
  untimed (times.File file f) text told is = named text (timed.Times (times.File file f)) is (cc)
  untimed (times.Segment spot f) text told is = named text (timed.Times (times.Segment spot f)) is (cc)
  untimed times.Fault text told is = absurd (cc)
  untimed times.Memory text told is = absurd (cc)

  pub times_refused : (fault : TimesFault) (text : Option (List ℕ)) → IfSome text (λ t. times_text hls fault ≡ Some t)
      → IfSome (timed_told (timed.Times fault)) (λ told. next ≡ Err told) → IfSome text (λ t. taken hls all s now medias ≡ Err t)
  times_refused f None told is = tt
  times_refused f (Some text) told is = untimed f text told is

-- ---- how a round is judged

module _ (hls : TimedHls) (s : LiveRounds) (round : Round) (all : Files) where
  state_of : (medias : List Media) → medias_of hls.hls.urls round.bodies ≡ Ok medias
      → timed_state hls all s round ≡ taken hls all s round.now medias
  unfolding timed_state
  state_of medias is = ap (λ read. and_then (told_as refusal_text read) (taken hls all s round.now)) is

  accepted_so : (medias : List Media) (s' : LiveRounds) (n made : ℕ) → medias_of hls.hls.urls round.bodies ≡ Ok medias
      → taken hls all s round.now medias ≡ Ok s' → n ≡ appended_by s.follow medias → Accepts (followed_timed hls all) s round s' n made made
  unfolding round_appends
  accepted_so medias s' n made read takes appended = let state = state_of medias read ∙ takes in record {
    accepted = ap result_err state;
    after = sym (ap (λ answer. result_unwrap_or answer s) state);
    appended = appended ∙ sym (ap (λ answer. option_map_or (appended_by s.follow) (result_ok answer) 0) read);
    made = omega arith;
  }

  untaken : (medias : List Media) (text : Option (List ℕ)) → medias_of hls.hls.urls round.bodies ≡ Ok medias
      → IfSome text (λ t. taken hls all s round.now medias ≡ Err t) → IfSome text (λ t. (followed_timed hls all).refusal s round ≡ Some t)
  untaken medias None read is = tt
  untaken medias (Some text) read is = ap result_err (state_of medias read ∙ is)

  -- a playlist isn't read
  unread : (o : Option Refusal) → IfSome o (λ r. medias_of hls.hls.urls round.bodies ≡ Err r)
      → IfSome o (λ r. (followed_timed hls all).refusal s round ≡ Some (refusal_text r))
  unfolding timed_state
  unread None is = tt
  unread (Some r) is =
      ap (λ (read : Result (List Media) Refusal). result_err (and_then (told_as refusal_text read) (taken hls all s round.now))) is

-- ---- what is answered of a round

-- one whose playlists aren't read
pub unread_by : (hls : TimedHls) (s : LiveRounds) (round : Round) (all : Files) (stop : Stop) (text : Option (List ℕ))
    → IfSome text (λ t. stop_text stop ≡ Some t) → IfSome (refused_in stop) (λ r. medias_of hls.hls.urls round.bodies ≡ Err r)
    → IfSome text (λ t. (followed_timed hls all).refusal s round ≡ Some t)
unread_by hls s round all stop text told is =
    stopped_so stop text (λ t. (followed_timed hls all).refusal s round ≡ Some t) told (unread hls s round all (refused_in stop) is)

-- one whose playlists are read
module _ (hls : TimedHls) (s s' : LiveRounds) (round : Round) (medias : List Media) (all : Files)
    (read : medias_of hls.hls.urls round.bodies ≡ Ok medias) where
  pub accepted_by : (result : Result ℕ FrameStop) (made : ℕ) → Gives (λ n. s') frame_text result (taken hls all s round.now medias)
      → IfOk result (λ n. n ≡ appended_by s.follow medias) → IfOk result (λ n. Accepts (followed_timed hls all) s round s' n made made)
  accepted_by (Ok n) made takes appended = accepted_so hls s round all medias s' n made read takes appended
  accepted_by (Err stop) made takes appended = tt

  pub refused_by : (result : Result ℕ FrameStop) → Gives (λ n. s') frame_text result (taken hls all s round.now medias)
      → IfErr result (λ stop. IfSome (frame_text stop) (λ text. (followed_timed hls all).refusal s round ≡ Some text))
  refused_by (Ok n) takes = tt
  refused_by (Err stop) takes = untaken hls s round all medias (frame_text stop) read takes

pub kept_by : (hls : TimedHls) (s s' : LiveRounds) (result : Result ℕ FrameStop)
    → OnOk result ((s'.follow.tracks ≡ s.follow.tracks) × IsSome s'.follow.followed) → OnErr result (s' ≡ s)
    → IsKept hls.hls s → IsKept hls.hls s'
kept_by hls s s' (Ok n) more same kept = record { one_each = ap length more.0 ∙ kept.one_each; mpd = λ some. more.1 }
kept_by hls s s' (Err stop) more same kept = subst (λ t. IsKept hls.hls t) (sym same) kept
