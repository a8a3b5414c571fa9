-- Rounds that are read, and what they leave.
use Rattle.bridge_jobs.specs.declared.frame.FrameFault.TheVariants as fault
use Rattle.bridge_report.specs.declared.refusal.Refusal.TheVariants as refusals
use Rattle.std.proofs.Common.{◌≡◌, ◌⊎◌, ℕ, ℤ, ◌+◌, List, [], ◌∷◌, drop, length, Option, None, Some, option_map, IfSome, Result, Ok}
use Rattle.std.proofs.Common.{Err, OnErr, OnOk, refl, sym, ap, ◌∙◌, subst, arith}
use Rattle.std.specs.{Prelude.{IfErr, IfOk, IsSome}, Option.option_map_or, Result.{result_err, result_ok, result_unwrap_or}}
use Rattle.bridge_io.specs.{Answer.{Gives, and_then, told_as}, InOrder.{AreBegun, put_all}, Outside.{Changes, Files, put}, Written.HasFront}
use Rattle.bridge_io.specs.declared.out_fault.OutFault.{OutFault}
use Rattle.segment_forms.specs.declared.form.Form.{Form}
use Rattle.dash_writer.specs.{Live.live_text, declared.live.LiveMpd.LiveMpd}
use Rattle.iso_time.specs.Instant.{IsReadable}
use Rattle.hls_media.specs.declared.media.Media.{Media}
use Rattle.hls_follow.specs.Rounds.{Following, appended_by, followed_of, next_of}
use Rattle.layer_faults.specs.declared.live.LiveFault.{LiveFault}
use Rattle.hls_follow.specs.declared.state.Followed.{Followed}
use Rattle.bridge_jobs.specs.{Frames.{LeavesBehind, ReadsFrom, refusal}, Laws.RoundsFollow}
use Rattle.bridge_jobs.specs.Rounds.{RoundStream, Rounded, next_round, round_size, rounded_as, rounds_by, rounds_from}
use Rattle.bridge_jobs.proofs.Left.{same_rest}
use Rattle.bridge_jobs.specs.{declared.frame.FramePos.FramePos, declared.frame.FrameFault.FrameFault, declared.round.Round.Round}
use Rattle.bridge_report.specs.{Refusals.{refusal_text, refused_in}, declared.refusal.Refusal.Refusal, declared.refusal.Stop.Stop}
use Rattle.bridge_steps.specs.{Follow.Accepts, Streams.{ReadsFirst, first_size}}
use Rattle.bridge_steps.proofs.Begun.{begun, one_put}
use Rattle.bridge_reach.specs.Rounds.{IsKept, IsRead, followed_rounds, medias_of, mpd_text, round_appends, round_state, taken}
use Rattle.bridge_reach.specs.{declared.rounds.LiveHls.LiveHls, declared.rounds.LiveRounds.LiveRounds}

-- ---- a stream that is read round by round

abbrev behind : (tracks : ℕ) → Rounded → RoundStream
behind tracks rounded = rounds_from tracks rounded.after rounded.rest

module _ (follows : RoundsFollow) (tracks : ℕ) (at : FramePos) (bytes : List ℕ) where
  read_on : (next : Result (Option Rounded) FrameFault) → next_round tracks at bytes ≡ next
      → rounds_from tracks at bytes ≡ rounds_by (round_size tracks at bytes) (behind tracks) next
  read_on next is = follows tracks at bytes ∙ ap (rounds_by (round_size tracks at bytes) (behind tracks)) is

  sized : (next : Result (Option Rounded) FrameFault) → next_round tracks at bytes ≡ next
      → first_size (rounds_from tracks at bytes) ≡ round_size tracks at bytes
  sized (Ok None) is = ap first_size (read_on (Ok None) is)
  sized (Ok (Some rounded)) is = ap first_size (read_on (Ok (Some rounded)) is)
  sized (Err e) is = ap first_size (read_on (Err e) is)

  cut_off : (e : FrameFault) → IfSome (refusal e) (λ told. next_round tracks at bytes ≡ Err told)
      → IfSome (refusal e) (λ told. rounds_from tracks at bytes ≡ ([], Some told, round_size tracks at bytes ∷ []))
  cut_off (fault.Header place) is = read_on (Err (fault.Header place)) is
  cut_off (fault.Cut place) is = read_on (Err (fault.Cut place)) is
  cut_off (fault.TooMany place) is = read_on (Err (fault.TooMany place)) is
  cut_off fault.Fault is = tt
  cut_off fault.Memory is = tt

pub rounds_read : RoundsFollow → (tracks : ℕ) (at after : FramePos) (result : Result (Option Round) FrameFault)
    (before left : Option (List ℕ))
    → ReadsFrom (λ round rest. option_map (λ r. rounded_as r after rest) round) result before left (next_round tracks at)
    → LeavesBehind result (round_size tracks at) before left → ReadsFirst (rounds_from tracks) at after result before left
rounds_read follows tracks at after (Ok None) before left reads leaves = λ bytes told.
    let read = reads bytes told in let size = round_size tracks at bytes in (
      read.0,
      read.1,
      size,
      same_rest left read.0 (drop size bytes) read.1 (leaves bytes told),
      read_on follows tracks at bytes (Ok None) read.2,
    )
rounds_read follows tracks at after (Ok (Some x)) before left reads leaves = λ bytes told.
    let read = reads bytes told in let size = round_size tracks at bytes in (
      read.0,
      read.1,
      size,
      same_rest left read.0 (drop size bytes) read.1 (leaves bytes told),
      read_on follows tracks at bytes (Ok (Some (rounded_as x after read.0))) read.2,
    )
rounds_read follows tracks at after (Err e) before left reads leaves = λ bytes told. (
  round_size tracks at bytes,
  sized follows tracks at bytes (next_round tracks at bytes) refl,
  leaves bytes told,
  cut_off follows tracks at bytes e (reads bytes told),
)

pub is_read : (hls : LiveHls) (result : Result (Option Round) FrameFault) → IfOk result (λ round. IfSome round (λ r. IsReadable r.now))
    → IfOk result (λ round. IfSome round (λ r. length r.bodies ≡ length hls.urls)) → IfOk result (λ round. IfSome round (λ r. IsRead hls r))
is_read hls (Ok None) readable bodies = tt
is_read hls (Ok (Some round)) readable bodies = record { now = readable; one_each = bodies }
is_read hls (Err e) readable bodies = tt

-- ---- how a round is judged

module _ (hls : LiveHls) (s : LiveRounds) (round : Round) where
  state_of : (medias : List Media) → medias_of hls.urls round.bodies ≡ Ok medias → round_state hls s round ≡ taken s round.now medias
  unfolding round_state
  state_of medias is = ap (λ read. and_then read (taken s round.now)) is

  pub accepted_so : (medias : List Media) (s' : LiveRounds) (n made : ℕ) → medias_of hls.urls round.bodies ≡ Ok medias
      → taken s round.now medias ≡ Ok s' → n ≡ appended_by s.follow medias → Accepts (followed_rounds hls) s round s' n made made
  unfolding round_appends
  accepted_so medias s' n made read takes appended = let state = state_of medias read ∙ takes in record {
    accepted = ap (λ answer. option_map refusal_text (result_err answer)) state;
    after = sym (ap (λ answer. result_unwrap_or answer s) state);
    appended = appended ∙ sym (ap (λ answer. option_map_or (appended_by s.follow) (result_ok answer) 0) read);
    made = omega arith;
  }

  refused_so : (o : Option Refusal) → IfSome o (λ r. round_state hls s round ≡ Err r)
      → IfSome o (λ r. (followed_rounds hls).refusal s round ≡ Some (refusal_text r))
  refused_so None is = tt
  refused_so (Some r) is = ap (λ answer. option_map refusal_text (result_err answer)) is

  -- a playlist isn't read
  pub unread : (o : Option Refusal) → IfSome o (λ r. medias_of hls.urls round.bodies ≡ Err r)
      → IfSome o (λ r. (followed_rounds hls).refusal s round ≡ Some (refusal_text r))
  unfolding round_state
  unread None is = tt
  unread (Some r) is = refused_so (Some r) (ap (λ read. and_then read (taken s round.now)) is)

  -- the playlists may not follow
  pub untaken : (medias : List Media) (o : Option Refusal) → medias_of hls.urls round.bodies ≡ Ok medias
      → IfSome o (λ r. taken s round.now medias ≡ Err r) → IfSome o (λ r. (followed_rounds hls).refusal s round ≡ Some (refusal_text r))
  untaken medias None read is = tt
  untaken medias (Some r) read is = refused_so (Some r) (state_of medias read ∙ is)

-- ---- what a round leaves

-- one round more, and an MPD of the same tracks
pub record IsOneMore (s s' : LiveRounds) : Type 0 where
  pub count : s'.accepted ≡ s.accepted + 1
  pub tracks : s'.follow.tracks ≡ s.follow.tracks
  pub mpd : IsSome s'.follow.followed

pub one_more : (s s' : LiveRounds) (now : ℤ) (medias : List Media) → taken s now medias ≡ Ok s' → IsOneMore s s'
unfolding taken next_of
one_more s s' now medias is = go (followed_of s.follow.tracks s.follow.followed now medias) is
  where
    left : Followed → LiveRounds
    left f = record { follow = record s.follow { followed = Some f }; accepted = s.accepted + 1 }

    one : (f : Followed) → IsOneMore s (left f)
    one f = record { count = refl; tracks = refl; mpd = refl }

    go : (r : Result Followed LiveFault)
        → and_then (told_as refusals.Live (and_then r (λ next. Ok (record s.follow { followed = Some next }))))
        (λ (follow : Following). Ok (let t : LiveRounds = record { follow = follow; accepted = s.accepted + 1 } in t)) ≡ Ok s'
        → IsOneMore s s'
    go (Ok f) e = let same : left f ≡ s' = cc in subst (λ t. IsOneMore s t) same (one f)
    go (Err e) bad = absurd (cc)

pub kept_so : (hls : LiveHls) (s s' : LiveRounds) → IsKept hls s → IsOneMore s s' → IsKept hls s'
kept_so hls s s' kept more = record { one_each = ap length more.tracks ∙ kept.one_each; mpd = λ some. more.mpd }

-- ---- what is answered of a round whose playlists are read

module _ (hls : LiveHls) (s s' : LiveRounds) (round : Round) (medias : List Media) (read : medias_of hls.urls round.bodies
    ≡ Ok medias) where
  pub accepted_by : (result : Result ℕ Stop) → Gives (λ n. s') refused_in result (taken s round.now medias)
      → IfOk result (λ n. n ≡ appended_by s.follow medias)
      → IfOk result (λ n. (made : ℕ) → Accepts (followed_rounds hls) s round s' n made made)
  accepted_by (Ok n) takes appended = λ made. accepted_so hls s round medias s' n made read takes appended
  accepted_by (Err stop) takes appended = tt

  pub refused_by : (result : Result ℕ Stop) → Gives (λ n. s') refused_in result (taken s round.now medias)
      → IfErr result (λ stop. IfSome (refused_in stop) (λ r. (followed_rounds hls).refusal s round ≡ Some (refusal_text r)))
  refused_by (Ok n) takes = tt
  refused_by (Err stop) takes = untaken hls s round medias (refused_in stop) read takes

  pub counted_by : (result : Result ℕ Stop) → Gives (λ n. s') refused_in result (taken s round.now medias)
      → OnOk result (s'.accepted ≡ s.accepted + 1)
  counted_by (Ok n) takes = (one_more s s' round.now medias takes).count
  counted_by (Err stop) takes = tt

  pub kept_by : (result : Result ℕ Stop) → Gives (λ n. s') refused_in result (taken s round.now medias) → OnErr result (s' ≡ s)
      → IsKept hls s → IsKept hls s'
  kept_by (Ok n) takes same kept = kept_so hls s s' kept (one_more s s' round.now medias takes)
  kept_by (Err stop) takes same kept = subst (λ t. IsKept hls t) (sym same) kept

-- ---- what is written

shown : (form : Form) (o : Option Followed) (mpd : LiveMpd) → option_map (λ (f : Followed). f.mpd) o ≡ Some mpd
    → live_text form mpd ≡ option_map_or (λ (f : Followed). live_text form f.mpd) o []
shown form None mpd is = absurd (cc)
shown form (Some f) mpd is = let same : f.mpd ≡ mpd = cc in ap (live_text form) (sym same)

-- the MPD that is shown is put, or begun
module _ (form : Form) (name : List ℕ) (s : LiveRounds) (mpd : LiveMpd)
    (is : option_map (λ (f : Followed). f.mpd) s.follow.followed ≡ Some mpd) (before after : Option Files) where
  pub put_by : (result : Result (Unit {0}) OutFault) → OnOk result (Changes (put name (live_text form mpd)) before after)
      → OnOk result (Changes (put_all ((name, mpd_text form s) ∷ [])) before after)
  put_by (Ok done) puts = one_put (name, mpd_text form s) before after
      (subst (λ text. Changes (put name text) before after) (shown form s.follow.followed mpd is) puts)
  put_by (Err e) puts = tt

  pub begun_by : (result : Result (Unit {0}) OutFault) → OnErr result ((after ≡ before) ⊎ HasFront name (live_text form mpd) before after)
      → OnErr result (AreBegun ((name, mpd_text form s) ∷ []) before after)
  begun_by (Ok done) may = tt
  begun_by (Err e) may = begun (name, mpd_text form s) before after
      (subst (λ text. (after ≡ before) ⊎ HasFront name text before after) (shown form s.follow.followed mpd is) may)
