-- The parts of what an accepted snapshot with its files' times leaves.
use Rattle.hls_follow.specs.TimedPeriods as periods
use Rattle.std.proofs.Common.{◌≡◌, ℕ, ℤ, List, Option, Result, Ok, Err, refl, sym, ◌∙◌, ap}
use Rattle.bridge_io.proofs.AndThen.{steps_of}
use Rattle.hls_master.specs.declared.track.MasterTrack.{MasterTrack}
use Rattle.hls_presentation.specs.Tracks.{Source, sources}
use Rattle.dash_writer.specs.{declared.live.LivePeriod.LivePeriod, declared.timed.TickRun.TickRun}
use Rattle.fragment_times.specs.declared.times.SegmentTimes.{SegmentTimes}
use Rattle.layer_faults.specs.declared.live.LiveFault.{LiveFault}
use Rattle.hls_follow.specs.{declared.state.Followed.Followed, Kept.{flags_of, formers_of, periods_of}, Maps.judged_maps_of_all}
use Rattle.hls_follow.specs.{OwnTimes.{of_live, times_of}, Readings.read_times, Rounds.{kept_in, mpd_of, mpd_or_fault, start_of}}
use Rattle.hls_follow.specs.Rules.{common_sections, judged_all, judged_at, judged_count, judged_reload, judged_section, judged_updates}
use Rattle.hls_follow.specs.{Ticks.runs_of, TimedHistories.{Round, timed_by}}
use Rattle.hls_follow.specs.TimedRounds.{judged_tracks, listed_by, placed_of, snapshot_with, timed_by as timed_of_all, timed_of}
use Rattle.hls_follow.specs.TimedRounds.{timed_tracks}
use Rattle.hls_follow.proofs.Readings.{read_is}

live_ok : {X : Type 0} (r : Result X LiveFault) (x : X) → of_live r ≡ Ok x → r ≡ Ok x
live_ok (Ok y) x is = (let same : y ≡ x = cc in ap Ok same)
live_ok (Err fault) x is = absurd (cc)

-- what was judged of tracks that have these sections
pub record OwnJudged (former : Option Followed) (kept : List Source) (sections : List ℕ) : Type 0 where
  pub maps : judged_maps_of_all (periods_of former) 0 kept ≡ Ok tt
  pub common : common_sections kept ≡ Ok sections
  pub reloads : judged_all judged_reload (formers_of former) 0 kept ≡ Ok tt

pub record OwnParts (folder : List ℕ) (former : Option Followed) (all : List Source) (round : Round) (new : Followed) : Type 0 where
  pub kept : List Source
  pub sections : List ℕ
  pub times : List SegmentTimes
  pub runs : List TickRun
  pub listed : List LivePeriod
  pub start : ℤ
  pub are : kept ≡ kept_in former all
  pub judged : OwnJudged former kept sections
  pub read : times_of (snapshot_with former kept sections folder) round.files ≡ Ok times
  pub ticked : runs_of (snapshot_with former kept sections folder) times ≡ Ok runs
  pub periods : periods.periods_of (snapshot_with former kept sections folder) runs ≡ Ok listed
  pub starts : start_of former round.now (listed_by listed kept) ≡ Ok start
  pub flags : new.kept ≡ flags_of former all
  pub tracks : new.tracks ≡ timed_tracks kept times
  pub mpd : new.mpd ≡ mpd_of start round.now listed kept

judged_parts : (former : Option Followed) (kept : List Source) (sections : List ℕ) → judged_tracks former kept ≡ Ok sections
    → OwnJudged former kept sections
unfolding judged_updates
judged_parts former kept sections is =
    let formers = formers_of former in
    let m = steps_of (judged_maps_of_all (periods_of former) 0 kept) _ sections is in
    let u = steps_of (judged_updates formers kept) _ sections m.then in
    let c = steps_of (judged_count u.value kept) _ sections u.then in
    let counted : u.value ≡ sections = (let h = c.then in cc) in
    let common = steps_of (common_sections kept) _ u.value u.first in
    let reloads = steps_of (judged_all judged_reload formers 0 kept) _ u.value common.then in
    let backs = steps_of (judged_all judged_section formers 0 kept) _ u.value reloads.then in
    let same : common.value ≡ u.value = (let h = backs.then in cc) in
    record { maps = m.first; common = common.first ∙ ap Ok (same ∙ counted); reloads = reloads.first }

placed_parts : (folder : List ℕ) (former : Option Followed) (all : List Source) (round : Round) (sections : List ℕ) (new : Followed)
    → OwnJudged former (kept_in former all) sections
    → placed_of former round.now (flags_of former all) (kept_in former all) sections folder round.files ≡ Ok new
    → OwnParts folder former all round new
placed_parts folder former all round sections new judged is =
    let kept = kept_in former all in
    let flags = flags_of former all in
    let s = snapshot_with former kept sections folder in
    let a = steps_of (read_times s round.files) _ new is in
    let b = steps_of (runs_of s a.value) _ new a.then in
    let c = steps_of (of_live (periods.periods_of s b.value)) _ new b.then in
    let d = steps_of (of_live (mpd_or_fault former round.now (listed_by c.value kept) c.value kept)) _ new c.then in
    let listed = live_ok (periods.periods_of s b.value) c.value c.first in
    let e = steps_of (start_of former round.now (listed_by c.value kept)) _ d.value
    (live_ok (mpd_or_fault former round.now (listed_by c.value kept) c.value kept) d.value d.first) in
    let whole : record { kept = flags; tracks = timed_tracks kept a.value; mpd = d.value } ≡ new = (let h = d.then in cc) in
    let mpd : mpd_of e.value round.now c.value kept ≡ d.value = (let h = e.then in cc) in
    record {
      kept = kept;
      sections = sections;
      times = a.value;
      runs = b.value;
      listed = c.value;
      start = e.value;
      are = refl;
      judged = judged;
      read = read_is s round.files a.value a.first;
      ticked = b.first;
      periods = listed;
      starts = e.first;
      flags = ap (λ (f : Followed). f.kept) (sym whole);
      tracks = ap (λ (f : Followed). f.tracks) (sym whole);
      mpd = ap (λ (f : Followed). f.mpd) (sym whole) ∙ sym mpd;
    }

pub parts_of : (tracks : List MasterTrack) (folder : List ℕ) (former : Option Followed) (round : Round) (new : Followed)
    → timed_by tracks folder former round ≡ Ok new → OwnParts folder former (sources tracks round.medias) round new
unfolding timed_of
parts_of tracks folder former round new is =
    let all = sources tracks round.medias in
    let a = steps_of (of_live (judged_at former round.now)) (λ _. timed_of_all former round.now all folder round.files) new is in
    let b = steps_of (of_live (judged_tracks former (kept_in former all))) _ new a.then in
    placed_parts folder former all round b.value new
    (judged_parts former (kept_in former all) b.value (live_ok (judged_tracks former (kept_in former all)) b.value b.first)) b.then
