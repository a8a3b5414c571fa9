-- What a section of a track is made of.
use Rattle.hls_follow.specs.TimedPeriods as periods
use Rattle.layer_faults.specs.declared.times.FileFault.TheVariants as file
use Rattle.std.proofs.Common.{◌≡◌, ℕ, ◌≤◌, Bool, true, false, List, Option, Some, Result, Ok, Err, refl, sym, ◌∙◌, ap}
use Rattle.std.proofs.lemmas.Bool.{ltb-false}
use Rattle.bridge_io.specs.{Answer.told_as, Outside.Files}
use Rattle.bridge_io.proofs.AndThen.{steps_of}
use Rattle.dash_writer.specs.{declared.live.LiveRun.LiveRun, declared.timed.TickRun.TickRun}
use Rattle.fragment_times.specs.{declared.fault.SegmentSpot.SegmentSpot, declared.fault.TimesFault.TimesFault}
use Rattle.fragment_times.specs.{declared.times.SegmentTimes.SegmentTimes, Durations.ticks_of, Origins.{first_of, origin_of}}
use Rattle.hls_follow.specs.OwnTimes.{Snapshot, map_of, scale_of, starts_of as own_starts, track_times}
use Rattle.hls_follow.specs.Stretches.{Stretch}
use Rattle.hls_follow.specs.Ticks.{clock_with, fault_at, followed_run, is_back, is_before, last_ticks, offset_of, run_with, spot_of, stretch_in, told_at, track_run}
use Rattle.hls_follow.proofs.Cells.{Cell, IsCell, known_run}

ticks_ok : {X : Type 0} (s : Snapshot) (r : Result X TimesFault) (x : X) → told_as (told_at s) r ≡ Ok x → r ≡ Ok x
ticks_ok s (Ok y) x is = (let same : y ≡ x = cc in ap Ok same)
ticks_ok s (Err e) x is = absurd (cc)

-- ---- a track in a section, from a spot on

module _ (s : Snapshot) (at : SegmentSpot) (offset : ℕ) (times : SegmentTimes) where
  abbrev last : ℕ
  last = last_ticks (stretch_in s at).segments times.scale

  pub record IsRun (run : TickRun) : Type 0 where
    pub durations : List ℕ
    pub ticks : ticks_of at (clock_with times.scale offset) last times.starts ≡ Ok durations
    pub begins : offset ≤ first_of times
    pub is : run_with offset times durations ≡ run

  pub run_of : (run : TickRun) → track_run s at offset times ≡ Ok run → IsRun run
  run_of run is = by (is_back s at times) (is_before offset times) refl refl
    where
      by : (b c : Bool) → is_back s at times ≡ b → is_before offset times ≡ c → IsRun run
      by true c b e = absurd (let h : track_run s at offset times ≡ Err (fault_at s at file.Order) = rw b refl in cc)
      by false true b e = absurd (let h : track_run s at offset times ≡ Err (fault_at s at file.Order) = rw (b, e) refl in cc)
      by false false b e =
          (let h : track_run s at offset times ≡ followed_run s at offset times = rw (b, e) refl in
          let x = steps_of (told_as (told_at s) (ticks_of at (clock_with times.scale offset) last times.starts)) _ run (sym h ∙ is) in
          record {
            durations = x.value;
            ticks = ticks_ok s (ticks_of at (clock_with times.scale offset) last times.starts) x.value x.first;
            begins = ltb-false (first_of times) offset e;
            is = (let h = x.then in cc);
          })

-- what is listed of it
pub record IsLive (stretch : Stretch) (run : TickRun) (live : LiveRun) : Type 0 where
  pub map : map_of stretch.segments ≡ Ok live.initialization
  pub segments : live.segments ≡ periods.segments_from run.first run.durations stretch.segments
  pub scale : live.scale ≡ run.scale
  pub offset : live.offset ≡ Some run.offset

pub live_of : (stretch : Stretch) (run : TickRun) (live : LiveRun) → periods.live_run stretch run ≡ Ok live → IsLive stretch run live
live_of stretch run live is =
    let m = steps_of (map_of stretch.segments) _ live is in
    let same : periods.run_with m.value stretch run ≡ live = (let h = m.then in cc) in
    record {
      map = m.first ∙ ap (λ (l : LiveRun). Ok l.initialization) same;
      segments = ap (λ (l : LiveRun). l.segments) (sym same);
      scale = ap (λ (l : LiveRun). l.scale) (sym same);
      offset = ap (λ (l : LiveRun). l.offset) (sym same);
    }

-- what is read of it
pub record AreTimes (folder : List ℕ) (files : Files) (known : Option LiveRun) (stretch : Stretch) (times : SegmentTimes) : Type 0 where
  pub scale : scale_of folder files known stretch ≡ Ok times.scale
  pub starts : own_starts folder files stretch ≡ Ok times.starts

pub times_of : (folder : List ℕ) (files : Files) (known : Option LiveRun) (stretch : Stretch) (times : SegmentTimes)
    → track_times folder files known stretch ≡ Ok times → AreTimes folder files known stretch times
times_of folder files known stretch times is =
    let a = steps_of (scale_of folder files known stretch) _ times is in
    let b = steps_of (own_starts folder files stretch) _ times a.then in
    let same : record { scale = a.value; starts = b.value } ≡ times = (let h = b.then in cc) in
    record { scale = a.first ∙ ap (λ (t : SegmentTimes). Ok t.scale) same; starts = b.first ∙ ap (λ (t : SegmentTimes). Ok t.starts) same }

-- ---- a cell

module _ (s : Snapshot) (files : Files) (p : ℕ) (c : Cell) where
  abbrev pub cell_spot : SegmentSpot
  cell_spot = spot_of c.place p

  abbrev pub cell_offset : ℕ
  cell_offset = offset_of (known_run s c.period.number p) (origin_of c.row) c.times

  abbrev pub cell_last : ℕ
  cell_last = last_ticks (stretch_in s cell_spot).segments c.times.scale

  pub record AreFacts : Type 0 where
    pub scale : scale_of s.folder files (known_run s c.period.number p) c.stretch ≡ Ok c.times.scale
    pub starts : own_starts s.folder files c.stretch ≡ Ok c.times.starts
    pub durations : List ℕ
    pub ticks : ticks_of cell_spot (clock_with c.times.scale cell_offset) cell_last c.times.starts ≡ Ok durations
    pub map : map_of c.stretch.segments ≡ Ok c.live.initialization
    pub live_segments : c.live.segments ≡ periods.segments_from (first_of c.times) durations c.stretch.segments
    pub live_scale : c.live.scale ≡ c.times.scale
    pub live_offset : c.live.offset ≡ Some cell_offset

  pub facts_of : IsCell s files p c → AreFacts
  facts_of is =
      let t = times_of s.folder files (known_run s c.period.number p) c.stretch c.times is.times in
      let r = run_of s cell_spot cell_offset c.times c.run is.run in
      let l = live_of c.stretch c.run c.live is.live in
      record {
        scale = t.scale;
        starts = t.starts;
        durations = r.durations;
        ticks = r.ticks;
        map = l.map;
        live_segments = l.segments
            ∙ ap (λ (run : TickRun). periods.segments_from run.first run.durations c.stretch.segments) (sym r.is);
        live_scale = l.scale ∙ ap (λ (run : TickRun). run.scale) (sym r.is);
        live_offset = l.offset ∙ ap (λ (run : TickRun). Some run.offset) (sym r.is);
      }
