-- What stays from one accepted round to the next.
use Rattle.hls_follow.specs.Periods as periods
use Rattle.hls_follow.specs.Periods.{last_end}
use Rattle.std.proofs.Common.{◌≡◌, ℕ, zero, suc, ◌+◌, ◌-◌, ◌<◌, ◌^◌, Bool, true, false, leb, ltb, max, List, [], ◌∷◌, map, length}
use Rattle.std.proofs.{Common.{slice_get, All, Option, Some, None, Ok, Err, ℤ, refl, sym, ◌∙◌, ap, subst, arith}, lemmas.Bool.le-ltb}
use Rattle.std.proofs.lemmas.List.Elements.{All-nil, All-cons}
use Rattle.std.specs.List.{list_any}
use Rattle.bridge_io.proofs.AndThen.{steps_of}
use Rattle.hls_master.specs.declared.track.MasterTrack.{MasterTrack}
use Rattle.hls_media.specs.{declared.media.Media.Media, declared.media.MediaSegment.MediaSegment}
use Rattle.hls_presentation.specs.Tracks.{Source, sources}
use Rattle.dash_writer.specs.{declared.live.LiveMpd.LiveMpd, declared.live.LivePeriod.LivePeriod}
use Rattle.hls_follow.specs.declared.periods.Extent.{Extent}
use Rattle.hls_follow.specs.declared.state.Followed.{Followed}
use Rattle.layer_faults.specs.declared.live.LiveFault.TheVariants.{Limit}
use Rattle.hls_follow.specs.{declared.state.FollowedTrack.FollowedTrack, Times.TimedSegment, declared.state.Last.Last}
use Rattle.hls_follow.specs.{Groups.{groups_of, row_at, row_end}, Kept.{flags_of, formers_of, periods_of}, Laws.NumbersKeepTheirTimes}
use Rattle.hls_follow.specs.{Laws.{SectionsKeepTheirStarts, StartsStay}, Rounds.{followed_by, followed_of, followed_tracks, followed_with}}
use Rattle.hls_follow.specs.{Rounds.{judged_tracks, kept_in, mpd_of, mpd_or_fault, placed_of, start_of, times_in}, Rules.common_sections}
use Rattle.hls_follow.specs.Rules.{judged_all, judged_at, judged_count, judged_reload, judged_section, judged_segments, judged_updates}
use Rattle.hls_follow.specs.Times.{behind_segment, former_time, is_late, last_of, time_of, timed_all, timed_from, timed_of, unless_late}

-- ---- the parts of what an accepted round leaves

-- what is judged of tracks that have these sections
pub record Judged (formers : List FollowedTrack) (kept : List Source) (sections : List ℕ) : Type 0 where
  pub segments : judged_segments kept ≡ Ok tt
  pub common : common_sections kept ≡ Ok sections
  pub reloads : judged_all judged_reload formers 0 kept ≡ Ok tt

pub record Parts (former : Option Followed) (all : List Source) (new : Followed) : Type 0 where
  pub now : ℤ
  pub kept : List Source
  pub sections : List ℕ
  pub timed : List (List TimedSegment)
  pub listed : List LivePeriod
  pub start : ℤ
  pub are : kept ≡ kept_in former all
  pub judged : Judged (formers_of former) kept sections
  pub times : timed_all (formers_of former) 0 kept ≡ Ok timed
  pub periods : periods.periods_from (periods_of former) (map groups_of timed) (periods.last_end (periods_of former)) 0 sections ≡ Ok listed
  pub starts : start_of former now (last_end listed) ≡ Ok start
  pub flags : new.kept ≡ flags_of former all
  pub tracks : new.tracks ≡ followed_tracks kept timed
  pub mpd : new.mpd ≡ mpd_of start now listed kept

placed_parts : (former : Option Followed) (now : ℤ) (all : List Source) (sections : List ℕ) (new : Followed)
    → Judged (formers_of former) (kept_in former all) sections
    → placed_of former now (flags_of former all) (kept_in former all) sections ≡ Ok new → Parts former all new
unfolding placed_of
placed_parts former now all sections new judged is =
    let flags = flags_of former all in
    let kept = kept_in former all in
    let a = steps_of (timed_all (formers_of former) 0 kept) _ new is in
    let b = steps_of (periods.periods_from (periods_of former) (map groups_of a.value) (periods.last_end
    (periods_of former)) 0 sections) _ new a.then in
    let c = steps_of (mpd_or_fault former now (periods.last_end b.value) b.value kept) _ new b.then in
    let d = steps_of (start_of former now (periods.last_end b.value)) _ c.value c.first in
    let whole : followed_with flags kept a.value c.value ≡ new = (let h = c.then in cc) in
    let mpd : mpd_of d.value now b.value kept ≡ c.value = (let h = d.then in cc) in
    record {
      now = now;
      kept = kept;
      sections = sections;
      timed = a.value;
      listed = b.value;
      start = d.value;
      are = refl;
      judged = judged;
      times = a.first;
      periods = b.first;
      starts = d.first;
      flags = ap (λ (f : Followed). f.kept) (sym whole);
      tracks = ap (λ (f : Followed). f.tracks) (sym whole);
      mpd = ap (λ (f : Followed). f.mpd) (sym whole) ∙ sym mpd;
    }

pub parts_of : (tracks : List MasterTrack) (former : Option Followed) (now : ℤ) (medias : List Media) (new : Followed)
    → followed_of tracks former now medias ≡ Ok new → Parts former (sources tracks medias) new
unfolding followed_of judged_tracks judged_updates
parts_of tracks former now medias new is =
    let all = sources tracks medias in
    let kept = kept_in former all in
    let formers = formers_of former in
    let a = steps_of (judged_at former now) (λ _. followed_by former now all) new is in
    let b = steps_of (judged_tracks formers kept) (placed_of former now (flags_of former all) kept) new a.then in
    let segments = steps_of (judged_segments kept) _ b.value b.first in
    let updates = steps_of (judged_updates formers kept) _ b.value segments.then in
    let sections = steps_of (common_sections kept) _ updates.value updates.first in
    let reloads = steps_of (judged_all judged_reload formers 0 kept) _ updates.value sections.then in
    let judged_sections = steps_of (judged_all judged_section formers 0 kept) _ updates.value reloads.then in
    let count = steps_of (judged_count updates.value kept) _ b.value updates.then in
    let same : sections.value ≡ b.value = (let h = judged_sections.then in let i = count.then in cc) in
    placed_parts former now all b.value new
    (record { segments = segments.first; common = sections.first ∙ ap Ok same; reloads = reloads.first }) b.then

-- ---- times

kept_time : (former : Option FollowedTrack) (target number : ℕ) (last : Option Last) (segments : List MediaSegment) (i time : ℕ)
    → i < length segments
    → former_time former (number + i) ≡ Some time → slice_get (times_in (timed_from former target number last segments)) i ≡ Some time
kept_time former target number last [] i time within is = absurd (omega arith)
kept_time former target number last (s ∷ segments) zero time within is =
    let here : former_time former number ≡ Some time =
    (let e : number + 0 ≡ number = omega arith in ap (former_time former) (sym e) ∙ is) in
    let same : time_of former target number s.section last ≡ time = rw here refl in
    ap Some same
kept_time former target number last (s ∷ segments) (suc i) time within is =
    let e : number + suc i ≡ (number + 1) + i = omega arith in
    kept_time former target (number + 1) (Some (behind_segment number (time_of former target number s.section last) s)) segments i time
    (omega arith)
    (ap (former_time former) (sym e) ∙ is)

-- the kept track at a place, and its times
pub record IsAt (formers : List FollowedTrack) (place : ℕ) (b : FollowedTrack) : Type 0 where
  pub is : b.times ≡ times_in (timed_of (slice_get formers place) b.media)

pub same_by : (all timed : List TimedSegment) (late : Bool) → list_any is_late all ≡ late → unless_late all ≡ Ok timed → all ≡ timed
same_by all timed true late is = absurd (let h : unless_late all ≡ Err Limit = rw late refl in cc)
same_by all timed false late is = (let h : unless_late all ≡ Ok all = rw late refl in cc)

at_front : (formers : List FollowedTrack) (from place : ℕ) (s : Source) (kept : List Source) (first : List TimedSegment) (timed : List
    (List TimedSegment)) (b : FollowedTrack)
    → timed_of (slice_get formers from) s.media ≡ first
    → ((place : ℕ) → slice_get (followed_tracks kept timed) place ≡ Some b → IsAt formers ((from + 1) + place) b)
    → slice_get (followed_tracks (s ∷ kept) (first ∷ timed)) place ≡ Some b → IsAt formers (from + place) b
at_front formers from zero s kept first timed b here later is =
    let same : record { media = s.media; times = times_in first } ≡ b = cc in
    let e : from ≡ from + 0 = omega arith in
    subst (λ (place : ℕ). IsAt formers place b) e (subst (λ (b : FollowedTrack). IsAt formers from b) same (record {
      is = ap times_in (sym here);
    }))
at_front formers from (suc place) s kept first timed b here later is =
    let e : (from + 1) + place ≡ from + suc place = omega arith in
    subst (λ (place : ℕ). IsAt formers place b) e (later place is)

at_place : (formers : List FollowedTrack) (from place : ℕ) (kept : List Source) (timed : List (List TimedSegment)) (b : FollowedTrack)
    → timed_all formers from kept ≡ Ok timed → slice_get (followed_tracks kept timed) place ≡ Some b → IsAt formers (from + place) b
at_place formers from place [] timed b are is =
    absurd (let none : [] ≡ timed = cc in let h : slice_get (followed_tracks [] timed) place ≡ None = refl in cc)
at_place formers from place (s ∷ kept) timed b are is =
    let x = steps_of (unless_late (timed_of (slice_get formers from) s.media)) _ timed are in
    let y = steps_of (timed_all formers (from + 1) kept) _ timed x.then in
    let whole : x.value ∷ y.value ≡ timed = (let h = y.then in cc) in
    let here : timed_of (slice_get formers from) s.media ≡ x.value = same_by (timed_of (slice_get formers from) s.media) x.value
    (list_any is_late (timed_of (slice_get formers from) s.media)) refl x.first in
    at_front formers from place s kept x.value y.value b here
    (λ place is. at_place formers (from + 1) place kept y.value b y.first is)
    (subst (λ timed. slice_get (followed_tracks (s ∷ kept) timed) place ≡ Some b) (sym whole) is)

pub numbers_stay : NumbersKeepTheirTimes
unfolding timed_of
numbers_stay old new a b number time follows track lists is =
    let p = parts_of follows.tracks (Some old) follows.now follows.medias new follows.accepted in
    let i = number - b.media.sequence in
    let here : slice_get (followed_tracks p.kept p.timed) track.place ≡ Some b =
    ap (λ (tracks : List FollowedTrack). slice_get tracks track.place) (sym p.tracks) ∙ track.in_new in
    let at = at_place old.tracks 0 track.place p.kept p.timed b p.times here in
    let e : 0 + track.place ≡ track.place = omega arith in
    let former : slice_get old.tracks (0 + track.place) ≡ Some a = ap (slice_get old.tracks) e ∙ track.in_old in
    let times : b.times ≡ times_in (timed_of (Some a) b.media) =
    at.is ∙ ap (λ (former : Option FollowedTrack). times_in (timed_of former b.media)) former in
    let listed = lists.from in
    let within = lists.before in
    let back : b.media.sequence + i ≡ number = omega arith in
    let kept : slice_get (times_in (timed_of (Some a) b.media)) i ≡ Some time =
    kept_time (Some a) b.media.target b.media.sequence (last_of (Some a)) b.media.segments i time (omega arith) (ap (former_time
    (Some a)) back ∙ is) in
    let past : ltb number b.media.sequence ≡ false = le-ltb number b.media.sequence listed in
    rw past (ap (λ (times : List ℕ). slice_get times i) times ∙ kept)

-- ---- sections

abbrev Stays : List LivePeriod → LivePeriod → Type 0
Stays known period = (e : Extent) → periods.known_in period.number known ≡ Some e → period.start ≡ e.start

pub within_by : (start longest : ℕ) (extent : Extent) (late : Bool) → leb (10 ^ 19) (start + longest) ≡ late
    → periods.within_limit start longest ≡ Ok extent → extent.start ≡ start
within_by start longest extent true late is = absurd (let h : periods.within_limit start longest ≡ Err Limit = rw late refl in cc)
within_by start longest extent false late is =
    let h : periods.within_limit start longest ≡ Ok (record { start = start; longest = longest }) = rw late refl in
    let same : record { start = start; longest = longest } ≡ extent = cc in
    ap (λ (e : Extent). e.start) (sym same)

pub starts_by : (known : Option Extent) (former longest : ℕ) (extent e : Extent) → periods.extent_of known former longest ≡ Ok extent
    → known ≡ Some e → extent.start ≡ e.start
starts_by (Some k) former longest extent e is listed = within_by k.start (max k.longest longest) extent (leb (10 ^ 19)
    (k.start + max k.longest longest)) refl is ∙ ap (λ (e : Extent). e.start) (let same : k ≡ e = cc in same)
starts_by None former longest extent e is listed = absurd (cc)

one_stays : (known : List LivePeriod) (former number : ℕ) (row : List (List TimedSegment)) (period : LivePeriod)
    → periods.period_of known former number row ≡ Ok period → Stays known period
one_stays known former number row period is e listed =
    let x = steps_of (periods.extent_of (periods.known_in number known) former (row_end row)) _ period is in
    let y = steps_of (periods.runs_of row) _ period x.then in
    let same : record { number = number; start = x.value.start; longest = x.value.longest; runs = y.value }
    ≡ period = (let h = y.then in cc) in
    let of : periods.known_in number known ≡ Some e =
    subst (λ (p : LivePeriod). periods.known_in p.number known ≡ Some e) (sym same) listed in
    ap (λ (p : LivePeriod). p.start) (sym same) ∙ starts_by (periods.known_in number known) former (row_end row) x.value e x.first of

periods_stay : (known : List LivePeriod) (tracks : List (List (List TimedSegment))) (former place : ℕ) (sections : List ℕ)
    (listed : List LivePeriod)
    → periods.periods_from known tracks former place sections ≡ Ok listed → All (Stays known) listed
periods_stay known tracks former place [] listed is =
    subst (All (Stays known)) (let none : [] ≡ listed = cc in none) (All-nil (Stays known))
periods_stay known tracks former place (number ∷ sections) listed is =
    let row = row_at tracks place in
    let x = steps_of (periods.period_of known former number row) _ listed is in
    let y = steps_of (periods.periods_from known tracks (periods.end_of x.value) (place + 1) sections) _ listed x.then in
    let whole : x.value ∷ y.value ≡ listed = (let h = y.then in cc) in
    subst (All (Stays known)) whole (All-cons (Stays known) x.value y.value (one_stays known former number row x.value x.first)
    (periods_stay known tracks (periods.end_of x.value) (place + 1) sections y.value y.first))

pub sections_stay : SectionsKeepTheirStarts
sections_stay old new follows =
    let p = parts_of follows.tracks (Some old) follows.now follows.medias new follows.accepted in
    subst (λ (mpd : LiveMpd). All (Stays old.mpd.periods) mpd.periods) (sym p.mpd)
    (periods_stay old.mpd.periods (map groups_of p.timed) (periods.last_end old.mpd.periods) 0 p.sections p.listed p.periods)

pub starts_stay : StartsStay
starts_stay old new follows =
    let p = parts_of follows.tracks (Some old) follows.now follows.medias new follows.accepted in
    let same : old.mpd.start ≡ p.start = (let h = p.starts in cc) in
    ap (λ (mpd : LiveMpd). mpd.start) p.mpd ∙ sym same
