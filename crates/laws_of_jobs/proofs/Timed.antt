-- An MPD that is written of playlists with the times of their media files can be written and read.
use Rattle.std.proofs.Common.{◌≡◌, ℕ, zero, suc, ◌+◌, ◌*◌, ◌/◌, ◌%◌, ◌<◌, List, [], ◌∷◌, length, slice_get, All, Option, Some, None, Ok}
use Rattle.std.proofs.{Common.{refl, sym, ◌∙◌, ap, subst, arith}, lemmas.List.length-map, lemmas.List.Elements.{All-nil, All-cons}}
use Rattle.std.proofs.{lemmas.Nat.div-add-mod', lemmas.Option.slice_get_within, Math.Nat.{div-lt_iff_lt-mul, mod-lt}}
use Rattle.std.specs.Option.{option_map_or}
use Rattle.bridge_io.proofs.AndThen.{steps_of}
use Rattle.bridge_io.specs.Outside.{Files}
use Rattle.hls_presentation.specs.Origins.{ReadAreSilent}
use Rattle.hls_presentation.proofs.Came.{came}
use Rattle.presentation.specs.{declared.parts.Content.Content, Counting.{sections_of, tracks_of}, Origins.CameFromPlaylists}
use Rattle.presentation.specs.Presented.{Presented, content_at, listed_at, listed_in, whole_window, window_of}
use Rattle.presentation.proofs.{Filling.all_gathered, Grids.All-at}
use Rattle.segment_forms.specs.declared.form.Form.{Form}
use Rattle.dash_writer.specs.declared.timed.TickRun.{TickRun}
use Rattle.fragment_times.specs.{declared.times.SegmentTimes.SegmentTimes, Durations.durations_of, Origins.first_of}
use Rattle.fragment_times.specs.{Parts.{scale_at, start_at}, PeriodStarts.start_in}
use Rattle.fragment_times.specs.Times.{all_starts, alone, content_times, parts_of, section_times, times_at, times_of, times_with}
use Rattle.bridge_reach.specs.{DashTimes.{run_of, runs_of}, Promises.starts_from}
use Rattle.bridge_reach.proofs.{Counted.{are_sections, can_be_timed, ticked_at}, Places.length_each, Runs.{IsLed, run_at}}
use Rattle.bridge_reach.proofs.Stated.{are_filled, stated_at}
use Rattle.laws_of_mpds.specs.{Written.{ReadAreInOrder, ReadCanBeTold}, Timed.{AreTimesOf, TimedTextsAreRead, TimedTextsMean}}
use Rattle.laws_of_mpds.proofs.Whole.{can_be_written}
use Rattle.laws_of_jobs.specs.Timed.{TimedAreRead, TimedCanBeRead, TimedMeanTheirTimes}
use Rattle.laws_of_jobs.proofs.{Lasting.{AreLasting, rows_last}, Scales.{IsScale, scale_is}}

-- ---- timescales

abbrev HasScale : SegmentTimes → Type 0
HasScale times = IsScale times.scale

module _ (folder : List ℕ) (files : Files) (p : Presented) where
  own_scaled : (s : ℕ) (content : Option Content) (own : SegmentTimes)
      → option_map_or (content_times folder files (window_of p s)) content (Ok (times_with 1 [])) ≡ Ok own → HasScale own
  own_scaled s None own is =
      subst HasScale (let same : times_with 1 [] ≡ own = cc in same) (record { positive = omega arith; small = omega arith })
  own_scaled s (Some content) own is =
      let scale = steps_of (scale_at folder files content.initialization) _ own is in
      let starts = steps_of (all_starts folder files (parts_of content.runs (listed_in (window_of p s) content.runs)))
      (λ starts. Ok (times_with scale.value starts)) own scale.then in
      let same : times_with scale.value starts.value ≡ own = (let e = starts.then in cc) in
      subst HasScale same (scale_is folder files content.initialization scale.value scale.first)

  track_scaled : (s t : ℕ) (one : List SegmentTimes) → alone (times_at folder files p s t) ≡ Ok one → All HasScale one
  unfolding times_at
  track_scaled s t one is =
      let own = steps_of (times_at folder files p s t) (λ times. Ok (times ∷ [])) one is in
      let whole : own.value ∷ [] ≡ one = (let e = own.then in cc) in
      subst (All HasScale) whole (All-cons HasScale own.value [] (own_scaled s (content_at p s t) own.value own.first) (All-nil HasScale))

  all_scaled : (times : List SegmentTimes) → times_of folder files p ≡ Ok times → All HasScale times
  unfolding times_of
  all_scaled times is = all_gathered (section_times folder files p) HasScale
      (λ s own given. all_gathered (λ t. alone (times_at folder files p s t)) HasScale (track_scaled s) (tracks_of p) own given)
      (sections_of p) times is

-- ---- runs

-- the run of a track in a section, and what its files state
pub record IsTakenAt (form : Form) (folder : List ℕ) (files : Files) (p : Presented) (times : List SegmentTimes) (rows : List (List ℕ))
    (s t : ℕ) (c : Content) (run : TickRun) : Type 0 where
  pub own : SegmentTimes
  pub there : slice_get times (s * length p.tracks + t) ≡ Some own
  pub row : List ℕ
  pub here : slice_get rows (s * length p.tracks + t) ≡ Some row
  pub is : run_of (start_in form p times s) own row ≡ run
  pub scale : scale_at folder files c.initialization ≡ Ok own.scale
  pub starts : all_starts folder files (parts_of c.runs (listed_at p s t)) ≡ Ok own.starts
  pub led : IsLed (first_of own) own.starts row

module _ (form : Form) (folder : List ℕ) (files : Files) (p : Presented) (times : List SegmentTimes) (rows : List (List ℕ))
    (stated : times_of folder files p ≡ Ok times) (lasting : durations_of form p times ≡ Ok rows) where
  pub taken_at : (s t : ℕ) (c : Content) (run : TickRun) → s < length p.sections → t < length p.tracks → content_at p s t ≡ Some c
      → slice_get (runs_of form p times rows) (s * length p.tracks + t) ≡ Some run → IsTakenAt form folder files p times rows s t c run
  taken_at s t c run in_sections in_tracks has is =
      let filled = are_filled folder files p times stated in
      let told = stated_at folder files p times stated s t c in_sections in_tracks has in
      let ticked = ticked_at form p times rows filled lasting s t in_sections in_tracks in
      let alike : told.own ≡ ticked.own = (let here = told.there in let there = ticked.there in cc) in
      let sections = are_sections form p times rows filled lasting in
      let made = run_at form (length p.tracks) (length p.sections) times rows sections s t in_sections in_tracks ticked.own
      ticked.row ticked.there ticked.here in
      record {
        own = ticked.own;
        there = ticked.there;
        row = ticked.row;
        here = ticked.here;
        is = cc;
        scale = told.scale ∙ ap (λ (o : SegmentTimes). Ok o.scale) alike;
        starts = told.starts ∙ ap (λ (o : SegmentTimes). Ok o.starts) alike;
        led = ticked.led;
      }

as_many_starts : (first : ℕ) (ticks : List ℕ) → length (starts_from first ticks) ≡ length ticks
as_many_starts first [] = refl
as_many_starts first (d ∷ ticks) = ap suc (as_many_starts (first + d) ticks)

positive : (sections tracks k : ℕ) → k < sections * tracks → 0 < tracks
positive sections zero k within = absurd (omega (arith, within))
positive sections (suc n) k within = omega arith

module _ (form : Form) (folder : List ℕ) (files : Files) (p : Presented) (times : List SegmentTimes) (rows : List (List ℕ))
    (came : CameFromPlaylists p) (scaled : All HasScale times) (stated : times_of folder files p ≡ Ok times)
    (lasting : durations_of form p times ≡ Ok rows) where
  -- a finished presentation lists all segments
  whole : (s t : ℕ) (c : Content) → content_at p s t ≡ Some c → listed_at p s t ≡ listed_in whole_window c.runs
  whole s t c has =
      let all : window_of p s ≡ whole_window = rw came.finished refl in
      let here : listed_at p s t ≡ listed_in (window_of p s) c.runs = rw has refl in
      here ∙ ap (λ w. listed_in w c.runs) all

  times_at_place : (s t : ℕ) (c : Content) (run : TickRun) → s < length p.sections → t < length p.tracks → content_at p s t ≡ Some c
      → slice_get (runs_of form p times rows) (s * length p.tracks + t) ≡ Some run → AreTimesOf c run
  times_at_place s t c run in_sections in_tracks has is =
      let k = s * length p.tracks + t in
      let taken = taken_at form folder files p times rows stated lasting s t c run in_sections in_tracks has is in
      let listed = listed_at p s t in
      let parts : length taken.own.starts ≡ length listed = length_each (start_at folder files)
      (parts_of c.runs listed) taken.own.starts taken.starts
      ∙ length-map listed _ in
      let starts : length taken.row ≡ length taken.own.starts = sym (as_many_starts _ taken.row) ∙ ap length taken.led.begins in
      let scale = All-at HasScale times k taken.own scaled taken.there in
      subst (AreTimesOf c) taken.is (record {
        one_each = starts ∙ parts ∙ ap length (whole s t c has) ∙ sym (length-map (listed_in whole_window c.runs) _);
        lasting = All-at AreLasting rows k taken.row (rows_last form p times rows lasting) taken.here;
        scale = omega (arith, scale.small);
      })

  times_each : (i : ℕ) (c : Content) (run : TickRun) → slice_get p.contents i ≡ Some c
      → slice_get (runs_of form p times rows) i ≡ Some run → AreTimesOf c run
  times_each i c run has is =
      let n = length p.tracks in
      let inside : i < length p.sections * n = subst (λ count. i < count) came.filled (slice_get_within p.contents i c has) in
      let some : 0 < n = positive (length p.sections) n i inside in
      let place : i ≡ i / n * n + i % n = sym (div-add-mod' i n) in
      times_at_place (i / n) (i % n) c run ((div-lt_iff_lt-mul some).1 inside) (mod-lt i some)
      (ap (slice_get p.contents) (sym place) ∙ has) (ap (slice_get (runs_of form p times rows)) (sym place) ∙ is)

-- ---- the laws

pub can_be_read : ReadAreSilent → TimedCanBeRead
can_be_read quiet form master url tracks medias folder files p times rows have =
    let from = came tracks medias p have.presented (quiet master url tracks have.read) in
    let scaled = all_scaled folder files p times have.stated in
    record {
      can = can_be_timed form p times rows (are_filled folder files p times have.stated) from (λ i d within. (scaled i d within).positive)
          have.lasting;
      each = times_each form folder files p times rows from scaled have.stated have.lasting;
    }

module _ (quiet : ReadAreSilent) (order : ReadAreInOrder) (told : ReadCanBeTold) where
  pub mean_their_times : TimedTextsMean → TimedMeanTheirTimes
  mean_their_times texts form master url tracks medias folder files p times rows at now have =
      let can = can_be_written tracks medias p have.bounded have.addresses (order master url tracks have.read)
      (told master url tracks have.read) have.presented in
      texts form p (runs_of form p times rows) at now can.written can.told
      (can_be_read quiet form master url tracks medias folder files p times rows have)

  pub are_read : TimedTextsAreRead → TimedAreRead
  are_read texts form master url tracks medias folder files p times rows have =
      let can = can_be_written tracks medias p have.bounded have.addresses (order master url tracks have.read)
      (told master url tracks have.read) have.presented in
      texts form p (runs_of form p times rows) can.written can.told
      (can_be_read quiet form master url tracks medias folder files p times rows have)
