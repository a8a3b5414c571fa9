-- The MPD of a run of `dash-times` means what the playlists mean, at the times of the files.
use Rattle.bridge_jobs.specs.declared.jobs.Job.TheVariants as jobs
use Rattle.bridge_courses.specs.declared.status.Status.TheVariants as status
use Rattle.std.proofs.Common.{◌≡◌, ℕ, ◌+◌, ◌-◌, ◌*◌, ◌<◌, ◌≤◌, List, [], ◌∷◌, map, length, take, drop, get_or, slice_get, codes, IsTrue}
use Rattle.std.proofs.{Common.{Option, Some, None, IfSome, option_map, Ok, refl, sym, ◌∙◌, ap, ap₂, subst, arith, length-drop}}
use Rattle.std.proofs.lemmas.{List.{append-nil, get_or-drop, get_or-take, length-take}}
use Rattle.std.proofs.lemmas.Option.{get_or_from_slice_get, slice_get_read, slice_get_within}
use Rattle.bridge_io.proofs.AndThen.{steps_of}
use Rattle.bridge_io.specs.{InOrder.put_all, Names.is_name, Outside.Files}
use Rattle.exact_time.specs.Time.{Time, in_units}
use Rattle.meaning.specs.{Meanings.{Entry, Meaning, Track}, Same.{IsSameTime, Pairwise, Same, SameEntries}}
use Rattle.timeline.specs.Expansions.{Extent}
use Rattle.presentation.specs.{Meanings.{entry_at, meaning_of}, Presented.Presented}
use Rattle.presentation.specs.Presented.{listed_at, listed_in, whole_window}
use Rattle.presentation.proofs.Grids.{All-at}
use Rattle.segment_forms.specs.declared.form.Form.{Form, TheVariants.{Plain, Players}}
use Rattle.hls_media.specs.Laws.{ReadIsBounded}
use Rattle.hls_presentation.specs.Origins.{ReadAreSilent}
use Rattle.dash_writer.specs.{Timed.timed_text, declared.timed.TickRun.TickRun}
use Rattle.fragment_times.specs.{declared.times.SegmentTimes.SegmentTimes, Durations.durations_of, Parts.scale_at}
use Rattle.fragment_times.specs.Times.{all_starts, parts_of, times_of}
use Rattle.laws_of_playlists.specs.Origins.{OwnTextsAreAddresses}
use Rattle.laws_of_mpds.specs.{Meant.IsWritable, PresentedFiles.PresentedMeanTheirFiles, Rows.in_row}
use Rattle.laws_of_mpds.specs.Timed.{AreFilesOf, IsTimed as CanBeTimed, SameButTimes, TimedBeginInRow, TimedKeepTheirFiles, TimedTextsMean}
use Rattle.laws_of_mpds.specs.{Timed.timed_as, Written.{ReadAreInOrder, ReadCanBeTold, ReadHaveAddresses, ReadHaveRates, TracksAreOfBytes}}
use Rattle.laws_of_mpds.proofs.{Entries.each_entry, Periods.window_is, Timed.as_many, Whole.can_be_written}
use Rattle.hls_master.specs.SeenTracks.{track_seen}
use Rattle.bridge_jobs.specs.{Laws.in_folder, declared.jobs.MasterJob.MasterJob}
use Rattle.bridge_courses.specs.{Courses.{Course, World, files_of as course_files}, Executions.IsExecution}
use Rattle.bridge_courses.specs.Laws.{DoneIsWhole, VerdictKeepsSteps}
use Rattle.bridge_playlists.specs.{Places.store_place_of, Playlists.presented_at}
use Rattle.bridge_reach.specs.DashTimes.{dash_times_outcome, files_of, line_of, outcome_of, runs_at, runs_of, timed_at, with_runs}
use Rattle.bridge_reach.specs.Promises.{AreStarted, HaveOneOffset, IsInStep, runs_in, starts_from}
use Rattle.bridge_reach.proofs.Timely.{are_runs, are_started}
use Rattle.bridge_core.specs.Courses.{course_of, course_of_job}
use Rattle.bridge_core.proofs.{Asked.{IsBounded, bounded as bounded_words}, DoneAt.{IsDoneAt, done_at}, FileNames.put_there}
use Rattle.bridge_core.proofs.{Lies.{in_folder_is, lies_of}, MpdPromises.{all_of_bytes, each_addressed, each_bounded, presentation_read}}
use Rattle.laws_of_jobs.specs.Timed.{HaveTimes}
use Rattle.laws_of_jobs.specs.TimedRuns.{AreInStep, HasFileTimes, IfBoth, IsOneStart, IsStart, TimedMeansTheSame}
use Rattle.laws_of_jobs.specs.TimedRuns.{WrittenHasPlaylistsAndTimes}
use Rattle.laws_of_jobs.proofs.Near.{near_start}
use Rattle.laws_of_jobs.proofs.{Pairs.each_two, Timed.{can_be_read, mean_their_times, taken_at}}

-- ---- the same but for times

abbrev Any : Time → Time → Type 0
Any x y = Unit {0}

through : {X Y Z : Type 0} (R : X → Y → Type 0) (S : Y → Z → Type 0) (T : X → Z → Type 0)
    → ((x : X) (y : Y) (z : Z) → R x y → S y z → T x z)
    → (xs : List X) (ys : List Y) (zs : List Z) → Pairwise R xs ys → Pairwise S ys zs → Pairwise T xs zs
through R S T then [] [] [] one two = tt
through R S T then [] [] (z ∷ zs) one two = absurd two
through R S T then [] (y ∷ ys) zs one two = absurd one
through R S T then (x ∷ xs) [] zs one two = absurd one
through R S T then (x ∷ xs) (y ∷ ys) [] one two = absurd two
through R S T then (x ∷ xs) (y ∷ ys) (z ∷ zs) one two =
    (then x y z one.0 two.0, through R S T then xs ys zs one.1 two.1)

entries_through : (a b c : Option Entry) → SameEntries IsSameTime a b → SameEntries Any b c → SameEntries Any a c
entries_through None None None one two = tt
entries_through None None (Some c) one two = absurd two
entries_through None (Some b) c one two = absurd one
entries_through (Some a) None c one two = absurd one
entries_through (Some a) (Some b) None one two = absurd two
entries_through (Some a) (Some b) (Some c) one two = record {
  initialization = one.initialization ∙ two.initialization;
  segments = through _ _ _ (λ x y z same other. record { part = same.part ∙ other.part; time = tt }) a.segments b.segments c.segments
      one.segments two.segments;
}

but_times : (a b c : Meaning) → Same IsSameTime a b → SameButTimes b c → SameButTimes a c
but_times a b c one two = record {
  sections = one.sections ∙ two.sections;
  tracks = through _ _ _ (λ (x y z : Track) same other. record {
    kind = same.kind ∙ other.kind;
    language = same.language ∙ other.language;
    entries = through _ _ _ entries_through x.entries y.entries z.entries same.entries other.entries;
  }) a.tracks b.tracks c.tracks one.tracks two.tracks;
}

-- ---- the times of the files

starts_in_row : (scale first from : ℕ) (ds : List ℕ)
    → map (λ (x : Extent). x.start) (in_row scale from ds) ≡ map (λ n. in_units scale (n - first)) (starts_from (first + from) ds)
starts_in_row scale first from [] = refl
starts_in_row scale first from (d ∷ ds) =
    let begins : from ≡ (first + from) - first = omega arith in
    let moved : first + (from + d) ≡ (first + from) + d = omega arith in
    ap₂ (λ start starts. start ∷ starts) (ap (in_units scale) begins)
    (starts_in_row scale first (from + d) ds ∙ ap (λ n. map (λ n. in_units scale (n - first)) (starts_from n ds)) moved)

begin_as : (scale offset first : ℕ) (ds : List ℕ) → offset ≤ first
    → map (λ (x : Extent). x.start) (in_row scale (first - offset) ds) ≡ map (λ n. in_units scale (n - offset)) (starts_from first ds)
begin_as scale offset first ds before =
    let whole : offset + (first - offset) ≡ first = omega (arith, before) in
    starts_in_row scale offset (first - offset) ds ∙ ap (λ n. map (λ n. in_units scale (n - offset)) (starts_from n ds)) whole

-- ---- when sections start

-- what stands at a place of a part of a list
part_at : {X : Type 0} (xs : List X) (from n k : ℕ) (x : X) → k < n → slice_get xs (from + k) ≡ Some x
    → slice_get (take n (drop from xs)) k ≡ Some x
part_at xs from n k x inside is =
    let within = slice_get_within xs (from + k) x is in
    let held = length-take n (drop from xs) in
    let left = length-drop from xs in
    slice_get_read (take n (drop from xs)) (length (take n (drop from xs))) k x refl (omega (arith, within, held, left, inside))
    (sym (get_or-take n (drop from xs) k x inside ∙ get_or-drop from xs k x ∙ get_or_from_slice_get xs (from + k) x x is))

starts_so : (form : Form) (runs : List TickRun) (k : ℕ) (run : TickRun) → AreStarted form runs → slice_get runs k ≡ Some run
    → IsStart form run.offset run.first
starts_so Plain runs k run all is = All-at (λ (run : TickRun). run.offset ≡ run.first) runs k run all is
starts_so Players runs k run all is = (All-at (IsInStep runs) runs k run all is).begins

before : (form : Form) (offset first : ℕ) → IsStart form offset first → offset ≤ first
before Plain offset first is = omega (arith, is)
before Players offset first is = is

one_start : (form : Form) (runs : List TickRun) (k j : ℕ) (one other : TickRun) → AreStarted form runs → slice_get runs k ≡ Some one
    → slice_get runs j ≡ Some other → IsOneStart form one.offset one.scale other.offset other.scale
one_start Plain runs k j one other all here there = tt
one_start Players runs k j one other all here there =
    All-at (HaveOneOffset one) runs j other (All-at (IsInStep runs) runs k one all here).same there

-- ---- the tracks of a section

module _ (form : Form) (folder : List ℕ) (files : Files) (p : Presented) (times : List SegmentTimes) (rows : List (List ℕ))
    (stated : times_of folder files p ≡ Ok times) (lasting : durations_of form p times ≡ Ok rows) (finished : p.following ≡ None) where
  abbrev runs : List TickRun
  runs = runs_of form p times rows

  started : (s : ℕ) → s < length p.sections → AreStarted form (runs_in p runs s)
  started s within = are_started form folder files p times rows stated lasting s within

  timed_entry : (s t : ℕ) (entry : Entry) → s < length p.sections → t < length p.tracks → AreFilesOf p runs s t entry
      → HasFileTimes form folder files entry
  timed_entry s t entry in_sections in_tracks own =
      let run = own.run in
      let taken = taken_at form folder files p times rows stated lasting s t own.content run in_sections in_tracks own.there own.timed in
      let begins = starts_so form (runs_in p runs s) t run (started s in_sections)
      (part_at runs (s * length p.tracks) (length p.tracks) t run in_tracks own.timed) in
      let listed : listed_at p s t ≡ listed_in whole_window own.content.runs =
      (let here = own.there in rw (here, window_is p s finished) refl) in
      let first : get_or taken.own.starts 0 0 ≡ run.first = ap (λ (run : TickRun). run.first) taken.is in
      let lasts : taken.row ≡ run.durations = ap (λ (run : TickRun). run.durations) taken.is in
      record {
        scale = run.scale;
        media = ap (scale_at folder files) own.initialization ∙ taken.scale ∙ ap (λ (run : TickRun). Ok run.scale) taken.is;
        decode = taken.own.starts;
        stated = ap (all_starts folder files) (own.parts ∙ sym (ap (parts_of own.content.runs) listed)) ∙ taken.starts;
        offset = run.offset;
        begins = subst (IsStart form run.offset) (sym first) begins;
        starts = own.starts ∙ begin_as run.scale run.offset run.first run.durations (before form run.offset run.first begins)
            ∙ ap (map (λ n. in_units run.scale (n - run.offset))) (ap₂ starts_from (sym first) (sym lasts) ∙ taken.led.begins);
        joined = own.joined;
      }

  timed_two : (s t u : ℕ) (one other : Entry) → s < length p.sections → t < length p.tracks → u < length p.tracks
      → AreFilesOf p runs s t one → AreFilesOf p runs s u other → AreInStep form folder files one other
  unfolding timed_entry
  timed_two s t u one other in_sections here there own others = record {
    first = timed_entry s t one in_sections here own;
    second = timed_entry s u other in_sections there others;
    start = one_start form (runs_in p runs s) t u own.run others.run (started s in_sections)
        (part_at runs (s * length p.tracks) (length p.tracks) t own.run here own.timed)
        (part_at runs (s * length p.tracks) (length p.tracks) u others.run there others.timed);
  }

  each_timed : (s t : ℕ) (entry : Option Entry) → s < length p.sections → t < length p.tracks
      → IfSome entry (AreFilesOf p runs s t) → IfSome entry (HasFileTimes form folder files)
  each_timed s t None in_sections in_tracks own = tt
  each_timed s t (Some entry) in_sections in_tracks own = timed_entry s t entry in_sections in_tracks own

  both_timed : (s t u : ℕ) (one other : Option Entry) → s < length p.sections → t < length p.tracks → u < length p.tracks
      → IfSome one (AreFilesOf p runs s t) → IfSome other (AreFilesOf p runs s u) → IfBoth (AreInStep form folder files) one other
  both_timed s t u None other in_sections here there own others = tt
  both_timed s t u (Some one) None in_sections here there own others = tt
  both_timed s t u (Some one) (Some other) in_sections here there own others =
      timed_two s t u one other in_sections here there own others

-- ---- the law

module _ (done : DoneIsWhole) (keeps : VerdictKeepsSteps) (own : OwnTextsAreAddresses) (rates : ReadHaveRates) (lie : TracksAreOfBytes)
    (meant : PresentedMeanTheirFiles) (bounded : ReadIsBounded) (addresses : ReadHaveAddresses) (quiet : ReadAreSilent)
    (order : ReadAreInOrder) (told : ReadCanBeTold) (texts : TimedTextsMean) (keep : TimedKeepTheirFiles) (row : TimedBeginInRow) where
  promised : (job : MasterJob) (course : Course) (before after : World) (first last : Files) → IsTrue (is_name job.master)
      → before.files ≡ Some first → after.files ≡ Some last
      → IsDoneAt (outcome_of job) (timed_at job.form) (store_place_of job.base job.master) first course
      → IsExecution course status.Done before after → TimedMeansTheSame job first last
  unfolding timed_at
  promised job course before after first last named was is by run =
      let place = by.found in
      let read = steps_of (presented_at place first) (with_runs job.form place first) by.value by.is in
      let made = steps_of (runs_at job.form place first read.value) (λ runs. Ok (read.value, runs)) by.value read.then in
      let p = read.value in
      let whole : (p, made.value) ≡ by.value = (let e = made.then in cc) in
      let are = are_runs job.form place first p made.value made.first in
      let runs = runs_of job.form p are.times are.rows in
      let lies = lies_of job.base job.master place by.at in
      let url = in_folder_is job.base job.master place lies in
      let from = presentation_read rates place first p (subst (λ name. IsTrue (is_name name)) (sym lies.file) named) url read.first in
      let meaning = meant first place.folder place.url from.tracks from.medias p from.master from.playlists from.presented in
      let of_bytes = all_of_bytes from.tracks (lie from.master.bytes place.url (map track_seen from.tracks) (own place.url lies.own)
      from.master.read) in
      let have : HaveTimes job.form from.master.bytes place.url from.tracks from.medias place.folder first p are.times are.rows = record {
        read = from.master.read;
        bounded = each_bounded bounded first place.folder from.tracks from.medias from.playlists;
        addresses = each_addressed addresses first place.folder from.tracks from.medias of_bytes from.playlists;
        presented = from.presented;
        stated = are.stated;
        lasting = are.lasting;
      } in
      let writable : IsWritable p = (can_be_written from.tracks from.medias p have.bounded have.addresses
      (order from.master.bytes place.url from.tracks from.master.read) (told from.master.bytes place.url from.tracks from.master.read)
      from.presented).written in
      let timed : CanBeTimed p runs = can_be_read quiet job.form from.master.bytes place.url from.tracks from.medias place.folder first p
      are.times are.rows have in
      let pieces : List (List ℕ × List ℕ) = files_of job (p, runs) in
      let goes : course_files course ≡ pieces = ap course_files by.goes ∙ append-nil (files_of job by.value)
      ∙ ap (files_of job) (sym whole) ∙ ap (λ runs. files_of job (p, runs)) (sym are.are) in
      let left : Some last ≡ Some (put_all pieces first) =
      sym is ∙ (done course before after run).files ∙ ap (λ fs. option_map (put_all fs) before.files) goes
      ∙ ap (option_map (put_all pieces)) was in
      let last_is : last ≡ put_all pieces first = cc in
      record {
        place = place;
        at = by.at;
        playlists = meaning.0;
        means = meaning.1.0;
        text = timed_text job.form p runs;
        written = rw last_is (put_there (in_folder job.out (codes "manifest.mpd")) (timed_text job.form p runs) first);
        mpd = meaning_of (timed_as p runs);
        told = λ url now. mean_their_times quiet order told texts job.form from.master.bytes place.url from.tracks from.medias
            place.folder first p are.times are.rows url now have;
        same = but_times meaning.0 (meaning_of p) (meaning_of (timed_as p runs)) meaning.1.1 (keep p runs writable timed);
        times = each_entry (HasFileTimes job.form place.folder first) (timed_as p runs) (λ s t in_sections in_tracks.
            let within : s < length p.sections = rw (← as_many p runs) in_sections in
            each_timed job.form place.folder first p are.times are.rows are.stated are.lasting writable.finished s t
            (entry_at (timed_as p runs) s t) within in_tracks (row p runs s t writable timed within in_tracks));
        in_step = each_two (AreInStep job.form place.folder first) (timed_as p runs) (λ s t u in_sections here there.
            let within : s < length p.sections = rw (← as_many p runs) in_sections in
            both_timed job.form place.folder first p are.times are.rows are.stated are.lasting writable.finished s t u
            (entry_at (timed_as p runs) s t) (entry_at (timed_as p runs) s u) within here there
            (row p runs s t writable timed within here) (row p runs s u writable timed within there));
        presentation = p;
        runs = runs;
        is = refl;
        near = λ s within. near_start place.folder first p are.times are.rows are.stated job.form are.lasting s within;
      }

  pub written_has_playlists_and_times : WrittenHasPlaylistsAndTimes
  unfolding course_of dash_times_outcome
  written_has_playlists_and_times words job input course before after first last asks was is goes run =
      let asked : IfSome (Some (jobs.DashTimes job)) IsBounded = subst (λ asked. IfSome asked IsBounded) asks (bounded_words words) in
      let by = done_at (files_of job) line_of (timed_at job.form) keeps before after (store_place_of job.base job.master) first course
      (subst (λ asked. course_of_job asked (Some first) input ≡ Some course) asks goes) run in
      promised job course before after first last asked was is by run
