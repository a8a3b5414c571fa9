-- What is written means what the MPD means.
use Rattle.bridge_jobs.specs.declared.jobs.Job.TheVariants as jobs
use Rattle.bridge_courses.specs.declared.status.Status.TheVariants as status
use Rattle.std.proofs.Common.{◌≡◌, ◌⊎◌, ℕ, ℤ, ◌+◌, ◌-◌, ◌^◌, ◌<◌, ◌≤◌, not, Bool, true, false, IsTrue, List, [], ◌∷◌, ◌++◌, length, map}
use Rattle.std.proofs.Common.{take, if◌then◌else◌, Option, None, Some, option_map, Result, Ok, Err, IfSome, refl, sym, ◌∙◌, ap, subst}
use Rattle.std.proofs.{Common.{arith, inl, inr, append_assoc, take_all}, lemmas.Bool.{cases_Bool, and_parts, ltb-true, eqb-true}}
use Rattle.std.proofs.{lemmas.List.{append-nil, take_more, length-map}, lemmas.List.Elements.{All-cons, All-nil}}
use Rattle.std.proofs.{lemmas.List.Folds.list_all-append, lemmas.List.FromFn.length-range_with_len, lemmas.Str.IsUtf8-from_is_utf8}
use Rattle.std.specs.{Prelude.{nat_le, nat_lt, ◌==◌, slice_index}, List.{list_all, list_any}, Str.is_utf8}
use Rattle.bridge_io.proofs.AndThen.{steps_of}
use Rattle.bridge_io.specs.{InOrder.put_all, Names.is_name, Outside.Files, Answer.told_as}
use Rattle.bridge_jobs.specs.{Jobs.is_folder, Laws.FoldersHoldTheirFiles, declared.jobs.HlsJob.HlsJob}
use Rattle.bridge_courses.specs.{Courses.{Course, World, files_of as course_files}, Laws.{DoneIsWhole, VerdictKeepsSteps}}
use Rattle.bridge_courses.specs.Executions.{IsExecution}
use Rattle.mpd_tree.specs.{Meaning.reading_of, Trees.Element, declared.fault.TextFault.TextFault}
use Rattle.laws_of_mpds.proofs.Bytes.{all_bytes, utf8_bytes}
use Rattle.presentation.proofs.Filling.{ok_under}
use Rattle.presentation.specs.{Counting.tracks_of, Meanings.meaning_of, Presented.Presented}
use Rattle.mpd_presentation.specs.{MeaningLaws.TextsAreMeant, Meanings.dash_meaning, Told.presented_of}
use Rattle.url_parts.specs.Addresses.{IsAddress, folder_of, is_tail}
use Rattle.laws_of_playlists.proofs.SameFolders.{no_tail, own_with_slash}
use Rattle.hls_meaning.specs.Meanings.{hls_meaning}
use Rattle.laws_of_playlists.specs.Origins.{HaveFewTracks, IsFound, IsOfBytes, ReadingsAreOfBytes, OwnTextsAreAddresses, of_static}
use Rattle.laws_of_playlists.specs.{SameFiles.{FoldersHoldFiles, HoldsFiles, MeanTheSame, master_name}, SameStatic.WrittenMeansTheSame}
use Rattle.live_meaning.specs.{Updates.{Refresh, Update, Values, mpd_of, unit_of}, Histories.{Common, begun_common, begun_past, begun_with}}
use Rattle.live_meaning.specs.{States.{State, shown, track_of}, Refusals.begun_of}
use Rattle.laws_of_reloads.specs.{First.FirstFilesMeanTheSame, Laws.{IsFollowed, IsRead, IsReadIfAny}}
use Rattle.laws_of_reloads.proofs.FirstFiles.{begun_is}
use Rattle.bridge_report.specs.{Bases.{ends_in_slash, is_folder as is_base}, Reading.{content_of, of_file}}
use Rattle.bridge_core.specs.Courses.{course_of, course_of_job}
use Rattle.bridge_core.specs.Hls.{Live, Static, Translation, files_of, hls_outcome, line_of, live_translation, outcome_of, output_of_job}
use Rattle.bridge_core.specs.Hls.{static_translation, terms_at, translation_at, translation_by, translation_of}
use Rattle.bridge_core.specs.Promises.{MeansTheSame, WrittenMeansTheMpd}
use Rattle.bridge_playlists.specs.{declared.place.StorePlace.StorePlace, Places.store_place_of}
use Rattle.bridge_steps.specs.Manifests.{ready_of, values_of}
use Rattle.bridge_steps.specs.Playlists.{playlists, spelling_in}
use Rattle.bridge_live.specs.LiveMpds.{channel_with, live_files, told_of}
use Rattle.bridge_core.proofs.Fitting.{players_fit}
use Rattle.bridge_steps.specs.Players.{players_in}
use Rattle.mpd_hints.specs.{Laws.ToldLabelsAreFit, declared.starts.Sap.TheVariants.Segments}
use Rattle.track_hints.specs.declared.hints.Hints.{Hints}
use Rattle.bridge_core.proofs.{Asked.{IsBounded, bounded}, FileNames.{are_written, first_written, spells_in}, DoneAt.{IsDoneAt, done_at}}
use Rattle.bridge_core.proofs.Lies.{Lies, content_read, lies_of}
use Rattle.bridge_steps.proofs.Static.{IsSpelled, IsStatic, spelled_of, static_ready}

not_true : (b : Bool) → IsTrue (not b) → b ≡ false
not_true b e = grind arith

-- ---- what is written

-- of a static MPD
record IsStaticAt (job : HlsJob) (url bytes : List ℕ) (value : Translation) : Type 0 where
  p : Presented
  read : IsStatic (10 ^ job.digits) bytes url job.instant p
  is : value ≡ Static job.digits (players_in job.form Segments bytes) p

-- of a live one
record IsLiveAt (job : HlsJob) (url bytes : List ℕ) (value : Translation) : Type 0 where
  now : ℤ
  instant : job.instant ≡ Some now
  mpd : Values
  spelled : IsSpelled bytes mpd
  state : State
  begun : begun_of (terms_at job url) mpd now ≡ Ok state
  is : value ≡ Live (channel_with (players_in job.form Segments bytes) state)

abbrev said : HlsJob → List ℕ → Option Hints
said job bytes = players_in job.form Segments bytes

static_at : (job : HlsJob) (url bytes : List ℕ) (mpd : Values) (value : Translation) → values_of bytes ≡ Ok mpd → mpd.facts.live ≡ false
    → static_translation job url (said job bytes) mpd ≡ Ok value → IsStaticAt job url bytes value
unfolding static_translation
static_at job url bytes mpd value read static is =
    let ready = steps_of (ready_of (10 ^ job.digits) url job.instant mpd) (λ p. Ok (Static job.digits (said job bytes) p)) value is in
    record {
      p = ready.value;
      read = static_ready (10 ^ job.digits) bytes url job.instant mpd ready.value read static ready.first;
      is = (let same : Static job.digits (said job bytes) ready.value ≡ value = (let told = ready.then in cc) in sym same);
    }

live_at : (job : HlsJob) (url bytes : List ℕ) (mpd : Values) (now : Option ℤ) (value : Translation) → values_of bytes ≡ Ok mpd
    → job.instant ≡ now
    → live_translation job url (said job bytes) now mpd ≡ Ok value → IsLiveAt job url bytes value
unfolding live_translation
live_at job url bytes mpd None value read at is = absurd (cc)
live_at job url bytes mpd (Some now) value read at is =
    let told = steps_of (told_as told_of (begun_of (terms_at job url) mpd now)) (λ s. Ok (Live (channel_with (said job bytes) s)))
    value is in
    record {
      now = now;
      instant = at;
      mpd = mpd;
      spelled = spelled_of bytes mpd read;
      state = told.value;
      begun = ok_under told_of (begun_of (terms_at job url) mpd now) told.value told.first;
      is = (let same : Live (channel_with (said job bytes) told.value) ≡ value = (let rest = told.then in cc) in sym same);
    }

by_kind : (job : HlsJob) (url bytes : List ℕ) (mpd : Values) (live : Bool) (value : Translation) → values_of bytes ≡ Ok mpd
    → mpd.facts.live ≡ live
    → (if live then live_translation job url (said job bytes) job.instant mpd else static_translation job url (said job bytes) mpd)
    ≡ Ok value
    → IsStaticAt job url bytes value ⊎ IsLiveAt job url bytes value
by_kind job url bytes mpd true value read kind is = inr (live_at job url bytes mpd job.instant value read refl is)
by_kind job url bytes mpd false value read kind is = inl (static_at job url bytes mpd value read kind is)

kind_of : (job : HlsJob) (url bytes : List ℕ) (value : Translation) → translation_of job url bytes ≡ Ok value
    → IsStaticAt job url bytes value ⊎ IsLiveAt job url bytes value
unfolding translation_of
kind_of job url bytes value is =
    let read = steps_of (values_of bytes) (translation_by job url (said job bytes)) value is in
    by_kind job url bytes read.value read.value.facts.live value read.first refl read.then

-- bytes that spell a tree are UTF-8, and so bytes
utf8_of : (b : Bool) (bytes : List ℕ) (read : Result Element TextFault) (fault : TextFault) (tree : Element) → is_utf8 bytes ≡ b
    → (if b then read else Err fault) ≡ Ok tree → IsOfBytes bytes
utf8_of true bytes read fault tree utf8 is = all_bytes bytes (utf8_bytes bytes (IsUtf8-from_is_utf8 bytes utf8))
utf8_of false bytes read fault tree utf8 is = absurd (cc)

pub spelled_bytes : (bytes : List ℕ) (tree : Element) → reading_of bytes ≡ Ok tree → IsOfBytes bytes
unfolding reading_of
spelled_bytes bytes tree is = utf8_of (is_utf8 bytes) bytes _ _ tree refl is

-- ---- folders

none_any : (p : ℕ → Bool) (xs : List ℕ) → list_any p xs ≡ false → list_all (λ x. not (p x)) xs ≡ true
none_any p [] none = refl
none_any p (x ∷ xs) none = elim (cases_Bool (p x)) [
  | inl found ↦ absurd (let e = rw found at none in cc)
  | inr other ↦ rw other (none_any p xs (rw other at none))
]

last_is : (xs : List ℕ) (x : ℕ) → 0 < length xs → slice_index xs (length xs - 1) ≡ x → xs ≡ take (length xs - 1) xs ++ x ∷ []
last_is xs x some is =
    sym (take_all (length xs - 1 + 1) xs (omega (arith, some))) ∙ take_more xs (length xs - 1) 0 (omega (arith, some))
    ∙ ap (λ y. take (length xs - 1) xs ++ y ∷ []) is

pub base_folder : (base : List ℕ) → is_base base ≡ true → folder_of base ≡ base
base_folder base is =
    let both = and_parts (ends_in_slash base) (not (list_any is_tail base)) is in
    let ends = and_parts (nat_lt 0 (length base)) (slice_index base (length base - 1) == 47) both.0 in
    let front : List ℕ = take (length base - 1) base in
    let last : base ≡ front ++ 47 ∷ [] = last_is base 47 (ltb-true 0 (length base) ends.0) (eqb-true _ 47 ends.1) in
    let plain : list_all no_tail (front ++ 47 ∷ []) ≡ true = ap (list_all no_tail) (sym last)
    ∙ none_any is_tail base (not_true (list_any is_tail base) both.1) in
    let whole = and_parts (list_all no_tail front) true (sym (list_all-append no_tail front (47 ∷ [])) ∙ plain) in
    ap folder_of last ∙ own_with_slash front whole.0 ∙ sym last

pub holds : FoldersHoldTheirFiles → FoldersHoldFiles → (out : List ℕ) (tracks : ℕ) → IsTrue (is_folder out) → tracks ≤ 200
    → HoldsFiles (out ++ 47 ∷ []) tracks
holds names hold out tracks room few = let files = names out room in
    hold out tracks (and_parts (is_name out) (nat_le (length out) 242) room).0 files.master
    (λ t less. files.playlists t (omega (arith, few, less)))

-- ---- what the files mean

-- a text means what a presentation means, and so do the files, rounded down
record Means (job : HlsJob) (url bytes : List ℕ) (last : Files) : Type 0 where
  p : Presented
  text : dash_meaning bytes url job.instant ≡ Some (meaning_of p)
  files : MeanTheSame last job.base (job.base ++ ((job.out ++ 47 ∷ []) ++ master_name)) p job.digits

-- an update's MPD is read of bytes, if it has one
abbrev IsReadUpdate : Update → Type 0
IsReadUpdate u = IsReadIfAny (mpd_of u)

first_tracks : (c : Common) → length (shown (begun_with c)).tracks ≡ length c.opened.tracks
first_tracks c =
    length-map (map (begun_past c) (tracks_of c.opened)) (track_of (unit_of c.terms)) ∙ length-map (tracks_of c.opened) (begun_past c)
    ∙ length-range_with_len 0 (length c.opened.tracks)

module _ (names : FoldersHoldTheirFiles) (hold : FoldersHoldFiles) (meant : TextsAreMeant) (same : WrittenMeansTheSame)
    (first_same : FirstFilesMeanTheSame) (fit : ToldLabelsAreFit)
    (reads : ReadingsAreOfBytes) (own : OwnTextsAreAddresses) (fewer : HaveFewTracks) where
  module _ (job : HlsJob) (place : StorePlace) (first : Files) (asked : IsBounded (jobs.Hls job)) (lies : Lies job.base job.mpd place) where
    abbrev prefix : List ℕ
    prefix = job.out ++ 47 ∷ []

    room : (p : Presented) → length p.tracks ≤ 200 → HoldsFiles prefix (length p.tracks)
    room p few = holds names hold job.out (length p.tracks) asked.0 few

    static_means : (bytes : List ℕ) (p : Presented) → IsStatic (10 ^ job.digits) bytes place.url job.instant p
        → Means job place.url bytes (put_all (files_of (output_of_job job) (Static job.digits (said job bytes) p)) first)
    static_means bytes p read =
        let few = fewer p (of_static p read.came) in
        let found : IsFound read.came.tree read.came.url = record {
          tree = reads bytes read.came.tree (spelled_bytes bytes read.came.tree read.spelled) read.spelled;
          url = subst IsAddress (sym read.at) (own place.url lies.own);
        } in
        record {
          p = p;
          text = meant bytes place.url job.instant read.came.tree read.came.mpd p read.spelled read.came.typed
              (subst (λ u. presented_of read.came.mpd u job.instant ≡ Ok p) read.at
              (subst (λ now. presented_of read.came.mpd read.came.url now ≡ Ok p) read.instant read.came.presented));
          files = same p job.digits (put_all (playlists (output_of_job job) (said job bytes) job.digits p) first) job.base prefix
              (spelling_in (output_of_job job)) (said job bytes) read.came (players_fit fit Segments job.form bytes)
              found
              (record { longest = read.longest; is = read.all }) asked.1 (base_folder job.base lies.is_base) (room p few)
              (λ t less. spells_in job.addresses job.base job.out t)
              (are_written (output_of_job job) (said job bytes) job.digits p first few);
        }

    live_means : (bytes : List ℕ) (mpd : Values) (now : ℤ) (s : State) → IsSpelled bytes mpd → job.instant ≡ Some now
        → begun_of (terms_at job place.url) mpd now ≡ Ok s
        → Means job place.url bytes (put_all (files_of (output_of_job job) (Live (channel_with (said job bytes) s))) first)
    live_means bytes mpd now s spelled instant begun =
        let terms = terms_at job place.url in
        let is = begun_is terms mpd now s begun in let p = s.common.opened in
        let opened : p ≡ is.p = ap (λ (s : State). s.common.opened) is.state in
        let presented : presented_of mpd place.url (Some now) ≡ Ok p = is.first.made ∙ ap Ok (sym opened) in
        let few : length p.tracks ≤ 200 = fewer p (record {
          tree = spelled.tree;
          mpd = mpd;
          url = place.url;
          now = Some now;
          typed = spelled.typed;
          presented = presented;
        }) in
        let many : length s.tracks ≡ length p.tracks = ap (λ (s : State). length s.tracks) is.state
        ∙ first_tracks (begun_common terms mpd now is.p) ∙ ap (λ (p : Presented). length p.tracks) (sym opened) in
        let read : IsRead mpd = record {
          bytes = bytes;
          are = spelled_bytes bytes spelled.tree spelled.reading;
          tree = spelled.tree;
          reading = spelled.reading;
          typed = spelled.typed;
        } in
        let followed : IsFollowed terms (Refresh mpd now ∷ []) = record {
          url = own place.url lies.own;
          digits = asked.1;
          read = All-cons IsReadUpdate (Refresh mpd now) [] read (All-nil IsReadUpdate);
          few = omega arith;
        } in
        record {
          p = p;
          text = ap (dash_meaning bytes place.url) instant
              ∙ meant bytes place.url (Some now) spelled.tree mpd p spelled.reading spelled.typed presented;
          files = first_same terms mpd now s (put_all (live_files (output_of_job job) (said job bytes) s) first) job.base prefix
              (spelling_in (output_of_job job)) (said job bytes) (players_fit fit Segments job.form bytes) followed begun
              (base_folder job.base lies.is_base) (room p few)
              (λ t less. spells_in job.addresses job.base job.out t)
              (first_written (output_of_job job) (said job bytes) s first (ap (λ (s : State). s.common.accepted) is.state)
              (omega (arith, few, many)));
        }

    means_by : (bytes : List ℕ) (value : Translation) → IsStaticAt job place.url bytes value ⊎ IsLiveAt job place.url bytes value
        → Means job place.url bytes (put_all (files_of (output_of_job job) value) first)
    means_by bytes value (inl static) = rw static.is (static_means bytes static.p static.read)
    means_by bytes value (inr live) = rw live.is (live_means bytes live.mpd live.now live.state live.spelled live.instant live.begun)

  -- ---- the promise

  module _ (done : DoneIsWhole) (keeps : VerdictKeepsSteps) where
    promised : (job : HlsJob) (course : Course) (before after : World) (first last : Files) → IsBounded (jobs.Hls job)
        → before.files ≡ Some first → after.files ≡ Some last
        → IsDoneAt (outcome_of job) (translation_at job) (store_place_of job.base job.mpd) first course
        → IsExecution course status.Done before after
        → MeansTheSame job first last
    unfolding translation_at
    promised job course before after first last asked was is by run =
        let place = by.found in let lies = lies_of job.base job.mpd place by.at in
        let read = steps_of (content_of place.file first)
        (λ bytes. of_file place.file (translation_of job place.url bytes)) by.value by.is in
        let there : first job.mpd ≡ Some read.value = ap first (sym lies.file) ∙ content_read place.file first read.value read.first in
        let kind = kind_of job place.url read.value by.value (ok_under _ (translation_of job place.url read.value) by.value read.then) in
        let pieces : List (List ℕ × List ℕ) = files_of (output_of_job job) by.value in
        let files : course_files course ≡ pieces = ap course_files by.goes ∙ append-nil pieces in
        let left : Some last ≡ Some (put_all pieces first) =
        sym is ∙ (done course before after run).files ∙ ap (λ fs. option_map (put_all fs) before.files) files
        ∙ ap (option_map (put_all pieces)) was in
        let last_is : last ≡ put_all pieces first = cc in
        let means : Means job place.url read.value last = rw last_is (means_by job place first asked lies read.value by.value kind) in
        record {
          bytes = read.value;
          url = place.url;
          there = there;
          at = lies.at;
          mpd = meaning_of means.p;
          means = means.text;
          playlists = means.files.0;
          written = ap (λ text. hls_meaning last job.base (job.base ++ text)) (sym (append_assoc job.out (47 ∷ []) master_name))
              ∙ means.files.1.0;
          same = means.files.1.1;
        }

    pub written_means : WrittenMeansTheMpd
    unfolding course_of hls_outcome
    written_means words job input course before after first last asks was is goes run =
        let asked : IfSome (Some (jobs.Hls job)) IsBounded = subst (λ asked. IfSome asked IsBounded) asks (bounded words) in
        let by = done_at (files_of (output_of_job job)) line_of (translation_at job) keeps before after
        (store_place_of job.base job.mpd) first course
        (subst (λ asked. course_of_job asked (Some first) input ≡ Some course) asks goes) run in
        promised job course before after first last asked was is by run
