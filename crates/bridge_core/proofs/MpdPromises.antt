-- What `dash` promises, from what its parts say.
use Rattle.bridge_jobs.specs.declared.jobs.Job.TheVariants as jobs
use Rattle.bridge_report.specs.declared.refusal.Refusal.TheVariants as refusal
use Rattle.bridge_courses.specs.declared.status.Status.TheVariants as status
use Rattle.std.proofs.Common.{◌≡◌, ◌<◌, ℕ, List, [], ◌∷◌, ◌++◌, map, All, IsTrue, Option, None, Some, IfSome, option_map, Result, Ok, inl}
use Rattle.std.proofs.Common.{inr}
use Rattle.std.proofs.{Common.{refl, sym, ◌∙◌, ap, subst, append_assoc, arith}, lemmas.Bool.cases_Bool, lemmas.List.append-nil}
use Rattle.std.proofs.lemmas.List.Elements.{All-nil, All-cons, All-head, All-tail}
use Rattle.std.specs.{Prelude.{codes, nat_lt}, Option.option_and_then}
use Rattle.bridge_io.proofs.AndThen.{steps_of}
use Rattle.bridge_io.specs.{Answer.{and_then, told_as}, InOrder.put_all, Names.is_name, Outside.Files}
use Rattle.exact_time.specs.Time.{IsSame}
use Rattle.url_parts.specs.Addresses.{local_name_of}
use Rattle.hls_media.specs.{Laws.{IsBounded as IsBoundedMedia, ReadIsBounded}, Media.media_of, declared.media.Media.Media}
use Rattle.hls_master.specs.{declared.track.MasterTrack.MasterTrack, Masters.master_of, SeenTags.rate_seen, SeenTracks.track_seen}
use Rattle.hls_master.specs.Tracks.{TrackValue}
use Rattle.hls_presentation.specs.Presenting.{hls_presented_of}
use Rattle.hls_meaning.specs.Meanings.{file_at}
use Rattle.bridge_jobs.specs.{declared.jobs.MasterJob.MasterJob, Laws.in_folder}
use Rattle.laws_of_mpds.specs.PresentedFiles.{ArePlaylists, IsMaster, IsPlaylist, PresentedMeanTheirFiles}
use Rattle.laws_of_mpds.specs.Written.{HaveAddresses, ReadHaveAddresses, ReadHaveRates, ReadMeanTheSame, TracksAreOfBytes}
use Rattle.meaning.specs.Same.{IsSameTime}
use Rattle.meaning.proofs.SameLemmas.{Same-wider}
use Rattle.presentation.specs.{Presented.Presented, Meanings.meaning_of, Ratios.rate_of}
use Rattle.presentation.proofs.Filling.{ok_under}
use Rattle.laws_of_playlists.proofs.SameFolders.{file_under}
use Rattle.bridge_report.specs.Reading.{Named, content_of, media_at, media_in}
use Rattle.bridge_playlists.specs.{declared.medias.Medias.Medias, declared.place.StorePlace.StorePlace}
use Rattle.bridge_playlists.specs.Playlists.{ended, listed_with, master_in, media_named, media_under, medias_of, medias_with, none_read}
use Rattle.bridge_playlists.specs.Playlists.{presented_at}
use Rattle.bridge_playlists.specs.Playlists.{presented_by, presented_so_far, presented_with, segment_limit, track_kept, tracks_of}
use Rattle.bridge_playlists.specs.Playlists.{with_media, within_limit}
use Rattle.bridge_playlists.specs.Places.{store_place_of}
use Rattle.bridge_courses.specs.{Courses.{Course, World, files_of as course_files}, Laws.{DoneIsWhole, VerdictKeepsSteps}}
use Rattle.bridge_courses.specs.Executions.{IsExecution}
use Rattle.dash_writer.specs.Manifest.{manifest_text}
use Rattle.bridge_steps.specs.Done.{done_line}
use Rattle.bridge_core.specs.{Courses.{course_of, course_of_job}, Dash.{dash_outcome, files_of, outcome_of}}
use Rattle.bridge_core.specs.Promises.{MpdMeansTheSame, WrittenMpdMeansThePlaylists}
use Rattle.laws_of_playlists.specs.Origins.{OwnTextsAreAddresses}
use Rattle.bridge_core.proofs.{Asked.{IsBounded, bounded as bounded_words}, FileNames.put_there, DoneAt.{IsDoneAt, done_at}}
use Rattle.bridge_core.proofs.Lies.{content_read, in_folder_is, lies_of}

-- ---- the files that are read

record IsFileOf (file url : List ℕ) (files : Files) (media : Media) : Type 0 where
  bytes : List ℕ
  found : files file ≡ Some bytes
  read : media_of bytes url ≡ Ok media

media_read : (file url : List ℕ) (files : Files) (media : Media) → media_at file url files ≡ Ok media → IsFileOf file url files media
unfolding media_at
media_read file url files media is =
    let step = steps_of (content_of file files) (media_in file url) media is in
    record {
      bytes = step.value;
      found = content_read file files step.value step.first;
      read =
          ok_under refusal.Media (media_of step.value url) media (ok_under _ (told_as refusal.Media (media_of step.value url)) media
          step.then);
    }

named_read : (place : StorePlace) (files : Files) (address : List ℕ) (name : Option (List ℕ)) (media : Media)
    → local_name_of place.folder address ≡ name
    → media_named place files address name ≡ Ok media → IsPlaylist files place.folder address media
named_read place files address None media at is = absurd (cc)
named_read place files address (Some file) media at is =
    let read = media_read file address files media is in
    record { bytes = read.bytes; found = ap (option_and_then files) at ∙ read.found; read = read.read }

playlist_read : (place : StorePlace) (files : Files) (address : List ℕ) (media : Media) → media_under place files address ≡ Ok media
    → IsPlaylist files place.folder address media
unfolding media_under
playlist_read place files address media is = named_read place files address (local_name_of place.folder address) media refl is

few_enough : (place : StorePlace) (medias next : Medias) → within_limit place medias ≡ Ok next → medias ≡ next
few_enough place medias next is = elim (cases_Bool (nat_lt segment_limit medias.segments)) [
  | inl many ↦ absurd (let e = rw many at is in cc)
  | inr few ↦ (let e = rw few at is in cc)
]

-- playlists that are read behind others
record AreGathered (place : StorePlace) (files : Files) (before : Medias) (tracks : List MasterTrack) (all : Medias) : Type 0 where
  later : List Media
  behind : all.files ≡ before.files ++ later
  playlists : ArePlaylists files place.folder tracks later

one_read : (place : StorePlace) (files : Files) (before : Medias) (track : MasterTrack) (next : Medias)
    → medias_with place files before track ≡ Ok next
    → (media : Media) × ((next.files ≡ before.files ++ media ∷ []) × IsPlaylist files place.folder track.address media)
unfolding medias_with
one_read place files before track next is =
    let step = steps_of (media_under place files track.address) (λ media. within_limit place (with_media before media)) next is in (
      step.value,
      (
        sym (ap (λ (medias : Medias). medias.files) (few_enough place (with_media before step.value) next step.then)),
        playlist_read place files track.address step.value step.first,
      ),
    )

gathered : (place : StorePlace) (files : Files) (before : Medias) (tracks : List MasterTrack) (all : Medias)
    → medias_of place files before tracks ≡ Ok all → AreGathered place files before tracks all
gathered place files before [] all is =
    let same : before ≡ all = cc in
    record { later = []; behind = ap (λ (medias : Medias). medias.files) (sym same) ∙ sym (append-nil before.files); playlists = tt }
gathered place files before (track ∷ tracks) all is =
    let step = steps_of (medias_with place files before track) (λ next. medias_of place files next tracks) all is in
    let one = one_read place files before track step.value step.first in
    let rest = gathered place files step.value tracks all step.then in
    record {
      later = one.0 ∷ rest.later;
      behind = rest.behind ∙ ap (λ medias. medias ++ rest.later) one.1.0 ∙ append_assoc before.files (one.0 ∷ []) rest.later;
      playlists = (one.1.1, rest.playlists);
    }

-- ---- tracks that are read

abbrev HasRate : TrackValue → Type 0
HasRate track = IfSome track.frame_rate (λ rate. 0 < rate.1)

rate_again : (rate : Option (ℕ × ℕ)) → IfSome rate (λ rate. 0 < rate.1) → rate_seen (option_map rate_of rate) ≡ rate
rate_again None some = refl
rate_again (Some rate) some = ap (λ m. Some (rate.0, m)) (omega (arith, some))

seen_again : (track : TrackValue) → HasRate track → track_seen (track_kept track) ≡ track
seen_again track has = ap (λ rate. record track { frame_rate = rate }) (rate_again track.frame_rate has)

all_seen_again : (seen : List TrackValue) → All HasRate seen → map track_seen (map track_kept seen) ≡ seen
all_seen_again [] all = refl
all_seen_again (track ∷ seen) all =
    rw (seen_again track (All-head HasRate track seen all)) (ap (λ others. track ∷ others)
    (all_seen_again seen (All-tail HasRate track seen all)))

-- ---- the presentation that is read

-- the playlists may be taken otherwise than they are
pub record IsReadFrom (taken : List Media → List Media) (place : StorePlace) (files : Files) (p : Presented) : Type 0 where
  pub tracks : List MasterTrack
  pub medias : List Media
  pub master : IsMaster files place.folder place.url tracks
  pub playlists : ArePlaylists files place.folder tracks medias
  pub presented : hls_presented_of tracks (taken medias) ≡ Ok p

abbrev presented_by_all : (taken : List Media → List Media) → StorePlace → Files → Result Presented Named
presented_by_all taken place files = and_then (content_of place.file files) (λ bytes. and_then (master_in place bytes)
    (λ tracks. and_then (medias_of place files none_read tracks) (λ medias. presented_by place tracks (taken medias.files))))

module _ (rates : ReadHaveRates) where
  pub master_read : (place : StorePlace) (bytes : List ℕ) (tracks : List MasterTrack) → master_in place bytes ≡ Ok tracks
      → master_of bytes place.url ≡ Ok (map track_seen tracks)
  unfolding master_in
  master_read place bytes tracks is =
      let step = steps_of (master_of bytes place.url) (λ seen. Ok (map track_kept seen)) tracks
      (ok_under refusal.Master (tracks_of bytes place.url) tracks (ok_under _ (told_as refusal.Master (tracks_of bytes place.url)) tracks
      is)) in
      let kept : map track_kept step.value ≡ tracks = (let e = step.then in cc) in
      step.first ∙ ap Ok (sym (all_seen_again step.value (rates bytes place.url step.value step.first)) ∙ ap (map track_seen) kept)

  read_from : (taken : List Media → List Media) (place : StorePlace) (files : Files) (p : Presented) → IsTrue (is_name place.file)
      → place.url ≡ place.folder ++ place.file → presented_by_all taken place files ≡ Ok p → IsReadFrom taken place files p
  unfolding presented_by
  read_from taken place files p named lies is =
      let first = steps_of (content_of place.file files) _ p is in
      let second = steps_of (master_in place first.value) _ p first.then in
      let third = steps_of (medias_of place files none_read second.value) _ p second.then in
      let all = gathered place files none_read second.value third.value third.first in
      let found : file_at files place.folder place.url ≡ Some first.value =
      ap (file_at files place.folder) lies ∙ file_under files place.folder place.file named
      ∙ content_read place.file files first.value first.first in
      record {
        tracks = second.value;
        medias = all.later;
        master = record { bytes = first.value; found = found; read = master_read place first.value second.value second.first };
        playlists = all.playlists;
        presented = ap (λ medias. hls_presented_of second.value (taken medias)) (sym all.behind)
            ∙ ok_under refusal.Hls (hls_presented_of second.value (taken third.value.files)) p
            (ok_under _ (told_as refusal.Hls (hls_presented_of second.value (taken third.value.files))) p third.then);
      }

  pub presentation_read : (place : StorePlace) (files : Files) (p : Presented) → IsTrue (is_name place.file)
      → place.url ≡ place.folder ++ place.file → presented_at place files ≡ Ok p → IsReadFrom (λ medias. medias) place files p
  unfolding presented_at presented_with
  presentation_read place files p named lies is = read_from (λ medias. medias) place files p named lies is

  pub listing_read : (place : StorePlace) (files : Files) (p : Presented) → IsTrue (is_name place.file)
      → place.url ≡ place.folder ++ place.file → presented_so_far place files ≡ Ok p → IsReadFrom (map ended) place files p
  unfolding presented_so_far listed_with
  listing_read place files p named lies is = read_from (map ended) place files p named lies is

-- ---- the promise

abbrev pub IsSeenOfBytes : TrackValue → Type 0
IsSeenOfBytes track = All (λ b. b < 256) track.address

abbrev pub IsOfBytes : MasterTrack → Type 0
IsOfBytes track = All (λ b. b < 256) track.address

module _ (bounded : ReadIsBounded) where
  pub each_bounded : (files : Files) (folder : List ℕ) (tracks : List MasterTrack) (medias : List Media)
      → ArePlaylists files folder tracks medias → All IsBoundedMedia medias
  each_bounded files folder [] [] are = All-nil IsBoundedMedia
  each_bounded files folder [] (media ∷ medias) are = absurd are
  each_bounded files folder (track ∷ tracks) [] are = absurd are
  each_bounded files folder (track ∷ tracks) (media ∷ medias) are =
      All-cons IsBoundedMedia media medias (bounded are.0.bytes track.address media are.0.read)
      (each_bounded files folder tracks medias are.1)

module _ (addresses : ReadHaveAddresses) where
  pub each_addressed : (files : Files) (folder : List ℕ) (tracks : List MasterTrack) (medias : List Media) → All IsOfBytes tracks
      → ArePlaylists files folder tracks medias → All HaveAddresses medias
  each_addressed files folder [] [] of_bytes are = All-nil HaveAddresses
  each_addressed files folder [] (media ∷ medias) of_bytes are = absurd are
  each_addressed files folder (track ∷ tracks) [] of_bytes are = absurd are
  each_addressed files folder (track ∷ tracks) (media ∷ medias) of_bytes are =
      All-cons HaveAddresses media medias (addresses are.0.bytes track.address media (All-head IsOfBytes track tracks of_bytes) are.0.read)
      (each_addressed files folder tracks medias (All-tail IsOfBytes track tracks of_bytes) are.1)

pub all_of_bytes : (tracks : List MasterTrack) → All IsSeenOfBytes (map track_seen tracks) → All IsOfBytes tracks
all_of_bytes [] all = All-nil IsOfBytes
all_of_bytes (track ∷ tracks) all =
    All-cons IsOfBytes track tracks (All-head IsSeenOfBytes (track_seen track) (map track_seen tracks) all)
    (all_of_bytes tracks (All-tail IsSeenOfBytes (track_seen track) (map track_seen tracks) all))

module _ (done : DoneIsWhole) (keeps : VerdictKeepsSteps) (own : OwnTextsAreAddresses) (rates : ReadHaveRates) (lie : TracksAreOfBytes)
    (meant : PresentedMeanTheirFiles)
    (bounded : ReadIsBounded) (addresses : ReadHaveAddresses) (same : ReadMeanTheSame) where
  promised : (job : MasterJob) (course : Course) (before after : World) (first last : Files) → IsTrue (is_name job.master)
      → before.files ≡ Some first → after.files ≡ Some last
      → IsDoneAt (outcome_of job) presented_at (store_place_of job.base job.master) first course
      → IsExecution course status.Done before after
      → MpdMeansTheSame job first last
  promised job course before after first last named was is by run =
      let lies = lies_of job.base job.master by.found by.at in
      let url = in_folder_is job.base job.master by.found lies in
      let read = presentation_read rates by.found first by.value (subst (λ name. IsTrue (is_name name)) (sym lies.file) named) url by.is in
      let meaning = meant first by.found.folder by.found.url read.tracks read.medias by.value read.master read.playlists read.presented in
      let of_bytes = all_of_bytes read.tracks (lie read.master.bytes by.found.url (map track_seen read.tracks) (own by.found.url lies.own)
      read.master.read) in
      let pieces : List (List ℕ × List ℕ) = files_of job by.value in
      let files : course_files course ≡ pieces = ap course_files by.goes ∙ append-nil pieces in
      let left : Some last ≡ Some (put_all pieces first) =
      sym is ∙ (done course before after run).files ∙ ap (λ fs. option_map (put_all fs) before.files) files
      ∙ ap (option_map (put_all pieces)) was in
      let last_is : last ≡ put_all pieces first = cc in
      record {
        place = by.found;
        at = by.at;
        playlists = meaning.0;
        means = meaning.1.0;
        text = manifest_text job.form by.value;
        written = rw last_is (put_there (in_folder job.out (codes "manifest.mpd")) (manifest_text job.form by.value) first);
        mpd = meaning_of by.value;
        told = λ url now. same job.form read.master.bytes by.found.url read.tracks read.medias by.value url now read.master.read
            (each_bounded bounded first by.found.folder read.tracks read.medias read.playlists)
            (each_addressed addresses first by.found.folder read.tracks read.medias of_bytes read.playlists) read.presented;
        same = Same-wider IsSameTime IsSame (λ x y same. same.1.1) meaning.0 (meaning_of by.value) meaning.1.1;
      }

  pub written_mpd_means : WrittenMpdMeansThePlaylists
  unfolding course_of dash_outcome
  written_mpd_means words job input course before after first last asks was is goes run =
      let asked : IfSome (Some (jobs.Dash job)) IsBounded = subst (λ asked. IfSome asked IsBounded) asks (bounded_words words) in
      let by = done_at (files_of job) done_line presented_at keeps before after (store_place_of job.base job.master) first course
      (subst (λ asked. course_of_job asked (Some first) input ≡ Some course) asks goes) run in
      promised job course before after first last asked was is by run
