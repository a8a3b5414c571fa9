-- The MPD of a run of `follow-hls` is read as what it says.
use Rattle.bridge_report.specs.declared.refusal.Refusal.TheVariants as refusal
use Rattle.std.proofs.Common.{◌≡◌, ◌<◌, ℕ, ℤ, suc, List, [], ◌∷◌, ◌++◌, length, map, take, All, Option, Some, None}
use Rattle.std.proofs.Common.{Result, Ok, Err, refl, sym}
use Rattle.std.proofs.{Common.{◌∙◌, subst}, lemmas.List.Elements.{All-cons, All-head, All-map, All-nil, All-push, All-tail, All-take}}
use Rattle.std.proofs.lemmas.List.Elements.{All-weaker}
use Rattle.std.specs.Result.{result_ok, result_unwrap_or}
use Rattle.bridge_io.proofs.AndThen.{steps_of}
use Rattle.iso_time.specs.{Instant.{IsReadable, instant_of}, Laws.InstantsAreDenoted, declared.instant.InstantFault.InstantFault}
use Rattle.hls_master.specs.{declared.track.MasterTrack.MasterTrack, SeenTracks.track_seen}
use Rattle.hls_media.specs.{Laws.ReadIsBounded, Media.media_of, declared.media.Media.Media}
use Rattle.hls_follow.specs.{Histories.{LastPlaylistsAreListed, RunsGoOn}, declared.state.Followed.Followed as Left}
use Rattle.presentation.proofs.Filling.{ok_under}
use Rattle.laws_of_playlists.specs.Origins.{OwnTextsAreAddresses}
use Rattle.laws_of_mpds.specs.{Contents.TimedContentsAreMeant, Written.ReadCanBeTold}
use Rattle.laws_of_mpds.specs.Written.{HaveAddresses, ReadHaveAddresses, ReadHaveRates, TracksAreOfBytes}
use Rattle.bridge_io.specs.Outside.{Files}
use Rattle.bridge_courses.specs.Courses.{Course}
use Rattle.bridge_jobs.specs.{Frames.start, Jobs.instant_in, declared.jobs.MasterJob.MasterJob, declared.round.Round.Round}
use Rattle.bridge_report.specs.{Following.{Followed, unless_refused}, Laws.accepted_in, Reading.content_of}
use Rattle.bridge_report.specs.declared.refusal.Refusal.{Refusal}
use Rattle.bridge_playlists.specs.Playlists.{master_at, master_in}
use Rattle.bridge_reach.specs.RoundLaws.{accepted_among, left_by}
use Rattle.bridge_reach.specs.Rounds.{followed_rounds, hls_of, media_in, medias_behind, medias_of, medias_with, no_rounds, round_stream}
use Rattle.bridge_reach.specs.Rounds.{urls_of}
use Rattle.bridge_core.proofs.{Lies.lies_of, MpdPromises.{IsOfBytes, all_of_bytes, master_read}}
use Rattle.laws_of_jobs.specs.{Followed.{AreFollowed, FollowedAreRead, IsReadRound}, RoundRuns.{FollowedRunsAreRead, IsFollowingRounds}}
use Rattle.laws_of_jobs.specs.Rounds.{history_to, playlists_at}
use Rattle.laws_of_jobs.specs.LiveLists.{LastPlaylistsAreMeant}
use Rattle.laws_of_jobs.proofs.{Bodies.{IsWhole, all_have}, Followed.all_read, History.{each_has, goes}, LiveLists.all_mean}

-- ---- instants

pub readable : InstantsAreDenoted → (text : List ℕ) (now : ℤ) → instant_in text ≡ Some now → IsReadable now
readable denoted text now is = go (instant_of text) refl is
  where
    go : (r : Result ℤ InstantFault) → instant_of text ≡ r → result_ok r ≡ Some now → IsReadable now
    go (Ok z) e is = let same : z ≡ now = cc in subst IsReadable same ((denoted text (Ok z)).0 e).4
    go (Err fault) e is = absurd (cc)

-- ---- what holds of all rounds holds of the accepted ones

pub all_accepted : {S X : Type 0} (P : X → Type 0) (f : Followed S X) (s : S) (xs : List X) → All P xs → All P (accepted_in f s xs)
all_accepted P f s [] all = All-nil P
all_accepted P f s (x ∷ xs) all =
    let later = All-tail P x xs all in
    go (f.refusal s x) (All-head P x xs all) (all_accepted P f (f.after s x) xs later) (all_accepted P f s xs later)
  where
    go : (r : Option (List ℕ)) → P x → All P (accepted_in f (f.after s x) xs) → All P (accepted_in f s xs)
        → All P (unless_refused r (x ∷ accepted_in f (f.after s x) xs) (accepted_in f s xs))
    go None here behind others = All-cons P x (accepted_in f (f.after s x) xs) here behind
    go (Some why) here behind others = others

-- ---- addresses

abbrev pub OfBytes : List ℕ → Type 0
OfBytes url = All (λ b. b < 256) url

module _ (addresses : ReadHaveAddresses) where
  one_more : (url body : List ℕ) (medias more : List Media) → medias_with medias url body ≡ Ok more → OfBytes url
      → All HaveAddresses medias → All HaveAddresses more
  unfolding medias_with
  one_more url body medias more is of_bytes all =
      let a = steps_of (media_in url body) (λ (media : Media). Ok (medias ++ media ∷ [])) more is in
      let same : medias ++ a.value ∷ [] ≡ more = (let h = a.then in cc) in
      let one : HaveAddresses a.value = addresses body url a.value of_bytes (ok_under refusal.Media (media_of body url) a.value a.first) in
      subst (All HaveAddresses) same (All-push HaveAddresses medias a.value all one)

  all_more : (urls bodies : List (List ℕ)) (medias more : List Media) → medias_behind medias urls bodies ≡ Ok more → All OfBytes urls
      → All HaveAddresses medias → All HaveAddresses more
  all_more [] bodies medias more is of_bytes all = let same : medias ≡ more = cc in subst (All HaveAddresses) same all
  all_more (url ∷ urls) [] medias more is of_bytes all = let same : medias ≡ more = cc in subst (All HaveAddresses) same all
  all_more (url ∷ urls) (body ∷ bodies) medias more is of_bytes all =
      let a = steps_of (medias_with medias url body) (λ next. medias_behind next urls bodies) more is in
      all_more urls bodies a.value more a.then (All-tail OfBytes url urls of_bytes)
      (one_more url body medias a.value a.first (All-head OfBytes url urls of_bytes) all)

  pub in_round : (urls : List (List ℕ)) (x : Round) → All OfBytes urls
      → All HaveAddresses (result_unwrap_or (medias_of urls x.bodies) [])
  in_round urls x of_bytes = go (medias_of urls x.bodies) refl
    where
      go : (r : Result (List Media) Refusal) → medias_of urls x.bodies ≡ r → All HaveAddresses (result_unwrap_or r [])
      go (Ok medias) is = all_more urls x.bodies [] medias is of_bytes (All-nil HaveAddresses)
      go (Err why) is = All-nil HaveAddresses

-- ---- a run

module _ (denoted : InstantsAreDenoted) (own : OwnTextsAreAddresses) (rates : ReadHaveRates) (lie : TracksAreOfBytes)
    (bounded : ReadIsBounded) (addresses : ReadHaveAddresses) where
  each_read : (job : MasterJob) (tracks : List MasterTrack) (input : List ℕ) (n : ℕ) → All IsOfBytes tracks
      → All IsReadRound (history_to job tracks input n)
  each_read job tracks input n of_bytes =
      let hls = hls_of job tracks in
      let stream = (round_stream hls start input).0 in
      let Whole : Round → Type 0 = IsWhole IsReadable (readable denoted) (length (urls_of tracks)) in
      let urls : All OfBytes (urls_of tracks) = All-map OfBytes (λ (track : MasterTrack). track.address) tracks of_bytes in
      let whole : All Whole (take n stream) = All-take Whole n stream
      (all_have IsReadable (readable denoted) (suc (length input)) (length (urls_of tracks)) start input) in
      let accepted : All Whole (accepted_among job tracks input n) =
      all_accepted Whole (followed_rounds hls) (no_rounds tracks) (take n stream) whole in
      All-map IsReadRound (playlists_at hls) (accepted_among job tracks input n)
      (All-weaker Whole (λ x. IsReadRound (playlists_at hls x))
      (λ x is. record { instant = is.now; addresses = in_round addresses (urls_of tracks) x urls }) (accepted_among job tracks input n)
      accepted)

  -- the rounds of a run, as rounds of a master that is read
  pub are_followed : (words : List (List ℕ)) (job : MasterJob) (files : Files) (tracks : List MasterTrack) (input : List ℕ)
      (course : Course) (n : ℕ) (followed : Left) (is : IsFollowingRounds words job files tracks input course)
      → (left_by job tracks input n).follow.followed ≡ Some followed
      → (master : List ℕ) × AreFollowed master is.place.url tracks (history_to job tracks input n) followed
  unfolding master_at
  are_followed words job files tracks input course n followed is left =
      let master = steps_of (content_of is.place.file files) (master_in is.place) tracks is.read in
      let read = master_read rates is.place master.value tracks master.then in
      let lies = lies_of job.base job.master is.place is.at in
      let of_bytes = all_of_bytes tracks (lie master.value is.place.url (map track_seen tracks) (own is.place.url lies.own) read) in
      let hls = hls_of job tracks in
      let stream = (round_stream hls start input).0 in
      let gone = goes bounded job tracks (take n stream) (no_rounds tracks) refl
      (All-take (λ (r : Round). length r.bodies ≡ length tracks) n stream (each_has job tracks input)) in (
        master.value,
        record {
          read = read;
          accepted = record { whole = gone.whole; left = sym gone.left ∙ left };
          each = each_read job tracks input n of_bytes;
        },
      )

  pub runs_are_read : FollowedAreRead → FollowedRunsAreRead
  runs_are_read said words job files tracks input course n followed is left =
      let are = are_followed words job files tracks input course n followed is left in
      said job.form are.0 is.place.url tracks (history_to job tracks input n) followed are.1

  pub playlists_are_meant : ReadCanBeTold → RunsGoOn → TimedContentsAreMeant → LastPlaylistsAreListed → LastPlaylistsAreMeant
  playlists_are_meant told goes meant listed words job files tracks input course n followed is left =
      let rounds = history_to job tracks input n in
      let are = are_followed words job files tracks input course n followed is left in
      let read = all_read told are.0 is.place.url tracks rounds followed are.1 in
      record {
        mean = all_mean job.form meant followed.mpd.periods read.lists (goes tracks rounds followed are.1.accepted.left);
        listed = λ place track there. listed tracks rounds followed place track are.1.accepted.left there;
      }
