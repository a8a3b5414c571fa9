-- The MPD of a run of `follow-hls-times` is read as what it says.
use Rattle.hls_presentation.specs.Sections as cuts
use Rattle.std.proofs.Common.{◌≡◌, ℕ, suc, List, [], ◌∷◌, length, map, drop, take, All, Option, Some, None, Ok}
use Rattle.std.proofs.Common.{IfSome, get_or, slice_get, ◌+◌}
use Rattle.std.proofs.{Common.{refl, sym, ◌∙◌, ap, subst, arith}, lemmas.Int.ints, lemmas.List.length-map}
use Rattle.std.proofs.lemmas.List.Elements.{All-cons, All-head, All-map, All-nil, All-tail, All-take}
use Rattle.std.specs.Result.{result_unwrap_or}
use Rattle.bridge_io.proofs.AndThen.{steps_of}
use Rattle.iso_time.specs.{Instant.IsReadable, Laws.InstantsAreDenoted}
use Rattle.hls_master.specs.SeenTracks.{track_seen}
use Rattle.hls_master.specs.declared.track.MasterTrack.{MasterTrack}
use Rattle.hls_media.specs.{Laws.{IsBounded, ReadIsBounded}, declared.media.MediaSegment.MediaSegment}
use Rattle.hls_presentation.specs.{Presenting.track_of, Tracks.{Source, sources}}
use Rattle.hls_presentation.proofs.Grouping.{IsGroup, all_groups}
use Rattle.dash_writer.specs.{declared.live.LiveMpd.LiveMpd, declared.live.LivePeriod.LivePeriod}
use Rattle.fragment_times.specs.Origins.{OffsetsAreOneTime, origin_of}
use Rattle.hls_follow.specs.{declared.state.Followed.Followed, declared.state.FollowedTrack.FollowedTrack}
use Rattle.hls_follow.specs.{Kept.{flags_of, formers_of, periods_of}, OwnTimes.{period_in}}
use Rattle.hls_follow.specs.{Stretches.{known_times, stretches_from, stretches_of_all}, TimedRounds.listed_by}
use Rattle.hls_follow.specs.TimedHistories.{BeginsByOffset, IsInStep, IsRound, Round as Snapshots, TimedRunsGoOn}
use Rattle.hls_follow.specs.TimedHistories.{timed_by}
use Rattle.hls_follow.proofs.{InStep.{IsGone, first_gone, found_in, gone_in_step, next_gone}, OwnHistories.from_first}
use Rattle.hls_follow.proofs.{OwnParts.{OwnParts, parts_of}, OwnRows.{HasRow, rows_are}}
use Rattle.hls_follow.proofs.OwnTracks.{all_many, snapshot}
use Rattle.bridge_courses.specs.Courses.{Course}
use Rattle.bridge_jobs.specs.{Frames.start, declared.round.Round.Round}
use Rattle.bridge_report.specs.Reading.{content_of}
use Rattle.bridge_playlists.specs.Playlists.{master_at, master_in}
use Rattle.bridge_reach.specs.Rounds.{medias_of, urls_of}
use Rattle.bridge_reach.specs.TimedRoundLaws.{Run, accepted_among, first_of, followed_with, history_to, hls_in, left_by, snapshots_along}
use Rattle.bridge_reach.specs.TimedRoundLaws.{snapshots_in}
use Rattle.laws_of_playlists.specs.Origins.{OwnTextsAreAddresses}
use Rattle.laws_of_mpds.specs.{Contents.TimedContentsAreMeant, Forms.LiveFormsMeanTheSame, Live.{LiveTextsAreRead}}
use Rattle.laws_of_mpds.specs.{Texts.IsTellable, Written.{CanBeTold, HaveAddresses, ReadCanBeTold, ReadHaveAddresses, ReadHaveRates}}
use Rattle.laws_of_mpds.specs.Written.{TracksAreOfBytes}
use Rattle.bridge_core.proofs.{Lies.lies_of, MpdPromises.{all_of_bytes, master_read}}
use Rattle.laws_of_mpds.proofs.Whole.{IsFit, both, plain_segments, sources_all}
use Rattle.laws_of_jobs.specs.TimedFollowing.{IsFollowingTimes}
use Rattle.laws_of_jobs.specs.{TimedReadings.{AreTimed, IsReadSnapshot, TimedRunsAreAlike, TimedRunsAreRead}}
use Rattle.laws_of_jobs.proofs.{Bodies.{IsWhole as IsWholeBody, all_have}, LiveLists.all_mean, TimedHistory.{State, accepted_to}}
use Rattle.laws_of_jobs.proofs.RoundReadings.{OfBytes, all_accepted, in_round, readable}
use Rattle.laws_of_jobs.proofs.{Followed.{BeginsReadable, IsReadMpd, kept_fit, start_readable}, Periods.{IsReadPeriod, IsReadRun}}
use Rattle.laws_of_jobs.proofs.{Periods.readable_period, TimedRunsRead.{ArePlain, IsPlainStretch, runs_read}}
use Rattle.laws_of_mpds.proofs.ReadPlain.{IsPlainSegment}

-- ---- the stretches of kept tracks

stretches_plain : (known : List ℕ) (groups : List (List MediaSegment)) → All (IsGroup IsPlainSegment) groups
    → ArePlain (stretches_from known groups)
stretches_plain known [] all = All-nil IsPlainStretch
stretches_plain known (group ∷ groups) all =
    All-cons IsPlainStretch (record { segments = group; known = take (length group) known })
    (stretches_from (drop (length group) known) groups)
    (All-head (IsGroup IsPlainSegment) group groups all).all
    (stretches_plain (drop (length group) known) groups (All-tail (IsGroup IsPlainSegment) group groups all))

tracks_plain : (formers : List FollowedTrack) (from : ℕ) (kept : List Source) → All IsFit kept
    → All ArePlain (stretches_of_all formers from kept)
tracks_plain formers from [] fit = All-nil ArePlain
tracks_plain formers from (s ∷ kept) fit =
    All-cons ArePlain (stretches_from (known_times (slice_get formers from) s.media) (cuts.groups_in s))
    (stretches_of_all formers (from + 1) kept)
    (stretches_plain (known_times (slice_get formers from) s.media) (cuts.groups_in s)
    (all_groups IsPlainSegment s.media.segments (plain_segments s.media (All-head IsFit s kept fit).1)))
    (tracks_plain formers (from + 1) kept (All-tail IsFit s kept fit))

-- ---- a snapshot

module _ (tracks : List MasterTrack) (folder : List ℕ) (former : Option Followed) (round : Snapshots) (new : Followed)
    (accepted : timed_by tracks folder former round ≡ Ok new) where
  abbrev parts : OwnParts folder former (sources tracks round.medias) round new
  parts = parts_of tracks folder former round new accepted

  abbrev KnownRead : Type 0
  KnownRead = All (λ (period : LivePeriod). All IsReadRun period.runs) (periods_of former)

  known_in : (o : Option LivePeriod) (number : ℕ) → KnownRead → period_in number (periods_of former) ≡ o
      → IfSome o (λ (q : LivePeriod). All IsReadRun q.runs)
  known_in None number known is = tt
  known_in (Some q) number known is = found_in (λ (q : LivePeriod). All IsReadRun q.runs) number (periods_of former) q known is

  period_read : (period : LivePeriod) → All IsFit parts.kept → KnownRead → All BeginsByOffset period.runs
      → HasRow (snapshot folder former (sources tracks round.medias) round new parts) round.files period
      → IsReadPeriod (length parts.kept) period
  period_read period fit known begin has =
      let s = snapshot folder former (sources tracks round.medias) round new parts in
      let o = period_in (get_or s.sections has.place 0) s.periods in
      let read = runs_read s round.files has.place (origin_of has.row) o (known_in o (get_or s.sections has.place 0) known refl) 0 s.tracks
      has.row has.ticks period.runs has.is.read has.is.ticked has.is.live (tracks_plain (formers_of former) 0 parts.kept fit) begin in
      record { start = has.is.early; runs = read.1; filled = read.0 ∙ all_many (formers_of former) 0 parts.kept }

  pub read_mpd : All CanBeTold tracks → BeginsReadable former → KnownRead → IsRound tracks round × IsReadSnapshot round
      → All IsInStep new.mpd.periods → IsReadMpd new.mpd
  read_mpd told was known given step =
      let p = parts in
      let all = sources tracks round.medias in
      let fits = sources_all CanBeTold (λ media. IsBounded media × HaveAddresses media) tracks round.medias told
      (both IsBounded HaveAddresses round.medias given.0.bounded given.1.addresses) in
      let fit = subst (All IsFit) (sym p.are) (kept_fit (flags_of former all) all fits) in
      let rows = rows_are folder former all round new p in
      let periods : All (IsReadPeriod (length p.kept)) new.mpd.periods =
      λ i d within. period_read (get_or new.mpd.periods i d) fit known (step i d within).before (rows i d within) in
      let start = start_readable former round.now p.start (listed_by p.listed p.kept) was given.1.instant p.starts in
      let now = given.1.instant in
      let its_start : new.mpd.start ≡ p.start = ap (λ (m : LiveMpd). m.start) p.mpd in
      let its_time : new.mpd.published ≡ round.now = ap (λ (m : LiveMpd). m.published) p.mpd in
      let its_tracks : new.mpd.tracks ≡ map track_of p.kept = ap (λ (m : LiveMpd). m.tracks) p.mpd in
      let begun : IsReadable new.mpd.start = subst IsReadable (sym its_start) start in
      let timed : IsReadable new.mpd.published = subst IsReadable (sym its_time) now in
      let count : length p.kept ≡ length new.mpd.tracks = sym (ap length its_tracks ∙ length-map p.kept track_of) in
      record {
        readable = record {
          live = record {
            start = (omega (arith, ints, begun.0), omega (arith, ints, begun.1));
            published = (omega (arith, ints, timed.0), omega (arith, ints, timed.1));
            filled = λ i d within. (periods i d within).filled ∙ count;
          };
          start = begun;
          published = timed;
          periods = λ i d within. readable_period _ _ (periods i d within);
          tracks = subst (All IsTellable) (sym its_tracks) (All-map IsTellable track_of p.kept (λ i d within.
              let told = (fit i d within).0 in record { language = told.language; codecs = told.codecs }));
        };
        lists = λ i d within. (periods i d within).runs;
      }

-- ---- over snapshots

-- what was read, in step
record IsGoneRead (one_time : OffsetsAreOneTime) (tracks : List MasterTrack) (folder : List ℕ) (f : Followed) : Type 0 where
  gone : IsGone one_time tracks folder f
  read : IsReadMpd f.mpd

pub all_read : ReadCanBeTold → OffsetsAreOneTime → (master url : List ℕ) (tracks : List MasterTrack) (folder : List ℕ)
    (rounds : List Snapshots) (new : Followed) → AreTimed master url tracks folder rounds new → IsReadMpd new.mpd
all_read read one_time master url tracks folder rounds new are =
    let told = read master url tracks are.read in
    let all : IsGoneRead one_time tracks folder new = from_first tracks folder
    (λ (round : Snapshots). IsRound tracks round × IsReadSnapshot round) (IsGoneRead one_time tracks folder)
    (λ round new given accepted.
    let gone = first_gone one_time tracks folder round new given.0 accepted in
    record {
      gone = gone;
      read = read_mpd tracks folder None round new accepted told tt (All-nil (λ (period : LivePeriod). All IsReadRun period.runs)) given
          (gone_in_step one_time tracks folder new gone);
    })
    (λ former round new was given accepted.
    let gone = next_gone one_time tracks folder former round new was.gone given.0 accepted in
    record {
      gone = gone;
      read = read_mpd tracks folder (Some former) round new accepted told was.read.readable.start was.read.lists given
          (gone_in_step one_time tracks folder new gone);
    })
    rounds new (both (IsRound tracks) IsReadSnapshot rounds are.accepted.whole are.each) are.accepted.left in
    all.read

-- ---- a run

module _ (denoted : InstantsAreDenoted) (own : OwnTextsAreAddresses) (rates : ReadHaveRates) (lie : TracksAreOfBytes)
    (bounded : ReadIsBounded) (addresses : ReadHaveAddresses) where
  -- accepted snapshots, along the states that they leave
  along : (run : Run) (xs : List Round) (s : State) → All OfBytes (urls_of run.tracks)
      → All (IsWholeBody IsReadable (readable denoted) (length (urls_of run.tracks))) xs
      → All IsReadSnapshot (snapshots_along (hls_in run) s xs)
  along run [] s urls whole = All-nil IsReadSnapshot
  along run (x ∷ xs) s urls whole =
      let Whole : Round → Type 0 = IsWholeBody IsReadable (readable denoted) (length (urls_of run.tracks)) in
      All-cons IsReadSnapshot
      (record { now = x.now; medias = result_unwrap_or (medias_of (hls_in run).hls.urls x.bodies) []; files = s.1 })
      (snapshots_along (hls_in run) ((followed_with (hls_in run)).after s x) xs)
      (record { instant = (All-head Whole x xs whole).now; addresses = in_round addresses (urls_of run.tracks) x urls })
      (along run xs ((followed_with (hls_in run)).after s x) urls (All-tail Whole x xs whole))

  -- the snapshots of a run, as those of a master that is read
  pub are_timed : (words : List (List ℕ)) (run : Run) (course : Course) (n : ℕ) (followed : Followed) → IsFollowingTimes words run course
      → (left_by run n).0.follow.followed ≡ Some followed
      → (master : List ℕ) × AreTimed master run.place.url run.tracks run.place.folder (history_to run n) followed
  unfolding master_at
  are_timed words run course n followed is left =
      let master = steps_of (content_of run.place.file run.files) (master_in run.place) run.tracks is.read in
      let read = master_read rates run.place master.value run.tracks master.then in
      let lies = lies_of run.job.base run.job.master run.place is.at in
      let of_bytes = all_of_bytes run.tracks
      (lie master.value run.place.url (map track_seen run.tracks) (own run.place.url lies.own) read) in
      let Whole : Round → Type 0 = IsWholeBody IsReadable (readable denoted) (length (urls_of run.tracks)) in
      let urls : All OfBytes (urls_of run.tracks) = All-map OfBytes (λ (track : MasterTrack). track.address) run.tracks of_bytes in
      let whole : All Whole (take n (snapshots_in run)) = All-take Whole n (snapshots_in run)
      (all_have IsReadable (readable denoted) (suc (length run.bytes)) (length (urls_of run.tracks)) start run.bytes) in
      let accepted : All Whole (accepted_among run n) =
      all_accepted Whole (followed_with (hls_in run)) (first_of run) (take n (snapshots_in run)) whole in (
        master.value,
        record {
          read = read;
          accepted = accepted_to bounded run n followed left;
          each = along run (accepted_among run n) (first_of run) urls accepted;
        },
      )

  module _ (told : ReadCanBeTold) (one_time : OffsetsAreOneTime) where
    mpd_of : (words : List (List ℕ)) (run : Run) (course : Course) (n : ℕ) (followed : Followed) → IsFollowingTimes words run course
        → (left_by run n).0.follow.followed ≡ Some followed → IsReadMpd followed.mpd
    mpd_of words run course n followed is left =
        let are = are_timed words run course n followed is left in
        all_read told one_time are.0 run.place.url run.tracks run.place.folder (history_to run n) followed are.1

    pub runs_are_read : LiveTextsAreRead → TimedRunsGoOn → TimedContentsAreMeant → TimedRunsAreRead
    runs_are_read texts goes meant words run course n followed form is left =
        let read = mpd_of words run course n followed is left in
        record {
          shown = texts form followed.mpd read.readable;
          mean = all_mean form meant followed.mpd.periods read.lists
              (goes run.tracks run.place.folder (history_to run n) followed (accepted_to bounded run n followed left));
        }

    pub runs_alike : LiveFormsMeanTheSame → TimedRunsAreAlike
    runs_alike forms words run course n followed is left at now =
        forms followed.mpd at now (mpd_of words run course n followed is left).readable
