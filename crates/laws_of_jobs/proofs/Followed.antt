-- The MPD of rounds of playlists that are read can be written and read.
use Rattle.std.proofs.Common.{◌≡◌, ℕ, Bool, true, false, List, [], ◌∷◌, map, length, All, Option, Some, None, Ok, Err, ℤ, pos, neg_ℤ, ◌-ℤ◌}
use Rattle.std.proofs.{Common.{◌≤ℤ◌, ◌<ℤ◌, not, refl, sym, ◌∙◌, ap, subst, arith}, lemmas.Int.ints, lemmas.List.length-map}
use Rattle.std.proofs.lemmas.List.Elements.{All-head, All-tail, All-nil, All-cons, All-map}
use Rattle.std.specs.Prelude.{int_lt}
use Rattle.bridge_io.proofs.AndThen.{steps_of}
use Rattle.iso_time.specs.Instant.{IsReadable}
use Rattle.iso_time.proofs.CivilLemmas.{from_not_before}
use Rattle.hls_master.specs.declared.track.MasterTrack.{MasterTrack}
use Rattle.hls_media.specs.{Laws.IsBounded, declared.media.Media.Media}
use Rattle.hls_presentation.specs.{Presenting.track_of, Tracks.{Source, sources}}
use Rattle.dash_writer.specs.{declared.live.LiveMpd.LiveMpd, declared.live.LivePeriod.LivePeriod}
use Rattle.hls_follow.specs.declared.state.Followed.{Followed}
use Rattle.hls_follow.specs.Groups.{groups_of}
use Rattle.layer_faults.specs.declared.live.LiveFault.TheVariants.{Limit}
use Rattle.hls_follow.specs.{Histories.{IsRound, Playlists}, Kept.{flags_of, formers_of, kept_by, periods_of}, Periods.last_end}
use Rattle.hls_follow.specs.{Periods.periods_from, Rounds.{first_start, followed_by, followed_of, followed_with, from_1583, judged_tracks}}
use Rattle.hls_follow.specs.{Rounds.{kept_in, mpd_of, mpd_or_fault, placed_of, start_of, whole_millis}, Rules.judged_at, Times.timed_all}
use Rattle.hls_follow.proofs.{Histories.from_first, Rounding.millis_near, Staying.{Parts, parts_of}}
use Rattle.laws_of_mpds.specs.{Written.{CanBeTold, HaveAddresses, ReadCanBeTold}, Live.{IsReadableMpd, LiveTextsAreRead}, Texts.IsTellable}
use Rattle.laws_of_mpds.proofs.Whole.{IsFit, both, sources_all}
use Rattle.laws_of_jobs.specs.Followed.{AreFollowed, FollowedAreRead, FollowedCanBeRead, IsReadRound}
use Rattle.laws_of_jobs.proofs.{Periods.{IsReadRun, periods_read, readable_period}, Segments.{TimedSegment, all_groups_read, rows_read}}

-- ---- what is kept

pub kept_fit : (flags : List Bool) (all : List Source) → All IsFit all → All IsFit (kept_by flags all)
kept_fit [] all fit = All-nil IsFit
kept_fit (flag ∷ flags) [] fit = All-nil IsFit
kept_fit (true ∷ flags) (s ∷ all) fit =
    All-cons IsFit s (kept_by flags all) (All-head IsFit s all fit) (kept_fit flags all (All-tail IsFit s all fit))
kept_fit (false ∷ flags) (s ∷ all) fit = kept_fit flags all (All-tail IsFit s all fit)

-- ---- instants

-- the MPD is made when its round is read
published_in : (flags : List Bool) (kept : List Source) (timed : List (List TimedSegment)) (listed : List LivePeriod) (start now : ℤ)
    (mpd : LiveMpd) (new : Followed) → followed_with flags kept timed mpd ≡ new → mpd_of start now listed kept ≡ mpd
    → new.mpd.published ≡ now
published_in flags kept timed listed start now mpd new whole made =
    subst (λ (f : Followed). f.mpd.published ≡ now) whole (subst (λ (m : LiveMpd). m.published ≡ now) made refl)

published_at : (tracks : List MasterTrack) (former : Option Followed) (now : ℤ) (medias : List Media) (new : Followed)
    → followed_of tracks former now medias ≡ Ok new → new.mpd.published ≡ now
unfolding followed_of placed_of
published_at tracks former now medias new is =
    let all = sources tracks medias in
    let flags = flags_of former all in
    let kept = kept_in former all in
    let a = steps_of (judged_at former now) (λ _. followed_by former now all) new is in
    let b = steps_of (judged_tracks (formers_of former) kept) (placed_of former now flags kept) new a.then in
    let c = steps_of (timed_all (formers_of former) 0 kept) _ new b.then in
    let d = steps_of (periods_from (periods_of former) (map groups_of c.value) (last_end (periods_of former)) 0 b.value) _ new c.then in
    let e = steps_of (mpd_or_fault former now (last_end d.value) d.value kept) _ new d.then in
    let f = steps_of (start_of former now (last_end d.value)) _ e.value e.first in
    published_in flags kept c.value d.value f.value now e.value new (let h = e.then in cc) (let h = f.then in cc)

-- The first round's presentation begins no earlier than an instant that can be read, and no later than that round was read.
from_by : (start begin : ℤ) (early : Bool) → int_lt start (neg_ℤ (pos 12_212_553_600_000_000_000)) ≡ early → from_1583 start ≡ Ok begin
    → (start ≡ begin) × (neg_ℤ (pos 12_212_553_600_000_000_000) ≤ℤ start)
from_by start begin true early is = absurd (let h : from_1583 start ≡ Err Limit = rw early refl in cc)
from_by start begin false early is =
    (let h : from_1583 start ≡ Ok start = rw early refl in cc, from_not_before _ _ (ap not early))

begins_readable : (now : ℤ) (end : ℕ) (begin : ℤ) → IsReadable now → first_start now end ≡ Ok begin → IsReadable begin
begins_readable now end begin read is =
    let from = from_by (whole_millis (now -ℤ pos end)) begin _ refl is in
    let near = millis_near (now -ℤ pos end) in
    let less : whole_millis (now -ℤ pos end) <ℤ pos 32_503_680_000_000_000_000 = omega (arith, ints, read.1, near.0) in
    subst IsReadable from.0 (from.1, less)

-- ---- a round

-- what is there before it begins at an instant that can be read
abbrev pub BeginsReadable : Option Followed → Type 0
BeginsReadable None = Unit {0}
BeginsReadable (Some former) = IsReadable former.mpd.start

pub start_readable : (former : Option Followed) (now start : ℤ) (end : ℕ) → BeginsReadable former → IsReadable now
    → start_of former now end ≡ Ok start → IsReadable start
start_readable None now start end was read is = begins_readable now end start read is
start_readable (Some former) now start end was read is =
    subst IsReadable (let same : former.mpd.start ≡ start = cc in same) was

-- an MPD that can be read, of which each segment lasts
pub record IsReadMpd (mpd : LiveMpd) : Type 0 where
  pub readable : IsReadableMpd mpd
  pub lists : All (λ (period : LivePeriod). All IsReadRun period.runs) mpd.periods

made_readable : (former : Option Followed) (all : List Source) (new : Followed) (p : Parts former all new) → All IsFit all
    → IsReadable p.start → IsReadable p.now → IsReadMpd new.mpd
made_readable former all new p fit start now =
    let kept = subst (All IsFit) (sym p.are) (kept_fit (flags_of former all) all fit) in
    let rows = rows_read (formers_of former) 0 p.kept p.timed kept p.judged.segments p.times in
    let periods = periods_read (periods_of former) (map groups_of p.timed) (last_end (periods_of former)) 0 p.sections p.listed
    (all_groups_read p.timed rows.1) p.periods in
    let count : length (map groups_of p.timed) ≡ length (map track_of p.kept) =
    length-map p.timed groups_of ∙ rows.0 ∙ sym (length-map p.kept track_of) in
    subst IsReadMpd (sym p.mpd) (record {
      readable = record {
        live = record {
          start = (omega (arith, ints, start.0), omega (arith, ints, start.1));
          published = (omega (arith, ints, now.0), omega (arith, ints, now.1));
          filled = λ i d within. (periods i d within).filled ∙ count;
        };
        start = start;
        published = now;
        periods = λ i d within. readable_period _ _ (periods i d within);
        tracks = All-map IsTellable track_of p.kept (λ i d within.
            let told = (kept i d within).0 in record { language = told.language; codecs = told.codecs });
      };
      lists = λ i d within. (periods i d within).runs;
    })

round_readable : (tracks : List MasterTrack) (former : Option Followed) (round : Playlists) (new : Followed) → All CanBeTold tracks
    → BeginsReadable former → IsRound tracks round × IsReadRound round → followed_of tracks former round.0 round.1 ≡ Ok new
    → IsReadMpd new.mpd
round_readable tracks former round new told was read is =
    let all = sources tracks round.1 in
    let p = parts_of tracks former round.0 round.1 new is in
    let fit = sources_all CanBeTold (λ media. IsBounded media × HaveAddresses media) tracks round.1 told
    (both IsBounded HaveAddresses round.1 read.0.bounded read.1.addresses) in
    let now : round.0 ≡ p.now = sym (published_at tracks former round.0 round.1 new is) ∙ ap (λ (m : LiveMpd). m.published) p.mpd in
    let instant = subst IsReadable now read.1.instant in
    made_readable former all new p fit (start_readable former p.now p.start (last_end p.listed) was instant p.starts) instant

-- ---- over rounds

pub all_read : ReadCanBeTold → (master url : List ℕ) (tracks : List MasterTrack) (rounds : List Playlists) (new : Followed)
    → AreFollowed master url tracks rounds new → IsReadMpd new.mpd
all_read read master url tracks rounds new are =
    let told = read master url tracks are.read in
    from_first tracks (λ (round : Playlists). IsRound tracks round × IsReadRound round) (λ (f : Followed). IsReadMpd f.mpd)
    (λ round new given accepted. round_readable tracks None round new told tt given accepted)
    (λ former round new was given accepted. round_readable tracks (Some former) round new told was.readable.start given accepted)
    rounds new (both (IsRound tracks) IsReadRound rounds are.accepted.whole are.each) are.accepted.left

pub can_be_read : ReadCanBeTold → FollowedCanBeRead
can_be_read read master url tracks rounds new are = (all_read read master url tracks rounds new are).readable

pub are_read : LiveTextsAreRead → ReadCanBeTold → FollowedAreRead
are_read texts read form master url tracks rounds new are = texts form new.mpd (can_be_read read master url tracks rounds new are)
