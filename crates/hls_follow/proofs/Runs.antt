-- In each run a segment begins where the one before it ends.
use Rattle.hls_follow.specs.Periods as periods
use Rattle.std.proofs.Common.{◌≡◌, ℕ, suc, ◌+◌, List, [], ◌∷◌, ◌++◌, map, length, get_or, slice_get, All, Option, Some, None, Ok, refl, sym}
use Rattle.std.proofs.{Common.{◌∙◌, ap, subst, arith}, lemmas.List.{length-map, map-append}, lemmas.List.Elements.{All-nil, All-cons}}
use Rattle.std.proofs.lemmas.Option.{slice_get-get_or}
use Rattle.bridge_io.proofs.AndThen.{steps_of}
use Rattle.hls_media.specs.declared.media.MediaSegment.{MediaSegment}
use Rattle.hls_presentation.specs.Tracks.{Source, sources}
use Rattle.dash_writer.specs.{Live.first_time, declared.live.LiveMpd.LiveMpd, declared.live.LivePeriod.LivePeriod}
use Rattle.dash_writer.specs.{declared.live.LiveRun.LiveRun, declared.live.LiveSegment.LiveSegment}
use Rattle.reload_law.specs.Laws.{RulesAreSentences}
use Rattle.hls_follow.specs.{declared.state.Followed.Followed, declared.state.FollowedTrack.FollowedTrack}
use Rattle.hls_follow.specs.{Times.TimedSegment, Groups.{group_at, groups_of, row_at}, Histories.RunsGoOn}
use Rattle.hls_follow.specs.{Kept.formers_of, Laws.IsContiguous, Listed.{GoesOn, Listed, ListsTrack, Placed, listed_as, listed_of}}
use Rattle.hls_follow.specs.{Listed.{placed_as, placed_in, placed_of, times_from}, Rounds.followed_tracks, Times.{timed_all, timed_of}}
use Rattle.hls_follow.specs.Times.{unless_late}
use Rattle.hls_follow.proofs.{Contiguous.some_at, Histories.{Any, at_index, from_first, last_are_listed, times_are}, Listing.period_is}
use Rattle.hls_follow.proofs.Staying.{Parts, parts_of}

-- ---- segments of a section one behind another

abbrev Before : Listed → List Listed → Type 0
Before l [] = Unit {0}
Before l (next ∷ later) = l.section ≡ next.section → next.segment.time ≡ l.segment.time + l.segment.duration

abbrev AreJoined : List Listed → Type 0
AreJoined [] = Unit {0}
AreJoined (l ∷ later) = Before l later × AreJoined later

-- where times are contiguous
abbrev Join : List MediaSegment → (times : List ℕ) → Type 0
Join segments times = (i time : ℕ) (a b : MediaSegment) → slice_get segments i ≡ Some a → slice_get segments (suc i) ≡ Some b
    → a.section ≡ b.section → slice_get times i ≡ Some time → slice_get times (suc i) ≡ Some (time + a.duration)

first_joined : (s : MediaSegment) (segments : List MediaSegment) (time : ℕ) (times : List ℕ) → Join (s ∷ segments) (time ∷ times)
    → Before (listed_as s time) (listed_of segments times)
first_joined s [] time times join = tt
first_joined s (next ∷ segments) time [] join = tt
first_joined s (next ∷ segments) time (t ∷ times) join =
    λ same. (let at : Some t ≡ Some (time + s.duration) = join 0 time s next refl refl same refl in cc)

all_joined : (segments : List MediaSegment) (times : List ℕ) → Join segments times → AreJoined (listed_of segments times)
all_joined [] times join = tt
all_joined (s ∷ segments) [] join = tt
all_joined (s ∷ segments) (time ∷ times) join = (
  first_joined s segments time times join,
  all_joined segments times (λ i time a b one two same is. join
      (suc i) time a b one two same is),
)

joined_front : (xs ys : List Listed) → AreJoined (xs ++ ys) → AreJoined xs
joined_front [] ys all = tt
joined_front (x ∷ []) ys all = (tt, tt)
joined_front (x ∷ y ∷ xs) ys all = (all.0, joined_front (y ∷ xs) ys all.1)

joined_back : (xs ys : List Listed) → AreJoined (xs ++ ys) → AreJoined ys
joined_back [] ys all = all
joined_back (x ∷ xs) ys all = joined_back xs ys all.1

-- ---- runs

abbrev listed : List Placed → List Listed
listed placed = map (λ (p : Placed). p.listed) placed

segments_go_on : (period : LivePeriod) (run : LiveRun) (segments : List LiveSegment)
    → AreJoined (listed (map (placed_as period run) segments))
    → map (λ (s : LiveSegment). s.time) segments ≡ times_from (first_time segments) segments
segments_go_on period run [] all = refl
segments_go_on period run (s ∷ []) all = refl
segments_go_on period run (s ∷ next ∷ segments) all =
    ap (λ (ts : List ℕ). s.time ∷ ts) (segments_go_on period run (next ∷ segments) all.1
    ∙ ap (λ (time : ℕ). times_from time (next ∷ segments)) (all.0 refl))

periods_go_on : (place : ℕ) (periods : List LivePeriod) → AreJoined (listed (placed_of place periods))
    → All (λ (period : LivePeriod). (run : LiveRun) → slice_get period.runs place ≡ Some run → GoesOn run) periods
periods_go_on place [] all = All-nil (λ (period : LivePeriod). (run : LiveRun) → slice_get period.runs place ≡ Some run → GoesOn run)
periods_go_on place (period ∷ periods) all =
    let here = placed_in period (slice_get period.runs place) in
    let parts : AreJoined (listed here ++ listed (placed_of place periods)) =
    subst AreJoined (map-append (λ (p : Placed). p.listed) here (placed_of place periods)) all in
    All-cons (λ (period : LivePeriod). (run : LiveRun) → slice_get period.runs place ≡ Some run → GoesOn run) period periods
    (λ run at. record {
      times = segments_go_on period run run.segments (subst (λ (r : Option LiveRun). AreJoined (listed (placed_in period r))) at
          (joined_front (listed here) (listed (placed_of place periods)) parts));
    })
    (periods_go_on place periods (joined_back (listed here) (listed (placed_of place periods)) parts))

-- ---- a run for each track

runs_length : (row : List (List TimedSegment)) (runs : List LiveRun) → periods.runs_of row ≡ Ok runs → length runs ≡ length row
runs_length [] runs are = ap (λ (rs : List LiveRun). length rs) (let none : [] ≡ runs = cc in sym none)
runs_length (group ∷ row) runs are =
    let x = steps_of (periods.run_of group) _ runs are in
    let y = steps_of (periods.runs_of row) _ runs x.then in
    let whole : x.value ∷ y.value ≡ runs = (let h = y.then in cc) in
    ap (λ (rs : List LiveRun). length rs) (sym whole) ∙ ap suc (runs_length row y.value y.first)

all_filled : (known : List LivePeriod) (tracks : List (List (List TimedSegment))) (former place : ℕ) (sections : List ℕ)
    (listed : List LivePeriod)
    → periods.periods_from known tracks former place sections ≡ Ok listed → All (λ (p : LivePeriod). length p.runs ≡ length tracks) listed
all_filled known tracks former place [] listed is =
    subst (All (λ (p : LivePeriod). length p.runs ≡ length tracks)) (let none : [] ≡ listed = cc in none)
    (All-nil (λ (p : LivePeriod). length p.runs ≡ length tracks))
all_filled known tracks former place (number ∷ sections) listed is =
    let row = row_at tracks place in
    let x = steps_of (periods.period_of known former number row) _ listed is in
    let y = steps_of (periods.periods_from known tracks (periods.end_of x.value) (place + 1) sections) _ listed x.then in
    let whole : x.value ∷ y.value ≡ listed = (let h = y.then in cc) in
    let one = period_is known former number row x.value x.first in
    subst (All (λ (p : LivePeriod). length p.runs ≡ length tracks)) whole
    (All-cons (λ (p : LivePeriod). length p.runs ≡ length tracks) x.value y.value
    (runs_length row x.value.runs one.runs ∙ length-map tracks (group_at place))
    (all_filled known tracks (periods.end_of x.value) (place + 1) sections y.value y.first))

same_length : (formers : List FollowedTrack) (from : ℕ) (kept : List Source) (timed : List (List TimedSegment))
    → timed_all formers from kept ≡ Ok timed → length timed ≡ length (followed_tracks kept timed)
same_length formers from [] timed are = ap (λ (ts : List (List TimedSegment)). length ts) (let none : [] ≡ timed = cc in sym none)
same_length formers from (s ∷ kept) timed are =
    let x = steps_of (unless_late (timed_of (slice_get formers from) s.media)) _ timed are in
    let y = steps_of (timed_all formers (from + 1) kept) _ timed x.then in
    let whole : x.value ∷ y.value ≡ timed = (let h = y.then in cc) in
    subst (λ (timed : List (List TimedSegment)). length timed ≡ length (followed_tracks (s ∷ kept) timed)) whole
    (ap suc (same_length formers (from + 1) kept y.value y.first))

abbrev AreFilled : Followed → Type 0
AreFilled f = All (λ (p : LivePeriod). length p.runs ≡ length f.tracks) f.mpd.periods

filled : (former : Option Followed) (all : List Source) (new : Followed) → Parts former all new → AreFilled new
filled former all new p =
    let count : length (map groups_of p.timed) ≡ length new.tracks = length-map p.timed groups_of
    ∙ same_length (formers_of former) 0 p.kept p.timed p.times ∙ ap (λ (ts : List FollowedTrack). length ts) (sym p.tracks) in
    subst (λ (mpd : LiveMpd). All (λ (p : LivePeriod). length p.runs ≡ length new.tracks) mpd.periods) (sym p.mpd)
    (λ i d within. all_filled _ (map groups_of p.timed) _ 0 p.sections p.listed p.periods i d within ∙ count)

pub runs_go_on : RulesAreSentences → RunsGoOn
runs_go_on sentences tracks rounds new is i d within k e in_runs =
    let period = get_or new.mpd.periods i d in
    let are = from_first tracks Any AreFilled
    (λ round f any accepted. filled None (sources tracks round.1) f (parts_of tracks None round.0 round.1 f accepted))
    (λ former round f was any accepted. filled (Some former) (sources tracks round.1) f (parts_of tracks
    (Some former) round.0 round.1 f accepted))
    rounds new (λ i d within. tt) is in
    let few : length period.runs ≡ length new.tracks = are i d within in
    let t = some_at new.tracks k (omega (arith, few, in_runs)) in
    let lists : ListsTrack new k t.0 = last_are_listed tracks rounds new k t.0 is t.1 in
    let contiguous : IsContiguous t.0 = at_index IsContiguous new.tracks k t.0 (times_are sentences tracks rounds new is) t.1 in
    let join : Join t.0.media.segments t.0.times = λ i time a b one two same at.
    (let f : suc i ≡ i + 1 = omega arith in
    ap (slice_get t.0.times) f ∙ contiguous.ends i time a b one (ap (slice_get t.0.media.segments) (sym f) ∙ two) same at) in
    let joined : AreJoined (listed (placed_of k new.mpd.periods)) = subst AreJoined (sym lists.segments)
    (all_joined t.0.media.segments t.0.times join) in
    periods_go_on k new.mpd.periods joined i d within (get_or period.runs k e) (slice_get-get_or period.runs k e in_runs)
