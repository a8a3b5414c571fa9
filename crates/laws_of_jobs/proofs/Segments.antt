-- The segments of playlists that are read, with their times, can be written and read.
use Rattle.std.proofs.Common.{◌≡◌, ℕ, suc, ◌+◌, ◌≤◌, ◌<◌, ◌^◌, Bool, true, false, eqb, List, [], ◌∷◌, ◌++◌, map, length, slice_get}
use Rattle.std.proofs.Common.{All, Option}
use Rattle.std.proofs.{Common.{Some, None, Ok, Err, unwrap_or, refl, sym, ◌∙◌, ap, subst, arith}, lemmas.Bool.{cond_both, or_parts}}
use Rattle.std.proofs.{lemmas.Bool.Decides.nat_tests, lemmas.List.length-map, lemmas.List.Elements.{All-head, All-tail, All-nil, All-cons}}
use Rattle.std.proofs.lemmas.List.Elements.{All-map}
use Rattle.std.specs.List.{list_any}
use Rattle.bridge_io.proofs.AndThen.{steps_of}
use Rattle.bridge_io.specs.Firsts.{first_fault}
use Rattle.hls_media.specs.declared.{media.Media.Media, media.MediaSegment.MediaSegment}
use Rattle.hls_presentation.specs.Tracks.{Source, fault_if, has_empty, lacks_maps, lasts_no_time, map_changes, segment_faults}
use Rattle.hls_presentation.proofs.{Grouping.none_pass, Only.none_if}
use Rattle.layer_faults.specs.declared.hls.HlsFault.TheVariants.{MapChanged, NoMap, ZeroDuration}
use Rattle.layer_faults.specs.declared.live.LiveFault.{LiveFault}
use Rattle.hls_follow.specs.declared.state.FollowedTrack.{FollowedTrack}
use Rattle.hls_follow.specs.Groups.{group_at}
use Rattle.layer_faults.specs.declared.live.LiveFault.TheVariants.{Limit}
use Rattle.hls_follow.specs.Rules.{fault_of_track, judged_segments, judged_segments_of}
use Rattle.hls_follow.specs.{Groups.{groups_of, put_before, row_at}, Periods.live_segment, Times.{is_late, last_of, timed_all, timed_of}}
use Rattle.hls_follow.specs.Times.{unless_late}
use Rattle.hls_follow.proofs.{Histories.at_index, Listing.segments_timed, Sections.segments_in, Staying.same_by}
use Rattle.laws_of_mpds.proofs.{ReadPlain.IsPlainSegment, Whole.{IsFit, plain_segments}}

-- ---- a playlist

abbrev argument_of : (T : Type 0) {X : Type 0} → (T → X) → Type 0
argument_of T f = T

-- a segment of a playlist with its time, of which an MPD makes one of its own
abbrev pub TimedSegment : Type 0
TimedSegment = argument_of _ live_segment

-- a segment of a playlist that is read, which isn't late, and lasts
pub record IsReadSegment (t : TimedSegment) : Type 0 where
  pub plain : IsPlainSegment t.segment
  pub early : t.time < 2 ^ 63
  pub lasting : 0 < t.segment.duration

-- so many of them at most
pub record IsReadRow (most : ℕ) (row : List TimedSegment) : Type 0 where
  pub all : All IsReadSegment row
  pub few : length row ≤ most

module _ (P : MediaSegment → Type 0) where
  all_in : (row : List TimedSegment) → All P (segments_in row) → All (λ (t : TimedSegment). P t.segment) row
  all_in [] all = All-nil (λ (t : TimedSegment). P t.segment)
  all_in (t ∷ row) all = All-cons (λ (t : TimedSegment). P t.segment) t row (All-head P t.segment (segments_in row) all)
      (all_in row (All-tail P t.segment (segments_in row) all))

abbrev Plain : TimedSegment → Type 0
Plain t = IsPlainSegment t.segment

abbrev Lasts : MediaSegment → Type 0
Lasts s = 0 < s.duration

-- none of what is judged is empty
none_of : {X : Type 0} (f : X → LiveFault) (faults : List X) → first_fault (map f faults) ≡ Ok tt → faults ≡ []
none_of f [] is = refl
none_of f (fault ∷ faults) is = absurd (cc)

no_rest : {X : Type 0} (one more : List X) → one ++ more ≡ [] → more ≡ []
no_rest [] more is = is
no_rest (fault ∷ one) more is = absurd (cc)

all_last : (media : Media) → judged_segments_of media ≡ Ok tt → All Lasts media.segments
all_last media is =
    let faults = none_of fault_of_track (segment_faults media) is in
    let later = no_rest (fault_if (lacks_maps media) NoMap) _ faults in
    let empty = none_if (has_empty media.segments) ZeroDuration
    (no_rest (fault_if (map_changes media.segments) MapChanged) _ later) in
    let times = none_pass lasts_no_time media.segments empty in
    λ k d here. grind (arith, nat_tests, times k d here)

early : (t : TimedSegment) → is_late t ≡ false → t.time < 2 ^ 63
early t is = grind (arith, nat_tests)

abbrev LastsIn : TimedSegment → Type 0
LastsIn t = Lasts t.segment

read_all : (row : List TimedSegment) → All Plain row → All LastsIn row → list_any is_late row ≡ false → All IsReadSegment row
read_all [] all last none = All-nil IsReadSegment
read_all (t ∷ row) all last none =
    let parts = or_parts (is_late t) (list_any is_late row) none in
    All-cons IsReadSegment t row
    (record { plain = All-head Plain t row all; early = early t parts.0; lasting = All-head LastsIn t row last })
    (read_all row (All-tail Plain t row all) (All-tail LastsIn t row last) parts.1)

row_read : (former : Option FollowedTrack) (s : Source) (row : List TimedSegment) (late : Bool) → IsFit s → All Lasts s.media.segments
    → list_any is_late (timed_of former s.media) ≡ late → unless_late (timed_of former s.media) ≡ Ok row → IsReadRow 100_000 row
unfolding timed_of
row_read former s row true fit last late is = absurd (let h : unless_late (timed_of former s.media) ≡ Err Limit = rw late refl in cc)
row_read former s row false fit last late is =
    let m = s.media in
    let timed = timed_of former m in
    let segments : segments_in timed ≡ m.segments = segments_timed former m.target m.sequence (last_of former) m.segments in
    let as_many : length timed ≡ length m.segments = sym (length-map timed _) ∙ ap length segments in
    subst (IsReadRow 100_000) (same_by timed row false late is) (record {
      all = read_all timed (all_in IsPlainSegment timed (subst (All IsPlainSegment) (sym segments) (plain_segments m fit.1)))
          (all_in Lasts timed (subst (All Lasts) (sym segments) last)) late;
      few = omega (arith, as_many, fit.1.0.few);
    })

pub rows_read : (formers : List FollowedTrack) (from : ℕ) (kept : List Source) (timed : List (List TimedSegment)) → All IsFit kept
    → judged_segments kept ≡ Ok tt → timed_all formers from kept ≡ Ok timed
    → (length timed ≡ length kept) × All (IsReadRow 100_000) timed
rows_read formers from [] timed fit judged is =
    (let none : [] ≡ timed = cc in (ap length (sym none), subst (All (IsReadRow 100_000)) none (All-nil (IsReadRow 100_000))))
rows_read formers from (s ∷ kept) timed fit judged is =
    let last = steps_of (judged_segments_of s.media) (λ _. judged_segments kept) tt judged in
    let x = steps_of (unless_late (timed_of (slice_get formers from) s.media)) _ timed is in
    let y = steps_of (timed_all formers (from + 1) kept) _ timed x.then in
    let whole : x.value ∷ y.value ≡ timed = (let h = y.then in cc) in
    let others = rows_read formers (from + 1) kept y.value (All-tail IsFit s kept fit) last.then y.first in (
      ap length (sym whole) ∙ ap suc others.0,
      subst (All (IsReadRow 100_000)) whole (All-cons (IsReadRow 100_000) x.value y.value
          (row_read (slice_get formers from) s x.value _ (All-head IsFit s kept fit) (all_last s.media last.first) refl x.first) others.1),
    )

-- ---- cut where the section changes

one_read : (n : ℕ) (t : TimedSegment) → IsReadSegment t → IsReadRow (suc n) (t ∷ [])
one_read n t is = record { all = All-cons IsReadSegment t [] is (All-nil IsReadSegment); few = omega arith }

more_read : (n : ℕ) (t : TimedSegment) (row : List TimedSegment) → IsReadSegment t → IsReadRow n row → IsReadRow (suc n) (t ∷ row)
more_read n t row is read = record { all = All-cons IsReadSegment t row is read.all; few = omega (arith, read.few) }

weaker : (n m : ℕ) (groups : List (List TimedSegment)) → n ≤ m → All (IsReadRow n) groups → All (IsReadRow m) groups
weaker n m groups less all = λ i d within. record { all = (all i d within).all; few = omega (arith, less, (all i d within).few) }

put_read : (n : ℕ) (t : TimedSegment) (groups : List (List TimedSegment)) → IsReadSegment t → All (IsReadRow n) groups
    → All (IsReadRow (suc n)) (put_before t groups)
put_read n t [] is all = All-cons (IsReadRow (suc n)) (t ∷ []) [] (one_read n t is) (All-nil (IsReadRow (suc n)))
put_read n t ([] ∷ groups) is all =
    All-cons (IsReadRow (suc n)) (t ∷ []) groups (one_read n t is)
    (weaker n (suc n) groups (omega arith) (All-tail (IsReadRow n) [] groups all))
put_read n t ((next ∷ rest) ∷ groups) is all =
    let R = IsReadRow (suc n) in
    let group = next ∷ rest in
    let others = weaker n (suc n) groups (omega arith) (All-tail (IsReadRow n) group groups all) in
    let first = All-head (IsReadRow n) group groups all in
    cond_both (eqb t.segment.section next.segment.section) ((t ∷ group) ∷ groups) ((t ∷ []) ∷ group ∷ groups) (All R)
    (λ same. All-cons R (t ∷ group) groups (more_read n t group is first) others)
    (λ other. All-cons R (t ∷ []) (group ∷ groups) (one_read n t is)
    (weaker n (suc n) (group ∷ groups) (omega arith) all))

groups_read : (row : List TimedSegment) → All IsReadSegment row → All (IsReadRow (length row)) (groups_of row)
groups_read [] all = All-nil (IsReadRow 0)
groups_read (t ∷ row) all =
    put_read (length row) t (groups_of row) (All-head IsReadSegment t row all) (groups_read row (All-tail IsReadSegment t row all))

pub all_groups_read : (timed : List (List TimedSegment)) → All (IsReadRow 100_000) timed
    → All (All (IsReadRow 100_000)) (map groups_of timed)
all_groups_read timed all = All-map (All (IsReadRow 100_000)) groups_of timed (λ i d within.
    let row = all i d within in weaker _ 100_000 _ row.few (groups_read _ row.all))

-- ---- what the tracks have in a section

group_read : (groups : List (List TimedSegment)) (place : ℕ) (found : Option (List TimedSegment)) → All (IsReadRow 100_000) groups
    → slice_get groups place ≡ found → IsReadRow 100_000 (unwrap_or found [])
group_read groups place None all is = record { all = All-nil IsReadSegment; few = omega arith }
group_read groups place (Some group) all is = at_index (IsReadRow 100_000) groups place group all is

pub section_read : (tracks : List (List (List TimedSegment))) (place : ℕ) → All (All (IsReadRow 100_000)) tracks
    → All (IsReadRow 100_000) (row_at tracks place)
section_read tracks place all = All-map (IsReadRow 100_000) (group_at place) tracks
    (λ i d within. group_read _ place _ (all i d within) refl)
