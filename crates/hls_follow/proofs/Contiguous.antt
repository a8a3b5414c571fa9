-- Times of one section are contiguous.
use Rattle.reload_law.specs.declared.unlawful.Unlawful.TheVariants as rules
use Rattle.std.proofs.Common.{◌≡◌, ℕ, zero, suc, ◌+◌, ◌-◌, ◌<◌, ◌≤◌, Bool, true, false, ◌&&◌, ◌||◌, not, eqb, ltb, List, [], ◌∷◌, length}
use Rattle.std.proofs.Common.{slice_get, All, Option, Some, None, Ok, refl, sym, ◌∙◌, ap, subst, option_map, bytes_eq, arith}
use Rattle.std.proofs.{lemmas.Bool.{eq-eqb, eqb-true, le-leb, le-ltb}, lemmas.List.Elements.{All-nil, All-cons}}
use Rattle.std.proofs.lemmas.Option.{get_or_from_slice_get, slice_get_within}
use Rattle.std.specs.{List.list_any, Option.option_eq}
use Rattle.bridge_io.proofs.AndThen.{steps_of}
use Rattle.hls_media.specs.{declared.media.Media.Media, declared.media.MediaSegment.MediaSegment}
use Rattle.reload_law.specs.{Laws.{IsInBoth, IsLawful, RulesAreSentences, segment_at}, Rules.{broken_if, end_of, first_broken}}
use Rattle.reload_law.specs.Rules.{first_differing, lawful, same_part, same_range, same_section, same_segment}
use Rattle.hls_presentation.specs.Tracks.{Source}
use Rattle.hls_follow.specs.{declared.state.FollowedTrack.FollowedTrack, declared.state.Last.Last, Times.TimedSegment}
use Rattle.hls_follow.specs.{Kept.formers_of, Laws.{IsContiguous, TimesAreContiguous}, Rounds.{followed_tracks, times_in}, Rules.judged_all}
use Rattle.hls_follow.specs.{Rules.{judged_reload, reload_told}, Times.{behind_segment, former_time, is_late, last_of, time_of, timed_all}}
use Rattle.hls_follow.specs.Times.{timed_from, timed_of, unless_late}
use Rattle.hls_follow.proofs.Staying.{parts_of, same_by}

-- ---- what a former playlist tells of two numbers

-- Where the second of two segments of a section has its former time, so does the first, which ends then.
abbrev Carries : Option FollowedTrack → (number : ℕ) → List MediaSegment → Type 0
Carries former number segments = (i time : ℕ) (a b : MediaSegment) → slice_get segments i ≡ Some a → slice_get segments (suc i) ≡ Some b
    → a.section ≡ b.section → former_time former (number + i + 1) ≡ Some time
    → (first : ℕ) × (former_time former (number + i) ≡ Some first) × (time ≡ first + a.duration)

next_carries : (former : Option FollowedTrack) (number : ℕ) (s : MediaSegment) (segments : List MediaSegment)
    → Carries former number (s ∷ segments) → Carries former (number + 1) segments
next_carries former number s segments carries i time a b one two same is =
    let e : number + suc i + 1 ≡ number + 1 + i + 1 = omega arith in
    let f : number + suc i ≡ number + 1 + i = omega arith in
    let c = carries (suc i) time a b one two same (ap (former_time former) e ∙ is) in
    (c.0, ap (former_time former) (sym f) ∙ c.1, c.2)

-- ---- times in a row

follows_by : (former : Option FollowedTrack) (target number : ℕ) (last : Option Last) (a b : MediaSegment) (known : Option ℕ)
    → former_time former (number + 1) ≡ known → a.section ≡ b.section
    → ((time : ℕ) → known ≡ Some time → (first : ℕ) × (former_time former number ≡ Some first) × (time ≡ first + a.duration))
    → time_of former target (number + 1) b.section (Some (behind_segment number (time_of former target number a.section last) a))
    ≡ time_of former target number a.section last + a.duration
follows_by former target number last a b None is same carried =
    let none : number + 1 - (number + 1) ≡ 0 = omega arith in
    rw (is, eq-eqb a.section b.section same, none) (omega arith)
follows_by former target number last a b (Some time) is same carried =
    let c = carried time refl in
    rw (is, c.1) c.2

in_row : (former : Option FollowedTrack) (target number : ℕ) (last : Option Last) (segments : List MediaSegment) (i time : ℕ)
    (a b : MediaSegment) → Carries former number segments → slice_get segments i ≡ Some a → slice_get segments (suc i) ≡ Some b
    → a.section ≡ b.section → slice_get (times_in (timed_from former target number last segments)) i ≡ Some time
    → slice_get (times_in (timed_from former target number last segments)) (suc i) ≡ Some (time + a.duration)
in_row former target number last [] i time a b carries one two same is = absurd (cc)
in_row former target number last (s ∷ []) zero time a b carries one two same is = absurd (cc)
in_row former target number last (s ∷ t ∷ segments) zero time a b carries one two same is =
    let first : s ≡ a = cc in
    let second : t ≡ b = cc in
    let here : time_of former target number s.section last ≡ time = cc in
    let sections : s.section ≡ t.section = ap (λ (x : MediaSegment). x.section) first ∙ same
    ∙ ap (λ (x : MediaSegment). x.section) (sym second) in
    let e : number + 0 + 1 ≡ number + 1 = omega arith in
    let f : number + 0 ≡ number = omega arith in
    let next = follows_by former target number last s t (former_time former (number + 1)) refl sections
    (λ time is. let c = carries 0 time s t refl refl sections (ap (former_time former) e ∙ is) in
    (c.0, ap (former_time former) (sym f) ∙ c.1, c.2)) in
    ap Some (next ∙ ap (λ (n : ℕ). n + s.duration) here ∙ ap (λ (x : MediaSegment). time + x.duration) first)
in_row former target number last (s ∷ segments) (suc i) time a b carries one two same is =
    in_row former target (number + 1) (Some (behind_segment number (time_of former target number s.section last) s)) segments i time a b
    (next_carries former number s segments carries) one two same is

-- ---- what is lawful

record AreUnbroken (t s e x : Bool) (g d : Option ℕ) : Type 0 where
  target : t ≡ false
  sequence : s ≡ false
  segments : g ≡ None
  sections : d ≡ None
  ends : e ≡ false
  ended : x ≡ false

unbroken : (place : ℕ) (t s e x l : Bool) (g d : Option ℕ)
    → reload_told place (first_broken (broken_if t rules.Target ∷ broken_if s rules.Sequence ∷ option_map rules.Segment g
    ∷ option_map rules.Discontinuity d ∷ broken_if e rules.Shrunk ∷ broken_if x rules.AfterEnd ∷ broken_if l rules.ThreeTargets ∷ []))
    ≡ Ok tt
    → AreUnbroken t s e x g d
unbroken place true s e x l g d is = absurd (cc)
unbroken place false true e x l g d is = absurd (cc)
unbroken place false false e x l (Some n) d is = absurd (cc)
unbroken place false false e x l None (Some n) is = absurd (cc)
unbroken place false false true x l None None is = absurd (cc)
unbroken place false false false true l None None is = absurd (cc)
unbroken place false false false false l None None is =
    record { target = refl; sequence = refl; segments = refl; sections = refl; ends = refl; ended = refl }

after_end : (was is same : Bool) → (was && (not is || not same)) ≡ false → (was && not same) ≡ false
after_end false is same e = refl
after_end true is true e = refl
after_end true true false e = absurd (cc)
after_end true false false e = absurd (cc)

abbrev pub ended_now : Media → Media
ended_now media = record media { ended = true }

-- A playlist that may take an older one's place, but that it may be short, may do so as an ended one, which may be short.
pub lawful_ended : (place : ℕ) (old new : Media) → reload_told place (lawful old new) ≡ Ok tt → lawful old (ended_now new) ≡ Ok tt
unfolding lawful
lawful_ended place old new is =
    let u = unbroken place (not (eqb old.target new.target)) (ltb new.sequence old.sequence) (ltb (end_of new) (end_of old))
    (old.ended && (not new.ended || not (eqb (end_of new) (end_of old)))) _ (first_differing same_segment old new)
    (first_differing same_section old new) is in
    rw (u.target, u.sequence, u.segments, u.sections, u.ends, after_end old.ended new.ended (eqb (end_of new) (end_of old)) u.ended) refl

third : (p q r s : Bool) → (p && q && r && s) ≡ true → r ≡ true
third true true true s is = refl
third true true false s is = absurd (cc)
third true false r s is = absurd (cc)
third false q r s is = absurd (cc)

-- ---- a former playlist

pub some_at : {X : Type 0} (xs : List X) (i : ℕ) → i < length xs → (x : X) × (slice_get xs i ≡ Some x)
some_at [] i within = absurd (omega arith)
some_at (x ∷ xs) zero within = (x, refl)
some_at (x ∷ xs) (suc i) within = some_at xs i (omega arith)

same_duration : (a b : MediaSegment) → same_segment a b ≡ true → a.duration ≡ b.duration
same_duration a b is =
    eqb-true a.duration b.duration (third (bytes_eq a.address b.address) (option_eq same_range a.range b.range)
    (eqb a.duration b.duration) (option_eq same_part a.map b.map) is)

pub listed_at : (media : Media) (number i : ℕ) (s : MediaSegment) → media.sequence ≤ number → number - media.sequence ≡ i
    → slice_get media.segments i ≡ Some s → segment_at number media ≡ Some s
listed_at media number i s from at is = rw (le-leb media.sequence number from) (ap (slice_get media.segments) at ∙ is)

carries_old : (a : FollowedTrack) (media : Media) → IsContiguous a → IsLawful a.media (ended_now media)
    → Carries (Some a) media.sequence media.segments
carries_old a media times l i time x y one two same is =
    let n = media.sequence + i in
    let j = n - a.media.sequence in
    let rising = l.sequence in
    let past : ltb (n + 1) a.media.sequence ≡ false = le-ltb (n + 1) a.media.sequence (omega (arith, rising)) in
    let before : ltb n a.media.sequence ≡ false = le-ltb n a.media.sequence (omega (arith, rising)) in
    let next : n + 1 - a.media.sequence ≡ j + 1 = omega (arith, rising) in
    let there : slice_get a.times (j + 1) ≡ Some time = ap (slice_get a.times) (sym next) ∙ (rw past at is) in
    let within = slice_get_within a.times (j + 1) time there in
    let whole = times.whole in
    let first = some_at a.times j (omega (arith, within)) in
    let o = some_at a.media.segments j (omega (arith, within, whole)) in
    let p = some_at a.media.segments (j + 1) (omega (arith, within, whole)) in
    let both : IsInBoth a.media (ended_now media) n o.0 x = record {
      in_old = listed_at a.media n j o.0 (omega (arith, rising)) refl o.1;
      in_new = listed_at (ended_now media) n i x (omega arith) (omega arith) one;
    } in
    let both_next : IsInBoth a.media (ended_now media) (n + 1) p.0 y = record {
      in_old = listed_at a.media (n + 1) (j + 1) p.0 (omega (arith, rising)) next p.1;
      in_new = listed_at (ended_now media) (n + 1) (suc i) y (omega arith) (omega arith) two;
    } in
    let section = eqb-true o.0.section x.section (l.sections n o.0 x both) in
    let section_next = eqb-true p.0.section y.section (l.sections (n + 1) p.0 y both_next) in
    let ends = times.ends j first.0 o.0 p.0 o.1 p.1 (section ∙ same ∙ sym section_next) first.1 in
    let told : time ≡ first.0 + o.0.duration = cc in
    (first.0, rw before first.1, told ∙ ap (λ (d : ℕ). first.0 + d) (same_duration o.0 x (l.segments n o.0 x both)))

-- ---- all tracks

pub length_timed : (former : Option FollowedTrack) (target number : ℕ) (last : Option Last) (segments : List MediaSegment)
    → length (times_in (timed_from former target number last segments)) ≡ length segments
length_timed former target number last [] = refl
length_timed former target number last (s ∷ segments) = ap suc (length_timed former target (number + 1) (Some
    (behind_segment number (time_of former target number s.section last) s)) segments)

module _ (sentences : RulesAreSentences) where
  carries : (place : ℕ) (former : Option FollowedTrack) (media : Media) → ((a : FollowedTrack) → former ≡ Some a → IsContiguous a)
      → judged_reload place former media ≡ Ok tt → Carries former media.sequence media.segments
  carries place None media times judged = λ i time x y one two same is. absurd (cc)
  carries place (Some a) media times judged =
      carries_old a media (times a refl) ((sentences a.media (ended_now media)).0 (lawful_ended place a.media media judged))

  track_is : (place : ℕ) (former : Option FollowedTrack) (b : FollowedTrack) → b.times ≡ times_in (timed_of former b.media)
      → ((a : FollowedTrack) → former ≡ Some a → IsContiguous a) → judged_reload place former b.media ≡ Ok tt → IsContiguous b
  unfolding timed_of
  track_is place former b given times judged =
      let m = b.media in
      record {
        whole = ap length given ∙ length_timed former m.target m.sequence (last_of former) m.segments;
        ends = λ i time x y one two same is.
            (let e : i + 1 ≡ suc i = omega arith in
            ap (slice_get b.times) e ∙ ap (λ (ts : List ℕ). slice_get ts (suc i)) given
            ∙ in_row former m.target m.sequence (last_of former) m.segments i time x y (carries place former m times judged) one
            (ap (slice_get m.segments) (sym e) ∙ two) same (ap (λ (ts : List ℕ). slice_get ts i) (sym given) ∙ is));
      }

  tracks_are : (formers : List FollowedTrack) (from : ℕ) (kept : List Source) (timed : List (List TimedSegment))
      → timed_all formers from kept ≡ Ok timed → judged_all judged_reload formers from kept ≡ Ok tt → All IsContiguous formers
      → All IsContiguous (followed_tracks kept timed)
  tracks_are formers from [] timed are judged times = All-nil IsContiguous
  tracks_are formers from (s ∷ kept) timed are judged times =
      let former = slice_get formers from in
      let x = steps_of (unless_late (timed_of former s.media)) _ timed are in
      let y = steps_of (timed_all formers (from + 1) kept) _ timed x.then in
      let whole : x.value ∷ y.value ≡ timed = (let h = y.then in cc) in
      let here = same_by (timed_of former s.media) x.value (list_any is_late (timed_of former s.media)) refl x.first in
      let j = steps_of (judged_reload from former s.media) _ tt judged in
      let track : FollowedTrack = record { media = s.media; times = times_in x.value } in
      let first = track_is from former track (ap times_in (sym here))
      (λ a is. subst IsContiguous (get_or_from_slice_get formers from a a is) (times from a
      (slice_get_within formers from a is))) j.first in
      subst (λ (timed : List (List TimedSegment)). All IsContiguous (followed_tracks (s ∷ kept) timed)) whole
      (All-cons IsContiguous track (followed_tracks kept y.value) first (tracks_are formers (from + 1) kept y.value y.first j.then times))

  pub times_are : TimesAreContiguous
  times_are tracks former now medias new is times =
      let p = parts_of tracks former now medias new is in
      subst (All IsContiguous) (sym p.tracks) (tracks_are (formers_of former) 0 p.kept p.timed p.times p.judged.reloads times)
