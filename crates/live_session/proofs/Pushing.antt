-- A track as it grows at its end and loses its front.
use Rattle.std.proofs.Common.{◌≡◌, ℕ, zero, suc, ◌+◌, ◌-◌, ◌<◌, ◌≤◌, List, [], ◌∷◌, ◌++◌, length, drop, Option, None, Some, refl, sym, ◌∙◌}
use Rattle.std.{proofs.Common.{ap, inl, inr, arith, length-append, length-drop, append_assoc}, proofs.lemmas.Bool.{cases_eq, eq-eqb}}
use Rattle.std.{proofs.lemmas.Bool.ne_eqb, proofs.lemmas.List.append-nil, specs.Prelude.{option_map, ◌==◌, if◌then◌else◌, false}}
use Rattle.std.specs.Option.{option_map_or}
use Rattle.circular_buffer.{specs.Buffer.keep_last, proofs.Places.{slice_get-drop, slice_get-last}}
use Rattle.exact_time.{specs.Time.Time, specs.Tick.time_of}
use Rattle.hls_writer.specs.declared.items.MediaItem.{MediaItem}
use Rattle.followed.specs.Durations.{Last, duration_behind, last_behind, last_with, told_behind}
use Rattle.live_meaning.{specs.Segments.{Kept, Segment, place_behind}, specs.States.Track}
use Rattle.live_judge.{specs.declared.track.Fact.Fact, specs.Shown.{kept_of, kepts_of, last_from, last_kept, track_of}}
use Rattle.live_judge.proofs.Keeping.{length-kepts}
use Rattle.live_session.specs.Kept.{begun_at, with_all, with_kept, without_front}

-- ---- two rings side by side

pub kepts-push : (items : List MediaItem) (facts : List Fact) (item : MediaItem) (fact : Fact) → length items ≡ length facts
    → kepts_of (items ++ item ∷ []) (facts ++ fact ∷ []) ≡ kepts_of items facts ++ kept_of item fact ∷ []
kepts-push [] [] item fact same = refl
kepts-push [] (f ∷ facts) item fact same = absurd (omega arith)
kepts-push (i ∷ items) [] item fact same = absurd (omega arith)
kepts-push (i ∷ items) (f ∷ facts) item fact same =
    ap (λ (ks : List Kept). kept_of i f ∷ ks) (kepts-push items facts item fact (omega arith))

pub kepts-none : (items : List MediaItem) → kepts_of items [] ≡ []
kepts-none [] = refl
kepts-none (i ∷ items) = refl

pub kepts-drop : (n : ℕ) (items : List MediaItem) (facts : List Fact)
    → kepts_of (drop n items) (drop n facts) ≡ drop n (kepts_of items facts)
kepts-drop zero items facts = refl
kepts-drop (suc n) [] facts = refl
kepts-drop (suc n) (i ∷ items) [] = kepts-none (drop n items)
kepts-drop (suc n) (i ∷ items) (f ∷ facts) = kepts-drop n items facts

-- ---- the last one

last-with : (begin : Time) (last : Option Kept) (k : Kept)
    → Some (last_from
    (if option_map_or (λ (l : Last). l.section == k.segment.section)
    (option_map (last_from begin) last) false then begin else k.segment.start) k)
    ≡ Some (last_with (option_map (last_from begin) last) k.segment)
last-with begin None k = refl
last-with begin (Some l) k = elim (cases_eq l.segment.section k.segment.section) [
  | inl same ↦ rw (eq-eqb _ _ same)
      (ap (λ n. let x : Option Last = Some (record { section = n; first = begin; end = k.segment.end }) in x) (sym same))
  | inr other ↦ rw (ne_eqb _ _ other) refl
]

-- a segment behind the others
pub push_shown : (items news : List MediaItem) (facts others : List Fact) (item : MediaItem) (fact : Fact) (begin next : Time) (first : ℕ)
    → length items ≡ length facts → news ≡ items ++ item ∷ [] → others ≡ facts ++ fact ∷ []
    → next ≡ begun_at (track_of first begin (kepts_of items facts)) begin (time_of fact.span.start) item.section
    → track_of first next (kepts_of news others) ≡ with_kept (track_of first begin (kepts_of items facts)) (kept_of item fact)
push_shown items news facts others item fact begin next first same one other is =
    let ks = kepts_of items facts in
    let k = kept_of item fact in
    let last : last_kept (ks ++ k ∷ []) ≡ Some k = slice_get-last ks k _ (omega (arith, length-append ks (k ∷ []))) in
    rw (one, other, is, kepts-push items facts item fact same, last, last-with begin (last_kept ks) k) refl

-- ---- many of them

-- new segments with their durations
pub grown : (unit : ℕ) (track : Track) (new : List Segment) → with_all track (told_behind unit track.last new)
    ≡ record {
      kept = track.kept ++ told_behind unit track.last new;
      first = track.first;
      last = last_behind track.last new;
      place = place_behind track.place new;
    }
grown unit track [] = rw append-nil refl
grown unit track (x ∷ xs) =
    let k : Kept = record { segment = x; duration = duration_behind unit track.last x } in
    grown unit (with_kept track k) xs
    ∙ rw (append_assoc track.kept (k ∷ []) (told_behind unit (Some (last_with track.last x)) xs)) refl

pub kept_with : (track : Track) (ks : List Kept) → (with_all track ks).kept ≡ track.kept ++ ks
kept_with track [] = sym (append-nil track.kept)
kept_with track (k ∷ ks) = kept_with (with_kept track k) ks ∙ append_assoc track.kept (k ∷ []) ks

-- ---- without the front

last-drop : (n : ℕ) (ks : List Kept) → n < length ks → last_kept (drop n ks) ≡ last_kept ks
last-drop n ks less =
    slice_get-drop n ks (length (drop n ks) - 1) (length ks - 1) (omega (arith, length-drop n ks))

pub remove_shown : (items news : List MediaItem) (facts others : List Fact) (begin : Time) (first count : ℕ) → length items ≡ length facts
    → count < length items → news ≡ drop count items → others ≡ drop count facts
    → track_of (first + count) begin (kepts_of news others) ≡ without_front count (track_of first begin (kepts_of items facts))
remove_shown items news facts others begin first count same less one other =
    let last = last-drop count (kepts_of items facts) (omega (arith, length-kepts items facts same)) in
    rw (one, other, kepts-drop count items facts, last) refl

-- ---- rings that have room

pub keep_fits : {X : Type 0} (n : ℕ) (xs : List X) → length xs ≤ n → keep_last n xs ≡ xs
keep_fits n xs fits = let e : length xs - n ≡ 0 = omega arith in ap (λ k. drop k xs) e

pub keep_drop : {X : Type 0} (n count : ℕ) (xs : List X) → n ≡ length xs - count → count ≤ length xs → keep_last n xs ≡ drop count xs
keep_drop n count xs is fits = let e : length xs - n ≡ count = omega arith in ap (λ k. drop k xs) e
