-- The playlists of a presentation's tracks.
use Rattle.std.proofs.Common.{◌≡◌, ℕ, zero, suc, ◌+◌, ◌-◌, ◌*◌, ◌/◌, ◌%◌, ◌^◌, ◌<◌, ◌≤◌, Bool, true, false, List, [], ◌∷◌, ◌++◌, length}
use Rattle.std.proofs.Common.{map, max, flat_map, cond, nat_le, Option, Some, None, Ok, Err, Result, IfSome, refl, sym, ◌∙◌, ap, subst}
use Rattle.std.proofs.{Common.{arith, inl, inr}, Math.Nat.{div-mul-le_self, one-le-pow}, lemmas.Bool.{cases_Bool, cases_lt}}
use Rattle.std.proofs.{lemmas.Bool.Decides.nat_tests}
use Rattle.std.proofs.{lemmas.List.Elements.{All-append, All-cons, All-map, All-nil, All-weaker}, lemmas.Option.get_or_from_slice_get}
use Rattle.std.proofs.{lemmas.Option.slice_get_within, lemmas.Nat.le-div}
use Rattle.std.specs.{List.{All, range_with_len, slice_get, slice_index_or}, Option.option_map_or}
use Rattle.bridge_io.specs.declared.place.Place.{Place}
use Rattle.url_parts.specs.declared.address.Part.{Part}
use Rattle.timeline.specs.{declared.fault.ListFault.ListFault, declared.fault.TimeFault.TheVariants.Range, declared.window.Window.Window}
use Rattle.timeline.specs.{Expansions.{SegmentTimeline, Timing}, Listed.{answered_count, is_out_of_range}}
use Rattle.presentation.specs.{declared.parts.Content.Content, Counting.{count_faults, faults_of_count, is_over, limit_faults, place_at}}
use Rattle.presentation.specs.{Counting.{tracks_of, section_faults, sections_of, track_faults, whole_track_faults}, Laws.HasAddress}
use Rattle.presentation.specs.{Presented.{Presented, content_at, listed_at, listed_in, window_of}, Printing.{PrintedTiming, durations_of}}
use Rattle.presentation.specs.{Printing.{printed_timings, with_durations}, Verifying.{greatest, longest_at, longest_of, url_faults}}
use Rattle.presentation.specs.Verifying.{verified}
use Rattle.presentation.proofs.{Allowed.have_addresses, Firsts.none_before, Reached.{none_first, none_within}}
use Rattle.hls_writer.specs.Finished.{content_items, greatest_from, is_text, item_at, items_at, media_text, own_target, part_or_none}
use Rattle.hls_writer.specs.Finished.{section_items, shared_target, target_in, target_of, track_items}
use Rattle.hls_writer.specs.declared.finished.{Targets.Targets, Targets.TheVariants.{Own, Shared}}
use Rattle.hls_writer.specs.Playlists.{Item}
use Rattle.bridge_io.specs.declared.media.Kind.TheVariants.{Text}
use Rattle.presentation.specs.{declared.track.Track.Track, Order.is_of}
use Rattle.laws_of_playlists.specs.ReadMedia.{AreShort, AreShortFor}
use Rattle.laws_of_playlists.specs.ReadMedia.{AreInOrder, GoOn, IsNext, IsReadableContent, IsReadableItem, IsReadablePart, IsReadableTrack}
use Rattle.laws_of_playlists.specs.ReadMedia.{IsShortNumber, TracksAreRead, segment_in, segment_of, segments_of}
use Rattle.laws_of_playlists.proofs.Items.{finished_are_read}

-- ---- counted segments

-- something is listed where segments are counted without a fault
record IsListed (o : Option Content) (window : Window) : Type 0 where
  content : Content
  is : o ≡ Some content
  first : Timing
  others : List Timing
  listed : listed_in window content.runs ≡ first ∷ others

some_listed : (t s : ℕ) (place : Place) (window : Window) (o : Option Content)
    → faults_of_count true t s place (option_map_or (λ content. answered_count content.runs window) o (Ok 0)) ≡ [] → IsListed o window
some_listed t s place window None none = absurd (cc)
some_listed t s place window (Some content) none = of_range (is_out_of_range content.runs window) none
  where
    of_listed : (xs : List Timing) → listed_in window content.runs ≡ xs → faults_of_count true t s place (Ok (length xs)) ≡ []
        → IsListed (Some content) window
    of_listed [] e none = absurd (cc)
    of_listed (x ∷ xs) e none = record { content = content; is = refl; first = x; others = xs; listed = e }

    of_range : (out : Bool) → faults_of_count true t s place (cond out (Err Range) (Ok (length (listed_in window content.runs)))) ≡ []
        → IsListed (Some content) window
    of_range true none = absurd (cc)
    of_range false none = of_listed (listed_in window content.runs) refl none

-- ---- durations

durations_within : (xs : List Timing) (ds : List ℕ) → All (λ x. x.duration ≤ greatest ds) (with_durations xs ds)
durations_within [] ds = All-nil (λ (x : PrintedTiming). x.duration ≤ greatest ds)
durations_within (x ∷ xs) [] = All-nil (λ (x : PrintedTiming). x.duration ≤ 0)
durations_within (x ∷ xs) (d ∷ ds) =
    All-cons (λ (x : PrintedTiming). x.duration ≤ max d (greatest ds)) (record { times = x; duration = d }) (with_durations xs ds)
    (omega arith)
    (All-weaker (λ (x : PrintedTiming). x.duration ≤ greatest ds) (λ (x : PrintedTiming). x.duration ≤ max d (greatest ds))
    (λ x less. omega arith) (with_durations xs ds) (durations_within xs ds))

greatest_at : (f : ℕ → ℕ) (begin n at : ℕ) → begin ≤ at → at < begin + n → f at ≤ greatest (map f (range_with_len begin n))
greatest_at f begin zero at low high = absurd (omega arith)
greatest_at f begin (suc n) at low high = elim (cases_lt begin at) [
  | inl less ↦ let later = greatest_at f (begin + 1) n at (omega arith) (omega arith) in omega (arith, later)
  | inr most ↦ let same : at ≡ begin = omega arith in rw same (omega arith)
]

target_short : (unit units : ℕ) → units / unit < 10 ^ 20 → IsShortNumber (target_of unit units)
target_short unit units short = elim (cases_Bool (nat_le unit (2 * (units % unit)))) [
  | inl up ↦ rw up (omega arith)
  | inr down ↦ rw down (omega arith)
]

-- ---- sections one after another

within : (timeline : SegmentTimeline) (map : Part) (section : ℕ) (xs : List PrintedTiming) (former : Item) (later : List Item)
    → ((x : PrintedTiming) → IsNext former (item_at timeline map section x))
    → ((g : Item) → g.section ≤ section → GoOn g later) → former.section ≤ section → GoOn former (items_at timeline map section xs ++ later)
within timeline map section [] former later next on less = on former less
within timeline map section (x ∷ xs) former later next on less = (
  next x,
  within timeline map section xs (item_at timeline map section x) later
      (λ y. record { section = omega arith; map = λ same. refl }) on (omega arith),
)

module _ (p : Presented) (unit t : ℕ) where
  abbrev from : ℕ → ℕ → List Item
  from begin n = flat_map (section_items p unit t) (range_with_len begin n)

  section_follows : (section : ℕ) (listed : List Timing) (o : Option Content) (former : Item) (later : List Item)
      → former.section < section → ((g : Item) → g.section ≤ section → GoOn g later)
      → GoOn former (option_map_or (content_items unit section listed) o [] ++ later)
  section_follows section listed None former later less on = on former (omega arith)
  section_follows section listed (Some content) former later less on =
      within content.runs content.initialization section (printed_timings unit listed) former later
      (λ x. record { section = omega arith; map = λ same. absurd (omega arith) }) on (omega arith)

  follow : (begin n : ℕ) (former : Item) → former.section < begin → GoOn former (from begin n)
  follow begin zero former less = tt
  follow begin (suc n) former less =
      section_follows begin (listed_at p begin t) (content_at p begin t) former (from (begin + 1) n) less
      (λ g low. follow (begin + 1) n g (omega arith))

-- ---- a track's segments

same_sections : (digits : ℕ) (items : List Item) → map (segment_of 0 0 digits) items
    ≡ map (λ item. segment_in item.section digits item) items
same_sections digits [] = refl
same_sections digits (item ∷ items) =
    let section : 0 + (item.section - 0) ≡ item.section = omega arith in
    ap (λ s. segment_in s digits item ∷ map (segment_of 0 0 digits) items) section
    ∙ ap (λ others. segment_in item.section digits item ∷ others) (same_sections digits items)

record IsTrackList (digits : ℕ) (items : List Item) : Type 0 where
  order : AreInOrder items
  same : segments_of 0 digits items ≡ map (λ item. segment_in item.section digits item) items

module _ (p : Presented) (digits t : ℕ) (less : t < length p.tracks) (is : IsReadableTrack p digits t) where
  abbrev unit : ℕ
  unit = 10 ^ digits

  faultless : count_faults p ≡ []
  unfolding verified
  faultless = none_first (count_faults p) (url_faults p) (none_before (count_faults p ++ url_faults p) _ is.verified.longest is.verified.is)

  first_listed : 0 < length p.sections → IsListed (content_at p 0 t) (window_of p 0)
  first_listed some =
      let tracks = none_first (flat_map (track_faults p) (tracks_of p)) (limit_faults (is_over p)) faultless in
      let track = none_first (flat_map (section_faults p t) (sections_of p)) (whole_track_faults p t)
      (none_within (track_faults p) (length p.tracks) t tracks less) in
      let section : section_faults p t 0 ≡ [] = none_within (section_faults p t) (length p.sections) 0 track some in
      some_listed t 0 (place_at p t 0) (window_of p 0) (content_at p 0 t) (rw is.finished at section)

  readable_content : (i : ℕ) (content : Content) → slice_get p.contents i ≡ Some content → IsReadableContent content
  readable_content i content e =
      subst IsReadableContent (get_or_from_slice_get p.contents i content content e)
      (is.contents i content (slice_get_within p.contents i content e))

  item_readable : (content : Content) (section : ℕ) (x : PrintedTiming) → IsReadableContent content → HasAddress content.runs x.times
      → x.duration ≤ longest_of p unit t
      → IsReadableItem digits (item_at content.runs content.initialization section x)
  item_readable content section x readable has low = record {
    part = subst (λ (r : Result Part ListFault). IsReadablePart (part_or_none r)) (sym has.1) (readable.parts x.times has.0 has.1);
    map = readable.initialization;
    short = let less : x.duration / unit ≤ longest_of p unit t / unit = le-div (x.duration / unit) (longest_of p unit t) unit
        (one-le-pow digits 10 (omega arith)) (omega (arith, div-mul-le_self x.duration unit, low)) in omega (arith, less, is.short);
  }

  section_readable : (s : ℕ) → s < length p.sections → All (IsReadableItem digits) (section_items p unit t s)
  section_readable s inside = of_content (content_at p s t) refl (have_addresses p unit s t is.verified.longest is.verified.is inside less)
    where
      low : All (λ x. x.duration ≤ longest_of p unit t) (printed_timings unit (listed_at p s t))
      low k d inside' = let at = durations_within (listed_at p s t) (durations_of unit (listed_at p s t)) k d inside' in
          omega (arith, at, greatest_at (longest_at p unit t) 0 (length p.sections) s (omega arith) (omega (arith, inside)))

      of_content : (o : Option Content) → content_at p s t ≡ o
          → IfSome o (λ content. All (λ x. HasAddress content.runs x.times) (printed_timings unit (listed_at p s t)))
          → All (IsReadableItem digits) (option_map_or (content_items unit s (listed_at p s t)) o [])
      of_content None e has = All-nil (IsReadableItem digits)
      of_content (Some content) e has =
          All-map (IsReadableItem digits) (item_at content.runs content.initialization s) (printed_timings unit (listed_at p s t))
          (λ k d inside'. item_readable content s (slice_index_or (printed_timings unit (listed_at p s t)) k d)
          (readable_content (s * length p.tracks + t) content e) (has k d inside') (low k d inside'))

  sections_readable : (begin n : ℕ) → begin + n ≤ length p.sections → All (IsReadableItem digits) (from p unit t begin n)
  sections_readable begin zero few = All-nil (IsReadableItem digits)
  sections_readable begin (suc n) few =
      All-append (IsReadableItem digits) (section_items p unit t begin) (from p unit t (begin + 1) n)
      (section_readable begin (omega arith)) (sections_readable (begin + 1) n (omega arith))

  track_list : (n : ℕ) → length p.sections ≡ n → IsTrackList digits (from p unit t 0 n)
  track_list zero e = record { order = tt; same = refl }
  track_list (suc n) e =
      let first = first_listed (omega arith) in
      let x = first.first in
      let xs = first.others in
      let content = first.content in
      let later = from p unit t 1 n in
      let printed = printed_timings unit (x ∷ xs) in
      let items : section_items p unit t 0 ≡ items_at content.runs content.initialization 0 printed = rw (first.is, first.listed) refl in
      rw items (record {
        order = within content.runs content.initialization 0 _ _ later (λ y. record { section = omega arith; map = λ same. refl })
            (λ g low. follow p unit t 1 n g (omega arith)) (omega arith);
        same = same_sections digits (items_at content.runs content.initialization 0 printed ++ later);
      })

-- ---- target durations

short_max : (m n : ℕ) → IsShortNumber m → IsShortNumber n → IsShortNumber (max m n)
short_max m n first second = grind (arith, nat_tests)

module _ (p : Presented) (digits : ℕ) (shorts : (t : ℕ) → t < length p.tracks → AreShort p digits t) where
  own_short : (t : ℕ) → t < length p.tracks → IsShortNumber (own_target p (10 ^ digits) t)
  own_short t less = target_short (10 ^ digits) (longest_of p (10 ^ digits) t) (shorts t less)

  greatest_short : (most place : ℕ) (tracks : List Track) → place + length tracks ≤ length p.tracks → IsShortNumber most
      → IsShortNumber (greatest_from (own_target p (10 ^ digits)) most place tracks)
  greatest_short most place [] few so_far = so_far
  greatest_short most place (track ∷ tracks) few so_far = elim (cases_Bool (is_of Text track.kind)) [
    | inl is ↦ rw is (greatest_short most (place + 1) tracks (omega (arith, few)) so_far)
    | inr isnt ↦ rw isnt (greatest_short (max most (own_target p (10 ^ digits) place)) (place + 1) tracks (omega (arith, few))
        (short_max most (own_target p (10 ^ digits) place) so_far (own_short place (omega (arith, few)))))
  ]

  shared_short : IsShortNumber (shared_target p (10 ^ digits))
  shared_short = greatest_short 0 0 p.tracks (omega arith) (omega arith)

targets_short : (targets : Targets) (p : Presented) (digits t : ℕ) → t < length p.tracks → AreShort p digits t
    → AreShortFor targets p digits → IsShortNumber (target_in targets p (10 ^ digits) t)
targets_short Own p digits t less short shorts = target_short (10 ^ digits) (longest_of p (10 ^ digits) t) short
targets_short Shared p digits t less short shorts = elim (cases_Bool (is_text p.tracks t)) [
  | inl is ↦ rw is (own_short p digits shorts t less)
  | inr isnt ↦ rw isnt (shared_short p digits shorts)
]

pub all_short : (targets : Targets) (p : Presented) (digits : ℕ) → ((t : ℕ) → t < length p.tracks → AreShort p digits t)
    → AreShortFor targets p digits
all_short Own p digits shorts = tt
all_short Shared p digits shorts = shorts

pub tracks_are_read : TracksAreRead
unfolding media_text
tracks_are_read place targets p digits t url spells less is shorts =
    let unit = 10 ^ digits in
    let list = track_list p digits t less is (length p.sections) refl in
    let read = finished_are_read place (target_in targets p unit t) digits (track_items p unit t) url spells
    (targets_short targets p digits t less is.short shorts)
    (record { few = is.few; each = sections_readable p digits t less is 0 (length p.sections) (omega arith); order = list.order }) in (
      read.0,
      (
        read.1.0,
        read.1.1 ∙ ap (λ segments. record {
          target = target_in targets p unit t;
          sequence = 0;
          ended = true;
          segments = segments;
        }) list.same,
      ),
    )
