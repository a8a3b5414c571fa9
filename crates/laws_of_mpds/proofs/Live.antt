-- The text of a live MPD is read as it was written.
use Rattle.std.proofs.Common.{◌≡◌, ℕ, zero, suc, ◌+◌, ◌<◌, Bool, true, false, not, List, [], ◌∷◌, ◌++◌, length, map, slice_get}
use Rattle.std.proofs.Common.{codes, decimal, All, Some, None, option_map, option_and_then, if◌then◌else◌, refl, sym, ◌∙◌, ap, subst}
use Rattle.std.proofs.{Common.arith, lemmas.List.length-map, lemmas.Option.{get_or_from_slice_get, slice_get_within}}
use Rattle.std.specs.{Prelude.ℤ, List.AllByRecursion, Result.result_ok}
use Rattle.iso_time.specs.{Civil.instant_text, Duration.duration_text, Instant.IsReadable as IsReadableInstant}
use Rattle.iso_time.specs.Laws.{DurationsAreReadAgain, InstantsAreReadAgain, floor_millis}
use Rattle.mpd_tree.specs.{Meaning.reading_of, Characters.{starts_name, goes_on_name}}
use Rattle.mpd_tree.specs.Placed.{past, IsLegalTag, PrintedAreRead, root_place}
use Rattle.mpd_profile.specs.Heads.{is_word}
use Rattle.mpd_rules.specs.{Readings.instant_in, Rules.dash_values}
use Rattle.segment_forms.specs.declared.form.Form.{Form}
use Rattle.dash_writer.specs.Elements.{Attribute, tag_of}
use Rattle.dash_writer.specs.Live.{first_time, growing_root, last_live_end, live_list, live_lists, live_outline, live_period, live_root}
use Rattle.dash_writer.specs.{Live.{live_text, part_of}, Manifest.finished_root, Outline.{heads_from, root_element}, Values.seconds_text}
use Rattle.dash_writer.specs.{declared.live.LiveMpd.LiveMpd, declared.live.LivePeriod.LivePeriod, declared.live.LiveRun.LiveRun}
use Rattle.dash_writer.specs.declared.live.LiveSegment.{LiveSegment}
use Rattle.laws_of_mpds.specs.Live.{IsReadableMpd, IsReadablePeriod, IsReadableRun, LiveTextsAreRead, durations_in, live_shown, live_told}
use Rattle.laws_of_mpds.specs.{Live.{told_in, until_ended}, Shown.shown_of, Texts.IsTellable, Told.{IsShort, read_at}}
use Rattle.laws_of_mpds.proofs.Fine.{AreFine, ArePrintable, by_recursion, fine_segments, finished_legal, number, root_legal}
use Rattle.laws_of_mpds.proofs.{Given.all_readable, Legal.{IsFine, legal_tag}, Plain.{carried, duration_plain, seconds_plain}}
use Rattle.laws_of_mpds.proofs.{Reading.{instant_plain, instant_read}, Representations.HasAll, Shown.{AreTold, TellsRoot, outline_shown}}
use Rattle.laws_of_mpds.proofs.Views.{value_in, value_read}

-- ---- what a track has in a Period

pub some_at : {X : Type 0} (xs : List X) (i : ℕ) → i < length xs → (x : X) × (slice_get xs i ≡ Some x)
some_at [] i within = absurd (omega arith)
some_at (x ∷ xs) zero within = (x, refl)
some_at (x ∷ xs) (suc i) within = some_at xs i (omega arith)

pub at_index : {X : Type 0} (P : X → Type 0) (xs : List X) (i : ℕ) (x : X) → All P xs → slice_get xs i ≡ Some x → P x
at_index P xs i x all is = subst P (get_or_from_slice_get xs i x x is) (all i x (slice_get_within xs i x is))

-- the run of the track at a place in the Period at a place
pub record HasRun (form : Form) (mpd : LiveMpd) (section place : ℕ) : Type 0 where
  pub run : LiveRun
  pub readable : IsReadableRun run
  pub there : option_and_then (λ (period : LivePeriod). slice_get period.runs place) (slice_get mpd.periods section) ≡ Some run
  listed : live_lists form mpd section place ≡ live_list form run ∷ []
  pub told : told_in form mpd section place ≡ Some (live_told form run)

pub run_of : (form : Form) (mpd : LiveMpd) (section : ℕ) (period : LivePeriod) (place : ℕ) → IsReadableMpd mpd
    → slice_get mpd.periods section ≡ Some period
    → place < length mpd.tracks → HasRun form mpd section place
run_of form mpd section period place readable at within =
    let p = at_index IsReadablePeriod mpd.periods section period readable.periods at in
    let filled = at_index (λ (period : LivePeriod). length period.runs
    ≡ length mpd.tracks) mpd.periods section period readable.live.filled at in
    let r = some_at period.runs place (omega (arith, filled)) in
    record {
      run = r.0;
      readable = at_index IsReadableRun period.runs place r.0 p.runs r.1;
      there = ap (option_and_then (λ (period : LivePeriod). slice_get period.runs place)) at ∙ r.1;
      listed = rw (at, r.1) refl;
      told = rw (at, r.1) refl;
    }

has_runs : (form : Form) (mpd : LiveMpd) (section : ℕ) (period : LivePeriod) → IsReadableMpd mpd
    → slice_get mpd.periods section ≡ Some period
    → HasAll form (live_lists form mpd section) (told_in form mpd section) 0 (length mpd.tracks)
has_runs form mpd section period readable at i from below =
    let h = run_of form mpd section period i readable at (omega (arith, below)) in
    let few : IsShort (length (durations_in h.run)) =
    subst IsShort (sym (length-map h.run.segments (λ (segment : LiveSegment). segment.duration))) h.readable.few in
    record {
      ticks = h.run.scale;
      offset = h.run.offset;
      first = first_time h.run.segments;
      initialization = h.run.initialization;
      durations = durations_in h.run;
      parts = map part_of h.run.segments;
      is = h.listed;
      readable = record {
        ticks = h.readable.scale;
        offset = h.readable.offset;
        first = h.readable.first;
        initialization = h.readable.initialization.readable;
        durations = h.readable.durations;
        few = few;
        parts = all_readable (map part_of h.run.segments) h.readable.parts;
      };
      tells = h.told;
    }

fine_runs : (form : Form) (mpd : LiveMpd) (section : ℕ) (period : LivePeriod) → IsReadableMpd mpd
    → slice_get mpd.periods section ≡ Some period
    → AreFine (live_lists form mpd section) 0 (length mpd.tracks)
fine_runs form mpd section period readable at i from below =
    let h = run_of form mpd section period i readable at (omega (arith, below)) in
    subst (AllByRecursion (IsFine 2)) (sym h.listed) (
      fine_segments form h.run.scale h.run.offset (first_time h.run.segments) h.run.initialization (durations_in h.run) (map part_of h.run.segments)
          h.readable.initialization h.readable.parts,
      tt,
    )

-- ---- Periods

abbrev id_of : ℕ → LivePeriod → List ℕ
id_of place period = decimal period.number

abbrev start_of : LivePeriod → ℕ
start_of period = period.start

-- the Periods from a place on
abbrev AreAt : LiveMpd → (place : ℕ) → List LivePeriod → Type 0
AreAt mpd place periods = (i : ℕ) → slice_get mpd.periods (place + i) ≡ slice_get periods i

first_at : (mpd : LiveMpd) (place : ℕ) (period : LivePeriod) (periods : List LivePeriod) → AreAt mpd place (period ∷ periods)
    → slice_get mpd.periods place ≡ Some period
first_at mpd place period periods are = let e : place ≡ place + 0 = omega arith in ap (slice_get mpd.periods) e ∙ are 0

next_at : (mpd : LiveMpd) (place : ℕ) (period : LivePeriod) (periods : List LivePeriod) → AreAt mpd place (period ∷ periods)
    → AreAt mpd (place + 1) periods
next_at mpd place period periods are i =
    let e : place + 1 + i ≡ place + suc i = omega arith in ap (slice_get mpd.periods) e ∙ are (suc i)

are_told : (form : Form) (mpd : LiveMpd) (place : ℕ) (periods : List LivePeriod) → IsReadableMpd mpd → AreAt mpd place periods
    → AreTold form live_period id_of start_of (told_in form mpd) (live_outline form mpd) place periods
are_told form mpd place [] readable are = tt
are_told form mpd place (period ∷ periods) readable are =
    let at = first_at mpd place period periods are in (
      record { id = refl; start = refl; low = (at_index IsReadablePeriod mpd.periods place period readable.periods at).start },
      has_runs form mpd place period readable at,
      are_told form mpd (place + 1) periods readable (next_at mpd place period periods are),
    )

live_period_legal : (place : ℕ) (period : LivePeriod) → IsLegalTag (tag_of (codes "Period") (live_period place period))
unfolding starts_name goes_on_name
live_period_legal place period = legal_tag (codes "Period") (live_period place period) refl refl
    (number period.number, (carried (duration_text period.start) (duration_plain period.start), (tt, tt)))

printable : (form : Form) (mpd : LiveMpd) (place : ℕ) (periods : List LivePeriod) → IsReadableMpd mpd → AreAt mpd place periods
    → ArePrintable (live_outline form mpd) place (heads_from live_period place periods)
printable form mpd place [] readable are = tt
printable form mpd place (period ∷ periods) readable are = (
  live_period_legal place period,
  fine_runs form mpd place period readable (first_at mpd place period periods are),
  printable form mpd (place + 1) periods readable (next_at mpd place period periods are),
)

-- ---- the root

abbrev root_by : LiveMpd → Bool → List Attribute
root_by mpd ended = if ended then finished_root (last_live_end mpd.periods)
    else growing_root (instant_text mpd.start) (instant_text mpd.published) mpd.target

dynamic_in : (mpd : LiveMpd) (ended : Bool) → is_word (codes "dynamic") (value_in (codes "type") (root_by mpd ended)) ≡ not ended
dynamic_in mpd true = refl
dynamic_in mpd false = refl

begins_in : (mpd : LiveMpd) (ended : Bool) → InstantsAreReadAgain → IsReadableInstant mpd.start
    → option_and_then instant_in (value_in (codes "availabilityStartTime") (root_by mpd ended))
    ≡ (if ended then None else Some (floor_millis mpd.start))
begins_in mpd true again readable = refl
begins_in mpd false again readable = instant_read again mpd.start readable

made_in : (mpd : LiveMpd) (ended : Bool) → InstantsAreReadAgain → IsReadableInstant mpd.published
    → option_and_then instant_in (value_in (codes "publishTime") (root_by mpd ended))
    ≡ (if ended then None else Some (floor_millis mpd.published))
made_in mpd true again readable = refl
made_in mpd false again readable = instant_read again mpd.published readable

tells_root : (form : Form) (mpd : LiveMpd) → InstantsAreReadAgain → IsReadableMpd mpd
    → TellsRoot (live_outline form mpd) (not mpd.ended) (until_ended mpd mpd.start) (until_ended mpd mpd.published)
tells_root form mpd again readable =
    let inside = past root_place (codes "<" ++ codes "MPD") in
    record {
      live = ap (is_word (codes "dynamic")) (value_read (codes "type") (live_root mpd) inside) ∙ dynamic_in mpd mpd.ended;
      begins = ap (option_and_then instant_in) (value_read (codes "availabilityStartTime") (live_root mpd) inside)
          ∙ begins_in mpd mpd.ended again readable.start;
      made = ap (option_and_then instant_in) (value_read (codes "publishTime") (live_root mpd) inside)
          ∙ made_in mpd mpd.ended again readable.published;
    }

growing_legal : (start published : ℤ) (target : ℕ)
    → IsLegalTag (tag_of (codes "MPD") (growing_root (instant_text start) (instant_text published) target))
unfolding starts_name goes_on_name
growing_legal start published target = legal_tag (codes "MPD") (growing_root (instant_text start)
    (instant_text published) target) refl refl (
      carried (codes "urn:mpeg:dash:schema:mpd:2011") refl,
      (
        carried (codes "urn:mpeg:dash:profile:full:2011") refl,
        (
          carried (codes "dynamic") refl,
          (
            carried (instant_text start) (instant_plain start),
            (
              carried (instant_text published) (instant_plain published),
              (carried (seconds_text target) (seconds_plain target), (carried (codes "PT2S") refl, tt)),
            ),
          ),
        ),
      ),
    )

live_root_legal : (mpd : LiveMpd) (ended : Bool) → IsLegalTag (tag_of (codes "MPD") (root_by mpd ended))
live_root_legal mpd true = finished_legal (last_live_end mpd.periods)
live_root_legal mpd false = growing_legal mpd.start mpd.published mpd.target

-- ---- the whole

same_periods : (mpd : LiveMpd) → AreAt mpd 0 mpd.periods
same_periods mpd i = let e : 0 + i ≡ i = omega arith in ap (slice_get mpd.periods) e

-- what is told of the tree is told of the text
pub of_text : PrintedAreRead → (form : Form) (mpd : LiveMpd) → IsReadableMpd mpd
    → result_ok (reading_of (live_text form mpd)) ≡ Some (read_at root_place (root_element (live_outline form mpd)))
unfolding live_text
of_text printed form mpd readable =
    let o = live_outline form mpd in
    ap result_ok (printed (root_element o).0 (root_element o).1 (root_legal o (live_root_legal mpd mpd.ended)
    (printable form mpd 0 mpd.periods readable (same_periods mpd)) (by_recursion IsTellable mpd.tracks readable.tracks)))

pub tree_shown : DurationsAreReadAgain → InstantsAreReadAgain → (form : Form) (mpd : LiveMpd) → IsReadableMpd mpd
    → shown_of (dash_values (read_at root_place (root_element (live_outline form mpd)))) ≡ live_shown form mpd
tree_shown durations instants form mpd readable =
    outline_shown durations form live_period id_of start_of (told_in form mpd) (live_outline form mpd) mpd.periods (not mpd.ended)
    (until_ended mpd mpd.start) (until_ended mpd mpd.published) refl (tells_root form mpd instants readable)
    (are_told form mpd 0 mpd.periods readable (same_periods mpd))

pub live_texts : PrintedAreRead → DurationsAreReadAgain → InstantsAreReadAgain → LiveTextsAreRead
live_texts printed durations instants form mpd readable =
    ap (option_map (λ tree. shown_of (dash_values tree))) (of_text printed form mpd readable)
    ∙ ap Some (tree_shown durations instants form mpd readable)
