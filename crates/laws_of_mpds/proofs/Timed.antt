-- The text of an MPD with the times of its files means what they tell.
use Rattle.std.proofs.Common.{◌≡◌, ℕ, zero, suc, ◌+◌, ◌-◌, ◌*◌, ◌^◌, ◌<◌, ◌≤◌, false, List, [], ◌∷◌, ◌++◌, length, drop, codes, slice_get}
use Rattle.std.proofs.Common.{All}
use Rattle.std.proofs.{Common.{Option, Some, None, option_map, refl, sym, ◌∙◌, ap, subst, arith}, lemmas.List.Sums.sum_by-cons}
use Rattle.std.specs.{Prelude.{decimal, sum, option_and_then, option_to_list}, List.AllByRecursion, Result.result_ok}
use Rattle.iso_time.specs.Laws.{DurationsAreReadAgain}
use Rattle.timeline.specs.declared.window.Window.{Window}
use Rattle.mpd_tree.specs.{Meaning.reading_of, Placed.{past, PrintedAreRead, root_place}}
use Rattle.mpd_profile.specs.Heads.{is_word}
use Rattle.mpd_rules.specs.{Readings.instant_in, Rules.dash_values}
use Rattle.presentation.specs.{declared.parts.Content.Content, declared.track.Section.Section}
use Rattle.presentation.specs.{Presented.{Presented, content_at, window_of}, Meanings.{entry_of}}
use Rattle.mpd_presentation.specs.Meanings.{content_meant, dash_meaning, meaning_if_counted}
use Rattle.segment_forms.specs.{declared.form.Form.Form, Media.{LiteralsName, TemplatesName}}
use Rattle.dash_writer.specs.{Forms.segments_with, Manifest.{last_end, period_attributes, root_attributes}, Outline.root_element}
use Rattle.dash_writer.specs.Timed.{CanBeCounted, lengths, sections_from, timed_list, timed_lists, timed_outline, timed_sections}
use Rattle.dash_writer.specs.{Timed.timed_text, declared.timed.TickRun.TickRun}
use Rattle.laws_of_mpds.specs.{Contents.{IsOwnPart, IsPlain, IsPlainFrom}, Meant.IsWritable, Shown.shown_of, Texts.IsTellable}
use Rattle.laws_of_mpds.specs.Timed.{AreTimesOf, IsTimed, TimedTextsAreRead, TimedTextsMean, content_with, contents_with, files_of}
use Rattle.laws_of_mpds.specs.{Timed.{run_told, timed_as, told_in}, Told.{IsShort, read_at, segments_told}}
use Rattle.laws_of_mpds.proofs.{Contents.{contents_seen, parts_are}, Fine.{AreFine, by_recursion, fine_segments, finished_legal}}
use Rattle.laws_of_mpds.proofs.{Fine.root_legal, Given.{HasPlain, all_readable, fits, form_counted, has_plain}, Legal.IsFine}
use Rattle.laws_of_mpds.proofs.{Live.{at_index, some_at}, Meanings.Gives, Periods.{AreMeant, entry_through, outline_means, window_is}}
use Rattle.laws_of_mpds.proofs.Representations.{Has}
use Rattle.laws_of_mpds.proofs.{Shown.{AreTold, TellsRoot, outline_shown}, Texts.printable, Views.value_read}

-- ---- numbers below a sum of theirs

each_short : (ds : List ℕ) → sum ds < 2 ^ 63 → AllByRecursion IsShort ds
each_short [] low = tt
each_short (d ∷ ds) low =
    let is = sum_by-cons (λ (n : ℕ). n) d ds in
    (omega (arith, is), each_short ds (omega (arith, is)))

few_short : (ds : List ℕ) → AllByRecursion (λ d. 0 < d) ds → length ds ≤ sum ds
few_short [] lasting = omega arith
few_short (d ∷ ds) lasting =
    let is = sum_by-cons (λ (n : ℕ). n) d ds in
    let more = few_short ds lasting.1 in
    let some = lasting.0 in
    omega (arith, is, more, some)

-- ---- what a track has in a section

pub record HasRun (p : Presented) (times : List TickRun) (s k : ℕ) : Type 0 where
  pub content : Content
  pub run : TickRun
  pub there : content_at p s k ≡ Some content
  pub timed : slice_get times (s * length p.tracks + k) ≡ Some run
  pub plain : IsPlain content
  pub times_of : AreTimesOf content run
  pub counted : CanBeCounted run

pub has_run : (p : Presented) (times : List TickRun) (s k : ℕ) → IsWritable p → IsTimed p times → s < length p.sections
    → k < length p.tracks
    → HasRun p times s k
has_run p times s k w t in_sections in_tracks =
    let has : HasPlain p s k = has_plain p s k w in_sections in_tracks in
    let i = s * length p.tracks + k in
    let filled = t.can.filled in
    let r = some_at times i (omega (arith, filled, fits s k (length p.sections) (length p.tracks) in_sections in_tracks)) in
    record {
      content = has.0;
      run = r.0;
      there = has.1;
      timed = r.1;
      plain = has.2;
      times_of = t.each i has.0 r.0 has.1 r.1;
      counted = at_index CanBeCounted times i r.0 t.can.counted r.1;
    }

module _ (form : Form) (p : Presented) (times : List TickRun) (s k : ℕ) (finished : p.following ≡ None) (h : HasRun p times s k) where
  list_is : timed_lists form p times s k
      ≡ segments_with form h.run.scale (Some h.run.offset) h.run.first h.content.initialization h.run.durations (files_of h.content) ∷ []
  list_is =
      let i = s * length p.tracks + k in
      ap (λ (o : Option Content). option_to_list (option_and_then (λ (c : Content). option_map (timed_list form (window_of p s) c)
      (slice_get times i)) o)) h.there
      ∙ ap (λ (o : Option TickRun). option_to_list (option_map (timed_list form (window_of p s) h.content) o)) h.timed
      ∙ ap (λ (window : Window). timed_list form window h.content h.run ∷ []) (window_is p s finished)

  told_is : told_in form p times s k ≡ Some (run_told form h.content h.run)
  told_is =
      let i = s * length p.tracks + k in
      ap (option_and_then (λ (c : Content). option_map (run_told form c) (slice_get times i))) h.there
      ∙ ap (option_map (run_told form h.content)) h.timed

  pub own_files : AllByRecursion IsOwnPart (files_of h.content)
  own_files = subst (AllByRecursion IsOwnPart) (sym (parts_are h.content h.plain)) h.plain.own

  has_list : Has form (timed_lists form p times s) (told_in form p times s) k
  has_list =
      let ends = h.counted.ends in
      let begins = h.counted.begins in
      let few = few_short h.run.durations h.times_of.lasting in
      record {
        ticks = h.run.scale;
        offset = Some h.run.offset;
        first = h.run.first;
        initialization = h.content.initialization;
        durations = h.run.durations;
        parts = files_of h.content;
        is = list_is;
        readable = record {
          ticks = h.times_of.scale;
          offset = omega (arith, begins, ends);
          first = omega (arith, ends);
          initialization = h.plain.initialization.readable;
          durations = each_short h.run.durations (omega (arith, ends));
          few = omega (arith, ends, few);
          parts = all_readable (files_of h.content) own_files;
        };
        tells = told_is;
      }

  fine : AllByRecursion (IsFine 2) (timed_lists form p times s k)
  fine = subst (AllByRecursion (IsFine 2)) (sym list_is) (
    fine_segments form h.run.scale (Some h.run.offset) h.run.first h.content.initialization h.run.durations
        (files_of h.content) h.plain.initialization
        own_files,
    tt,
  )

  -- the content with these times
  abbrev pub from_first : IsPlainFrom (h.run.first - h.run.offset) (content_with h.content h.run)
  from_first = record {
    parts = files_of h.content;
    durations = h.run.durations;
    named = refl;
    members = refl;
    paired = h.times_of.one_each;
    positive = h.counted.scale;
    lasting = h.times_of.lasting;
    initialization = h.plain.initialization;
    own = own_files;
  }

-- contents with times, by their places
pub content_is : (contents : List Content) (times : List TickRun) (i : ℕ) (c : Content) (run : TickRun) → slice_get contents i ≡ Some c
    → slice_get times i ≡ Some run → slice_get (contents_with contents times) i ≡ Some (content_with c run)
content_is [] times i c run one two = absurd (cc)
content_is (x ∷ contents) [] i c run one two = absurd (cc)
content_is (x ∷ contents) (t ∷ times) zero c run one two =
    (let a : x ≡ c = cc in let b : t ≡ run = cc in
    ap (λ (x : Content). Some (content_with x t)) a ∙ ap (λ (t : TickRun). Some (content_with c t)) b)
content_is (x ∷ contents) (t ∷ times) (suc i) c run one two = content_is contents times i c run one two

gives : TemplatesName → LiteralsName → (form : Form) (p : Presented) (times : List TickRun) (s k : ℕ) → p.following ≡ None
    → HasRun p times s k → Gives (told_in form p times) (entry_through (timed_as p times)) s k
gives templates literals form p times s k finished h =
    let c = content_with h.content h.run in
    let there : content_at (timed_as p times) s k ≡ Some c =
    content_is p.contents times (s * length p.tracks + k) h.content h.run h.there h.timed in
    let from = h.run.first - h.run.offset in
    let plain = from_first form p times s k finished h in
    let begins : h.run.offset + from ≡ h.run.first = omega (arith, h.counted.begins) in
    record {
      segments = run_told form h.content h.run;
      tells = told_is form p times s k finished h;
      counted = form_counted form h.run.scale h.run.offset h.run.first h.content.initialization h.run.durations (files_of h.content)
          plain.positive;
      seen = λ window url end d bases.
          (ap (λ first. entry_of window (content_meant url end d (segments_told form h.run.scale h.run.offset first
          h.content.initialization h.run.durations (files_of h.content)))) (sym begins)
          ∙ contents_seen templates literals window form c h.run.offset from url end d plain bases
          ∙ sym (ap (option_and_then (entry_of window)) there));
    }

-- ---- sections

lengths_count : (tracks count : ℕ) (times : List TickRun) → length (lengths tracks count times) ≡ count
lengths_count tracks zero times = refl
lengths_count tracks (suc n) times = ap suc (lengths_count tracks n (drop tracks times))

sections_count : (start : ℕ) (ns : List ℕ) → length (sections_from start ns) ≡ length ns
sections_count start [] = refl
sections_count start (n ∷ ns) = ap suc (sections_count (start + n) ns)

pub as_many : (p : Presented) (times : List TickRun) → length (timed_sections p times) ≡ length p.sections
as_many p times = sections_count 0 (lengths (length p.tracks) (length p.sections) times)
    ∙ lengths_count (length p.tracks) (length p.sections) times

are_meant : TemplatesName → LiteralsName → (form : Form) (p : Presented) (times : List TickRun) → IsWritable p → IsTimed p times
    → AreMeant form (timed_as p times) (timed_lists form p times) (told_in form p times)
are_meant templates literals form p times w t =
    let count = as_many p times in
    let some = w.some in
    let run : (s k : ℕ) → s < length (timed_as p times).sections → k < length p.tracks → HasRun p times s k =
    λ s k in_sections in_tracks. has_run p times s k w t (omega (arith, count, in_sections)) in_tracks in
    record {
      finished = w.finished;
      some = omega (arith, count, some);
      ordered = w.ordered;
      has = λ s k in_sections in_tracks. has_list form p times s k w.finished (run s k in_sections in_tracks);
      gives = λ s k in_sections in_tracks. gives templates literals form p times s k w.finished (run s k in_sections in_tracks);
    }

fine_lists : (form : Form) (p : Presented) (times : List TickRun) (s : ℕ) → IsWritable p → IsTimed p times → s < length p.sections
    → AreFine (timed_lists form p times s) 0 (length p.tracks)
fine_lists form p times s w t within i from below =
    fine form p times s i w.finished (has_run p times s i w t within (omega (arith, below)))

-- ---- the text

-- what is told of the tree is told of the text
of_text : (form : Form) (p : Presented) (times : List TickRun) → IsWritable p → All IsTellable p.tracks → IsTimed p times → PrintedAreRead
    → result_ok (reading_of (timed_text form p times)) ≡ Some (read_at root_place (root_element (timed_outline form p times)))
unfolding timed_text
of_text form p times w told t printed =
    let o = timed_outline form p times in
    let count = as_many p times in
    ap result_ok
    (printed (root_element o).0 (root_element o).1 (root_legal o (finished_legal (last_end (timed_sections p times)))
    (printable (timed_as p times) (timed_lists form p times) 0 (timed_sections p times)
    (λ s below. fine_lists form p times s w t (omega (arith, count, below)))) (by_recursion IsTellable p.tracks told)))

pub texts_mean : TemplatesName → LiteralsName → PrintedAreRead → TimedTextsMean
unfolding dash_meaning
texts_mean templates literals printed form p times url now w told t =
    ap (option_and_then (λ tree. meaning_if_counted (dash_values tree) url now)) (of_text form p times w told t printed)
    ∙ outline_means form (timed_as p times) (timed_lists form p times) (told_in form p times)
    (are_meant templates literals form p times w t)
    url now

-- ---- what the text says

abbrev id_of : ℕ → Section → List ℕ
id_of place section = decimal place

abbrev start_of : Section → ℕ
start_of section = section.start

are_told : (form : Form) (p : Presented) (times : List TickRun) (place start : ℕ) (ns : List ℕ) → IsWritable p → IsTimed p times
    → place + length ns ≤ length p.sections → start + sum ns < 10 ^ 19
    → AreTold form period_attributes id_of start_of (told_in form p times) (timed_outline form p times) place (sections_from start ns)
are_told form p times place start [] w t within low = tt
are_told form p times place start (n ∷ ns) w t within low =
    let is = sum_by-cons (λ (n : ℕ). n) n ns in (
      record { id = refl; start = refl; low = omega (arith, is) },
      (λ k from below. has_list form p times place k w.finished (has_run p times place k w t (omega (arith, within))
          (omega (arith, below)))),
      are_told form p times (place + 1) (start + n) ns w t (omega (arith, within)) (omega (arith, is)),
    )

tells_root : (form : Form) (p : Presented) (times : List TickRun) → TellsRoot (timed_outline form p times) false None None
tells_root form p times =
    let inside = past root_place (codes "<" ++ codes "MPD") in
    let attributes = root_attributes (timed_sections p times) in
    record {
      live = ap (is_word (codes "dynamic")) (value_read (codes "type") attributes inside);
      begins = ap (option_and_then instant_in) (value_read (codes "availabilityStartTime") attributes inside);
      made = ap (option_and_then instant_in) (value_read (codes "publishTime") attributes inside);
    }

pub texts_read : PrintedAreRead → DurationsAreReadAgain → TimedTextsAreRead
texts_read printed durations form p times w told t =
    let o = timed_outline form p times in
    let ns = lengths (length p.tracks) (length p.sections) times in
    let count = lengths_count (length p.tracks) (length p.sections) times in
    let total = t.can.total in
    ap (option_map (λ tree. shown_of (dash_values tree))) (of_text form p times w told t printed)
    ∙ ap Some (outline_shown durations form period_attributes id_of start_of (told_in form p times) o
    (timed_sections p times) false None None refl
    (tells_root form p times) (are_told form p times 0 0 ns w t (omega (arith, count)) (omega (arith, total))))
