-- Both forms of a written MPD mean the same.
use Rattle.timeline.specs.declared.names.Names.TheVariants as names
use Rattle.std.proofs.Common.{◌≡◌, ℕ, ◌+◌, ◌<◌, max, List, [], ◌∷◌, length, map, slice_get, decimal, Option, Some, option_and_then, unwrap_or}
use Rattle.std.proofs.{Common.{refl, sym, ◌∙◌, ap, arith}, lemmas.List.length-map}
use Rattle.std.specs.{Prelude.ℤ, Option.option_map_or}
use Rattle.iso_time.specs.Laws.{DurationsAreReadAgain, InstantsAreReadAgain}
use Rattle.timeline.specs.{declared.window.Window.Window, Expansions.Closed}
use Rattle.meaning.specs.Meanings.{Entry, Meaning}
use Rattle.mpd_tree.specs.Placed.{PrintedAreRead, root_place}
use Rattle.mpd_levels.specs.Segments.{Segments}
use Rattle.mpd_rules.specs.{declared.facts.Facts.Facts, Rules.dash_values, Typed.TypedMpd}
use Rattle.presentation.specs.{declared.parts.Content.Content, declared.track.Track.Track, Presented.{whole_window, window_at}}
use Rattle.presentation.specs.Meanings.{entry_of, meaning_with}
use Rattle.mpd_presentation.specs.{Rows.Period, Told.following_of, Meanings.{content_meant, dash_meaning, meaning_if_counted}}
use Rattle.segment_forms.specs.{declared.form.Form.Form, declared.form.Form.TheVariants.{Plain, Players}, Media.LiteralsName}
use Rattle.segment_forms.specs.Media.{TemplatesName}
use Rattle.dash_writer.specs.{Live.{first_time, live_outline, live_text, part_of}, Outline.root_element, declared.live.LiveMpd.LiveMpd}
use Rattle.dash_writer.specs.{declared.live.LivePeriod.LivePeriod, declared.live.LiveRun.LiveRun, declared.live.LiveSegment.LiveSegment}
use Rattle.laws_of_mpds.specs.{Forms.{FormsMeanTheSame, LiveFormsMeanTheSame, TimedFormsMeanTheSame}, Live.{IsReadableMpd, durations_in}}
use Rattle.laws_of_mpds.specs.{Live.{live_told, told_in}, Texts.TextsMean, Timed.TimedTextsMean, Shown.{Shown, ShownPeriod, shown_period}}
use Rattle.laws_of_mpds.specs.{Shown.{shown_periods, shown_tracks}, Told.read_at}
use Rattle.laws_of_mpds.proofs.{Meanings.{AreTold, Gives, first_heads, mpd_meant, rows_in}, Contents.{form_given, given_same, own_parts}}
use Rattle.laws_of_mpds.proofs.{Given.form_counted, Live.{of_text, run_of, some_at, tree_shown}, Times.{length_row_at, row_at}}

-- ---- where both mean what the presentation means

pub texts_alike : TextsMean → FormsMeanTheSame
texts_alike texts p url now w told = texts Players p url now w told ∙ sym (texts Plain p url now w told)

pub timed_texts_alike : TimedTextsMean → TimedFormsMeanTheSame
timed_texts_alike texts p times url now w told t = texts Players p times url now w told t ∙ sym (texts Plain p times url now w told t)

-- ---- a live MPD

-- the segments of a track in a Period
abbrev content_of : LiveRun → Content
content_of run = record {
  initialization = run.initialization;
  runs = record {
    members = map Closed (row_at (max 1 run.scale) (unwrap_or run.offset 0) (first_time run.segments) (durations_in run));
    ticks = run.scale;
    origin = 0;
    offset = 0;
    first_number = 1;
    names = names.Addresses (map part_of run.segments);
  };
}

abbrev run_at : LiveMpd → (section place : ℕ) → Option LiveRun
run_at mpd section place = option_and_then (λ (period : LivePeriod). slice_get period.runs place) (slice_get mpd.periods section)

abbrev entry_at : LiveMpd → (section place : ℕ) → Window → Option Entry
entry_at mpd section place window = option_and_then (λ run. entry_of window (content_of run)) (run_at mpd section place)

module _ (templates : TemplatesName) (literals : LiteralsName) (form : Form) (mpd : LiveMpd) (readable : IsReadableMpd mpd) where
  run_gives : (s k : ℕ) → s < length mpd.periods → k < length mpd.tracks → Gives (told_in form mpd) (entry_at mpd) s k
  run_gives s k in_periods in_tracks =
      let p = some_at mpd.periods s in_periods in
      let h = run_of form mpd s p.0 k readable p.1 in_tracks in
      let first = first_time h.run.segments in
      let offset = unwrap_or h.run.offset 0 in
      let ds = durations_in h.run in
      let parts = map part_of h.run.segments in
      let paired : length ds ≡ length parts = length-map h.run.segments (λ (segment : LiveSegment). segment.duration)
      ∙ sym (length-map h.run.segments part_of) in
      let there : run_at mpd s k ≡ Some h.run = h.there in
      record {
        segments = live_told form h.run;
        tells = h.told;
        counted = form_counted form h.run.scale offset first h.run.initialization ds parts h.readable.some;
        seen = λ window url end d bases.
            (given_same window (content_of h.run) (content_meant url end d (live_told form h.run)) h.run.initialization
            (row_at (max 1 h.run.scale) offset first ds) parts
            (record { initialization = refl; members = refl; files = own_parts (content_of h.run).runs parts refl })
            (form_given templates literals h.run.scale offset first h.run.initialization ds parts url end d h.readable.initialization
            h.readable.parts bases form)
            (length_row_at (max 1 h.run.scale) offset first ds ∙ paired)
            ∙ sym (ap (option_and_then (λ run. entry_of window (content_of run))) there));
      }

abbrev window_for : Facts → Option ℤ → LivePeriod → Window
window_for facts now period = option_map_or (λ f. window_at f period.start) (following_of facts now) whole_window

-- Periods that are shown so are told so
are_told : (told : (section track : ℕ) → Option Segments) (tracks : List Track) (facts : Facts) (now : Option ℤ) (s : ℕ)
    (ps : List LivePeriod) (periods : List Period)
    → map shown_period periods
    ≡ shown_periods (λ place (p : LivePeriod). decimal p.number) (λ (p : LivePeriod). p.start) told tracks s ps
    → AreTold told tracks facts now s (map (window_for facts now) ps) periods
are_told told tracks facts now s [] [] shown = tt
are_told told tracks facts now s [] (period ∷ periods) shown = absurd (cc)
are_told told tracks facts now s (p ∷ ps) [] shown = absurd (cc)
are_told told tracks facts now s (p ∷ ps) (period ∷ periods) shown =
    let here : shown_period period ≡ record { id = Some (decimal p.number); start = p.start; tracks = shown_tracks (told s) 0 tracks } =
    cc in (
      ap (λ (x : ShownPeriod). x.tracks) here,
      ap (λ start. option_map_or (λ f. window_at f start) (following_of facts now) whole_window) (ap (λ (x : ShownPeriod). x.start) here),
      are_told told tracks facts now (s + 1) ps periods (cc),
    )

module _ (templates : TemplatesName) (literals : LiteralsName) (printed : PrintedAreRead) (durations : DurationsAreReadAgain)
    (instants : InstantsAreReadAgain) (mpd : LiveMpd) (url : List ℕ) (now : Option ℤ) (readable : IsReadableMpd mpd) where
  abbrev typed : Form → TypedMpd (Option Segments)
  typed form = dash_values (read_at root_place (root_element (live_outline form mpd)))

  -- by what its root says
  abbrev meant : Facts → Meaning
  meant facts = let windows = map (window_for facts now) mpd.periods in
      meaning_with (first_heads (entry_at mpd) mpd.tracks windows) (rows_in (entry_at mpd) mpd.tracks 0 windows)

  form_means : (form : Form) → dash_meaning (live_text form mpd) url now ≡ Some (meant (typed form).facts)
  unfolding dash_meaning
  form_means form =
      ap (option_and_then (λ tree. meaning_if_counted (dash_values tree) url now)) (of_text printed form mpd readable)
      ∙ mpd_meant (told_in form mpd) (entry_at mpd) mpd.tracks (length mpd.periods) (run_gives templates literals form mpd readable)
      (typed form) url now (map (window_for (typed form).facts now) mpd.periods)
      (omega (arith, length-map mpd.periods (window_for (typed form).facts now)))
      (are_told (told_in form mpd) mpd.tracks (typed form).facts now 0 mpd.periods (typed form).periods
      (ap (λ (shown : Shown). shown.periods) (tree_shown durations instants form mpd readable)))

  -- the roots have the same attributes
  same_facts : (typed Players).facts ≡ (typed Plain).facts
  unfolding dash_values
  same_facts = refl

  live_form_means : dash_meaning (live_text Players mpd) url now ≡ dash_meaning (live_text Plain mpd) url now
  live_form_means = form_means Players ∙ ap (λ facts. Some (meant facts)) same_facts ∙ sym (form_means Plain)

pub live_forms_mean : TemplatesName → LiteralsName → PrintedAreRead → DurationsAreReadAgain → InstantsAreReadAgain → LiveFormsMeanTheSame
live_forms_mean = live_form_means
