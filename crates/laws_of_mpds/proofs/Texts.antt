-- The text of a written MPD means what its presentation means.
use Rattle.std.proofs.Common.{ℕ, ◌+◌, ◌<◌, List, [], ◌∷◌, length, codes, None, refl, sym, ◌∙◌, ap, subst, arith}
use Rattle.std.specs.{Prelude.option_and_then, List.AllByRecursion, Result.result_ok}
use Rattle.iso_time.specs.Duration.{duration_text}
use Rattle.mpd_tree.specs.{Characters.{starts_name, goes_on_name}, Placed.{IsLegalTag, PrintedAreRead}}
use Rattle.presentation.specs.{declared.track.Section.Section, Presented.Presented}
use Rattle.mpd_presentation.specs.Meanings.{dash_meaning, meaning_if_counted}
use Rattle.mpd_rules.specs.Rules.{dash_values}
use Rattle.segment_forms.specs.{declared.form.Form.Form, Media.{LiteralsName, TemplatesName}}
use Rattle.dash_writer.specs.{Elements.{Element as Written, tag_of}, Manifest.{all_period_attributes, last_end, manifest_text, outline_of}}
use Rattle.dash_writer.specs.Manifest.{period_attributes, root_of, segment_lists}
use Rattle.laws_of_mpds.specs.{Meant.IsWritable, Texts.{IsTellable, TextsMean}}
use Rattle.laws_of_mpds.proofs.Fine.{AreFine, ArePrintable, by_recursion, fine_segments, finished_legal, number, root_legal}
use Rattle.laws_of_mpds.proofs.{Given.{HasPlain, has_plain, list_of, trees_mean}, Legal.{IsFine, legal_tag, maybe_plain}}
use Rattle.laws_of_mpds.proofs.{Periods.outline_with, Plain.{carried, duration_plain}}

fine_lists : (form : Form) (p : Presented) (s : ℕ) → IsWritable p → s < length p.sections
    → AreFine (segment_lists form p s) 0 (length p.tracks)
fine_lists form p s w within i from below =
    let has : HasPlain p s i = has_plain p s i w within (omega (arith, below)) in
    subst (AllByRecursion (IsFine 2)) (sym (list_of form p s i w.finished has))
    (fine_segments form has.0.runs.ticks None 0 has.0.initialization has.2.durations has.2.parts has.2.initialization has.2.own, tt)

pub period_legal : (place : ℕ) (section : Section) → IsLegalTag (tag_of (codes "Period") (period_attributes place section))
unfolding starts_name goes_on_name
period_legal place section = legal_tag (codes "Period") (period_attributes place section) refl refl (
  number place,
  (
    carried (duration_text section.start) (duration_plain section.start),
    (maybe_plain duration_text duration_plain section.length, tt),
  ),
)

-- sections whose lists are fine
pub printable : (p : Presented) (lists : (section track : ℕ) → List Written) (place : ℕ) (sections : List Section)
    → ((s : ℕ) → s < place + length sections → AreFine (lists s) 0 (length p.tracks))
    → ArePrintable (outline_with p lists) place (all_period_attributes place sections)
printable p lists place [] fine = tt
printable p lists place (section ∷ sections) fine = (
  period_legal place section,
  fine place (omega arith),
  printable p lists (place + 1) sections (λ s below. fine s (omega (arith, below))),
)

pub texts_mean : TemplatesName → LiteralsName → PrintedAreRead → TextsMean
unfolding dash_meaning manifest_text
texts_mean templates literals printed form p url now w told =
    ap (λ read. option_and_then (λ tree. meaning_if_counted (dash_values tree) url now) (result_ok read))
    (printed (root_of form p).0 (root_of form p).1 (root_legal (outline_of form p) (finished_legal (last_end p.sections))
    (printable p (segment_lists form p) 0 p.sections (λ s below. fine_lists form p s w (omega (arith, below))))
    (by_recursion IsTellable p.tracks told)))
    ∙ trees_mean templates literals form p url now w
