use Rattle.dash_writer.proofs.timed.write_mpd_timed.Goals as goal
use Rattle.std.proofs.Common.{◌≡◌, ◌<◌, ℕ, List, length, refl, ap, ◌∙◌, arith}
use Rattle.presentation.specs.Presented.{AreFilled, Presented}
use Rattle.dash_writer.specs.{declared.timed.TickRun.TickRun, declared.timed.TimedLists.TimedLists, Given.text_with, Elements.Element}
use Rattle.dash_writer.specs.{Outline.outline_text, Manifest.{all_period_attributes, finished_root, last_end, period_attributes}}
use Rattle.dash_writer.specs.{Manifest.root_attributes, Timed.{timed_lists, timed_sections, timed_text}}
use Rattle.dash_writer.proofs.{Origins.place_within, Timing.{length_timed, sections_are, some_timed_list}}

pub write-requires : goal.write-requires
write-requires g c = let p = c.args.presentation.now in let times = c.as_slice-times.result.now in
    let tracks = c.as_slice-tracks.ensures ∙ c.tracks.ensures in
    let filled : AreFilled (length p.sections) (length p.tracks) (length times) = ap length c.as_slice-times.ensures ∙ c.requires.filled in
    let sections = c.as_slice-2.ensures ∙ sections_are p c.args.times.now times c.as_slice-tracks.result.now c.len.result _
    c.in_ok-sections.ensures tracks (c.len.ensures ∙ ap length c.sections.ensures) c.as_slice-times.ensures in
    λ section below place from within.
    let in_sections : section < length p.sections = omega (arith, below, ap length sections, length_timed p c.args.times.now) in
    let in_tracks : place < length p.tracks = omega (arith, within, ap length tracks) in (
      record {
        listed = record { origin = c.requires.origin; in_sections = in_sections; in_tracks = in_tracks };
        timed = place_within section (length p.sections) (length p.tracks) place (length times) filled in_sections in_tracks;
      },
      some_timed_list c.args.form p times section place c.requires.origin.filled filled in_sections in_tracks,
    )

-- the text of what tracks have in the sections
text_of : (p : Presented) (times : List TickRun) (lists : (section place : ℕ) → List Element) → List ℕ
text_of p times lists = outline_text (record {
  root = root_attributes (timed_sections p times);
  periods = all_period_attributes 0 (timed_sections p times);
  tracks = p.tracks;
  lists = lists;
})

same_text : (p : Presented) (times : List TickRun) (lists : TimedLists) → lists.presentation.now ≡ p → lists.times.now ≡ times
    → text_with period_attributes (λ (lists : TimedLists). timed_lists lists.form lists.presentation.now lists.times.now)
    (root_attributes (timed_sections p times)) (timed_sections p times) p.tracks lists ≡ timed_text lists.form p times
unfolding text_with timed_text text_of
same_text p times lists is are =
    ap (λ q. text_of p times (timed_lists lists.form q lists.times.now)) is ∙ ap (λ ts. text_of p times (timed_lists lists.form p ts)) are

pub returns-clause-ok : goal.returns-clause-ok
returns-clause-ok g c = let p = c.args.presentation.now in let times = c.args.times.now in
    let tracks = c.as_slice-tracks.ensures ∙ c.tracks.ensures in
    let sections = sections_are p times c.as_slice-times.result.now c.as_slice-tracks.result.now c.len.result c.in_ok-sections.sections
    c.in_ok-sections.ensures tracks (c.len.ensures ∙ ap length c.sections.ensures) c.as_slice-times.ensures in
    rw (
      c.finished_root-root.ensures ∙ ap finished_root (c.last_end.ensures ∙ ap last_end (c.as_slice.ensures ∙ sections)),
      c.as_slice-2.ensures ∙ sections,
      tracks,
      same_text p times (record { form = c.args.form; presentation = c.args.presentation; times = c.as_slice-times.result }) refl c.as_slice-times.ensures,
    ) at c.write.ensures.ok

pub returns-clause-err : goal.returns-clause-err
returns-clause-err g c = let p = c.args.presentation.now in let times = c.args.times.now in
    let tracks = c.as_slice-tracks.ensures ∙ c.tracks.ensures in
    let sections = sections_are p times c.as_slice-times.result.now c.as_slice-tracks.result.now c.len.result c.in_ok-sections.sections
    c.in_ok-sections.ensures tracks (c.len.ensures ∙ ap length c.sections.ensures) c.as_slice-times.ensures in
    rw (
      c.finished_root-root.ensures ∙ ap finished_root (c.last_end.ensures ∙ ap last_end (c.as_slice.ensures ∙ sections)),
      c.as_slice-2.ensures ∙ sections,
      tracks,
      same_text p times (record { form = c.args.form; presentation = c.args.presentation; times = c.as_slice-times.result }) refl c.as_slice-times.ensures,
    ) at c.write.ensures.err
