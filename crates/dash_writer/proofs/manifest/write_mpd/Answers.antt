use Rattle.std.proofs.Common.{◌≡◌, ◌<◌, length, refl, ap, ◌∙◌, arith}
use Rattle.dash_writer.specs.declared.listed.OwnLists.{OwnLists}
use Rattle.dash_writer.specs.Given.{text_with}
use Rattle.dash_writer.specs.Manifest.{finished_root, last_end, manifest_text, period_attributes, root_attributes, segment_lists}
use Rattle.dash_writer.proofs.Origins.{some_list}
use Rattle.dash_writer.proofs.manifest.write_mpd.Goals as goal

pub write-requires : goal.write-requires
write-requires g c = let p = c.args.presentation.now in let sections = c.as_slice-sections.ensures ∙ c.sections.ensures in
    let tracks = c.as_slice.ensures ∙ c.tracks.ensures in
    λ section below track from within.
    let in_sections : section < length p.sections = omega (arith, below, ap length sections) in
    let in_tracks : track < length p.tracks = omega (arith, within, ap length tracks) in (
      record { origin = c.requires; in_sections = in_sections; in_tracks = in_tracks },
      some_list c.args.form p section track c.requires.filled
          in_sections in_tracks,
    )

same_text : (given : OwnLists) → let p = given.presentation.now in
    text_with period_attributes (λ (lists : OwnLists). segment_lists lists.form lists.presentation.now) (root_attributes p.sections) p.sections
    p.tracks given
    ≡ manifest_text given.form p
unfolding text_with manifest_text
same_text given = refl

pub returns-clause-ok : goal.returns-clause-ok
returns-clause-ok g c = let sections = c.as_slice-sections.ensures ∙ c.sections.ensures in
    rw (
      c.finished_root-root.ensures ∙ ap finished_root (c.last_end.ensures ∙ ap last_end sections),
      sections,
      c.as_slice.ensures
          ∙ c.tracks.ensures,
      same_text (record { form = c.args.form; presentation = c.args.presentation }),
    ) at c.write.ensures.ok

pub returns-clause-err : goal.returns-clause-err
returns-clause-err g c = let sections = c.as_slice-sections.ensures ∙ c.sections.ensures in
    rw (
      c.finished_root-root.ensures ∙ ap finished_root (c.last_end.ensures ∙ ap last_end sections),
      sections,
      c.as_slice.ensures
          ∙ c.tracks.ensures,
      same_text (record { form = c.args.form; presentation = c.args.presentation }),
    ) at c.write.ensures.err
