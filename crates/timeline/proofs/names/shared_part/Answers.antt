use Rattle.std.proofs.Common.{ap, ◌∙◌, subst, slice_get}
use Rattle.std.specs.Option.{option_and_then}
use Rattle.bridge_io.specs.Answer.{Gives}
use Rattle.mpd_entries.specs.declared.ref_part.RefPart.{RefPart}
use Rattle.url_parts.specs.Addresses.{resolve}
use Rattle.timeline.specs.Names.{list_refusal, part_at}
use Rattle.timeline.proofs.SharedParts.{short_gives}
use Rattle.timeline.proofs.names.shared_part.Goals as goal

pub returns : goal.returns
returns c =
    let base = c.args.base.now in
    let short = c.in-Some.short.now in
    let part = c.get-part.ensures ∙ ap (λ parts. slice_get parts c.args.place) c.parts.ensures in
    let range = c.range_of-range.ensures ∙ ap (option_and_then (λ (p : RefPart). p.range)) part in
    subst (Gives (λ part. part) list_refusal c.joined.result) (ap (λ r. part_at r (resolve base short)) range
    ∙ short_gives base (slice_get c.args.parts.now c.args.place) short c.as_str.ensures.base c.in-Some.ensures) c.joined.ensures
