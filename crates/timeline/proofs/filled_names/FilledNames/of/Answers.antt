use Rattle.timeline.proofs.MediaTemplates.{filled_same}
use Rattle.timeline.proofs.ShortNames.{filled_from, too_long}
use Rattle.url_parts.specs.declared.fault.UrlFault.TheVariants.{TooLong}
use Rattle.timeline.specs.declared.filled_names.FilledNames.TheVariants.{Refused}
use Rattle.timeline.proofs.filled_names.FilledNames.of.Goals as goal

pub returns-then-names_segments : goal.returns-then-names_segments
returns-then-names_segments c = filled_same c.args.media.now c.args.id.now c.for_id-template.result.now c.args.base.now c.args.bandwidth (Refused TooLong)
    c.as_str.ensures.base c.ranges.bandwidth.fits c.for_id-template.ensures
    (too_long c.for_id-template.result.now c.args.id.now c.args.bandwidth c.args.base.now c.least_len.result c.as_str.ensures.base
    c.if-least_len-gt-MAX_URL_LEN.true c.least_len.ensures (c.names_segments.ensures c.if-names_segments.true))

pub returns : goal.returns
returns c = filled_same c.args.media.now c.args.id.now c.for_id-template.result.now c.args.base.now c.args.bandwidth c.in_ok-filled.filled
    c.as_str.ensures.base c.ranges.bandwidth.fits c.for_id-template.ensures
    (filled_from c.for_id-template.result.now c.args.id.now c.args.bandwidth c.args.base.now c.in_ok-names.names c.in_ok-filled.filled
    c.in_ok-names.ensures c.in_ok-filled.ensures)
