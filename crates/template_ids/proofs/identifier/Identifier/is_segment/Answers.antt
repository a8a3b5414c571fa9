use Rattle.std.proofs.Common.{subst, sym}
use Rattle.template_ids.specs.Long.{IsSegment, values_of}
use Rattle.template_ids.proofs.LongNames.{number_is_segment}
use Rattle.template_ids.proofs.identifier.Identifier.is_segment.Goals as goal

pub returns-in-Padded : goal.returns-in-Padded
returns-in-Padded c is id bandwidth known slow number time low early =
    subst (λ p. IsSegment (values_of id bandwidth p number time)) (sym c.in-Padded.is)
    (number_is_segment id bandwidth number time c.in-Padded.field-1 c.in-Padded.field-0 slow low early)
