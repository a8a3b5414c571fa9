use Rattle.presentation.specs.Meanings.{meaning_of}
use Rattle.bridge_core.proofs.ComparePromises.{compared_as_checked}
use Rattle.bridge_core.proofs.laws.comparing_is_checking.Goals as goal

pub returns : goal.returns
returns c = compared_as_checked (λ unit p q. c.the_first_is_the_first_difference.ensures unit (meaning_of p) (meaning_of q)
    (c.presentations_have_sections.ensures p) (c.presentations_have_sections.ensures q))
