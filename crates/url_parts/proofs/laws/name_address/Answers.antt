use Rattle.url_parts.proofs.laws.name_address.Goals as goal
use Rattle.std.proofs.Common.{sym, ◌∙◌}
use Rattle.url_parts.proofs.{Parsed.given_again, Relative.{resolve_name, beside_name, beside_is_address}}

pub returns-clause-reference : goal.returns-clause-reference
returns-clause-reference c =
    let base = c.as_str.ensures.base in
    let named = c.as_str-2.ensures.named in
    beside_name _ _ base named ∙ sym (resolve_name _ _ base named)

pub returns-clause-again : goal.returns-clause-again
returns-clause-again c address given = given_again address
    (beside_is_address _ _ address c.as_str.ensures.base c.as_str-2.ensures.named given)
