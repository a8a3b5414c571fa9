use Rattle.url.proofs.PathLemmas.{bytes_from_type}
use Rattle.url_parts.proofs.Parsed.{resolved_is_address, given_again}
use Rattle.url_parts.proofs.laws.resolved_address.Goals as goal

pub returns : goal.returns
returns c address is = given_again address (resolved_is_address _ _ address (bytes_from_type _ c.type_inv.base)
    (bytes_from_type _ c.type_inv.reference) is)
