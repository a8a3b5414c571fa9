use Rattle.std.proofs.Common.{◌++◌, ap, ◌∙◌}
use Rattle.url_parts.proofs.Relative.{plain_is_address}
use Rattle.url_parts.proofs.base.Base.child.Goals as goal

pub unless_long-requires : goal.unless_long-requires
unless_long-requires c =
    let name = c.args.name.now in
    rw (c.in_ok-push_str.ensures.bytes ∙ ap (λ t. t ++ name) c.in_ok-text.ensures.text)
    (plain_is_address _ name c.in_ok-text.ensures.base c.requires)
