use Rattle.url_parts.proofs.spelling.reaches.Goals as goal
use Rattle.std.proofs.Common.{◌≡◌, sym, ◌∙◌, ap}
use Rattle.url_parts.specs.{Addresses.folder_of, Paths.IsBeneath}
use Rattle.url_parts.proofs.Spellings.{not_unequal, reached}

pub returns : goal.returns
returns c always =
    let url = c.args.url.now in let up = c.args.up.now in let folder = c.args.folder.now in
    let beneath : IsBeneath url up c.in-Some.deeper = rw c.in-Some.is at c.in_ok-deeper.ensures in
    let same : c.in-Some.deeper ≡ folder = sym c.as_str.ensures.text ∙ not_unequal _ _ c.if-ne-2.ensures
    ∙ c.as_str-text.ensures.text in
    let own : folder_of folder ≡ folder =
    ap folder_of (sym c.as_str-text.ensures.text) ∙ sym c.folder_of.ensures
    ∙ not_unequal _ _ c.if-ne.ensures ∙ c.as_str-text.ensures.text in
    reached url up folder c.in-Some.deeper c.as_str-text.ensures.base beneath same own
