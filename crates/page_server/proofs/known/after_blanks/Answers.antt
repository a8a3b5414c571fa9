use Rattle.std.proofs.lemmas.List.Sums.{prefix_len-le-length}
use Rattle.std.proofs.Common.{rules}
use Rattle.page_server.specs.Tags.{is_blank}
use Rattle.page_server.proofs.known.after_blanks.Goals as goal

pub slice_bounds-result-count : goal.slice_bounds-result-count
slice_bounds-result-count c = rw c.blanks.ensures (prefix_len-le-length is_blank c.args.text.now)

pub slice_bounds-result-start : goal.slice_bounds-result-start
slice_bounds-result-start c =
    let within = prefix_len-le-length is_blank c.args.text.now in
    let is = c.blanks.ensures in
    search rules
