use Rattle.std.proofs.Common.{◌≡◌, ◌∙◌, ap, rules, subst}
use Rattle.std.specs.Result.{OnOk}
use Rattle.differences.specs.declared.collected.Collected.{Collected}
use Rattle.comparison.specs.Comparing.{segment_made}
use Rattle.differences.specs.{Collecting.all_added, Segments.time_noted}
use Rattle.differences.proofs.Entries.{address, range, segment_parts}
use Rattle.differences.proofs.segments.Begins.add_segment.Goals as goal

pub returns : goal.returns
returns c =
    let begins = c.args.self.now in let at = c.args.at in let before = c.args.found.now in
    let a = segment_made c.args.mine.now in let b = segment_made c.args.theirs.now in
    let first : c.add_unless.new.self ≡ all_added before (address begins at before a b) = search rules in
    let later : c.add_unless-2.new.self ≡ all_added c.add_unless.new.self (range begins at before a b) = search rules in
    let same = later ∙ ap (λ d. all_added d (range begins at before a b)) first in
    subst (λ (d : Collected). OnOk c.add_time.result (c.add_time.new.found ≡ d))
    (ap (λ d. time_noted begins at d a b) same ∙ segment_parts begins at before a b) c.add_time.ensures
