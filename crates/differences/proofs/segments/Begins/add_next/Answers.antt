use Rattle.std.proofs.Common.{◌≡◌, ◌∷◌, ◌∙◌, ap, rules, sym}
use Rattle.comparison.specs.Comparing.{behind, segment_made}
use Rattle.differences.specs.Segments.{noted_from}
use Rattle.differences.proofs.{Collecting.OnOk-wider, Entries.next_segment}
use Rattle.differences.proofs.segments.Begins.add_next.Goals as goal

pub returns-clause-found : goal.returns-clause-found
returns-clause-found g c =
    let begins = c.args.self.now in let at = c.args.at in let before = c.args.found.now in
    let a = segment_made c.in-Some-Some.a in let b = segment_made c.in-Some-Some.b in
    let mine : c.args.mine.now ≡ a ∷ c.next.new.self = search rules in
    let theirs : c.args.theirs.now ≡ b ∷ c.next-2.new.self = search rules in
    OnOk-wider c.add_segment.result (λ noted. rw (mine, theirs) (next_segment begins at before a b c.next.new.self c.next-2.new.self
    ∙ ap (λ d. noted_from begins (behind at) d c.next.new.self c.next-2.new.self) (sym noted))) c.add_segment.ensures
