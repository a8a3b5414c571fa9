use Rattle.std.proofs.Common.{◌≡◌, ◌∷◌, ◌∙◌, ap, rules, subst}
use Rattle.std.specs.Result.{OnOk}
use Rattle.differences.specs.declared.collected.Collected.{Collected}
use Rattle.differences.specs.declared.segments.Begins.{Begins}
use Rattle.comparison.specs.Comparing.{segment_made}
use Rattle.differences.specs.{Collecting.all_added, Segments.{noted_from, segment_noted}}
use Rattle.differences.proofs.Entries.{in_both, part, spot_is}
use Rattle.differences.proofs.segments.add_entry.Goals as goal

pub returns : goal.returns
returns g c =
    let spot = c.args.spot in let before = c.args.found.now in
    let i = c.args.mine.initialization.now in let j = c.args.theirs.initialization.now in
    let a = segment_made c.in-Some-Some.a in let b = segment_made c.in-Some-Some.b in
    let xs = c.next.new.self in let ys = c.next-2.new.self in
    let begins : Begins = record { mine = c.span.result.start; theirs = c.span-2.result.start; tolerance = c.args.tolerance } in
    let mine : c.args.mine.segments ≡ a ∷ xs = search rules in
    let theirs : c.args.theirs.segments ≡ b ∷ ys = search rules in
    let first : c.add_unless.new.self ≡ all_added before (part c.args.tolerance spot before i j c.requires.first) = search rules in
    let later : c.add_segment.new.found ≡ segment_noted begins spot c.add_unless.new.self a b = search rules in
    let here = spot_is c.at.result spot.section spot.track 1 c.at.ensures.section c.at.ensures.track c.at.ensures.segment in
    subst (λ (d : Collected). OnOk c.add_rest.result (c.add_rest.new.found ≡ d))
    (ap (λ x. noted_from begins x c.add_segment.new.found xs ys) here
    ∙ ap (λ d. noted_from begins (record spot { segment = 1 }) d xs ys) (later ∙ ap (λ d. segment_noted begins spot d a b) first)
    ∙ in_both c.args.tolerance spot before i j c.requires.first c.span.result.start c.span-2.result.start a b xs ys
    c.args.mine.segments c.args.theirs.segments mine theirs
    (ap (λ t. t.start) c.span.ensures) (ap (λ t. t.start) c.span-2.ensures)) c.add_rest.ensures
