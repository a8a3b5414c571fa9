use Rattle.hls_follow.proofs.stretches.stretches_of_all.Goals as goal
use Rattle.std.proofs.Common.{ap, sym, ◌∙◌}
use Rattle.std.specs.Option.{option_copied}
use Rattle.hls_presentation.specs.{Sections.groups_in, Views.source_of, declared.kept.Source.Source as Held}
use Rattle.hls_follow.specs.Stretches.{known_times, stretches_from}
use Rattle.hls_follow.proofs.{Keeping.lent_at, Stretching.{groups_here, next_track, turn}}

pub loop-place-preserved : goal.loop-place-preserved
loop-place-preserved c =
    let l = c.loop-place in let kept = c.args.kept.now in let formers = c.args.formers.now in
    let source = c.index-kept-place.result in
    let former = lent_at formers l.place c.get.result c.get.ensures.lookup in
    let known = c.known_times-known.ensures
    ∙ ap (λ (s : Held). known_times (option_copied c.get.result) (source_of s).media) (sym c.index-kept-place.is)
    ∙ ap (λ f. known_times f (source_of source).media) former in
    let groups = groups_here kept l.place source c.loop-place-test.true c.index-kept-place.is c.in_ok-groups.groups.items c.index.result.now
    c.in_ok-groups.ensures c.index.ensures in
    turn l.all.items _ _ _ _ _ _ c.in_ok-push.ensures.items
    (c.in_ok-of.ensures ∙ ap (stretches_from c.known_times-known.result.now) groups
    ∙ ap (λ ks. stretches_from ks (groups_in (source_of source))) known)
    (next_track kept l.place source c.loop-place-test.true c.index-kept-place.is formers) l.invariant
