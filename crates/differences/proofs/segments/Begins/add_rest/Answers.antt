use Rattle.std.proofs.Common.{◌≡◌, ◌∙◌, ◌+◌, ◌<◌, ap, arith, length, min, refl, subst, sym}
use Rattle.std.specs.Result.{OnOk}
use Rattle.differences.specs.declared.collected.Collected.{Collected}
use Rattle.differences.specs.{Collecting.all_added, Deviating.number_deviations, Segments.noted_from}
use Rattle.differences.proofs.Entries.{at_end, spot_is}
use Rattle.differences.proofs.segments.Begins.add_rest.Goals as goal

pub returns : goal.returns
returns g c =
    let begins = c.args.self.now in let spot = c.args.spot in let at = c.at in let listed = c.args.listed in
    let xs = c.loop-segment.mine in let ys = c.loop-segment.theirs in let found = c.loop-segment.found in
    let some : 0 < c.min-both.result = omega (arith, c.min-both.ensures, c.requires.mine, c.requires.theirs) in
    let last : c.loop-segment.segment ≡ c.min-both.result =
    omega (arith, c.min-both.ensures, c.loop-segment.invariant.mine, c.loop-segment.invariant.theirs, c.loop-segment-test.false) in
    let end : min (length xs) (length ys) ≡ 0 =
    omega (arith, last, c.min-both.ensures, c.loop-segment.invariant.mine, c.loop-segment.invariant.theirs) in
    let is_m : at.result.segment + length xs ≡ listed.mine = omega (arith, at.ensures.segment, last, c.loop-segment.invariant.mine) in
    let is_n : at.result.segment + length ys ≡ listed.theirs = omega (arith, at.ensures.segment, last, c.loop-segment.invariant.theirs) in
    let here = spot_is at.result spot.section spot.track c.loop-segment.segment at.ensures.section at.ensures.track
    (at.ensures.segment ∙ sym last) in
    let first = spot_is spot spot.section spot.track 1 refl refl c.requires.first in
    subst (λ (d : Collected). OnOk c.add_counts.result (c.add_counts.new.self ≡ d))
    (ap (λ e. all_added found (number_deviations e listed.mine listed.theirs)) c.of-end.ensures
    ∙ sym (at_end begins at.result found listed.mine listed.theirs xs ys is_m is_n end)
    ∙ ap (λ x. noted_from begins x found xs ys) here ∙ sym c.loop-segment.invariant.same
    ∙ ap (λ x. noted_from begins x c.args.found.now c.args.mine c.args.theirs) (sym first)) c.add_counts.ensures

pub loop-segment-preserved : goal.loop-segment-preserved
loop-segment-preserved g c =
    let begins = c.args.self.now in let spot = c.args.spot in let at = c.at-at in
    let here = spot_is at.result spot.section spot.track c.loop-segment.segment at.ensures.section at.ensures.track at.ensures.segment in
    record {
      same = c.loop-segment.invariant.same
          ∙ ap (λ x. noted_from begins x c.loop-segment.found c.loop-segment.mine c.loop-segment.theirs) (sym here)
          ∙ c.in_ok-add_next.ensures.found
          ∙ ap (λ x. noted_from begins (record x { segment = x.segment + 1 }) c.add_next.new.found c.add_next.new.mine
          c.add_next.new.theirs) here;
      mine = omega (arith, c.loop-segment.invariant.mine, c.in_ok-add_next.ensures.mine);
      theirs = omega (arith, c.loop-segment.invariant.theirs, c.in_ok-add_next.ensures.theirs);
    }
