use Rattle.std.proofs.Common.{◌≡◌, ℕ, ◌*◌, ◌<◌, refl, ap, arith}
use Rattle.timeline.proofs.Reached.{any_scale_at}
use Rattle.timeline.proofs.media_runs.MediaRuns.next_run.Goals as goal

pub returns : goal.returns
returns c =
    let some : 0 < c.args.entry.now.d = omega (arith, c.if-entry-eq0.false) in
    let lasts : c.in_ok-lasts.lasts ≡ c.in-Count.count * c.args.entry.now.d =
    omega (arith, c.in_ok-lasts.ensures, ap (λ (n : ℕ). c.in-Count.count * n) c.from-2.ensures) in
    let late = c.ends_late.ensures c.if-ends_late.false in
    let joined = c.is_apart.ensures c.if-is_apart.false in
    let found = c.in-Count.ensures in
    record {
      start = c.unwrap_or-start.ensures;
      step = refl;
      lasting = some;
      before = refl;
      some = found.0;
      reach = λ scale end. any_scale_at c.any_scale.result scale c.from.result c.unwrap_or-start.result c.args.entry.now.d c.in-Count.count
          some c.from.ensures end c.args.entry.now.r c.args.later.now found;
      near = omega (arith, late, lasts);
      late_enough = λ has. (joined has).0;
      early_enough = λ has. (joined has).1;
    }
