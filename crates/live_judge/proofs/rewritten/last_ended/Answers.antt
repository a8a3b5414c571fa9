use Rattle.live_judge.proofs.rewritten.last_ended.Goals as goal
use Rattle.std.proofs.Common.{◌≡◌, ◌-◌, List, length, ap, sym, ◌∙◌, subst, arith, Fits, w64, rules}
use Rattle.exact_time.specs.Tick.{time_of}
use Rattle.timeline.specs.{Expansions.Timing, Listed.{expansion, listed}, Steady.ArePaced}
use Rattle.live_judge.proofs.Holding.{all_from, ended_are, lengths, taken}

pub place_before-cursor-requires-clause-few : goal.place_before-cursor-requires-clause-few
place_before-cursor-requires-clause-few c =
    let window = c.args.window.now in
    let all = all_from window (expansion c.args.runs.now window) c.seek-whole.result c.seek-whole.ensures.first.none_before in
    omega (arith, c.min-wanted.ensures, c.count_from-all.ensures, ap (λ (ys : List Timing). length ys) all)

pub place_before-cursor-requires-clause-more : goal.place_before-cursor-requires-clause-more
place_before-cursor-requires-clause-more c =
    let window = c.args.window.now in
    let xs = expansion c.args.runs.now window in
    let all = all_from window xs c.seek-whole.result c.seek-whole.ensures.first.none_before in
    omega (
      arith,
      lengths window xs c.seek_end-behind.result,
      c.min-wanted.ensures,
      c.saturating_add.ensures,
      c.count_from-later.ensures,
      c.count_from-all.ensures,
      ap (λ (ys : List Timing). length ys) all,
    )

pub overflow_sub-result : goal.overflow_sub-result
overflow_sub-result c =
    let window = c.args.window.now in
    let xs = expansion c.args.runs.now window in
    let all = all_from window xs c.seek-whole.result c.seek-whole.ensures.first.none_before in
    omega (
      arith,
      lengths window xs c.seek_end-behind.result,
      c.min-wanted.ensures,
      c.saturating_add.ensures,
      c.count_from-later.ensures,
      c.count_from-all.ensures,
      ap (λ (ys : List Timing). length ys) all,
    )

pub returns : goal.returns
returns c =
    let window = c.args.window.now in
    let xs = expansion c.args.runs.now window in
    let last = time_of c.args.last in
    let behind = c.seek_end-behind.result in
    let after = c.seek_end-behind.ensures window c.requires.window c.requires.reached in
    let all = all_from window xs c.seek-whole.result c.seek-whole.ensures.first.none_before in
    let long = ap (λ (ys : List Timing). length ys) all in
    let ended = ap (λ (ys : List Timing). length ys) (ended_are window xs last behind after) in
    let parts = lengths window xs behind in
    let whole : c.count_from-all.result ≡ length (listed window xs) = c.count_from-all.ensures ∙ sym long in
    let fits : Fits w64 c.count_from-all.result = search rules in
    let cut = c.min-wanted.ensures in
    let added = c.saturating_add.ensures in
    let later = c.count_from-later.ensures in
    let found = c.place_before-cursor.ensures in
    record {
      paced = subst ArePaced (c.walk-paced.ensures.listed ∙ sym all) c.walk-paced.ensures.paced;
      count = omega (arith, ended, parts, whole, fits.fits, cut, added, later);
      within = omega (arith, ap (λ (ys : List Timing). length ys) c.walk.ensures.listed, found);
      are = rw c.walk.ensures.listed (taken window xs last behind after c.place_before-cursor.result
          (c.min-wanted.result - c.count_from-later.result) (omega (arith, found, later, parts, whole, cut, added))
          (omega (arith, later, parts, whole, cut)));
    }
