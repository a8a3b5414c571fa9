use Rattle.fragment_times.proofs.lasting.Lasting.is_too_long.Goals as goal
use Rattle.std.proofs.{Common.{◌≡◌, ◌<◌, ◌+◌, ◌-◌, ◌*◌, ◌^◌, length, take, drop, sum, sym, ap, ◌∙◌, arith}, lemmas.List.Elements.All-drop}
use Rattle.fragment_times.specs.{Durations.{IsShort, lengths, longest, section_length}, Times.IsScaled}
use Rattle.fragment_times.proofs.Periods.{next_length, one_less, reached}

pub loop-section-init : goal.loop-section-init
loop-section-init c =
    let form = c.args.self.now.form in let p = c.args.self.now.presentation.now in
    let n = length p.sections in let tracks = length p.tracks in
    let all : n - 0 ≡ n = omega arith in
    let same = ap (λ k. sum (lengths form tracks k c.args.self.now.times.now c.args.durations.now)) all in
    record {
      filled = c.requires.filled ∙ ap (λ k. k * tracks) (sym all);
      as_many = c.requires.as_many;
      scaled = c.requires.scaled;
      short = c.requires.short;
      few = omega arith;
      told = omega (arith, same);
    }

pub loop-section-preserved : goal.loop-section-preserved
loop-section-preserved c =
    let form = c.args.self.now.form in let p = c.args.self.now.presentation.now in
    let n = length p.sections in let tracks = length p.tracks in
    let l = c.loop-section in let s = l._section in
    let within : s < n = omega (arith, ap length c.sections.ensures) in
    let mid : c.len-tracks.result ≡ tracks = c.len-tracks.ensures ∙ ap length c.tracks.ensures in
    let row = one_less n s tracks within in
    let next = next_length form tracks n s l.times.now l.rows.now within in
    let own : longest c.of.result c.split_at.result.0.now c.split_at-in-loop-section.result.0.now
    ≡ section_length form (take tracks l.times.now) (take tracks l.rows.now) = cc in
    let later : sum (lengths form tracks (n - (s + 1)) c.split_at.result.1.now c.split_at-in-loop-section.result.1.now)
    ≡ sum (lengths form tracks (n - (s + 1)) (drop tracks l.times.now) (drop tracks l.rows.now)) = cc in
    record {
      filled = omega (arith, row, mid, l.invariant.filled);
      as_many = omega (arith, l.invariant.as_many);
      scaled = rw c.split_at.ensures.back (All-drop IsScaled c.len-tracks.result l.times.now l.invariant.scaled);
      short = rw c.split_at-in-loop-section.ensures.back (All-drop IsShort c.len-tracks.result l.rows.now l.invariant.short);
      few = omega arith;
      told = omega (arith, next, own, later, l.invariant.told);
    }

pub returns-then-total-ge-MOST_NANOS : goal.returns-then-total-ge-MOST_NANOS
returns-then-total-ge-MOST_NANOS c =
    let form = c.args.self.now.form in let p = c.args.self.now.presentation.now in
    let n = length p.sections in let tracks = length p.tracks in
    let l = c.loop-section in let s = l._section in
    let within : s < n = omega (arith, ap length c.sections.ensures) in
    let mid : c.len-tracks.result ≡ tracks = c.len-tracks.ensures ∙ ap length c.tracks.ensures in
    let next = next_length form tracks n s l.times.now l.rows.now within in
    let own : longest c.of.result c.split_at.result.0.now c.split_at-in-loop-section.result.0.now
    ≡ section_length form (take tracks l.times.now) (take tracks l.rows.now) = cc in
    sym (reached (10 ^ 19) (l.total + c.longest-total.result)
    (sum (lengths form tracks (n - (s + 1)) (drop tracks l.times.now) (drop tracks l.rows.now)))
    (sum (lengths form tracks n c.args.self.now.times.now c.args.durations.now)) (omega (arith, next, own, l.invariant.told)) (omega arith))
