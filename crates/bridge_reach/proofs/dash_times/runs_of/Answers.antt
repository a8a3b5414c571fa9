use Rattle.bridge_reach.proofs.dash_times.runs_of.Goals as goal
use Rattle.std.proofs.{Common.{refl, ◌≡◌, ◌<◌, ◌+◌, ◌-◌, ◌*◌, ◌++◌, length, drop, append-nil, append_assoc, sym, ap, ◌∙◌, arith}}
use Rattle.std.proofs.lemmas.List.Elements.{All-drop}
use Rattle.fragment_times.specs.Times.{IsScaled}
use Rattle.fragment_times.proofs.Periods.{one_less}
use Rattle.bridge_reach.specs.DashTimes.{runs_from}
use Rattle.bridge_reach.proofs.Runs.{first_runs, next_section}

pub loop-section-init : goal.loop-section-init
loop-section-init c =
    let p = c.args.presentation.now in let n = length p.sections in let tracks = length p.tracks in
    let all : n - 0 ≡ n = omega arith in
    rw c.new-runs.ensures (record {
      filled = c.requires.filled ∙ ap (λ k. k * tracks) (sym all);
      as_many = c.requires.as_many;
      scaled = c.requires.scaled;
      told = ap (λ k. runs_from c.args.form tracks k c.args.times.now c.args.durations.now) all;
    })

pub loop-section-preserved : goal.loop-section-preserved
loop-section-preserved c =
    let p = c.args.presentation.now in let n = length p.sections in let tracks = length p.tracks in
    let l = c.loop-section in let s = l._section in
    let within : s < n = omega (arith, ap length c.sections.ensures) in
    let mid : c.len-tracks.result ≡ tracks = c.len-tracks.ensures ∙ ap length c.tracks.ensures in
    let row = one_less n s tracks within in
    let next = next_section c.args.form tracks n s l.times.now l.rows.now within in
    let later = runs_from c.args.form tracks (n - (s + 1)) (drop tracks l.times.now) (drop tracks l.rows.now) in
    let own : c.in_ok-runs.runs ≡ l.runs ++ first_runs c.args.form tracks l.times.now l.rows.now =
    c.in_ok-runs.ensures ∙ rw (c.of-start.ensures.start, c.split_at.ensures.front, c.split_at-in-loop-section.ensures.front, mid) refl in
    let told : c.in_ok-runs.runs ++ later ≡ l.runs ++ runs_from c.args.form tracks (n - s) l.times.now l.rows.now =
    ap (λ runs. runs ++ later) own ∙ append_assoc l.runs _ later ∙ ap (λ runs. l.runs ++ runs) (sym next) in
    record {
      filled = omega (arith, row, mid, l.invariant.filled);
      as_many = omega (arith, l.invariant.as_many);
      scaled = rw c.split_at.ensures.back (All-drop IsScaled c.len-tracks.result l.times.now l.invariant.scaled);
      told = rw (c.split_at.ensures.back, c.split_at-in-loop-section.ensures.back, mid) (told ∙ l.invariant.told);
    }

pub returns : goal.returns
returns c =
    let p = c.args.presentation.now in let n = length p.sections in
    let l = c.loop-section in
    let none : n - l._section ≡ 0 = omega (arith, ap length c.sections.ensures) in
    sym (append-nil l.runs) ∙ ap (λ k. l.runs ++ runs_from c.args.form (length p.tracks) k l.times.now l.rows.now) (sym none)
    ∙ l.invariant.told
