use Rattle.fragment_times.proofs.lasting.Lasting.all.Goals as goal
use Rattle.std.proofs.{Common.{◌<◌, ◌+◌, [], length, ap, ◌∙◌, arith, rules}, lemmas.Result.err_from_is_err_and}
use Rattle.presentation.proofs.{Counts.from_on, Gathering.behind_nothing}
use Rattle.fragment_times.specs.Durations.{section_ticks}
use Rattle.fragment_times.proofs.Gathered.{from_first, from_last, from_next, next_refused, next_told}

pub loop-section-init : goal.loop-section-init
loop-section-init c =
    let p = c.args.self.now.presentation.now in
    rw c.new-durations.ensures (record {
      short = search rules;
      filled = omega arith;
      told = from_first (section_ticks c.args.self.now.form p c.args.self.now.times.now) (length p.sections) [] ∙ behind_nothing _;
    })

pub returns-in_err-durations-clause-durations : goal.returns-in_err-durations-clause-durations
returns-in_err-durations-clause-durations c =
    let p = c.args.self.now.presentation.now in let l = c.loop-section in let n = length p.sections in
    let give = section_ticks c.args.self.now.form p c.args.self.now.times.now in
    let within : l.section < n = omega (arith, ap length c.sections.ensures) in
    let fault = err_from_is_err_and c.from_residual.result c.from_residual.ensures.1 in
    rw (fault.1, fault.2) (next_refused give l.section (from_on (l.section + 1) n) l.durations _
    (from_next give n l.durations l.section within _ l.invariant.told) c.in_err-durations.field-0.0 c.in_err-durations.ensures.durations)

pub loop-section-preserved : goal.loop-section-preserved
loop-section-preserved c =
    let p = c.args.self.now.presentation.now in let l = c.loop-section in let n = length p.sections in
    let give = section_ticks c.args.self.now.form p c.args.self.now.times.now in
    let within : l.section < n = omega (arith, ap length c.sections.ensures) in
    record {
      short = c.in_ok-durations.ensures.short;
      filled = omega (arith, c.in_ok-durations.ensures.filled, l.invariant.filled);
      told = next_told give l.section (from_on (l.section + 1) n) l.durations _
          (from_next give n l.durations l.section within _ l.invariant.told) _ c.in_ok-durations.ensures.durations;
    }

pub returns-clause-durations : goal.returns-clause-durations
returns-clause-durations c =
    let p = c.args.self.now.presentation.now in let l = c.loop-section in
    from_last (section_ticks c.args.self.now.form p c.args.self.now.times.now) (length p.sections) l.durations l.section
    (omega (arith, ap length c.sections.ensures)) _ l.invariant.told
