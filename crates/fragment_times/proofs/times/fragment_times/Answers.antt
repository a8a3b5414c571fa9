use Rattle.fragment_times.proofs.times.fragment_times.Goals as goal
use Rattle.std.proofs.{Common.{◌<◌, ◌+◌, [], length, ap, ◌∙◌, arith, rules}, lemmas.Result.err_from_is_err_and}
use Rattle.presentation.proofs.{Counts.from_on, Gathering.behind_nothing}
use Rattle.fragment_times.specs.Times.{section_times, times_of}
use Rattle.fragment_times.proofs.Gathered.{from_first, from_last, from_next, next_refused, next_told}

pub loop-section-init : goal.loop-section-init
loop-section-init g c =
    let p = c.args.presentation.now in
    rw c.new-times.ensures (record {
      files = search rules;
      writes = search rules;
      never_falls = omega arith;
      scaled = search rules;
      filled = omega arith;
      told = λ files told. from_first (section_times c.args.folder.now files p) (length p.sections) [] ∙ behind_nothing _;
    })

pub returns-in_err-times-clause-times : goal.returns-in_err-times-clause-times
unfolding times_of
returns-in_err-times-clause-times g c = λ files told.
    let p = c.args.presentation.now in let l = c.loop-section in let n = length p.sections in
    let give = section_times c.args.folder.now files p in
    let within : l.section < n = omega (arith, ap length c.sections.ensures) in
    let fault = err_from_is_err_and c.from_residual.result c.from_residual.ensures.1 in
    rw (fault.1, fault.2) (next_refused give l.section (from_on (l.section + 1) n) l.times _
    (from_next give n l.times l.section within _ (l.invariant.told files told)) c.in_err-times.field-0.0
    (c.in_err-times.ensures.times files (l.invariant.files ∙ told)))

pub loop-section-preserved : goal.loop-section-preserved
loop-section-preserved g c =
    let p = c.args.presentation.now in let l = c.loop-section in let n = length p.sections in
    let within : l.section < n = omega (arith, ap length c.sections.ensures) in
    record {
      files = c.in_ok-times.ensures.files ∙ l.invariant.files;
      writes = c.in_ok-times.ensures.writes ∙ l.invariant.writes;
      never_falls = omega (arith, c.in_ok-times.ensures.cause.never_falls, l.invariant.never_falls);
      scaled = c.in_ok-times.ensures.scaled;
      filled = omega (arith, c.in_ok-times.ensures.filled, l.invariant.filled);
      told = λ files told.
          let give = section_times c.args.folder.now files p in
          next_told give l.section (from_on (l.section + 1) n) l.times _
          (from_next give n l.times l.section within _ (l.invariant.told files told)) _
          (c.in_ok-times.ensures.times files (l.invariant.files ∙ told));
    }

pub returns-clause-times : goal.returns-clause-times
unfolding times_of
returns-clause-times g c = λ files told.
    let p = c.args.presentation.now in let l = c.loop-section in
    from_last (section_times c.args.folder.now files p) (length p.sections) l.times l.section
    (omega (arith, ap length c.sections.ensures)) _ (l.invariant.told files told)
