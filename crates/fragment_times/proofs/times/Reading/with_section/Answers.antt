use Rattle.fragment_times.proofs.times.Reading.with_section.Goals as goal
use Rattle.std.proofs.{Common.{◌<◌, ◌+◌, length, ap, ◌∙◌, arith, rules}, lemmas.List.length_push, lemmas.List.Elements.All-push}
use Rattle.std.proofs.lemmas.Result.{err_from_is_err_and}
use Rattle.presentation.proofs.Counts.{from_on}
use Rattle.fragment_times.specs.Times.{IsScaled, alone, times_at}
use Rattle.fragment_times.proofs.Gathered.{from_first, from_last, from_next, next_refused, next_told, one_refused, one_told}

pub loop-track-init : goal.loop-track-init
loop-track-init g c =
    let p = c.args.self.now.presentation.now in
    record {
      files = search rules;
      writes = search rules;
      never_falls = omega arith;
      scaled = c.requires.scaled;
      filled = omega arith;
      told = λ files told.
          from_first (λ t. alone (times_at c.args.self.now.folder.now files p c.args.section t)) (length p.tracks) c.args.former;
    }

pub returns-in_err-own-clause-times : goal.returns-in_err-own-clause-times
returns-in_err-own-clause-times g c = λ files told.
    let p = c.args.self.now.presentation.now in let l = c.loop-track in let n = length p.tracks in
    let give = times_at c.args.self.now.folder.now files p c.args.section in
    let within : l.track < n = omega (arith, ap length c.tracks.ensures) in
    let fault = err_from_is_err_and c.from_residual.result c.from_residual.ensures.1 in
    rw (fault.1, fault.2) (next_refused (λ t. alone (give t)) l.track (from_on (l.track + 1) n) l.times _
    (from_next (λ t. alone (give t)) n l.times l.track within _ (l.invariant.told files told)) c.in_err-own.field-0.0
    (one_refused l.times (give l.track) c.in_err-own.field-0.0 (c.in_err-own.ensures.times files (l.invariant.files ∙ told))))

pub loop-track-preserved : goal.loop-track-preserved
loop-track-preserved g c =
    let p = c.args.self.now.presentation.now in let l = c.loop-track in let n = length p.tracks in
    let within : l.track < n = omega (arith, ap length c.tracks.ensures) in
    record {
      files = c.in_ok-own.ensures.files ∙ l.invariant.files;
      writes = c.in_ok-own.ensures.writes ∙ l.invariant.writes;
      never_falls = omega (arith, c.in_ok-own.ensures.cause.never_falls, l.invariant.never_falls);
      scaled = rw c.in_ok-push.ensures.ok (All-push IsScaled l.times c.in_ok-own.own l.invariant.scaled c.in_ok-own.ensures.scaled);
      filled = omega (arith, ap length c.in_ok-push.ensures.ok, length_push l.times c.in_ok-own.own, l.invariant.filled);
      told = λ files told.
          let give = times_at c.args.self.now.folder.now files p c.args.section in
          rw c.in_ok-push.ensures.ok (next_told (λ t. alone (give t)) l.track (from_on (l.track + 1) n) l.times _
          (from_next (λ t. alone (give t)) n l.times l.track within _ (l.invariant.told files told)) _
          (one_told l.times (give l.track) c.in_ok-own.own (c.in_ok-own.ensures.times files (l.invariant.files ∙ told))));
    }

pub returns-clause-times : goal.returns-clause-times
returns-clause-times g c = λ files told.
    let p = c.args.self.now.presentation.now in let l = c.loop-track in
    from_last (λ t. alone (times_at c.args.self.now.folder.now files p c.args.section t)) (length p.tracks) l.times l.track
    (omega (arith, ap length c.tracks.ensures)) _ (l.invariant.told files told)
