use Rattle.fragment_times.proofs.lasting.Lasting.with_section.Goals as goal
use Rattle.std.proofs.{Common.{◌<◌, ◌+◌, length, ap, arith}, lemmas.List.length_push, lemmas.List.Elements.All-push}
use Rattle.std.proofs.lemmas.Result.{err_from_is_err_and}
use Rattle.presentation.proofs.Counts.{from_on}
use Rattle.fragment_times.specs.{Durations.{IsShort, ticks_at}, Times.alone}
use Rattle.fragment_times.proofs.Gathered.{from_first, from_last, from_next, next_refused, next_told, one_refused, one_told}

pub loop-track-init : goal.loop-track-init
loop-track-init c =
    let p = c.args.self.now.presentation.now in
    let give = ticks_at c.args.self.now.form p c.args.self.now.times.now c.args.section in
    record {
      short = c.requires.short;
      filled = omega arith;
      told = from_first (λ t. alone (give t)) (length p.tracks) c.args.former;
    }

pub returns-in_err-own-clause-durations : goal.returns-in_err-own-clause-durations
returns-in_err-own-clause-durations c =
    let p = c.args.self.now.presentation.now in let l = c.loop-track in let n = length p.tracks in
    let give = ticks_at c.args.self.now.form p c.args.self.now.times.now c.args.section in
    let within : l.track < n = omega (arith, ap length c.tracks.ensures) in
    let fault = err_from_is_err_and c.from_residual.result c.from_residual.ensures.1 in
    rw (fault.1, fault.2) (next_refused (λ t. alone (give t)) l.track (from_on (l.track + 1) n) l.durations _
    (from_next (λ t. alone (give t)) n l.durations l.track within _ l.invariant.told) c.in_err-own.field-0.0
    (one_refused l.durations (give l.track) c.in_err-own.field-0.0 c.in_err-own.ensures.ticks))

pub loop-track-preserved : goal.loop-track-preserved
loop-track-preserved c =
    let p = c.args.self.now.presentation.now in let l = c.loop-track in let n = length p.tracks in
    let give = ticks_at c.args.self.now.form p c.args.self.now.times.now c.args.section in
    let within : l.track < n = omega (arith, ap length c.tracks.ensures) in
    rw c.in_ok-push.ensures.ok (record {
      short = All-push IsShort l.durations c.in_ok-own.own l.invariant.short c.in_ok-own.ensures.short;
      filled = omega (arith, length_push l.durations c.in_ok-own.own, l.invariant.filled);
      told = next_told (λ t. alone (give t)) l.track (from_on (l.track + 1) n) l.durations _
          (from_next (λ t. alone (give t)) n l.durations l.track within _ l.invariant.told) _
          (one_told l.durations (give l.track) c.in_ok-own.own c.in_ok-own.ensures.ticks);
    })

pub returns-clause-durations : goal.returns-clause-durations
returns-clause-durations c =
    let p = c.args.self.now.presentation.now in let l = c.loop-track in
    from_last (λ t. alone (ticks_at c.args.self.now.form p c.args.self.now.times.now c.args.section t)) (length p.tracks) l.durations
    l.track (omega (arith, ap length c.tracks.ensures)) _ l.invariant.told
