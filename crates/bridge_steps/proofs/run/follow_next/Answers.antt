use Rattle.bridge_steps.proofs.run.follow_next.Goals as goal
use Rattle.std.proofs.Common.{◌≡◌, Err, Some, None, refl, ap, ◌∙◌, arith}
use Rattle.bridge_steps.specs.{Follow.world_of, Streams.with_first}
use Rattle.bridge_report.specs.Following.{step_of}
use Rattle.bridge_steps.proofs.{Caused.{broken_caused, caused_by, ended_caused}, Grown.{none_grown}}
use Rattle.bridge_steps.proofs.Rest.{ended, broken, files_after, next_leads, seen_after, stopped, taken_of}

pub returns-in-Ok-clause-next : goal.returns-in-Ok-clause-next
returns-in-Ok-clause-next g c = λ bytes remaining files seen.
    let run = c.args.run.now in let x = c.in-Ok-Some.frame in let at = c.next.new.at in
    let t = g.T.Follow in let followed = c.args.followed.now in let stream = t.stream followed in
    let read = c.in-Ok-Some.ensures.frame bytes remaining in
    let is : stream run.at bytes ≡ with_first (Some x) read.2 (stream at read.0) = read.4
    ∙ ap (λ frame. with_first frame read.2 (stream at read.0)) c.in-Ok-Some.field-0-is in
    let took = taken_of read.2 bytes (g.I.Source.remaining c.args.input.now) (g.I.Source.remaining c.next.new.input) remaining
    (read.1 ∙ ap Some read.3) in
    let counts = rw c.in-Ok-Some.field-0-is at c.in-Ok-Some.ensures.counts in
    let step = c.in-Ok.ensures.done files seen in let next = c.in-Ok.ensures.next files seen in
    let written = (step_of (t.told followed files) run.live run.at.frames x).files in (
      read.0,
      read.1,
      files_after (t.reads followed) written files,
      seen_after (t.reads followed) written _ _ files seen step.files,
      next_leads (t.reads followed) (t.told followed) stream files run
          (record { at = at; live = c.follow_frame.new.live; accepted = c.in-Ok.accepted }) bytes read.0 x read.2
          (world_of g.I.Source g.F.Store g.P.Sink c.args.input.now c.args.store.now c.args.report.now c.args.steps.now)
          (world_of g.I.Source g.F.Store g.P.Sink c.next.new.input c.follow_frame.new.store c.follow_frame.new.report
          c.follow_frame.new.steps)
          is took counts next.0 next.1
          (record { files = step.files; report = step.report; least = step.least; most = step.most })
          (record {
            input = c.in-Ok-Some.ensures.cause.never_falls;
            reads = c.in-Ok.ensures.counts.0;
            writes = c.in-Ok.ensures.counts.1;
            report = c.in-Ok.ensures.counts.2;
          }),
    )

pub returns-in-Ok-Some-clause-next : goal.returns-in-Ok-Some-clause-next
returns-in-Ok-Some-clause-next g c = λ bytes remaining files seen.
    let run = c.args.run.now in let x = c.in-Ok-Some.frame in let at = c.next.new.at in
    let t = g.T.Follow in let followed = c.args.followed.now in let stream = t.stream followed in
    let read = c.in-Ok-Some.ensures.frame bytes remaining in
    let is : stream run.at bytes ≡ with_first (Some x) read.2 (stream at read.0) = read.4
    ∙ ap (λ frame. with_first frame read.2 (stream at read.0)) c.in-Ok-Some.field-0-is in
    let took = taken_of read.2 bytes (g.I.Source.remaining c.args.input.now) (g.I.Source.remaining c.next.new.input) remaining
    (read.1 ∙ ap Some read.3) in
    record {
      works = stopped (t.reads followed) (t.told followed) files run.live run.at.frames run.accepted x read.2 (stream run.at bytes)
          (stream at read.0)
          (world_of g.I.Source g.F.Store g.P.Sink c.args.input.now c.args.store.now c.args.report.now c.args.steps.now)
          (world_of g.I.Source g.F.Store g.P.Sink c.next.new.input c.follow_frame.new.store c.follow_frame.new.report
          c.follow_frame.new.steps)
          is took c.in-Err-follow_frame.told (c.in-Err-follow_frame.ensures.stops files seen);
      never_falls = record {
        input = c.in-Ok-Some.ensures.cause.never_falls;
        reads = c.in-Err-follow_frame.ensures.counts.0;
        writes = c.in-Err-follow_frame.ensures.counts.1;
        report = c.in-Err-follow_frame.ensures.counts.2;
      };
    }

pub returns-in-Ok-None-clause-next : goal.returns-in-Ok-None-clause-next
returns-in-Ok-None-clause-next g c = λ bytes remaining files seen.
    let run = c.args.run.now in
    let t = g.T.Follow in let followed = c.args.followed.now in let stream = t.stream followed in
    let read = c.in-Ok-None.ensures.frame bytes remaining in
    let is : stream run.at bytes ≡ with_first None read.2 (stream c.next.new.at read.0) = read.4
    ∙ ap (λ frame. with_first frame read.2 (stream c.next.new.at read.0)) c.in-Ok-None.field-0-is in
    let took = taken_of read.2 bytes (g.I.Source.remaining c.args.input.now) (g.I.Source.remaining c.next.new.input) remaining
    (read.1 ∙ ap Some read.3) in
    record {
      works = ended (t.reads followed) (t.told followed) files run.live run.at.frames run.accepted (stream run.at bytes)
          c.stream_done.result _ _ read.2 is c.stream_done.ensures took (record { files = refl; report = refl; made = refl });
      never_falls = record {
        input = c.in-Ok-None.ensures.cause.never_falls;
        reads = omega arith;
        writes = omega arith;
        report = omega arith;
      };
    }

pub returns-clause-next : goal.returns-clause-next
returns-clause-next g c = λ bytes remaining files seen.
    let run = c.args.run.now in
    let t = g.T.Follow in let followed = c.args.followed.now in let stream = t.stream followed in
    record {
      works = broken (t.reads followed) (t.told followed) files run.live run.at.frames run.accepted (stream run.at bytes)
          c.broken.result _ _ c.in-Err.fault bytes remaining (c.in-Err.ensures.frame bytes remaining) c.broken.ensures
          (λ is. c.in-Err.ensures.cause.rose (ap Err is)) (record { files = refl; report = refl; made = refl });
      never_falls = record { input = c.in-Err.ensures.cause.never_falls; reads = omega arith; writes = omega arith; report = omega arith };
    }

pub returns-in-Ok-Some-clause-caused : goal.returns-in-Ok-Some-clause-caused
returns-in-Ok-Some-clause-caused g c =
    let s = g.I.Source in let before = c.args.input.now in let after = c.next.new.input in
    c.in-Err-follow_frame.ensures.caused (s.remaining before, s.faults before) (s.remaining after, s.faults after)

pub returns-in-Ok-None-clause-caused : goal.returns-in-Ok-None-clause-caused
returns-in-Ok-None-clause-caused g c = caused_by _ _ _ _ (ended_caused _ _ _ _ c.stream_done.ensures)

pub returns-clause-caused : goal.returns-clause-caused
returns-clause-caused g c =
    caused_by _ _ _ _ (broken_caused _ _ _ _ c.broken.ensures (λ is. c.in-Err.ensures.cause.rose (ap Err is)))

pub returns-in-Ok-None-clause-told : goal.returns-in-Ok-None-clause-told
returns-in-Ok-None-clause-told g c = let report = g.P.Sink.written c.args.report.now in none_grown report report refl

pub returns-clause-told : goal.returns-clause-told
returns-clause-told g c = let report = g.P.Sink.written c.args.report.now in none_grown report report refl
