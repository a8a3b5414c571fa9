use Rattle.fragment_times.proofs.times.Reading.starts.Goals as goal
use Rattle.std.proofs.{Common.{Ok, append-nil, sym, ap, ◌∙◌, arith, rules}, lemmas.Result.err_from_is_err_and}
use Rattle.presentation.proofs.Gathering.{behind_nothing}
use Rattle.timeline.specs.Listed.{IsDone, IsMade}
use Rattle.fragment_times.specs.{Parts.start_at, Times.{all_starts, alone, behind, parts_of}}
use Rattle.fragment_times.proofs.{Gathered.{next_refused, next_told, one_refused, one_told}, Listed.{next_part, no_part, still_addressed}}

pub loop-starts-init : goal.loop-starts-init
loop-starts-init g c = rw c.new-starts.ensures (record {
  files = search rules;
  writes = search rules;
  never_falls = omega arith;
  addressed = c.requires;
  told = λ files told. behind_nothing _;
})

pub returns-in_err-part_start-clause-starts : goal.returns-in_err-part_start-clause-starts
returns-in_err-part_start-clause-starts g c = λ files told.
    let l = c.loop-starts in let new = c.next_segment.new.listing in
    let next : IsMade l.listing c.in-Some.segment new = rw c.in-Some.is at c.in_ok-segment.ensures in
    let give = start_at c.args.self.now.folder.now files in
    let part = c.in-Some.segment.part in
    let left =
    ap (λ parts. behind l.starts (all_starts c.args.self.now.folder.now files parts)) (next_part l.listing new c.in-Some.segment next) in
    let fault = err_from_is_err_and c.from_residual-in_err-part_start.result c.from_residual-in_err-part_start.ensures.1 in
    rw (fault.1, fault.2) (next_refused (λ part. alone (give part)) part (parts_of new.timeline new.left) l.starts _
    (sym left ∙ l.invariant.told files told) c.in_err-part_start.field-0.0
    (one_refused l.starts (give part) c.in_err-part_start.field-0.0
    (rw c.into_part-part.ensures at (c.in_err-part_start.ensures.start files (l.invariant.files ∙ told)))))

pub loop-starts-preserved : goal.loop-starts-preserved
loop-starts-preserved g c =
    let l = c.loop-starts in let new = c.next_segment.new.listing in
    let next : IsMade l.listing c.in-Some.segment new = rw c.in-Some.is at c.in_ok-segment.ensures in
    let part = c.in-Some.segment.part in
    record {
      files = c.in_ok-part_start.ensures.files ∙ l.invariant.files;
      writes = c.in_ok-part_start.ensures.writes ∙ l.invariant.writes;
      never_falls = omega (arith, c.in_ok-part_start.ensures.cause.never_falls, l.invariant.never_falls);
      addressed = still_addressed l.listing new c.in-Some.segment next l.invariant.addressed;
      told = λ files told.
          let give = start_at c.args.self.now.folder.now files in
          let left =
          ap (λ parts. behind l.starts (all_starts c.args.self.now.folder.now files parts))
          (next_part l.listing new c.in-Some.segment next) in
          rw c.in_ok-push.ensures.ok (next_told (λ part. alone (give part)) part (parts_of new.timeline new.left) l.starts _
          (sym left ∙ l.invariant.told files told) _
          (one_told l.starts (give part) c.in_ok-part_start.field-0.value
          (rw c.into_part-part.ensures at (c.in_ok-part_start.ensures.start files (l.invariant.files ∙ told)))));
    }

pub returns-clause-starts : goal.returns-clause-starts
returns-clause-starts g c = λ files told.
    let l = c.loop-starts in let new = c.next_segment.new.listing in
    let done : IsDone l.listing new = rw c.in_default.is at c.in_ok-segment.ensures in
    sym (l.invariant.told files told)
    ∙ ap (λ parts. behind l.starts (all_starts c.args.self.now.folder.now files parts)) (no_part l.listing new done)
    ∙ ap Ok (append-nil l.starts)
