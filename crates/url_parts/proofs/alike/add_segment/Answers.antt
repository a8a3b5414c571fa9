use Rattle.url_parts.proofs.ReadAlike.{here_read, kept_open, back_read}
use Rattle.url_parts.proofs.alike.add_segment.Goals as goal

pub returns-then-is_here-clause-alike : goal.returns-then-is_here-clause-alike
returns-then-is_here-clause-alike c =
    let is = c.is_here.ensures c.if-is_here.true in
    here_read _ _ c.requires (rw c.as_slice.ensures.value at is.0) is.1 is.2

pub returns-in-Some-clause-open : goal.returns-in-Some-clause-open
returns-in-Some-clause-open c = rw c.truncate.ensures.items
    (kept_open c.args.short.now.items c.in-Some.kept (rw c.as_slice-2.ensures.value at c.in-Some.ensures.back))

pub returns-in-Some-clause-alike : goal.returns-in-Some-clause-alike
returns-in-Some-clause-alike c = rw c.truncate.ensures.items
    (back_read c.args.short.now.items c.args.segment.now c.in-Some.kept (rw c.as_slice-2.ensures.value at c.in-Some.ensures.back)
    c.in-Some.ensures.up.0 c.in-Some.ensures.up.1)
