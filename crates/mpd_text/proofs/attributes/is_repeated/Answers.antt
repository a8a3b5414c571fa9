use Rattle.mpd_text.proofs.attributes.is_repeated.Goals as goal
use Rattle.std.proofs.Common.{◌<◌, length, arith}
use Rattle.mpd_text.specs.Keeping.{names_from}
use Rattle.mpd_text.proofs.KeptRows.{few_prepared, names_before}

pub returns-then-before-lt-FEW-clause-read : goal.returns-then-before-lt-FEW-clause-read
returns-then-before-lt-FEW-clause-read c =
    let k = c.args.kept.now in
    let names = names_before k c.args.names.now.from _ _ c.as_bytes-source.ensures.value c.deref.ensures.value in
    let few : length (names_from k c.args.names.now.from) < 16 = omega (arith, c.if-before-lt-FEW.true, names.1) in
    (rw names.0 at c.is_name_of_any.ensures, λ _. few_prepared _ _ _ few c.requires.known.prepared)

pub returns-clause-read : goal.returns-clause-read
returns-clause-read c =
    let names = names_before c.args.kept.now c.args.names.now.from _ _ c.as_bytes-source.ensures.value c.deref.ensures.value in
    (rw names.0 at c.repeats.ensures.read) c.requires.known.prepared
