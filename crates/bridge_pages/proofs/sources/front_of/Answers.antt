use Rattle.std.proofs.Common.{◌≡◌, min, Ok, Err, ap, rules, subst}
use Rattle.std.specs.Option.{ForSome}
use Rattle.box_reader.specs.Parts.{part_of}
use Rattle.box_reader.specs.declared.part.PartFault.TheVariants.{Absent}
use Rattle.bridge_io.specs.{Answer.told_as, Slurped.Missing}
use Rattle.bridge_report.specs.Reading.{manifest_limit}
use Rattle.bridge_pages.specs.Sources.{missing}
use Rattle.bridge_pages.proofs.sources.front_of.Goals as goal

pub returns-in-Ok-clause-read : goal.returns-in-Ok-clause-read
returns-in-Ok-clause-read g c =
    let same : c.min.result ≡ min c.args.most manifest_limit = search rules in
    λ files told. subst (λ n. told_as missing (part_of 0 n (files c.args.name.now)) ≡ Ok c.in-Ok.bytes) same
    (ap (told_as missing) (c.in-Ok.ensures.part files told))

pub returns-in-Err-Absent-clause-read : goal.returns-in-Err-Absent-clause-read
returns-in-Err-Absent-clause-read g c =
    let same : c.min.result ≡ min c.args.most manifest_limit = search rules in
    let absent : ForSome (g.F.Store.files c.args.store.now) (λ files.
    part_of 0 c.min.result (files c.args.name.now) ≡ Err Absent) =
    rw c.in-Err-Absent.field-0-is at c.in-Err-Absent.ensures.part in
    λ files told. subst (λ n. told_as missing (part_of 0 n (files c.args.name.now)) ≡ Err Missing) same
    (ap (told_as missing) (absent files told))
