use Rattle.hls_lines.proofs.lines.Lines.count_uris.Goals as goal
use Rattle.std.proofs.{Common.{ap, arith, count_by, rules, zero-add, ◌∙◌}, lemmas.List.Sums.count_by-le-length}
use Rattle.hls_lines.specs.Lines.{is_uri, text_lines}
use Rattle.hls_lines.proofs.ScanLemmas.{few_lines}

pub loop-rest-init : goal.loop-rest-init
loop-rest-init c = let few = few_lines c.self.inside.place c.self.inside.rest.now in (
  search rules,
  zero-add _ ∙ ap (count_by is_uri) c.self.view_is,
  c.self.invariant,
  rw (← c.self.view_is) (omega (
    arith,
    few,
    count_by-le-length is_uri (text_lines c.self.inside.place c.self.inside.rest.now),
    c.self.invariant.few,
  )),
)

pub returns-clause-few : goal.returns-clause-few
returns-clause-few c = rw (← c.self.view_is) (omega (arith, few_lines c.self.inside.place c.self.inside.rest.now, c.self.invariant.few))
