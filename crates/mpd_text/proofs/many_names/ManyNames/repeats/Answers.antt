use Rattle.mpd_text.proofs.many_names.ManyNames.repeats.Goals as goal
use Rattle.std.proofs.{Common.{[], ◌∷◌, arith}, lemmas.List.{length-append, length-map}}
use Rattle.mpd_text.specs.{ManyNames.HasNames, Names.{name_in, names_in}}
use Rattle.mpd_text.proofs.many_names.ManyNames.repeats.Goals.{then-before-eq-FEW+in_ok-add_all, else-before-eq-FEW}

pub returns-clause-read : goal.returns-clause-read
returns-clause-read c = λ prepared.
    let names = names_in c.args.bytes.now c.args.before.now in
    let count = length-map c.args.before.now (name_in c.args.bytes.now) in
    let has : HasNames c.if-before-eq-FEW.self names = elim c.if-before-eq-FEW.branch [
      | then-before-eq-FEW+in_ok-add_all w ↦
          rw w.self-is (w.in_ok-add_all.ensures.names (prepared.0 (omega (arith, count, w.if-before-eq-FEW.true))))
      | else-before-eq-FEW w ↦ rw w.self-is (prepared.1 (omega (arith, count, w.if-before-eq-FEW.false, c.requires.many)))
    ] in
    let added = c.in_ok-add.ensures.name names has in (
      grind (arith, added.0),
      λ new. (λ few. absurd (omega (arith, count, c.requires.many, length-append names (c.args.name.now ∷ []))), λ more. added.1),
    )
