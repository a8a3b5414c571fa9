use Rattle.mpd_rules.proofs.build.Building.track.Goals as goal
use Rattle.std.proofs.{Common.{◌∷◌, refl}, lemmas.Result.err_from_is_err_and}
use Rattle.mpd_tree.specs.Nodes.{element_of}
use Rattle.mpd_rules.proofs.Building.{Says-grows}

pub told-requires : goal.told-requires
told-requires g c = let said = c.requires.said in (
  c.below.new.tables,
  element_of c.args.node ∷ said.0,
  c.in_ok-level.ensures.says said.0 said.1,
)

pub returns-in_err-segments-clause-refused : goal.returns-in_err-segments-clause-refused
returns-in_err-segments-clause-refused g c = λ levels says.
    let p = err_from_is_err_and c.from_residual-in_err-segments.result c.from_residual-in_err-segments.ensures.1 in
    rw (p.1, p.2) (rw c.place.ensures at (c.in_err-segments.ensures.refused c.below.new.tables (element_of c.args.node ∷ levels)
    (c.in_ok-level.ensures.says levels says)))

pub returns-clause-refused : goal.returns-clause-refused
returns-clause-refused g c = λ levels says.
    rw c.place.ensures at (c.in_ok-segments.ensures.refused c.below.new.tables (element_of c.args.node ∷ levels)
    (c.in_ok-level.ensures.says levels says))

pub returns-clause-row : goal.returns-clause-row
returns-clause-row g c = λ levels later says grows.
    let told = c.in_ok-segments.ensures.row later (element_of c.args.node ∷ levels)
    (Says-grows grows (c.in_ok-level.ensures.says levels says)) in
    rw (c.in_ok-description.ensures, told) refl
