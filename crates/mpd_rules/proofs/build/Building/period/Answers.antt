use Rattle.mpd_rules.proofs.build.Building.period.Goals as goal
use Rattle.std.proofs.{Common.{All, [], ◌∷◌, map, ap, sym, subst, refl, ◌∙◌}, lemmas.Result.err_from_is_err_and}
use Rattle.mpd_tree.specs.Nodes.{element_of}
use Rattle.mpd_levels.proofs.Showing.{Grows-then}
use Rattle.mpd_rules.specs.Fits.{FitsSet}

pub tracks-requires-clause-fits : goal.tracks-requires-clause-fits
tracks-requires-clause-fits g c = subst (All FitsSet) (sym (ap (map element_of) c.deref.ensures.value
    ∙ c.in_ok-sets.ensures.kept)) c.requires.sets

pub tracks-requires-clause-said : goal.tracks-requires-clause-said
tracks-requires-clause-said g c = (element_of c.args.period ∷ [], c.in_ok-level.ensures.says [] (c.top.ensures c.args.self.now.tables))

pub returns-in_err-tracks-clause-grows : goal.returns-in_err-tracks-clause-grows
returns-in_err-tracks-clause-grows g c = Grows-then c.below.ensures.grows c.tracks.ensures.grows

pub returns-in_err-tracks-clause-refused : goal.returns-in_err-tracks-clause-refused
returns-in_err-tracks-clause-refused g c =
    let p = err_from_is_err_and c.from_residual-in_err-tracks.result c.from_residual-in_err-tracks.ensures.1 in
    let sets = ap (map element_of) c.deref.ensures.value ∙ c.in_ok-sets.ensures.kept in
    rw (p.1, p.2) (rw sets at (c.in_err-tracks.ensures.refused (element_of c.args.period ∷ [])
    (c.in_ok-level.ensures.says [] (c.top.ensures c.args.self.now.tables))))

pub returns-in_err-id-clause-grows : goal.returns-in_err-id-clause-grows
returns-in_err-id-clause-grows g c = Grows-then c.below.ensures.grows c.tracks.ensures.grows

pub returns-clause-grows : goal.returns-clause-grows
returns-clause-grows g c = Grows-then c.below.ensures.grows c.tracks.ensures.grows

pub returns-clause-refused : goal.returns-clause-refused
returns-clause-refused g c =
    let sets = ap (map element_of) c.deref.ensures.value ∙ c.in_ok-sets.ensures.kept in
    rw sets at (c.in_ok-tracks.ensures.refused (element_of c.args.period ∷ [])
    (c.in_ok-level.ensures.says [] (c.top.ensures c.args.self.now.tables)))

pub returns-clause-row : goal.returns-clause-row
returns-clause-row g c = λ later grows.
    let sets = ap (map element_of) c.deref.ensures.value ∙ c.in_ok-sets.ensures.kept in
    let tracks = rw sets at (c.in_ok-tracks.ensures.rows (element_of c.args.period ∷ []) later
    (c.in_ok-level.ensures.says [] (c.top.ensures c.args.self.now.tables)) grows) in
    rw (c.in_ok-id.ensures, c.place.ensures, rw c.in_ok-bases.ensures at tracks) refl
