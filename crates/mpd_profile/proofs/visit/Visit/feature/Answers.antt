use Rattle.mpd_profile.proofs.visit.Visit.feature.Goals as goal
use Rattle.std.proofs.Common.{◌∙◌, ap}
use Rattle.mpd_profile.specs.{Features.codes_feature, Heads.or_else, Passes.visit_shown}

pub returns-in-Some : goal.returns-in-Some
returns-in-Some c = λ before behind.
    let visit = visit_shown c.args.self.now before in
    ap (λ own. or_else own (codes_feature visit.listed visit.parent visit.head)) (c.in-Some.ensures before behind)

pub returns-in-None : goal.returns-in-None
returns-in-None c = λ before behind.
    let visit = visit_shown c.args.self.now before in
    c.feature_by_codes.ensures ∙ ap (λ own. or_else own (codes_feature visit.listed visit.parent visit.head))
    (c.in-None.ensures before behind)
