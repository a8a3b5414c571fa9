use Rattle.mpd_profile.proofs.visit.Visit.check_features.Goals as goal
use Rattle.mpd_profile.specs.{Features.{attributes_told, codes_feature, parent_feature}, Passes.visit_shown}
use Rattle.mpd_profile.proofs.Telling.{no_feature, some_feature}

pub returns-in-Some : goal.returns-in-Some
returns-in-Some c = λ before behind.
    let visit = visit_shown c.args.self.now before in
    rw (c.at.ensures, c.place.ensures)
    (some_feature visit.head.place (parent_feature visit.parent before visit.head.name)
    (codes_feature visit.listed visit.parent visit.head)
    (attributes_told visit.listed visit.dynamic visit.head.attributes) c.in-Some.feature (c.in-Some.ensures before behind))

pub returns-in-None : goal.returns-in-None
returns-in-None c = λ before behind.
    let visit = visit_shown c.args.self.now before in
    rw c.check_attribute_features.ensures
    (no_feature visit.head.place (parent_feature visit.parent before visit.head.name) (codes_feature visit.listed visit.parent visit.head)
    (attributes_told visit.listed visit.dynamic visit.head.attributes) (c.in-None.ensures before behind))
