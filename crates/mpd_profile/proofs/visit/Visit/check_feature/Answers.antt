use Rattle.mpd_profile.proofs.visit.Visit.check_feature.Goals as goal
use Rattle.std.proofs.{Common.{[], ◌∙◌, ap}, lemmas.List.append-nil}
use Rattle.bridge_io.specs.Firsts.{first_fault}
use Rattle.mpd_profile.specs.{Features.{codes_feature, parent_feature}, Passes.visit_shown, Plain.feature_told}
use Rattle.mpd_profile.proofs.Telling.{no_feature, some_feature}

pub returns-in-Some : goal.returns-in-Some
returns-in-Some c = λ before behind.
    let visit = visit_shown c.args.self.now before in
    rw (c.at.ensures, c.place.ensures)
    (some_feature visit.head.place (parent_feature visit.parent before visit.head.name)
    (codes_feature visit.listed visit.parent visit.head) [] c.in-Some.feature (c.in-Some.ensures before behind)
    ∙ ap first_fault (append-nil (feature_told visit)))

pub returns-in-None : goal.returns-in-None
returns-in-None c = λ before behind.
    let visit = visit_shown c.args.self.now before in
    no_feature visit.head.place (parent_feature visit.parent before visit.head.name) (codes_feature visit.listed visit.parent visit.head)
    [] (c.in-None.ensures before behind)
    ∙ ap first_fault (append-nil (feature_told visit))
