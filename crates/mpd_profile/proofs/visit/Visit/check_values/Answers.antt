use Rattle.mpd_profile.proofs.visit.Visit.check_values.Goals as goal
use Rattle.std.proofs.Common.{◌∙◌, ◌||◌, Some, sym}
use Rattle.std.specs.List.{list_any}
use Rattle.mpd_profile.specs.{Passes.visit_shown, Refusals.{attributes_told, has_no_type, lacks, required_of}}
use Rattle.mpd_profile.proofs.Telling.{none_missing, some_missing}

pub returns-then-is_incomplete : goal.returns-then-is_incomplete
returns-then-is_incomplete c = λ before behind.
    let visit = visit_shown c.args.self.now before in
    rw (c.place.ensures, c.in-Some.is)
    (some_missing visit.head.place (list_any (lacks visit.head) (required_of (Some c.in-Some.listed) visit.dynamic)
    || has_no_type (Some c.in-Some.listed) visit.parent visit.head)
    (attributes_told c.args.addressing visit (Some c.in-Some.listed)) (rw c.in-Some.is at (sym c.is_incomplete.ensures
    ∙ c.if-is_incomplete.true)))

pub returns : goal.returns
returns c = λ before behind.
    let visit = visit_shown c.args.self.now before in
    rw (c.check_attribute_values.ensures before behind, c.in-Some.is)
    (none_missing visit.head.place (list_any (lacks visit.head) (required_of (Some c.in-Some.listed) visit.dynamic)
    || has_no_type (Some c.in-Some.listed) visit.parent visit.head)
    (attributes_told c.args.addressing visit (Some c.in-Some.listed)) (rw c.in-Some.is at (sym c.is_incomplete.ensures
    ∙ c.if-is_incomplete.false)))
