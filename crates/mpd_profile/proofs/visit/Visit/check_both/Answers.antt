use Rattle.std.proofs.Common.{◌∙◌, sym, ap}
use Rattle.bridge_io.specs.Firsts.{first_fault}
use Rattle.mpd_profile.specs.{declared.listed.Addressing.TheVariants.Segments, Features.features_at, Passes.{told_by, visit_shown}}
use Rattle.mpd_profile.specs.Refusals.{values_at}
use Rattle.mpd_profile.proofs.{Passing.first_behind, Plain.plain_told}
use Rattle.mpd_profile.proofs.visit.Visit.check_both.Goals as goal

pub returns-then-is_plain_entry : goal.returns-then-is_plain_entry
returns-then-is_plain_entry c = λ before behind.
    let plain = c.is_plain_entry.ensures c.if-is_plain_entry.true in
    c.check_feature.ensures before behind ∙ ap first_fault (sym (plain_told (visit_shown c.args.self.now before) plain.0 plain.1))

pub returns : goal.returns
unfolding told_by
returns c = λ before behind. let visit = visit_shown c.args.self.now before in
    c.check_values.ensures before behind
    ∙ sym (first_behind (features_at visit) (values_at Segments visit) (sym (c.in_ok-check_features.ensures before behind)))
