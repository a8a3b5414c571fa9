use Rattle.std.proofs.Common.{◌≡◌, refl, rules, ◌∙◌}
use Rattle.mpd_profile.specs.Heads.{or_else}
use Rattle.mpd_levels.specs.Levels.{elements_used, list_name, template_name}
use Rattle.mpd_levels.proofs.Showing.{Grows-then, Shows-grows}
use Rattle.mpd_levels.proofs.level.Level.below.Goals as goal

pub returns-in_err-base-clause-grows : goal.returns-in_err-base-clause-grows
returns-in_err-base-clause-grows c = Grows-then c.below.ensures.grows c.below-2.ensures.grows

pub returns-clause-says : goal.returns-clause-says
returns-clause-says c = λ above says.
    let means : c.or.result ≡ or_else c.means_of-means.result c.args.self.now.means = search rules in
    let template = c.in_ok-template.ensures.shows (elements_used template_name above) says.template in
    let list = c.in_ok-list.ensures.shows (elements_used list_name above) (Shows-grows c.below.ensures.grows says.list) in
    record {
      means = means ∙ rw (
        c.means_of-means.ensures,
        says.means,
        c.child_named-template_node.ensures,
        c.child_named-list_node.ensures,
        c.child_named-base_node.ensures,
      ) refl;
      template = Shows-grows c.below-2.ensures.grows (rw c.child_named-template_node.ensures at template);
      list = rw c.child_named-list_node.ensures at list;
      base = c.in_ok-base.ensures ∙ rw (c.child_named-base_node.ensures, says.base) refl;
    }
