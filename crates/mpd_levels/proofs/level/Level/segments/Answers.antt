use Rattle.mpd_levels.specs.declared.level.Means.TheVariants as means
use Rattle.mpd_levels.proofs.level.Level.segments.Goals as goal
use Rattle.std.proofs.Common.{◌≡◌, refl, rules, true, false, Some, None}
use Rattle.mpd_levels.specs.{Levels.{used, elements_used, list_name, template_name}, Segments.{told, values_in}}
use Rattle.mpd_levels.proofs.Showing.{row_tells, segments_is}

pub returns-in_ok-of-in-Some-Template : goal.returns-in_ok-of-in-Some-Template
returns-in_ok-of-in-Some-Template c = λ tables levels says.
    let is : used levels ≡ Some means.Template = rw (← says.means) (search rules) in
    let values = values_in false (elements_used template_name levels) in (
      told false values,
      segments_is levels (Some means.Template) is,
      row_tells tables _ false _ values c.in_ok-of-in-Some-Template.ensures says.template,
    )

pub returns-in_ok-of-in-Some-List : goal.returns-in_ok-of-in-Some-List
returns-in_ok-of-in-Some-List c = λ tables levels says.
    let is : used levels ≡ Some means.List = rw (← says.means) (search rules) in
    let values = values_in true (elements_used list_name levels) in
    (told true values, segments_is levels (Some means.List) is, row_tells tables _ true _ values c.in_ok-of-in-Some-List.ensures says.list)

pub returns-in-Some-Base : goal.returns-in-Some-Base
returns-in-Some-Base c = λ tables levels says.
    let is : used levels ≡ Some means.Base = rw (← says.means) (search rules) in segments_is levels (Some means.Base) is

pub returns-in-None : goal.returns-in-None
returns-in-None c = λ tables levels says.
    let is : used levels ≡ None = rw (← says.means, c.in-None.is) refl in segments_is levels None is
