use Rattle.mpd_levels.specs.declared.level.Means.TheVariants as means
use Rattle.mpd_levels.proofs.level.Level.index.Goals as goal
use Rattle.std.proofs.{Common.{◌≡◌, refl, rules, ◌∙◌, sym, Some, None}, lemmas.Result.IfOk-weaker}
use Rattle.mpd_levels.specs.{Indexed.index_of, Levels.used}
use Rattle.mpd_levels.proofs.Showing.{index_is}

pub returns-in-Some-Base : goal.returns-in-Some-Base
returns-in-Some-Base c = λ tables levels says.
    let is : used levels ≡ Some means.Base = rw (← says.means) (search rules) in
    IfOk-weaker c.share_index.result (λ row. row ≡ c.args.self.now.base) (λ row. row ≡ index_of levels)
    (λ row same. same ∙ says.base ∙ sym (index_is levels (Some means.Base) is))
    c.share_index.ensures

pub returns-in-Some-Template : goal.returns-in-Some-Template
returns-in-Some-Template c = λ tables levels says.
    let is : used levels ≡ Some means.Template = rw (← says.means) (search rules) in sym (index_is levels (Some means.Template) is)

pub returns-in-Some-List : goal.returns-in-Some-List
returns-in-Some-List c = λ tables levels says.
    let is : used levels ≡ Some means.List = rw (← says.means) (search rules) in sym (index_is levels (Some means.List) is)

pub returns-in-None : goal.returns-in-None
returns-in-None c = λ tables levels says.
    let is : used levels ≡ None = rw (← says.means, c.in-None.is) refl in sym (index_is levels None is)
