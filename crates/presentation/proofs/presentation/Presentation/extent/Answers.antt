use Rattle.presentation.proofs.presentation.Presentation.extent.Goals as goal
use Rattle.exact_time.specs.{Time.difference, Floor.floor_in, Tick.time_of}
use Rattle.std.proofs.Common.{◌∙◌, ◌^◌, ap, sym}
use Rattle.std.specs.Result.{result_unwrap_or}
use Rattle.presentation.specs.Verifying.{length_of}
use Rattle.presentation.proofs.Extents.{count_of, listed_behind}

pub returns-clause-segments : goal.returns-clause-segments
returns-clause-segments c = let p = c.args.self.now in let s = c.args.section in let t = c.args.track in
    let counted = rw c.window-window.ensures at c.count.ensures in
    c.unwrap_or.ensures ∙ ap (λ r. result_unwrap_or r 0) (counted
    ∙ count_of p s t c.content.result.now c.content.ensures.content c.requires.counted)

pub returns-clause-units : goal.returns-clause-units
returns-clause-units c = let p = c.args.self.now in let s = c.args.section in let t = c.args.track in let first = c.in-Some.first in
    let none = rw c.window-window.ensures at c.seek.ensures.first.none_before in
    let walk = rw c.window-window.ensures at c.walk-walk.ensures.listed in
    let all = listed_behind p s t c.content.result.now c.content.ensures.content c.seek.result none ∙ sym walk ∙ c.in-Some.ensures.steps in
    c.floor_unit.ensures.value ∙ ap (λ unit. floor_in unit (difference (time_of c.last_end.result) (time_of first.start)))
    c.unit.ensures.value
    ∙ ap (λ end. floor_in (10 ^ c.args.digits) (difference end (time_of first.start))) c.last_end.ensures.last
    ∙ sym (ap (length_of (10 ^ c.args.digits)) all)
