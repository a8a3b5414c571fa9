use Rattle.presentation.proofs.presentation.Presentation.verify_section.Goals as goal
use Rattle.std.proofs.Common.{◌≡◌, ◌+◌, ◌^◌, ap, sym, subst, ◌∙◌, OnOk}
use Rattle.std.specs.Result.{result_unwrap_or}
use Rattle.bridge_io.specs.Answer.{Gives}
use Rattle.presentation.specs.Counting.{refusal}
use Rattle.presentation.proofs.{Extents.count_of, Verified.{left_as_many, verified_as}}

pub longest-requires-clause-listed : goal.longest-requires-clause-listed
longest-requires-clause-listed g c = let p = c.args.self.now in let s = c.args.section in let t = c.args.track in
    let counted = rw c.window-window.ensures at c.count.ensures in
    let content = c.content.ensures.content in
    c.unwrap_or-listed.ensures ∙ ap (λ r. result_unwrap_or r 0) (counted ∙ count_of p s t c.content.result.now content c.requires.counted)
    ∙ sym (left_as_many p s t (10 ^ c.args.digits) c.segments-segments.result c.content.result.now content c.segments-segments.ensures)

pub returns-clause-longest : goal.returns-clause-longest
returns-clause-longest g c = let p = c.args.self.now in let s = c.args.section in let t = c.args.track in
    subst (Gives (λ n. n) refusal c.longest.result)
    (verified_as p s t (10 ^ c.args.digits) c.segments-segments.result c.content.result.now c.content.ensures.content
    c.segments-segments.ensures) c.longest.ensures.longest

pub returns-clause-made : goal.returns-clause-made
returns-clause-made g c = let p = c.args.self.now in let s = c.args.section in let t = c.args.track in
    subst (λ n. OnOk c.longest.result (c.longest.new.steps ≡ c.args.steps.now + n))
    (left_as_many p s t (10 ^ c.args.digits) c.segments-segments.result c.content.result.now c.content.ensures.content
    c.segments-segments.ensures) c.longest.ensures.made
