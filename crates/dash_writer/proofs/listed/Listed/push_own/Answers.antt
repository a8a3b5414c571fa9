use Rattle.dash_writer.proofs.listed.Listed.push_own.Goals as goal
use Rattle.std.proofs.{Common.{◌≡◌, None, length, map, ap, ◌∙◌, arith}, lemmas.List.length-map}
use Rattle.std.specs.Result.{result_unwrap_or}
use Rattle.bridge_io.proofs.Adding.{adds_same}
use Rattle.exact_time.specs.Time.{Time}
use Rattle.timeline.specs.Listed.{expansion}
use Rattle.presentation.specs.Presented.{listed_in}
use Rattle.presentation.proofs.{OwnListed.{counted, fits, reached}, Printing.all_listed}
use Rattle.dash_writer.specs.{Forms.segments_with, Lists.parts_of, Segments.duration_of, Written.element_text}

pub count-requires : goal.count-requires
count-requires g c = fits c.args.self.now.runs.now c.args.self.now.window c.requires.ended

pub seek-requires-clause-window : goal.seek-requires-clause-window
seek-requires-clause-window g c = fits c.args.self.now.runs.now c.args.self.now.window c.requires.ended

pub seek-requires-clause-reached : goal.seek-requires-clause-reached
seek-requires-clause-reached g c = reached c.args.self.now.runs.now c.args.self.now.window c.requires.ended

pub walk-walk-requires-clause-reached : goal.walk-walk-requires-clause-reached
walk-walk-requires-clause-reached g c = reached c.args.self.now.runs.now c.args.self.now.window c.requires.ended

pub push-requires-clause-few : goal.push-requires-clause-few
push-requires-clause-few g c = let runs = c.args.self.now.runs.now in let window = c.args.self.now.window in
    let all = c.walk-walk.ensures.listed ∙ all_listed window (expansion runs window) c.seek.result c.seek.ensures.first.none_before in
    let number : c.unwrap_or.result ≡ length (listed_in window runs) = c.unwrap_or.ensures
    ∙ ap (λ n. result_unwrap_or n 0) c.count.ensures ∙ counted runs window (reached runs window c.requires.ended) in
    omega (arith, length-map c.walk-walk.result duration_of, ap length all, number, c.unwrap_or.type_inv)

pub returns : goal.returns
returns g c = let runs = c.args.self.now.runs.now in let window = c.args.self.now.window in let listed = listed_in window runs in
    let all = c.walk-walk.ensures.listed ∙ all_listed window (expansion runs window) c.seek.result c.seek.ensures.first.none_before in
    let ticks = c.from.ensures ∙ ap (λ (t : Time). t.scale) c.offset.ensures in
    adds_same (ap (λ xs. element_text (segments_with c.args.self.now.form c.from.result None 0 c.args.part.now (map duration_of xs) (parts_of runs listed))) all
    ∙ ap (λ n. element_text (segments_with c.args.self.now.form n None 0 c.args.part.now (map duration_of listed) (parts_of runs listed))) ticks)
    c.push.ensures
