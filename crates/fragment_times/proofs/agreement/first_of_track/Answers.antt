use Rattle.fragment_times.proofs.agreement.first_of_track.Goals as goal
use Rattle.std.proofs.{Common.{◌≡◌, ◌<◌, ◌*◌, ◌+◌, length, refl, ap, ◌∙◌, arith}, lemmas.Option.slice_get_read}
use Rattle.exact_time.specs.Tick.{time_of}
use Rattle.fragment_times.proofs.{Apart.{apart_is, in_place}, Listed.{is_reached, listed_whole}}

pub seek-requires-clause-reached : goal.seek-requires-clause-reached
seek-requires-clause-reached c =
    is_reached c.args.presentation.now c.args.section c.args.track c.runs-runs.result.now c.runs-runs.ensures.content
    c.closed_ends.ensures.reached c.requires.ended c.window-window.result

pub walk-walk-requires-clause-reached : goal.walk-walk-requires-clause-reached
walk-walk-requires-clause-reached c =
    is_reached c.args.presentation.now c.args.section c.args.track c.runs-runs.result.now c.runs-runs.ensures.content
    c.closed_ends.ensures.reached c.requires.ended c.window-window.result

pub returns : goal.returns
returns c =
    let p = c.args.presentation.now in let times = c.args.times.now in let s = c.args.section in let t = c.args.track in
    let runs = c.runs-runs.result.now in let own = c.index-times-section.result in
    let within : s * length p.tracks + t < length times =
    (let row = in_place s t (length p.sections) (length p.tracks) c.requires.section c.requires.track in
    omega (arith, row, c.requires.filled)) in
    let place : c.len.result ≡ length p.tracks = c.len.ensures ∙ ap length c.tracks.ensures in
    (rw c.as_slice.ensures at c.first_apart.ensures)
    ∙ apart_is p times s t runs own (time_of c.offset.result) _ c.runs-runs.ensures.content
    (slice_get_read times (length times) (s * length p.tracks + t) own refl within (rw place at c.index-times-section.is)) c.offset.ensures
    (c.walk-walk.ensures.listed ∙ listed_whole p s t runs c.runs-runs.ensures.content c.window-window.result c.seek.result
    c.window-window.ensures c.seek.ensures.first)
