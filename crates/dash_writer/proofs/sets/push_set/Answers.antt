use Rattle.dash_writer.proofs.sets.push_set.Goals as goal
use Rattle.std.proofs.{Common.{◌≡◌, ◌+◌, drop, codes, Err, refl, ap, arith}, lemmas.List.drop_all}
use Rattle.bridge_io.proofs.Adding.{adds_same}
use Rattle.dash_writer.specs.{Outline.{set_attributes, track_elements}, Written.elements_text}
use Rattle.dash_writer.proofs.{Nodes.{adds_node, stops_at_children, stops_at_start}, Progress.{all_added, fails, further, nothing_yet}}
use Rattle.dash_writer.proofs.Sections.{one_set, some_tracks, tracks_behind}

pub returns-in_err-push_start : goal.returns-in_err-push_start
returns-in_err-push_start g c = let lists = g.T.TrackLists.lists c.args.lists.now c.args.section in let k = c.args.place in
    let set = c.args.set.now in
    let first = c.in-Some.first.now in let is = c.in-Some.ensures.cases.0 in
    adds_same (one_set lists k first _ set is)
    (stops_at_start (codes "AdaptationSet") (set_attributes first) (track_elements lists k set) (some_tracks lists k first _ set is)
    c.from_residual.result c.from_residual.ensures.1 (rw c.set_attributes-attributes.ensures at c.in_err-push_start.ensures))

pub loop-index-init : goal.loop-index-init
loop-index-init g c = let none : c.args.place + 0 ≡ c.args.place = omega arith in rw none (nothing_yet _ _)

pub push_track-requires-clause-can : goal.push_track-requires-clause-can
push_track-requires-clause-can g c = (c.requires.listed (c.args.place + c.loop-index.index) (omega arith)
    (omega (arith, c.loop-index-test.true))).0

pub push_track-requires-clause-some : goal.push_track-requires-clause-some
push_track-requires-clause-some g c = (c.requires.listed (c.args.place + c.loop-index.index) (omega arith)
    (omega (arith, c.loop-index-test.true))).1

pub returns-in_err-push_track : goal.returns-in_err-push_track
returns-in_err-push_track g c = let lists = g.T.TrackLists.lists c.args.lists.now c.args.section in let k = c.args.place in
    let set = c.args.set.now in
    let first = c.in-Some.first.now in let is = c.in-Some.ensures.cases.0 in
    adds_same (one_set lists k first _ set is)
    (stops_at_children (codes "AdaptationSet") (set_attributes first) (track_elements lists k set) (some_tracks lists k first _ set is)
    (rw c.set_attributes-attributes.ensures at c.in_ok-push_start.ensures)
    c.from_residual-in_err-push_track.result c.from_residual-in_err-push_track.ensures.1
    (fails c.loop-index.invariant _ (elements_text (track_elements lists (k + c.loop-index.index + 1) (drop (c.loop-index.index + 1) set)))
    (tracks_behind lists k set c.loop-index.index c.index-set-index.result c.loop-index-test.true c.index-set-index.is) (Err _) refl
    c.in_err-push_track.ensures))

pub loop-index-preserved : goal.loop-index-preserved
loop-index-preserved g c = let lists = g.T.TrackLists.lists c.args.lists.now c.args.section in let k = c.args.place in
    let set = c.args.set.now in
    let next : k + (c.loop-index.index + 1) ≡ k + c.loop-index.index + 1 = omega arith in
    rw next (further c.loop-index.invariant _ (elements_text (track_elements lists (k + c.loop-index.index + 1)
    (drop (c.loop-index.index + 1) set)))
    (tracks_behind lists k set c.loop-index.index c.index-set-index.result c.loop-index-test.true c.index-set-index.is)
    c.in_ok-push_track.ensures)

pub returns : goal.returns
returns g c = let lists = g.T.TrackLists.lists c.args.lists.now c.args.section in let k = c.args.place in let set = c.args.set.now in
    let first = c.in-Some.first.now in let is = c.in-Some.ensures.cases.0 in
    adds_same (one_set lists k first _ set is)
    (adds_node (codes "AdaptationSet") (set_attributes first) (track_elements lists k set) (some_tracks lists k first _ set is)
    (rw c.set_attributes-attributes.ensures at c.in_ok-push_start.ensures)
    (all_added c.loop-index.invariant (ap (λ tracks. elements_text (track_elements lists (k + c.loop-index.index) tracks))
    (drop_all c.loop-index.index set c.loop-index-test.false)))
    c.push_end.ensures)
