use Rattle.dash_writer.proofs.sets.push_sets.Goals as goal
use Rattle.std.proofs.Common.{◌≡◌, ◌+◌, ◌-◌, length, ap, arith}
use Rattle.dash_writer.specs.{Outline.{set_element, set_elements, sets_of, stand_together}, Runs.longest_runs, Written.elements_text}
use Rattle.dash_writer.proofs.{Progress.{all_added, fails, further, nothing_yet}, Sections.{first_set, nothing_left}}

pub loop-first-init : goal.loop-first-init
loop-first-init g c = let lists = g.T.TrackLists.lists c.args.lists.now c.args.section in let tracks = c.args.tracks.now in
    let none : length tracks - length tracks ≡ 0 = omega arith in
    record { within = omega arith; so_far = rw none (nothing_yet (elements_text (sets_of lists tracks)) _) }

pub push_set-requires-clause-listed : goal.push_set-requires-clause-listed
push_set-requires-clause-listed g c = let l = c.loop-first in
    λ k from below. c.requires k (omega arith) (omega (
      arith,
      below,
      l.invariant.within,
      c.split_at.ensures.front_len,
      c.split_at.ensures.back_len,
    ))

pub returns-in_err-push_set : goal.returns-in_err-push_set
returns-in_err-push_set g c = let lists = g.T.TrackLists.lists c.args.lists.now c.args.section in let l = c.loop-first in
    let rest = l.rest.now in
    let place = length c.args.tracks.now - length rest in let set = c.split_at.result.0.now in let behind = c.split_at.result.1.now in
    fails l.invariant.so_far (elements_text (set_element lists place set))
    (elements_text (set_elements lists (place + length set) (longest_runs stand_together behind)))
    (first_set lists place c.standing_with.result c.in-Some.first.now c.in-Some.others.now rest set behind c.in-Some.ensures.cases.0
    c.standing_with.ensures.run c.split_at.ensures.front c.split_at.ensures.back)
    c.from_residual.result c.from_residual.ensures.1 c.in_err-push_set.ensures

pub loop-first-preserved : goal.loop-first-preserved
loop-first-preserved g c = let lists = g.T.TrackLists.lists c.args.lists.now c.args.section in let l = c.loop-first in
    let rest = l.rest.now in
    let place = length c.args.tracks.now - length rest in let set = c.split_at.result.0.now in let behind = c.split_at.result.1.now in
    let moved : length c.args.tracks.now - length behind ≡ place + length set =
    omega (arith, l.invariant.within, c.split_at.ensures.front_len, c.split_at.ensures.back_len) in record {
      within = omega (arith, l.invariant.within, c.split_at.ensures.back_len);
      so_far = rw moved (further l.invariant.so_far (elements_text (set_element lists place set))
          (elements_text (set_elements lists (place + length set) (longest_runs stand_together behind)))
          (first_set lists place c.standing_with.result c.in-Some.first.now c.in-Some.others.now rest set behind c.in-Some.ensures.cases.0
          c.standing_with.ensures.run c.split_at.ensures.front c.split_at.ensures.back)
          c.in_ok-push_set.ensures);
    }

pub returns : goal.returns
returns g c = let l = c.loop-first in let lists = g.T.TrackLists.lists c.args.lists.now c.args.section in
    all_added l.invariant.so_far (ap (λ tracks. elements_text
    (set_elements lists (length c.args.tracks.now - length l.rest.now) (longest_runs stand_together tracks)))
    (nothing_left l.rest.now c.in_default.ensures.cases))
