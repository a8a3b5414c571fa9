use Rattle.live_judge.proofs.coming.Next.judge.Goals as goal
use Rattle.std.proofs.{Common.{pos, refl, sym, ◌∙◌, ap}, lemmas.Result.err_from_is_err_and}
use Rattle.std.specs.Prelude.{is_some}
use Rattle.presentation.specs.{Counting.range_faults, Presented.looked_at}
use Rattle.live_meaning.specs.Updates.{mpd_of}
use Rattle.live_judge.specs.{Coming.update_of, Shown.common_shown}
use Rattle.live_judge.proofs.{Firsts.told_first, Listing.{looked, next_is, parts, unmoved_there, far_told, mpd_at, none_far}}

pub check_kept-requires-clause-next : goal.check_kept-requires-clause-next
check_kept-requires-clause-next c =
    next_is c.presentations_show_their_mpd.ensures.few c.presentations_show_their_mpd.ensures.followed
    c.answers_allow_listings.ensures.ends _
    c.in_ok-check_ends.field-0 c.requires.live c.requires.unended c.requires.forward c.requires.comes c.in_ok-check_ends.ensures
    c.in_ok-place.ensures.place (λ is. absurd (cc))

pub check_kept-requires-clause-unmoved : goal.check_kept-requires-clause-unmoved
check_kept-requires-clause-unmoved c = λ some.
    unmoved_there (mpd_of (update_of c.args.coming (pos 0)))
    (common_shown c.args.standing.now) c.args.standing.now.place c.args.force.now c.in_ok-place.place c.in_ok-place.ensures.place
    (ap is_some (sym (mpd_at c.args.coming c.args.now)) ∙ some)

pub has_nothing_new-requires : goal.has_nothing_new-requires
has_nothing_new-requires c =
    next_is c.presentations_show_their_mpd.ensures.few c.presentations_show_their_mpd.ensures.followed
    c.answers_allow_listings.ensures.ends _
    c.in_ok-check_ends.field-0 c.requires.live c.requires.unended c.requires.forward c.requires.comes c.in_ok-check_ends.ensures
    c.in_ok-place.ensures.place (λ is. absurd (cc))

pub check_times-requires : goal.check_times-requires
check_times-requires c =
    next_is c.presentations_show_their_mpd.ensures.few c.presentations_show_their_mpd.ensures.followed
    c.answers_allow_listings.ensures.ends _
    c.in_ok-check_ends.field-0 c.requires.live c.requires.unended c.requires.forward c.requires.comes c.in_ok-check_ends.ensures
    c.in_ok-place.ensures.place c.has_nothing_new.ensures

pub returns-in_err-check_ends-clause-judged : goal.returns-in_err-check_ends-clause-judged
returns-in_err-check_ends-clause-judged c =
    let e = err_from_is_err_and c.from_residual.result c.from_residual.ensures.1 in
    rw (e.1, e.2, parts) (far_told (looked_at c.args.now c.args.force.now) c.in_err-check_ends.field-0.0 _
    (sym c.in_err-check_ends.ensures))

pub returns-in_err-place-clause-judged : goal.returns-in_err-place-clause-judged
returns-in_err-place-clause-judged c =
    let far = none_far (range_faults (looked_at c.args.now c.args.force.now)) c.in_ok-check_ends.field-0 c.in_ok-check_ends.ensures in
    let at = looked (common_shown c.args.standing.now) c.args.coming c.args.force.now c.args.now in
    let e = err_from_is_err_and c.from_residual-in_err-place.result c.from_residual-in_err-place.ensures.1 in
    rw (e.1, e.2, parts, far, ← at) (told_first c.in_err-place.field-0.0 _ _ c.in_err-place.ensures.judged)

pub returns-in_err-check_kept-clause-judged : goal.returns-in_err-check_kept-clause-judged
returns-in_err-check_kept-clause-judged c =
    let far = none_far (range_faults (looked_at c.args.now c.args.force.now)) c.in_ok-check_ends.field-0 c.in_ok-check_ends.ensures in
    let at = looked (common_shown c.args.standing.now) c.args.coming c.args.force.now c.args.now in
    let e = err_from_is_err_and c.from_residual-in_err-check_kept.result c.from_residual-in_err-check_kept.ensures.1 in
    rw (e.1, e.2, parts, far, ← at, c.in_ok-place.ensures.judged) (told_first c.in_err-check_kept.field-0.0 _ _ c.in_err-check_kept.ensures)

pub returns-in_err-check_times-clause-judged : goal.returns-in_err-check_times-clause-judged
returns-in_err-check_times-clause-judged c =
    let far = none_far (range_faults (looked_at c.args.now c.args.force.now)) c.in_ok-check_ends.field-0 c.in_ok-check_ends.ensures in
    let at = looked (common_shown c.args.standing.now) c.args.coming c.args.force.now c.args.now in
    let e = err_from_is_err_and c.from_residual-in_err-check_times.result c.from_residual-in_err-check_times.ensures.1 in
    rw (e.1, e.2, parts, far, ← at, c.in_ok-place.ensures.judged, c.in_ok-check_kept.ensures) c.in_err-check_times.ensures

pub returns-clause-judged : goal.returns-clause-judged
returns-clause-judged c =
    let far = none_far (range_faults (looked_at c.args.now c.args.force.now)) c.in_ok-check_ends.field-0 c.in_ok-check_ends.ensures in
    let at = looked (common_shown c.args.standing.now) c.args.coming c.args.force.now c.args.now in
    rw (parts, far, ← at, c.in_ok-place.ensures.judged, c.in_ok-check_kept.ensures) c.in_ok-check_times.ensures

pub returns-clause-next : goal.returns-clause-next
returns-clause-next c = (
  next_is c.presentations_show_their_mpd.ensures.few c.presentations_show_their_mpd.ensures.followed c.answers_allow_listings.ensures.ends _
      c.in_ok-check_ends.field-0 c.requires.live c.requires.unended c.requires.forward c.requires.comes c.in_ok-check_ends.ensures
      c.in_ok-place.ensures.place c.has_nothing_new.ensures,
  refl,
  refl,
  refl,
  refl,
  refl,
)
