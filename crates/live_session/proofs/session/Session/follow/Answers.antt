use Rattle.live_session.proofs.session.Session.follow.Goals as goal
use Rattle.std.proofs.Common.{◌∙◌, List, Err, ap, refl, sym, arith}
use Rattle.live_judge.specs.{declared.standing.Standing.Standing, Shown.state_shown}
use Rattle.live_meaning.specs.{Known.Known, States.State}
use Rattle.live_session.proofs.Accepting.{can_go_on, of_slice, refused, same_session, same_state, session_after, taken, wanting}
use Rattle.live_session.proofs.{Planning.{refused_now, timely_there}, Refusing.refused_unpresented}

pub returns-in_err-check_now : goal.returns-in_err-check_now
returns-in_err-check_now g c =
    refused c.from_residual.result c.from_residual.ensures.1 c.self.view_is (sym c.self.view_is)
    (refused_now c.self.inside.standing _ _ _ c.in_err-check_now.field-0.0 _ c.in_err-check_now.ensures)

pub returns-in_err-newest : goal.returns-in_err-newest
returns-in_err-newest g c =
    refused c.from_residual-in_err-newest.result c.from_residual-in_err-newest.ensures.1 c.self.view_is (sym c.self.view_is)
    (refused_unpresented _ _ _ _ (timely_there c.self.inside.standing c.args.coming c.args.now c.in_ok-check_now.ensures)
    c.in_err-newest.field-0.0 c.in_err-newest.ensures.err
    (λ tick memory. c.in_err-newest.ensures.ticks tick (ap Err memory)) refl)

pub invariant_of-self : goal.invariant_of-self
invariant_of-self g c =
    same_session _ _ _ c.in_err-make_room.ensures.same c.self.invariant

pub returns-in_err-make_room : goal.returns-in_err-make_room
returns-in_err-make_room g c =
    let is = of_slice c.as_slice.ensures.value c.in_ok-plan.ensures in
    refused c.from_residual-in_err-make_room.result c.from_residual-in_err-make_room.ensures.1 c.self.view_is
    (same_state c.self.inside.standing _ _ c.in_err-make_room.ensures.same)
    (wanting is c.self.invariant (λ tick few.
    let none = c.in_err-make_room.ensures.none (c.as_slice-2.ensures.value ∙ is.unmade few) in cc))

pub invariant_of-self-in_err-know : goal.invariant_of-self-in_err-know
invariant_of-self-in_err-know g c =
    let s = c.self.inside.standing in
    rw c.in_err-know.ensures.err
    (same_session s c.make_room.new.tracks.items c.self.inside.tracks.items c.in_ok-make_room.ensures.same c.self.invariant)

pub returns-in_err-know : goal.returns-in_err-know
returns-in_err-know g c =
    let s = c.self.inside.standing in
    let room = c.make_room.new.tracks.items in
    let is = of_slice c.as_slice.ensures.value c.in_ok-plan.ensures in
    refused c.from_residual-in_err-know.result c.from_residual-in_err-know.ensures.1 c.self.view_is
    (ap (λ (known : List Known). state_shown (record s { known = known }) room) c.in_err-know.ensures.err
    ∙ same_state s room c.self.inside.tracks.items c.in_ok-make_room.ensures.same)
    (wanting is c.self.invariant (λ tick few. let none = c.in_err-know.ensures.none (is.seen tick) in cc))

pub go_on-requires : goal.go_on-requires
go_on-requires g c =
    can_go_on (of_slice c.as_slice.ensures.value c.in_ok-plan.ensures) c.self.invariant c.histories_go_on.ensures.goes_on
    c.playlists_are_never_empty.ensures.small c.accepted_states_stay_sound.ensures.kept
    (omega (arith, ap (λ (x : State). x.common.accepted) c.self.view_is, c.requires)) _ _ _
    (ap (λ (x : Standing). x.target) c.advance.ensures) c.in_ok-make_room.ensures.same c.as_slice-2.ensures.value
    c.in_ok-make_room.ensures.room

pub invariant_of-self-2 : goal.invariant_of-self-2
invariant_of-self-2 g c =
    session_after (of_slice c.as_slice.ensures.value c.in_ok-plan.ensures) c.self.invariant c.histories_go_on.ensures.goes_on
    c.playlists_are_never_empty.ensures.small c.accepted_states_stay_sound.ensures.kept
    (omega (arith, ap (λ (x : State). x.common.accepted) c.self.view_is, c.requires)) c.make_room.new.tracks.items
    c.in_ok-newest.newest c.force_by.ensures c.advance.new.standing c.know.new.known c.in_ok-know.ensures.ok c.advance.ensures
    c.go_on.new.tracks.items c.go_on.ensures.paired c.in_ok-make_room.ensures.same c.go_on.ensures.shown
    c.accepted_states_stay_sound.ensures.sound c.accepted_states_stay_sound.ensures.numbers

pub returns : goal.returns
returns g c =
    rw (← c.self.view_is)
    (taken (of_slice c.as_slice.ensures.value c.in_ok-plan.ensures) c.self.invariant c.histories_go_on.ensures.goes_on
    c.playlists_are_never_empty.ensures.small c.accepted_states_stay_sound.ensures.kept
    (omega (arith, ap (λ (x : State). x.common.accepted) c.self.view_is, c.requires)) c.make_room.new.tracks.items
    c.in_ok-newest.newest c.force_by.ensures c.advance.new.standing c.know.new.known c.in_ok-know.ensures.ok c.advance.ensures
    c.go_on.new.tracks.items c.go_on.ensures.paired c.in_ok-make_room.ensures.same c.go_on.ensures.shown c.go_on.result
    c.go_on.ensures.count)
