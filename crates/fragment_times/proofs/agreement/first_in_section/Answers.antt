use Rattle.std.proofs.Common.{◌<◌, length, ap, arith}
use Rattle.presentation.proofs.FirstSome.{none_here, some_here, none_left, all_left}
use Rattle.fragment_times.specs.Agreeing.{apart_at, apart_in}
use Rattle.fragment_times.proofs.agreement.first_in_section.Goals as goal

pub loop-track-init : goal.loop-track-init
loop-track-init c = (let p = c.args.presentation.now in all_left (apart_at p c.args.times.now c.args.section) (length p.tracks))

pub returns-in-Some : goal.returns-in-Some
returns-in-Some c =
    let p = c.args.presentation.now in let l = c.loop-track in
    let within : l.track < length p.tracks = omega (arith, ap length c.tracks.ensures) in
    some_here (apart_at p c.args.times.now c.args.section) l.track (length p.tracks) within (apart_in p c.args.times.now c.args.section)
    c.first_of_track.result l.invariant c.first_of_track.ensures c.in-Some.spot c.in-Some.is

pub loop-track-preserved : goal.loop-track-preserved
loop-track-preserved c =
    let p = c.args.presentation.now in let l = c.loop-track in
    let within : l.track < length p.tracks = omega (arith, ap length c.tracks.ensures) in
    none_here (apart_at p c.args.times.now c.args.section) l.track (length p.tracks) within (apart_in p c.args.times.now c.args.section)
    c.first_of_track.result l.invariant c.first_of_track.ensures c.in_default.is

pub returns : goal.returns
returns c =
    let p = c.args.presentation.now in let l = c.loop-track in
    none_left (apart_at p c.args.times.now c.args.section) l.track (length p.tracks) (apart_in p c.args.times.now c.args.section)
    (omega (arith, ap length c.tracks.ensures)) l.invariant
