use Rattle.presentation.proofs.presentation.Presentation.check_ends.Goals as goal
use Rattle.std.proofs.Common.{ap, sym, ◌∙◌, length, arith}
use Rattle.presentation.specs.{Counting.range_faults_of, Presented.looked_at}
use Rattle.presentation.proofs.FirstFault.{first_here, none_at_all, none_here, none_yet}

pub loop-track-init : goal.loop-track-init
loop-track-init c = none_yet (range_faults_of (looked_at c.args.now c.args.self.now)) (length c.args.self.now.tracks)

pub loop-track-preserved : goal.loop-track-preserved
loop-track-preserved c = let same = ap (λ q. length q.tracks) c.self.view_is in
    none_here (range_faults_of (looked_at c.args.now c.args.self.now))
    (length c.args.self.now.tracks) c.loop-track.track c.in_default.field-0 (omega arith) c.loop-track.invariant
    (sym c.check_track_ends.ensures ∙ c.in_default.is)

pub returns-in-Err : goal.returns-in-Err
returns-in-Err c = let same = ap (λ q. length q.tracks) c.self.view_is in
    first_here (range_faults_of (looked_at c.args.now c.args.self.now)) (length c.args.self.now.tracks) c.loop-track.track c.in-Err.fault
    (omega arith) c.loop-track.invariant (sym c.check_track_ends.ensures ∙ c.in-Err.is)

pub returns : goal.returns
returns c = let same = ap (λ q. length q.tracks) c.self.view_is in
    none_at_all (range_faults_of (looked_at c.args.now c.args.self.now)) (length c.args.self.now.tracks) c.loop-track.track
    (omega arith) c.loop-track.invariant
