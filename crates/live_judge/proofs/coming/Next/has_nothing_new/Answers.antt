use Rattle.live_judge.proofs.coming.Next.has_nothing_new.Goals as goal
use Rattle.std.proofs.{Common.{arith, below_more}, lemmas.List.nil_from_length, lemmas.Option.slice_get_within}
use Rattle.live_judge.proofs.Counts.{IsQuietAt, quiet_at}

pub loop-track-preserved : goal.loop-track-preserved
loop-track-preserved c =
    below_more (IsQuietAt c.args.self.now) c.loop-track.track c.loop-track.invariant (quiet_at c.args.self.now c.loop-track.track
    c.of.result c.of.ensures.is c.of.ensures.next c.of.ensures.index c.of.ensures.there
    (nil_from_length _ (omega (arith, c.new_count.ensures.count))))

pub returns : goal.returns
returns c = λ _ t track at. c.loop-track.invariant t
    (omega (arith, slice_get_within c.args.self.now.tracks.now t track at)) track at
