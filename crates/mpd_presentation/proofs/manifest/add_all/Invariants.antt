use Rattle.mpd_presentation.proofs.manifest.add_all.Given as goal
use Rattle.mpd_presentation.specs.Parted.{AreAdded}

abbrev pub invariant-loop-told : goal.invariant-loop-told
invariant-loop-told l = AreAdded l.fn.parted l.yielded l.parted
