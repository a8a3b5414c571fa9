use Rattle.mpd_hints.proofs.manifest.hints.Goals as goal
use Rattle.std.proofs.Common.{refl}
use Rattle.mpd_hints.specs.Hints.{hints_of}

pub returns : goal.returns
unfolding hints_of
returns c =
    rw (
      c.in_ok-tracks.ensures,
      c.is_independent-independent.ensures,
      c.has_captions.ensures,
      c.of.ensures,
      c.deref.ensures.value,
      c.in_ok-tolds.ensures,
      c.root-mpd.ensures,
    ) refl
