use Rattle.mpd_hints.proofs.tracks.by_kind.Given as goal
use Rattle.std.proofs.Common.{◌≡◌}
use Rattle.bridge_io.specs.declared.media.Kind.TheVariants.{Video, Audio, Text}
use Rattle.mpd_hints.specs.Tracks.{hints_of_kind}

abbrev pub invariant-loop-told : goal.invariant-loop-told
invariant-loop-told l = record {
  video : l.video ≡ hints_of_kind Video l.yielded;
  audio : l.audio ≡ hints_of_kind Audio l.yielded;
  text : l.text ≡ hints_of_kind Text l.yielded;
}
