use Rattle.mpd_presentation.proofs.manifest.by_kind.Given as goal
use Rattle.std.proofs.Common.{◌≡◌, filter}
use Rattle.bridge_io.specs.declared.media.Kind.TheVariants.{Video, Audio, Text}
use Rattle.mpd_presentation.specs.declared.told.PeriodContent.{PeriodContent}
use Rattle.presentation.specs.Order.{is_of}

abbrev pub invariant-loop-told : goal.invariant-loop-told
invariant-loop-told l = record {
  video : l.video.items ≡ filter (λ (told : PeriodContent). is_of Video told.kind) l.yielded;
  audio : l.audio.items ≡ filter (λ (told : PeriodContent). is_of Audio told.kind) l.yielded;
  text : l.text.items ≡ filter (λ (told : PeriodContent). is_of Text told.kind) l.yielded;
}
