use Rattle.mpd_presentation.proofs.described.joined_codes.Given as goal
use Rattle.std.proofs.Common.{◌≡◌, map}
use Rattle.std.specs.String.{string_bytes}
use Rattle.mpd_values.specs.{declared.blank.Blank.TheVariants.Space, Blanks.trimmed}
use Rattle.mpd_presentation.specs.Rows.{with_commas}
use Rattle.mpd_presentation.proofs.Joining.{is_nil}

abbrev pub invariant-loop-code : goal.invariant-loop-code
invariant-loop-code l = record {
  joined : string_bytes l.joined ≡ with_commas (map (λ text. trimmed Space text.now) l.yielded);
  first : l.is_first ≡ is_nil l.yielded;
}
