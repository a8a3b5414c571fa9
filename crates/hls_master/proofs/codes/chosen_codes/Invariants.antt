use Rattle.hls_master.proofs.codes.chosen_codes.Given as goal
use Rattle.std.proofs.Common.{◌≡◌, map, filter}
use Rattle.mpd_values.specs.{Blanks.trimmed, declared.blank.Blank.TheVariants.Space}
use Rattle.hls_master.specs.Codes.{is_of}

abbrev pub invariant-loop-code : goal.invariant-loop-code
invariant-loop-code l = map (λ code. code.now) l.chosen.items ≡ filter (is_of l.kind)
    (map (trimmed Space) (map (λ code. code.now) l.yielded))
