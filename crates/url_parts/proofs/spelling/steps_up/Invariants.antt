use Rattle.std.proofs.Common.{◌≡◌, ◌++◌, take, string_bytes}
use Rattle.std.specs.{Prelude.codes, List.flat_map}
use Rattle.url_parts.proofs.Spellings.{step_at}
use Rattle.url_parts.proofs.spelling.steps_up.Given as goal

-- a step for the first part, and one for each slash so far
abbrev pub invariant-loop-byte : goal.invariant-loop-byte
invariant-loop-byte l = string_bytes l.up ≡ codes "../" ++ flat_map step_at (take l.byte-index l.out)
