use Rattle.std.proofs.Common.{◌≡◌, ◌-◌, length, map}
use Rattle.std.specs.List.{range_with_len}
use Rattle.presentation.specs.Meanings.{entry_at, is_kept}
use Rattle.differences.specs.Sections.{has_content}
use Rattle.differences.proofs.side.has_content.Given as goal

-- no track before this one has content
abbrev pub invariant-loop-track : goal.invariant-loop-track
invariant-loop-track l = let p = l.presentation in
    has_content p l.section ≡ is_kept (map (entry_at p l.section) (range_with_len l.track (length p.tracks - l.track)))
