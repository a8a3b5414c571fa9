use Rattle.std.proofs.Common.{◌≡◌, ◌<◌, ◌∙◌, ap, arith, length}
use Rattle.std.specs.Prelude.{nat_lt}
use Rattle.presentation.specs.{Meanings.entry_at, Presented.listed_at}
use Rattle.differences.specs.Sections.{has_content}
use Rattle.differences.proofs.Chosen.{has_entry, not_kept}
use Rattle.differences.proofs.side.has_content.Goals as goal

pub loop-track-preserved : goal.loop-track-preserved
loop-track-preserved c =
    let p = c.args.presentation.now in let s = c.args.section in let t = c.loop-track.track in
    let within : t < length p.tracks = omega (arith, ap length c.tracks.ensures) in
    let none : length (listed_at p s t) ≡ 0 = omega (arith, c.listed.ensures, c.if-listed-gt0.false) in
    not_kept (entry_at p s) t (length p.tracks) within (has_content p s) c.loop-track.invariant (has_entry p s t ∙ ap (nat_lt 0) none)
