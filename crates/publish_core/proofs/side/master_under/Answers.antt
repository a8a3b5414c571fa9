use Rattle.bridge_report.specs.declared.refusal.Refusal.TheVariants as refusal
use Rattle.publish_core.specs.declared.refusal.Refused.TheVariants as refused
use Rattle.publish_core.proofs.side.master_under.Goals as goal
use Rattle.std.proofs.Common.{Ok, ◌∙◌, ap, map}
use Rattle.bridge_io.specs.Answer.{and_then, told_as}
use Rattle.bridge_playlists.specs.Playlists.{track_kept}
use Rattle.publish_core.specs.Sides.{of_file}
use Rattle.publish_core.proofs.Kept.{tracks_again}

pub returns-in-Ok-clause-master : goal.returns-in-Ok-clause-master
returns-in-Ok-clause-master c =
    ap (λ tracks. of_file c.args.file.now (told_as (λ f. refused.Read (refusal.Master f))
    (and_then tracks (λ seen. Ok (map track_kept seen))))) c.in-Ok.ensures
    ∙ ap Ok (tracks_again c.in-Ok.master)
