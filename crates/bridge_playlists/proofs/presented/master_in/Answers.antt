use Rattle.bridge_report.specs.declared.refusal.Refusal.TheVariants as refusal
use Rattle.bridge_playlists.proofs.presented.master_in.Goals as goal
use Rattle.std.proofs.Common.{Ok, ◌∙◌, ap, map}
use Rattle.bridge_io.specs.Answer.{and_then, told_as}
use Rattle.bridge_report.specs.Reading.{of_file}
use Rattle.bridge_playlists.specs.Playlists.{master_in, track_kept}
use Rattle.bridge_playlists.proofs.Kept.{tracks_again}

pub returns-in-Ok-clause-master : goal.returns-in-Ok-clause-master
unfolding master_in
returns-in-Ok-clause-master c =
    ap (λ tracks. of_file c.args.place.now.file (told_as refusal.Master (and_then tracks (λ seen. Ok (map track_kept seen)))))
    c.in-Ok.ensures
    ∙ ap Ok (tracks_again c.in-Ok.master)
