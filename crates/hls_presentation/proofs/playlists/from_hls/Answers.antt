use Rattle.hls_presentation.proofs.playlists.from_hls.Goals as goal
use Rattle.std.proofs.{Common.◌∙◌, lemmas.List.Elements.All-same}
use Rattle.hls_presentation.specs.Origins.{IsSilentTrack}
use Rattle.hls_presentation.proofs.Turns.{came_if}

pub returns-clause-came : goal.returns-clause-came
returns-clause-came c = came_if c.present_all.result _ _ c.present_all.ensures
    (All-same IsSilentTrack _ _ (c.as_slice.ensures ∙ c.tracks.ensures) c.requires)
