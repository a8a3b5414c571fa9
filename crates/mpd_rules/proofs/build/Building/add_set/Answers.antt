use Rattle.mpd_rules.proofs.build.Building.add_set.Goals as goal
use Rattle.std.proofs.Common.{◌∷◌, All, map, length, ap, sym, subst, ◌∙◌}
use Rattle.mpd_tree.specs.Nodes.{element_of}
use Rattle.mpd_levels.proofs.Showing.{Grows-then}
use Rattle.mpd_rules.specs.Fits.{FitsTrack}
use Rattle.mpd_rules.proofs.Building.{on_ok}

pub add_tracks-requires-clause-fits : goal.add_tracks-requires-clause-fits
add_tracks-requires-clause-fits g c = subst (All FitsTrack) (sym (ap (map element_of) c.deref.ensures.value
    ∙ c.in_ok-representations.ensures.kept)) c.requires.fits.tracks

pub add_tracks-requires-clause-said : goal.add_tracks-requires-clause-said
add_tracks-requires-clause-said g c = let said = c.requires.said in (
  element_of c.args.set ∷ said.0,
  c.in_ok-level.ensures.says said.0 said.1,
)

pub returns-clause-grows : goal.returns-clause-grows
returns-clause-grows g c = Grows-then c.below.ensures.grows c.add_tracks.ensures.grows

pub returns-clause-left_out : goal.returns-clause-left_out
returns-clause-left_out g c = on_ok c.add_tracks.result (ap length c.add_tracks.ensures.left_out ∙ c.in_ok-representations.ensures.left_out)
