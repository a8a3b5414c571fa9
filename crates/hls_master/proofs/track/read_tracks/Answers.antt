use Rattle.hls_master.proofs.track.read_tracks.Goals as goal
use Rattle.std.proofs.Common.{◌∙◌, ap, map}
use Rattle.hls_master.specs.{SeenTags.variant_seen, SeenTracks.mention_seen, Tracks.{tracks_among, tracks_of_sets}}

pub returns : goal.returns
unfolding tracks_among
returns c = c.in_ok-tracks_of_sets.ensures
    ∙ ap (λ sets. tracks_of_sets (map variant_seen c.args.variants.now) (map mention_seen c.args.firsts.now) 0 sets)
    (ap (map mention_seen) c.as_slice.ensures.value ∙ c.in_ok-sets.ensures)
