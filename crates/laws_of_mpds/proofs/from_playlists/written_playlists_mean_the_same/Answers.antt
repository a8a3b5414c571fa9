use Rattle.laws_of_mpds.proofs.Whole.{playlists_mean_the_same}
use Rattle.laws_of_mpds.proofs.from_playlists.written_playlists_mean_the_same.Goals as goal

pub returns : goal.returns
returns c = record {
  any = playlists_mean_the_same c.written_texts_mean_the_same.ensures;
  read = λ form bytes master tracks medias p url now is bounded have presented.
      playlists_mean_the_same c.written_texts_mean_the_same.ensures form tracks medias p url now bounded have
      (c.read_tracks_can_be_written.ensures.order bytes master tracks is)
      (c.read_tracks_can_be_written.ensures.told bytes master tracks is) presented;
}
