-- What is written of an MPD and its media files can be read again.
use Rattle.std.proofs.Common.{All}
use Rattle.presentation.specs.Presented.{listed_at}
use Rattle.laws_of_playlists.specs.{Origins.AreShortInPace, ReadMedia.IsReadableContent, SameFiles.{IsReadable, IsWritable}}
use Rattle.laws_of_playlists.specs.{SameFiles.WrittenMeanTheSame, IndexOrigins.{IndexedAreFinished, IndexedAreInPace, IndexedAreWritable}}
use Rattle.laws_of_playlists.specs.IndexOrigins.{IndexedInitializationsAreLocated, IndexedPartsAreLocated}
use Rattle.laws_of_playlists.specs.IndexWritten.{WrittenMeansTheIndex}
use Rattle.laws_of_playlists.proofs.SameStatic.{in_turn, part_read, short}

pub written_means : IndexedAreFinished → IndexedAreWritable → IndexedInitializationsAreLocated → IndexedPartsAreLocated
    → IndexedAreInPace → AreShortInPace → WrittenMeanTheSame → WrittenMeansTheIndex
written_means finished writable initializations parts pace told same p digits files folder prefix place players from fit found verified few
    own holds spells wrote =
    let contents : All IsReadableContent p.contents = λ k d within. record {
      initialization = part_read _ (initializations p from found k d within);
      parts = λ x part is. part_read part (parts p from found k d within x part is);
    } in
    let able : IsWritable p digits = record {
      verified = verified;
      few = few;
      ordered = λ s t in_sections in_tracks. in_turn (listed_at p s t) (pace p s t from);
      tracks = writable p from;
    } in
    let readable : IsReadable p digits = record {
      writable = able;
      playlists = λ t within. record {
        finished = finished p from;
        verified = verified;
        few = few;
        contents = contents;
        short = short p digits t told (λ s. pace p s t from);
      };
    } in
    same p digits files folder prefix place players fit readable own holds spells wrote
