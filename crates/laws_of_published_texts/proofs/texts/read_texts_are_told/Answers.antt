use Rattle.laws_of_published_texts.proofs.Written.{first_texts_are_told, read_texts_are_told}
use Rattle.laws_of_published_texts.proofs.texts.read_texts_are_told.Goals as goal

pub returns : goal.returns
returns c =
    let bounded = c.what_is_read_is_bounded.ensures in
    let meant = c.what_is_read_is_meant.ensures in
    let addressed = c.what_is_read_has_addresses.ensures.segments in
    let told = c.segments_are_told_by_the_lines_before.ensures in
    let again = c.playlists_are_read_again.ensures.followed in record {
      own = read_texts_are_told bounded meant addressed told again;
      first = first_texts_are_told bounded meant addressed told again;
    }
