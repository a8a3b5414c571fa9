use Rattle.laws_of_taken_texts.proofs.Taken.{first_taken, read_taken}
use Rattle.laws_of_taken_texts.proofs.texts.read_texts_are_taken.Goals as goal

pub returns : goal.returns
returns c =
    let bounded = c.what_is_read_is_bounded.ensures in
    let meant = c.what_is_read_is_meant.ensures in
    let addressed = c.what_is_read_has_addresses.ensures.segments in
    let told = c.segments_are_told_by_the_lines_before.ensures in
    let again = c.playlists_are_read_again.ensures.followed in record {
      own = read_taken bounded meant addressed told again;
      first = first_taken bounded meant addressed told again;
    }
