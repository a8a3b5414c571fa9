use Rattle.laws_of_published_texts.proofs.Written.{published_texts_are_told}
use Rattle.laws_of_published_texts.proofs.texts.published_texts_are_read.Goals as goal

pub returns : goal.returns
returns c = published_texts_are_told c.what_is_read_is_bounded.ensures c.what_is_read_is_meant.ensures
    c.what_is_read_has_addresses.ensures.segments c.segments_are_told_by_the_lines_before.ensures c.playlists_are_read_again.ensures.followed
