use Rattle.laws_of_reloads.proofs.FirstFiles.{first_files_mean_the_same}
use Rattle.laws_of_reloads.proofs.reloads.first_files_mean_the_same.Goals as goal

pub returns : goal.returns
returns c = first_files_mean_the_same c.period_ids_differ.ensures c.presentations_show_their_mpd.ensures.sections
    c.histories_go_on.ensures.begin c.presentations_mean_what_they_list.ensures.verified c.tracks_are_writable.ensures.writable
    c.counted_segments_are_in_pace.ensures c.followed_texts_are_read.ensures.told c.tracks_mean_the_same.ensures.files
