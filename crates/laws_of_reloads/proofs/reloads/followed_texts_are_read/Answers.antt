use Rattle.laws_of_reloads.proofs.Texts.{followed_texts_are_read, followed_texts_are_taken}
use Rattle.laws_of_reloads.proofs.reloads.followed_texts_are_read.Goals as goal

pub returns-clause-told : goal.returns-clause-told
returns-clause-told c = followed_texts_are_read c.accepted_never_drift.ensures.sections c.sections_have_one_map.ensures.maps
    c.sections_have_one_map.ensures.durations c.playlists_are_never_empty.ensures.small c.presentations_mean_what_they_list.ensures.made
    c.parts_are_located.ensures.initializations c.parts_are_located.ensures.segments c.read_trees_are_of_bytes.ensures.readings
    c.counted_segments_are_in_pace.ensures c.static_segments_are_in_pace.ensures.short c.playlists_are_read_again.ensures.spelled

pub returns-clause-taken : goal.returns-clause-taken
returns-clause-taken c = followed_texts_are_taken c.accepted_never_drift.ensures.sections c.sections_have_one_map.ensures.maps
    c.sections_have_one_map.ensures.durations c.playlists_are_never_empty.ensures.small c.presentations_mean_what_they_list.ensures.made
    c.parts_are_located.ensures.initializations c.parts_are_located.ensures.segments c.read_trees_are_of_bytes.ensures.readings
    c.counted_segments_are_in_pace.ensures c.static_segments_are_in_pace.ensures.short c.playlists_are_read_again.ensures.spelled
