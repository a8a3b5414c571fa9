use Rattle.laws_of_jobs.proofs.Reloads.{files_reload}
use Rattle.laws_of_jobs.proofs.follow.followed_files_reload.Goals as goal

pub returns : goal.returns
returns c =
    let h = c.histories_go_on.ensures in
    files_reload h.begin h.goes_on h.refuse c.presentations_show_their_mpd.ensures.few h.accepted
    c.read_trees_are_of_bytes.ensures.addresses c.followed_texts_reload.ensures.texts
