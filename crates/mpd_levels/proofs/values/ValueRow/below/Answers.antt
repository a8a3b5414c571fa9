use Rattle.mpd_levels.proofs.values.ValueRow.below.Goals as goal
use Rattle.std.proofs.{Common.◌≡◌, lemmas.Result.IfOk-weaker}
use Rattle.std.specs.{List.cons_option, Prelude.option_map}
use Rattle.mpd_tree.specs.Nodes.{element_of}
use Rattle.mpd_levels.specs.{Merged.row_over, Segments.values_in, Shown.Shows}
use Rattle.mpd_levels.proofs.Showing.{Shows-grows, Shows-over}

pub returns-in_ok-of-in-Some-clause-shows : goal.returns-in_ok-of-in-Some-clause-shows
returns-in_ok-of-in-Some-clause-shows c = λ above shows.
    let is_list = c.args.is_list in
    IfOk-weaker c.over.result (λ row. row ≡ row_over c.in_ok-of-in-Some.field-0 c.args.self.now)
    (λ row. Shows c.of.new.tables row (values_in is_list (cons_option (option_map element_of c.args.element) above)))
    (λ row same. rw (same, c.in-Some.is) (Shows-over _ is_list _ _ (element_of c.in-Some.node) above c.in_ok-of-in-Some.ensures.shows
    (Shows-grows c.of.ensures.grows shows)))
    c.over.ensures
