use Rattle.text_lists.proofs.found.Found.add_lists.Given as goal
use Rattle.std.proofs.Common.{◌≡◌, drop, map}
use Rattle.text_lists.specs.{Lists.{texts_of, merged_from}, Numbers.{IsMarked, texts_by}}

abbrev pub invariant-loop-place : goal.invariant-loop-place
invariant-loop-place l =
    let all = map (λ numbers. texts_by (texts_of l.texts) numbers.items) l.lists in
    (merged_from all (texts_of l.self.texts.items) (drop l.place-index l.places)
    ≡ merged_from all (texts_of l.initial.self.texts.items) l.places)
    × IsMarked (texts_of l.texts) l.self.seen.items (texts_of l.self.texts.items)
