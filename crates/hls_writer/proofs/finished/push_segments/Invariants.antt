use Rattle.hls_writer.proofs.finished.push_segments.Given as goal
use Rattle.std.proofs.Common.{◌≡◌, ℕ, List, ◌++◌, length, All, Ok}
use Rattle.presentation.specs.Laws.{HasAddress}
use Rattle.bridge_io.specs.Adding.{Adds}
use Rattle.hls_writer.specs.{Finished.items_at, Lines.lines_text, Playlists.{items_lines, last_section}, Spelled.spelled_items}

-- what is added so far goes on to the text of all segments
abbrev pub invariant-loop-span : goal.invariant-loop-span
invariant-loop-span g l =
    let spell = spelled_items l.place.spelling.now in
    let all = spell (items_at l.initial.segments.timeline l.place.map.now l.place.section l.initial.segments.left) in
    let left = spell (items_at l.segments.timeline l.place.map.now l.place.section l.segments.left) in
    record {
      timeline : l.addresses.timeline ≡ l.segments.timeline;
      spelling : l.addresses.place ≡ l.place.spelling.now;
      addressed : All (λ x. HasAddress l.segments.timeline x.times) l.segments.left;
      done : (done : List ℕ)
          × (done ++ lines_text (items_lines l.place.digits l.former left) ≡ lines_text (items_lines l.place.digits l.initial.former all))
          × Adds {T = Unit {0}} g.F.Store done l.initial.sheet l.sheet (Ok tt);
      last : last_section l.former left ≡ last_section l.initial.former all;
    }

abbrev pub decreases-loop-span : goal.decreases-loop-span
decreases-loop-span g l = length l.segments.left
