use Rattle.hls_writer.proofs.finished.push_sections.Given as goal
use Rattle.std.proofs.Common.{◌≡◌, ℕ, ◌^◌, ◌-◌, List, ◌++◌, flat_map, length, None, Ok}
use Rattle.std.specs.List.{range_with_len}
use Rattle.bridge_io.specs.Adding.{Adds}
use Rattle.hls_writer.specs.{Finished.{section_items, track_items}, Lines.lines_text, Playlists.items_lines, Spelled.spelled_items}

-- what is added so far goes on to the text of all sections
abbrev pub invariant-loop-section : goal.invariant-loop-section
invariant-loop-section g l =
    let p = l.track.presentation.now in
    let unit = 10 ^ l.track.digits in
    let spell = spelled_items l.track.spelling.now in
    let left = flat_map (section_items p unit l.track.track) (range_with_len l.section (length p.sections - l.section)) in
    (done : List ℕ)
    × (done ++ lines_text (items_lines l.track.digits l.former (spell left))
    ≡ lines_text (items_lines l.track.digits None (spell (track_items p unit l.track.track))))
    × Adds {T = Unit {0}} g.F.Store done l.initial.sheet l.sheet (Ok tt)
