use Rattle.fragment_times.proofs.part.part_start.Goals as goal
use Rattle.std.proofs.Common.{◌≡◌, codes, sym, ◌∙◌}
use Rattle.fragment_times.specs.{Parts.{box_in, end_at, start_at, told_of}, Told.{decode_time_of, start_by, value_of}}
use Rattle.fragment_times.proofs.Reached.{as_whole, ends_as_told, file_told, part_is, unread}

pub returns-in-Ok-clause-start : goal.returns-in-Ok-clause-start
unfolding start_at decode_time_of
returns-in-Ok-clause-start g c = λ files told.
    let part = c.args.part.now in let file = c.in_ok-file.file in let reach = c.reach_of-reach in
    let found = box_in (codes "moof") reach.result.first c.in-Ok.front in
    let whole = as_whole (codes "moof") part.range reach.result reach.ensures.first reach.ensures.limit start_by (files file) found
    (c.in-Ok.ensures.found files told) in
    let here : told_of decode_time_of part.range (files file) ≡ value_of c.decode_time.result =
    whole ∙ sym (rw (c.past-bytes.ensures, c.as_slice.ensures) at c.decode_time.ensures.start) in
    rw c.in_file.ensures (file_told file c.decode_time.result (start_at c.args.folder.now files part)
    (part_is decode_time_of c.args.folder.now files part file (value_of c.decode_time.result) c.in_ok-file.ensures.file here))

pub returns-in-Ok-clause-end : goal.returns-in-Ok-clause-end
unfolding end_at
returns-in-Ok-clause-end g c = λ files told.
    let reach = c.reach_of-reach in
    rw c.in_file.ensures (ends_as_told (codes "moof") reach.result c.args.folder.now files c.args.part.now c.in_ok-file.file
    (box_in (codes "moof") reach.result.first c.in-Ok.front) c.decode_time.result reach.ensures.first reach.ensures.limit
    c.in_ok-file.ensures.file (c.in-Ok.ensures.found files told)
    (rw (c.past-bytes.ensures, c.as_slice.ensures) at c.decode_time.ensures.end))

pub returns-in-Err-clause-start : goal.returns-in-Err-clause-start
unfolding start_at decode_time_of
returns-in-Err-clause-start g c = λ files told.
    let reach = c.reach_of-reach in
    rw c.at_part.ensures (unread (codes "moof") reach.result decode_time_of c.args.folder.now files c.args.part.now c.in_ok-file.file
    c.in-Err.fault reach.ensures.first reach.ensures.limit c.in_ok-file.ensures.file (c.in-Err.ensures.found files told))
