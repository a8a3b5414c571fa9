use Rattle.fragment_times.proofs.part.part_scale.Goals as goal
use Rattle.std.proofs.Common.{◌≡◌, codes, sym, ◌∙◌}
use Rattle.fragment_times.specs.{Parts.{box_in, end_at, scale_at, told_of}, Told.{media_scale_of, scale_by, value_of}}
use Rattle.fragment_times.proofs.Reached.{as_whole, ends_as_told, file_told, part_is, unread}

pub returns-in-Ok-clause-scale : goal.returns-in-Ok-clause-scale
unfolding scale_at media_scale_of
returns-in-Ok-clause-scale g c = λ files told.
    let part = c.args.part.now in let file = c.in_ok-file.file in let reach = c.reach_of-reach in
    let found = box_in (codes "moov") reach.result.first c.in-Ok.front in
    let whole = as_whole (codes "moov") part.range reach.result reach.ensures.first reach.ensures.limit scale_by (files file) found
    (c.in-Ok.ensures.found files told) in
    let here : told_of media_scale_of part.range (files file) ≡ value_of c.media_scale.result =
    whole ∙ sym (rw (c.past-bytes.ensures, c.as_slice.ensures) at c.media_scale.ensures.scale) in
    rw c.in_file.ensures (file_told file c.media_scale.result (scale_at c.args.folder.now files part)
    (part_is media_scale_of c.args.folder.now files part file (value_of c.media_scale.result) c.in_ok-file.ensures.file here))

pub returns-in-Ok-clause-end : goal.returns-in-Ok-clause-end
unfolding end_at
returns-in-Ok-clause-end g c = λ files told.
    let reach = c.reach_of-reach in
    rw c.in_file.ensures (ends_as_told (codes "moov") reach.result c.args.folder.now files c.args.part.now c.in_ok-file.file
    (box_in (codes "moov") reach.result.first c.in-Ok.front) c.media_scale.result reach.ensures.first reach.ensures.limit
    c.in_ok-file.ensures.file (c.in-Ok.ensures.found files told)
    (rw (c.past-bytes.ensures, c.as_slice.ensures) at c.media_scale.ensures.end))

pub returns-in-Err-clause-scale : goal.returns-in-Err-clause-scale
unfolding scale_at media_scale_of
returns-in-Err-clause-scale g c = λ files told.
    let reach = c.reach_of-reach in
    rw c.at_part.ensures (unread (codes "moov") reach.result media_scale_of c.args.folder.now files c.args.part.now c.in_ok-file.file
    c.in-Err.fault reach.ensures.first reach.ensures.limit c.in_ok-file.ensures.file (c.in-Err.ensures.found files told))
