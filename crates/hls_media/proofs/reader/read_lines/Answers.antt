use Rattle.std.proofs.lemmas.Result.{err_from_is_err_and}
use Rattle.hls_media.specs.Views.{state_of}
use Rattle.hls_media.proofs.Courses.{tag_turn, tag_told, each_told}
use Rattle.hls_media.proofs.reader.read_lines.Goals as goal

pub loop-line-preserved-in-Continue-branch-2 : goal.loop-line-preserved-in-Continue-branch-2
loop-line-preserved-in-Continue-branch-2 c =
    tag_turn c.args.base.now c.args.lines c.loop-line.lines c.next.new.self
    (state_of c.loop-line.reader) c.in-Tag.name.now c.in-Tag.rest.now c.in-Tag.place c.tag_of.result c.loop-line.uris
    (rw c.in-Tag.is at c.in-Some.ensures.line) c.tag_of.ensures c.loop-line.invariant.0 c.loop-line.invariant.1
    (state_of c.read_tag.new.self) c.in_ok-read_tag-in-Tag.ensures.0 c.in_ok-read_tag-in-Tag.ensures.1

pub returns-in_err-read_tag-in-Tag-clause-fault : goal.returns-in_err-read_tag-in-Tag-clause-fault
returns-in_err-read_tag-in-Tag-clause-fault c =
    let p = err_from_is_err_and c.from_residual-in_err-read_tag-in-Tag.result c.from_residual-in_err-read_tag-in-Tag.ensures.1 in
    rw (p.1, p.2) (each_told _ c.in_err-read_tag-in-Tag.ensures
    (tag_told c.args.base.now c.args.lines c.loop-line.lines c.next.new.self
    (state_of c.loop-line.reader) c.in-Tag.name.now c.in-Tag.rest.now c.in-Tag.place c.tag_of.result c.loop-line.uris
    (rw c.in-Tag.is at c.in-Some.ensures.line) c.tag_of.ensures c.loop-line.invariant.0 c.loop-line.invariant.1))
