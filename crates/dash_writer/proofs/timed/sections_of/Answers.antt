use Rattle.dash_writer.proofs.timed.sections_of.Goals as goal
use Rattle.std.proofs.Common.{◌≡◌, suc, ◌+◌, ◌-◌, ◌∷◌, ◌++◌, [], length, take, drop, refl, sym, ap, ◌∙◌, arith, length-append, length-drop}
use Rattle.std.proofs.{Common.append_assoc, lemmas.List.Elements.{All-drop, All-take}}
use Rattle.dash_writer.specs.Timed.{CanBeCounted, lengths, longest, sections_from}
use Rattle.dash_writer.proofs.Timing.{first_length, first_row, room_first, section_of}

pub loop-rest-init : goal.loop-rest-init
loop-rest-init c = let none : c.args.count - 0 ≡ c.args.count = omega arith in
    rw (c.new-sections.ensures, none) (record {
      within = omega arith;
      filled = c.requires.filled;
      counted = c.requires.ends;
      room = omega (arith, c.requires.total);
      goes = refl;
    })

pub split_at-requires : goal.split_at-requires
split_at-requires c = let l = c.loop-rest in let left = c.args.count - length l.sections in
    let m = c.args.count - (length l.sections + 1) in
    let is : left ≡ suc m = omega (arith, c.len.ensures, c.loop-rest-test.true) in
    omega (arith, l.invariant.filled, first_row left m c.args.tracks is)

pub longest-length-requires-clause-ends : goal.longest-length-requires-clause-ends
longest-length-requires-clause-ends c = rw c.split_at.ensures.front
    (All-take CanBeCounted c.args.tracks c.loop-rest.rest.now c.loop-rest.invariant.counted)

pub longest-length-requires-clause-short : goal.longest-length-requires-clause-short
longest-length-requires-clause-short c = let l = c.loop-rest in let left = c.args.count - length l.sections in
    let m = c.args.count - (length l.sections + 1) in
    let is : left ≡ suc m = omega (arith, c.len.ensures, c.loop-rest-test.true) in
    rw c.split_at.ensures.front (omega (arith, room_first l.start c.args.tracks left m l.rest.now is l.invariant.room))

pub invariant_of-push : goal.invariant_of-push
invariant_of-push c = let l = c.loop-rest in let left = c.args.count - length l.sections in
    let m = c.args.count - (length l.sections + 1) in
    let is : left ≡ suc m = omega (arith, c.len.ensures, c.loop-rest-test.true) in
    let length_is = c.longest-length.ensures ∙ ap longest c.split_at.ensures.front in
    omega (arith, length_is, room_first l.start c.args.tracks left m l.rest.now is l.invariant.room)

pub overflow_add-start : goal.overflow_add-start
overflow_add-start c = let l = c.loop-rest in let left = c.args.count - length l.sections in
    let m = c.args.count - (length l.sections + 1) in
    let is : left ≡ suc m = omega (arith, c.len.ensures, c.loop-rest-test.true) in
    let length_is = c.longest-length.ensures ∙ ap longest c.split_at.ensures.front in
    omega (arith, length_is, room_first l.start c.args.tracks left m l.rest.now is l.invariant.room)

pub loop-rest-preserved : goal.loop-rest-preserved
loop-rest-preserved c = let l = c.loop-rest in let rest = l.rest.now in let tracks = c.args.tracks in
    let left = c.args.count - length l.sections in let m = c.args.count - (length l.sections + 1) in
    let is : left ≡ suc m = omega (arith, c.len.ensures, c.loop-rest-test.true) in
    let length_is : c.longest-length.result ≡ longest (take tracks rest) = c.longest-length.ensures ∙ ap longest c.split_at.ensures.front in
    let section = section_of [] l.start (longest (take tracks rest)) in
    let pushed : c.push.new.self ≡ l.sections ++ section ∷ [] = c.in_ok-push.ensures.ok
    ∙ ap (λ id. l.sections ++ section_of id l.start c.longest-length.result ∷ []) (c.from.ensures ∙ c.new.ensures.bytes)
    ∙ ap (λ n. l.sections ++ section_of [] l.start n ∷ []) length_is in
    let counted_up : length c.push.new.self ≡ length l.sections + 1 = ap length pushed ∙ length-append l.sections (section ∷ []) in
    let next : c.args.count - length c.push.new.self ≡ m = omega (arith, counted_up) in
    rw (next, length_is, c.split_at.ensures.back) (record {
      within = omega (arith, counted_up, c.len.ensures, c.loop-rest-test.true);
      filled = omega (arith, length-drop tracks rest, l.invariant.filled, first_row left m tracks is);
      counted = All-drop CanBeCounted tracks rest l.invariant.counted;
      room = room_first l.start tracks left m rest is l.invariant.room;
      goes = ap (λ xs. xs ++ sections_from (l.start + longest (take tracks rest)) (lengths tracks m (drop tracks rest))) pushed
          ∙ append_assoc l.sections (section ∷ []) (sections_from (l.start + longest (take tracks rest)) (lengths tracks m
          (drop tracks rest)))
          ∙ ap (λ ns. l.sections ++ sections_from l.start ns) (sym (first_length left m tracks rest is)) ∙ l.invariant.goes;
    })
