use Rattle.bridge_ends.proofs.mem_source.MemSourceSource.read.Goals as goal
use Rattle.std.proofs.Common.{◌≡◌, ◌+◌, ◌++◌, ap, sym, ◌∙◌, Some, arith, ℕ, ◌-◌, min, List, [], length, length-drop, take, drop}
use Rattle.std.proofs.{Math.ListN.drop_of_length-le, lemmas.List.{take-append-drop, take_all, drop-drop}}

-- what is left after a read of n bytes
left_after : (at n : ℕ) (bytes buf : List ℕ) → take n buf ≡ take n (drop at bytes) → drop at bytes ≡ take n buf ++ drop (at + n) bytes
left_after at n bytes buf same =
    sym (take-append-drop n (drop at bytes)) ∙ ap (λ front. front ++ drop n (drop at bytes)) (sym same)
    ∙ ap (λ rest. take n buf ++ rest) (drop-drop n at bytes)

pub returns-then-fails-clause-cause : goal.returns-then-fails-clause-cause
returns-then-fails-clause-cause c = record { never_falls = c.if-fails.ensures.never_falls; rose = λ _. c.if-fails.ensures.rose }

pub returns-clause-bytes : goal.returns-clause-bytes
returns-clause-bytes c =
    let at = c.args.self.now.at in
    let bytes = c.args.self.now.bytes in
    let all : take (length bytes - at) (drop at bytes) ≡ drop at bytes = take_all _ _ (omega (arith, length-drop at bytes)) in
    let front : take c.fill-n.result c.fill-n.new.buf ≡ take c.fill-n.result (drop at bytes) =
    rw (c.as_slice.ensures, all) at c.fill-n.ensures.front in
    let count : c.fill-n.result ≡ min (length (drop at bytes)) (length c.args.buf.now) =
    rw (c.as_slice.ensures, all) at c.fill-n.ensures.count in
    let end : c.fill-n.result ≡ 0 → drop (at + c.fill-n.result) bytes ≡ [] = λ none. drop_of_length-le bytes
    (omega (arith, length-drop at bytes)) in
    (ap Some (left_after at c.fill-n.result bytes c.fill-n.new.buf front), end)
