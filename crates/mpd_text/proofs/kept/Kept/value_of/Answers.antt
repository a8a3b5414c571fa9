use Rattle.mpd_text.proofs.kept.Kept.value_of.Goals as goal
use Rattle.std.proofs.Common.{◌≡◌, ◌-◌, length, take, drop, Ok, sym, subst}
use Rattle.std.specs.String.{string_bytes}
use Rattle.mpd_text.specs.Rests.{IsEnd}
use Rattle.mpd_tree.specs.{Marked.marked_in_value, Runs.plain_at, Grammar.value}
use Rattle.mpd_text.proofs.{KeptRows.{cut_kept, cut_shown}, Rests.{ends, ends_drop}, TextLoop.{marked_ascii, plain_parts}}
use Rattle.mpd_text.proofs.Values.{first_behind, value_first}

pub returns-in_ok-span-in-len1-up-clause-read : goal.returns-in_ok-span-in-len1-up-clause-read
returns-in_ok-span-in-len1-up-clause-read c =
    let k = c.args.self.now in
    let q = c.args.quote in
    let bytes = c.args.bytes.now in
    let rest = c.plain_of.result.1.now in
    let marks = c.in_value.ensures.marked c.requires.quote in
    let is = rw marks at c.plain_of.ensures.rest in
    let span = rw is at c.in_ok-span-in-len1-up.ensures.span in
    let shown = cut_shown k.source.now (string_bytes k.read) bytes (plain_at (marked_in_value q) bytes).0 (plain_at (marked_in_value q)
    bytes).1
    _ _ (ends k.source.now bytes c.requires.rest) (plain_parts (marked_in_value q) bytes) span.0 span.1 in
    subst (λ l. (value q bytes).read ≡ Ok (l, take (length rest - 1) (drop 1 rest))) (sym shown)
    (value_first q bytes rest is c.in-len1-up.len_at_least c.if-first-quote.true)

pub returns-in_ok-span-in-len1-up-clause-kept : goal.returns-in_ok-span-in-len1-up-clause-kept
returns-in_ok-span-in-len1-up-clause-kept c =
    let k = c.args.self.now in
    let bytes = c.args.bytes.now in
    let marks = c.in_value.result.now in
    let span = rw c.plain_of.ensures.rest at c.in_ok-span-in-len1-up.ensures.span in
    let e = ends k.source.now bytes c.requires.rest in
    cut_kept k bytes (plain_at marks bytes).0 (plain_at marks bytes).1 c.in_ok-span-in-len1-up.span c.requires.rest
    (ends_drop _ k.source.now bytes e) (marked_ascii marks bytes c.in_value.ensures.ascii) (plain_parts marks bytes) span.0 span.1

pub returns-in_ok-span-in-len1-up-clause-rest : goal.returns-in_ok-span-in-len1-up-clause-rest
returns-in_ok-span-in-len1-up-clause-rest c =
    let k = c.args.self.now in
    let bytes = c.args.bytes.now in
    first_behind k.source.now c.plain_of.result.1.now c.args.quote c.requires.quote
    (subst (IsEnd k.source.now) (sym c.plain_of.ensures.rest) (ends_drop _ k.source.now bytes (ends k.source.now bytes c.requires.rest)))
    c.in-len1-up.len_at_least c.if-first-quote.true
