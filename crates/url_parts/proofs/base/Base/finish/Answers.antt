use Rattle.url_parts.proofs.base.Base.finish.Goals as goal
use Rattle.std.proofs.{Common.{◌≡◌, ◌≤◌, length, take, drop, length-append, ap, arith}, lemmas.Str.IsCharBoundary-from_take}
use Rattle.url_parts.proofs.Relative.{whole_from_front}

pub range_from-reference-requires : goal.range_from-reference-requires
range_from-reference-requires c =
    let folder = c.folder.result.now in
    let text = c.as_str.result.now in
    let begins : take (length folder) text ≡ folder = rw (c.folder.ensures.text, c.as_str.ensures.value) c.requires in
    let inside : length folder ≤ length text = omega (
      arith,
      ap length (whole_from_front folder text begins),
      length-append folder (drop (length folder) text),
    ) in
    λ _. IsCharBoundary-from_take text (length folder) c.as_str.utf8 inside (rw begins c.folder.utf8)
