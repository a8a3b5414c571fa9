use Rattle.mpd_text.proofs.references.number_of.Given as goal
use Rattle.std.proofs.Common.{◌≡◌, ◌≤◌, drop, fold}
use Rattle.mpd_tree.specs.References.{capped_number, with_digit}

abbrev pub invariant-loop-digit : goal.invariant-loop-digit
invariant-loop-digit l = record {
  small : l.number ≤ 1114112;
  number_is : fold (with_digit l.base) l.number (drop l.digit-index l.digits) ≡ capped_number l.base l.digits;
}
