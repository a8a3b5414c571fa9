use Rattle.mpd_values.proofs.Numerals.{plus_none, read_plain}
use Rattle.mpd_values.proofs.number.read_numeral.Goals as goal

pub returns-then-has_plus : goal.returns-then-has_plus
returns-then-has_plus c =
    plus_none c.args.text.now _ _ c.as_bytes-digits.ensures.value c.has_plus.ensures c.if-has_plus.true

pub returns : goal.returns
returns c =
    read_plain c.args.text.now _ _ _ _ c.as_bytes-digits.ensures.value c.has_plus.ensures c.if-has_plus.false c.parse_u64.ensures
    c.ok.ensures.value
