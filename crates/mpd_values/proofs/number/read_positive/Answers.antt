use Rattle.std.proofs.Common.{◌^◌, ◌∙◌, lit≤, sym, refl}
use Rattle.mpd_values.specs.Numbers.{numeral_of}
use Rattle.mpd_values.proofs.Numerals.{none_below}
use Rattle.mpd_values.proofs.number.read_positive.Goals as goal

pub returns-in_err-read_numeral : goal.returns-in_err-read_numeral
returns-in_err-read_numeral c =
    rw (
      c.from_residual.ensures,
      none_below (2 ^ 63) (numeral_of c.args.digits.now) (lit≤ tt) (sym c.read_numeral.ensures
          ∙ c.in_err-read_numeral.was),
    ) refl
