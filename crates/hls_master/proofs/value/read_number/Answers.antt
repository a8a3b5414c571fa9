use Rattle.std.proofs.Common.{◌∙◌, sym, refl, arith}
use Rattle.mpd_values.specs.Numbers.{numeral_of}
use Rattle.mpd_values.proofs.Numerals.{none_below}
use Rattle.hls_master.proofs.value.read_number.Goals as goal

pub returns-in_err-number : goal.returns-in_err-number
returns-in_err-number c =
    rw (
      c.from_residual.ensures,
      none_below c.args.bound (numeral_of c.args.text.now) (omega arith) (sym c.read_numeral.ensures
          ∙ c.in_err-number.was),
    ) refl
