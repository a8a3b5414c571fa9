use Rattle.std.proofs.Common.{◌∙◌, sym}
use Rattle.hls_master.proofs.Numerals.{parsed_is}
use Rattle.hls_master.proofs.value.read_numeral.Goals as goal

pub returns : goal.returns
returns c = c.ok.ensures.value ∙ parsed_is _ c.args.text.now _ (sym c.if-not-has_only_digits.ensures) c.parse.ensures.value.0
