use Rattle.hls_meaning.proofs.Numbers.{numbers_rise, numbers_are_told, numbers_are_those_told}
use Rattle.hls_meaning.proofs.laws.sections_rise.Goals as goal

pub returns : goal.returns
returns c = record { rise = numbers_rise; told = numbers_are_told; those = numbers_are_those_told }
