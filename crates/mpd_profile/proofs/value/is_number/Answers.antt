use Rattle.std.proofs.Common.{◌∙◌, sym}
use Rattle.mpd_profile.proofs.Counting.{few_are_numbers}
use Rattle.mpd_profile.proofs.value.is_number.Goals as goal

pub returns-then-are_few_digits : goal.returns-then-are_few_digits
returns-then-are_few_digits c =
    few_are_numbers c.args.least c.args.bound c.args.text.now (sym c.has_room.ensures ∙ c.if-has_room.true) (sym c.are_few_digits.ensures
    ∙ c.if-are_few_digits.true)
