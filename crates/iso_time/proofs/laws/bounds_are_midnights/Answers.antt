use Rattle.std.proofs.Common.{refl}
use Rattle.jiff_core.specs.Calendar.{days_from_civil, day_count, days_of_years, days_of_months}
use Rattle.iso_time.proofs.laws.bounds_are_midnights.Goals as goal

pub returns : goal.returns
unfolding days_from_civil day_count days_of_years days_of_months
returns c = record { first_read = refl; end_read = refl; first_written = refl; end_written = refl }
