use Rattle.iso_time.proofs.CalendarLemmas.{civil_date}
use Rattle.iso_time.proofs.laws.calendar_days_have_dates.Goals as goal

pub returns : goal.returns
returns c = civil_date
