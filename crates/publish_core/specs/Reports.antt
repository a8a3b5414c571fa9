-- The lines of the report.
use Rattle.publish_law.specs.declared.plan.Course.TheVariants as course
use Rattle.std.specs.Prelude.{ℕ, List, ◌++◌, codes, decimal}
use Rattle.publish_law.specs.declared.plan.Course.{Course}
use Rattle.publish_core.specs.declared.report.Counts.{Counts}

unfoldable pub first_line : (tracks segments : ℕ) → List ℕ
first_line tracks segments = codes "first tracks=" ++ decimal tracks ++ codes " segments=" ++ decimal segments ++ codes "\n"

-- joined too where the master's text alone differs
abbrev pub word_of : Course → List ℕ
word_of course.Unchanged = codes "joined"
word_of course.Joined = codes "joined"
word_of course.Stepped = codes "stepped"
word_of course.Ended = codes "ended"

unfoldable pub counts_line : Course → Counts → List ℕ
counts_line course counts = word_of course ++ codes " appended=" ++ decimal counts.appended ++ codes " removed="
    ++ decimal counts.removed ++ codes "\n"
