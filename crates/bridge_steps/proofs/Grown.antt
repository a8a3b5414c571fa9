-- Reports that grow.
use Rattle.bridge_io.specs.declared.outside.Fail.TheVariants as fail
use Rattle.bridge_courses.specs.declared.ending.Ending.TheVariants as ending
use Rattle.std.proofs.Common.{◌≡◌, ℕ, List, [], ◌++◌, Option}
use Rattle.bridge_courses.specs.{declared.ending.Ending.Ending, Steps.IsCutOff}
use Rattle.bridge_courses.proofs.Stepping.{appends_both, none_told}
use Rattle.bridge_steps.specs.Follow.{Grows}

pub none_grown : (before after : Option (List ℕ)) → after ≡ before → Grows before after
none_grown before after same = ([], none_told before after same)

pub grown_then : (before mid after : Option (List ℕ)) → Grows before mid → Grows mid after → Grows before after
grown_then before mid after one two = (one.0 ++ two.0, appends_both one.0 two.0 before mid after one.1 two.1)

-- a line that is cut off told a front of it
pub cut_grown : (lines : List ℕ) (told : Ending) (f f' : ℕ) (before after : Option (List ℕ)) → IsCutOff lines told f f' before after
    → Grows before after
cut_grown lines (ending.Ended v line) f f' before after cut = absurd cut
cut_grown lines ending.Words f f' before after cut = absurd cut
cut_grown lines ending.ReadFault f f' before after cut = absurd cut
cut_grown lines ending.WriteFault f f' before after cut = absurd cut
cut_grown lines ending.Memory f f' before after cut = absurd cut
cut_grown lines (ending.Cut fail.Failed) f f' before after cut = (_, cut.1.1)
cut_grown lines (ending.Cut fail.Memory) f f' before after cut = (_, cut.1)
