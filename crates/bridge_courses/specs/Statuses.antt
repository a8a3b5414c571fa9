-- The exit status of the program.
use Rattle.std.specs.Prelude.{ℕ}
use Rattle.bridge_courses.specs.declared.status.Status.{Status}
use Rattle.bridge_courses.specs.declared.status.Status.TheVariants.{Done, Refused, Words, ReadFault, WriteFault, Memory, Differ}

abbrev pub number_of : Status → ℕ
number_of Done = 0
number_of Refused = 1
number_of Words = 2
number_of ReadFault = 3
number_of WriteFault = 4
number_of Memory = 5
number_of Differ = 6
