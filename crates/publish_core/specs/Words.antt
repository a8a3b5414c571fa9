-- The job that words are.
use Rattle.publish_core.specs.declared.words.WordsFault.TheVariants as fault
use Rattle.std.specs.Prelude.{◌≡◌, ℕ, ◌^◌, nat_lt, Bool, true, false, List, [], ◌∷◌, codes, bytes_eq, if◌then◌else◌, Option, Some, None}
use Rattle.std.specs.{Prelude.{Result, Ok, Err}, Option.option_and_then}
use Rattle.clap.specs.Words.{App, Row, Text, fault_of, first_of, matches_of}
use Rattle.bridge_jobs.specs.{Jobs.folder_in, Numbers.decimal_of, Verbs.{app_with, option, positional, unless_at_fault}}
use Rattle.publish_core.specs.{declared.job.PublishJob.PublishJob, declared.words.WordsFault.WordsFault}

infixl 10 ◌>>=◌
abbrev pub ◌>>=◌ : {A B : Type 0} → Option A → (A → Option B) → Option B
found >>= next = option_and_then next found

-- ---- the command

abbrev pub program_word : Text
program_word = codes "bridge_publish"

abbrev pub syntax_of_words : App
syntax_of_words = app_with program_word (positional (codes "new") ∷ positional (codes "served") ∷ option (codes "target")
    ∷ option (codes "end") ∷ option (codes "back") ∷ [])

-- what words give the parameters, of which the first is the program's own
unfoldable pub values_of : List Text → Option (List Row)
values_of words = unless_at_fault (fault_of syntax_of_words words) (matches_of syntax_of_words words)

-- ---- values

abbrev pub folder_of : Option Text → Option Text
folder_of text = text >>= folder_in

-- below 2^31
abbrev pub target_below : ℕ → Option ℕ
target_below n = if nat_lt n (2 ^ 31) then Some n else None

abbrev pub target_of : Option Text → Option ℕ
target_of None = Some 0
target_of (Some text) = decimal_of 10 text >>= target_below

abbrev pub flag_in : Text → Option Bool
flag_in text = if bytes_eq text (codes "yes") then Some true else (if bytes_eq text (codes "no") then Some false else None)

abbrev pub flag_of : Option Text → Option Bool
flag_of None = Some false
flag_of (Some text) = flag_in text

-- ---- the job

-- the two folders differ
abbrev pub unless_one : Text → Text → PublishJob → Option PublishJob
unless_one new served job = if bytes_eq new served then None else Some job

unfoldable pub job_by : List Row → Option PublishJob
job_by rows = do
  new ← folder_of (first_of (codes "new") rows)
  served ← folder_of (first_of (codes "served") rows)
  target ← target_of (first_of (codes "target") rows)
  end ← flag_of (first_of (codes "end") rows)
  back ← flag_of (first_of (codes "back") rows)
  unless_one new served (record {
    new = new;
    served = served;
    target = target;
    options = record { end = end; back = back };
  })

unfoldable pub job_of : List Text → Option PublishJob
job_of words = values_of (program_word ∷ words) >>= job_by

-- what is given, or no job exactly where nothing is; out of memory says nothing about the words
abbrev pub IsGiven : {A : Type 0} → Option A → Result A WordsFault → Type 0
IsGiven given (Ok it) = given ≡ Some it
IsGiven given (Err fault.NoJob) = given ≡ None
IsGiven given (Err fault.Memory) = Unit {0}
