-- The command of a command line.
use Rattle.bridge_jobs.specs.declared.verb.Verb.TheVariants as verb
use Rattle.bridge_jobs.specs.declared.jobs.Job.TheVariants as job
use Rattle.std.specs.Prelude.{ℕ, ℤ, ◌-◌, ◌^◌, ◌==◌, ◌&&◌, ◌||◌, nat_le, Bool, codes, List, [], ◌∷◌, ◌++◌, length, if◌then◌else◌, Option}
use Rattle.std.specs.Prelude.{Some, None}
use Rattle.std.specs.{Char.is_ascii_digit, List.list_all}
use Rattle.std.specs.{Prelude.{bytes_eq, option_and_then, option_map, unwrap_or, IfSome, IsTrue}, Result.result_ok}
use Rattle.clap.specs.Words.{Row, Text, first_of}
use Rattle.iso_time.specs.{Duration.duration_of, Instant.{instant_of, IsReadable}}
use Rattle.bridge_io.specs.Names.{is_name}
use Rattle.segment_forms.specs.{declared.form.Form.Form, declared.form.Form.TheVariants.{Plain, Players}}
use Rattle.bridge_jobs.specs.{declared.verb.Verb.Verb, declared.jobs.Job.Job, Numbers.decimal_of, Verbs.{verb_of, values_of}}
use Rattle.bridge_jobs.specs.declared.jobs.Addresses.{Addresses, TheVariants.{Absolute, Relative}}
use Rattle.bridge_jobs.specs.declared.jobs.{AgreeJob.AgreeJob, CheckJob.CheckJob, FollowJob.FollowJob, HlsJob.HlsJob, IndexJob.IndexJob}
use Rattle.bridge_jobs.specs.declared.jobs.CompareJob.{CompareJob}
use Rattle.bridge_jobs.specs.declared.jobs.{MakeJob.MakeJob, MasterJob.MasterJob, ReloadJob.ReloadJob, ShowJob.ShowJob}

infixl 10 ◌>>=◌
abbrev pub ◌>>=◌ : {A B : Type 0} → Option A → (A → Option B) → Option B
found >>= next = option_and_then next found

-- ---- values

-- a text as the name of a file
abbrev pub name_in : Text → Option Text
name_in text = if is_name text then Some text else None

-- the name of a directory, short enough for the names of the files in it
abbrev pub is_folder : Text → Bool
is_folder text = is_name text && nat_le (length text) 242

abbrev pub folder_in : Text → Option Text
folder_in text = if is_folder text then Some text else None

-- one character of `3` to `9`
abbrev pub digits_in : Text → Option ℕ
digits_in (c ∷ []) = if nat_le 51 c && nat_le c 57 then Some (c - 48) else None
digits_in _ = None

-- `plain` or `players`
abbrev pub form_in : Text → Option Form
form_in text =
    if bytes_eq text (codes "plain") then Some Plain
    else if bytes_eq text (codes "players") then Some Players
    else None

-- `absolute` or `relative`
abbrev pub addresses_in : Text → Option Addresses
addresses_in text =
    if bytes_eq text (codes "absolute") then Some Absolute
    else if bytes_eq text (codes "relative") then Some Relative
    else None

-- 1 to 10 digits, with a value below 2^32
abbrev pub seed_in : Text → Option ℕ
seed_in text = decimal_of 10 text

abbrev pub instant_in : Text → Option ℤ
instant_in text = result_ok (instant_of text)

-- the value of an optional parameter, or `None` where it is absent; an invalid value is a usage error
abbrev pub optional : {A : Type 0} → (Text → Option A) → Option Text → Option (Option A)
optional read None = Some None
optional read (Some text) = option_map Some (read text)

-- ---- parameters by their names

unfoldable pub file_of : Text → List Row → Option Text
file_of id rows = first_of id rows >>= name_in

unfoldable pub base_of : List Row → Option Text
base_of rows = first_of (codes "base") rows

unfoldable pub now_of : List Row → Option (Option ℤ)
now_of rows = optional instant_in (first_of (codes "now") rows)

unfoldable pub out_of : List Row → Option Text
out_of rows = folder_in (unwrap_or (first_of (codes "out") rows) (codes "out"))

-- by default 6
abbrev pub digits_or_six : Option Text → Option ℕ
digits_or_six None = Some 6
digits_or_six (Some text) = digits_in text

unfoldable pub digits_of : List Row → Option ℕ
digits_of rows = digits_or_six (first_of (codes "digits") rows)

-- by default `plain`
abbrev pub form_or_plain : Option Text → Option Form
form_or_plain None = Some Plain
form_or_plain (Some text) = form_in text

unfoldable pub form_of : List Row → Option Form
form_of rows = form_or_plain (first_of (codes "form") rows)

-- by default `absolute`
abbrev pub addresses_or_absolute : Option Text → Option Addresses
addresses_or_absolute None = Some Absolute
addresses_or_absolute (Some text) = addresses_in text

unfoldable pub addresses_of : List Row → Option Addresses
addresses_of rows = addresses_or_absolute (first_of (codes "addresses") rows)

unfoldable pub seed_of : List Row → Option ℕ
seed_of rows = first_of (codes "seed") rows >>= seed_in

-- ---- commands

unfoldable pub hls_of : List Row → Option HlsJob
hls_of rows = do
  mpd ← file_of (codes "mpd") rows
  base ← base_of rows
  instant ← now_of rows
  out ← out_of rows
  digits ← digits_of rows
  addresses ← addresses_of rows
  form ← form_of rows
  Some (record { mpd = mpd; base = base; instant = instant; out = out; digits = digits; addresses = addresses; form = form })

unfoldable pub master_of : List Row → Option MasterJob
master_of rows = do
  master ← file_of (codes "master") rows
  base ← base_of rows
  out ← out_of rows
  form ← form_of rows
  Some (record { master = master; base = base; out = out; form = form })

unfoldable pub follow_of : List Row → Option FollowJob
follow_of rows = do
  name ← file_of (codes "name") rows
  base ← base_of rows
  out ← out_of rows
  digits ← digits_of rows
  addresses ← addresses_of rows
  form ← form_of rows
  Some (record { name = name; base = base; out = out; digits = digits; addresses = addresses; form = form })

unfoldable pub show_of : List Row → Option ShowJob
show_of rows = do
  file ← file_of (codes "file") rows
  base ← base_of rows
  instant ← now_of rows
  digits ← digits_of rows
  Some (record { file = file; base = base; instant = instant; digits = digits })

unfoldable pub check_of : List Row → Option CheckJob
check_of rows = do
  mpd ← file_of (codes "mpd") rows
  master ← file_of (codes "master") rows
  base ← base_of rows
  digits ← digits_of rows
  Some (record { mpd = mpd; master = master; base = base; digits = digits })

unfoldable pub reload_of : List Row → Option ReloadJob
reload_of rows = do
  old ← file_of (codes "old") rows
  new ← file_of (codes "new") rows
  base ← base_of rows
  Some (record { old = old; new = new; base = base })

unfoldable pub make_of : List Row → Option MakeJob
make_of rows = do
  seed ← seed_of rows
  out ← out_of rows
  digits ← digits_of rows
  Some (record { seed = seed; out = out; digits = digits })

unfoldable pub index_of : List Row → Option IndexJob
index_of rows = do
  mpd ← file_of (codes "mpd") rows
  base ← base_of rows
  out ← out_of rows
  digits ← digits_of rows
  addresses ← addresses_of rows
  form ← form_of rows
  Some (record { mpd = mpd; base = base; out = out; digits = digits; addresses = addresses; form = form })

unfoldable pub agree_of : List Row → Option AgreeJob
agree_of rows = do
  mpd ← file_of (codes "mpd") rows
  base ← base_of rows
  Some (record { mpd = mpd; base = base })

-- The decimals of a number of seconds, of which the first nine count, in nanoseconds: at most 10 seconds. So long a text that has more
-- than nine decimals is below 10 seconds.
abbrev pub is_decimal_byte : ℕ → Bool
is_decimal_byte b = is_ascii_digit b || b == 46

abbrev pub is_short_decimal : Text → Bool
is_short_decimal text = nat_le (length text) 12 && list_all is_decimal_byte text

abbrev pub at_most_ten_seconds : ℕ → Option ℕ
at_most_ten_seconds nanos = if nat_le nanos (10 ^ 10) then Some nanos else None

abbrev pub seconds_in : Text → Option ℕ
seconds_in text = if is_short_decimal text
    then result_ok (duration_of (codes "PT" ++ text ++ codes "S")) >>= at_most_ten_seconds else None

-- by default none
abbrev pub seconds_or_none : Option Text → Option ℕ
seconds_or_none None = Some 0
seconds_or_none (Some text) = seconds_in text

unfoldable pub within_of : List Row → Option ℕ
within_of rows = seconds_or_none (first_of (codes "within") rows)

-- 1 to 100,000
abbrev pub some_differences : ℕ → Option ℕ
some_differences n = if nat_le 1 n && nat_le n 100000 then Some n else None

-- by default 100
abbrev pub count_or_hundred : Option Text → Option ℕ
count_or_hundred None = Some 100
count_or_hundred (Some text) = decimal_of 6 text >>= some_differences

unfoldable pub most_of : List Row → Option ℕ
most_of rows = count_or_hundred (first_of (codes "all") rows)

unfoldable pub compare_of : List Row → Option CompareJob
compare_of rows = do
  check ← check_of rows
  instant ← now_of rows
  within ← within_of rows
  most ← most_of rows
  Some (record { check = check; instant = instant; within = within; most = most })

abbrev pub job_by : Verb → List Row → Option Job
job_by verb.Hls rows = option_map job.Hls (hls_of rows)
job_by verb.Dash rows = option_map job.Dash (master_of rows)
job_by verb.Follow rows = option_map job.Follow (follow_of rows)
job_by verb.Show rows = option_map job.Show (show_of rows)
job_by verb.Check rows = option_map job.Check (check_of rows)
job_by verb.Reload rows = option_map job.Reload (reload_of rows)
job_by verb.Make rows = option_map job.Make (make_of rows)
job_by verb.HlsIndex rows = option_map job.HlsIndex (index_of rows)
job_by verb.DashTimes rows = option_map job.DashTimes (master_of rows)
job_by verb.Agree rows = option_map job.Agree (agree_of rows)
job_by verb.FollowHls rows = option_map job.FollowHls (master_of rows)
job_by verb.FollowHlsTimes rows = option_map job.FollowHlsTimes (master_of rows)
job_by verb.Compare rows = option_map job.Compare (compare_of rows)

-- the first word's command
abbrev pub first_verb : List Text → Option Verb
first_verb [] = None
first_verb (word ∷ rest) = verb_of word

-- the first word is the command's, and the rest is parsed by it
unfoldable pub job_of : List Text → Option Job
job_of words = do
  command ← first_verb words
  values ← values_of command words
  job_by command values

-- the directory of the files that a command writes
abbrev pub folder_of : Job → Option Text
folder_of (job.Hls j) = Some j.out
folder_of (job.Dash j) = Some j.out
folder_of (job.Follow j) = Some j.out
folder_of (job.Make j) = Some j.out
folder_of (job.HlsIndex j) = Some j.out
folder_of (job.DashTimes j) = Some j.out
folder_of (job.FollowHls j) = Some j.out
folder_of (job.FollowHlsTimes j) = Some j.out
folder_of other = None

-- and it leaves room for their names
abbrev pub HasFolder : Job → Type 0
HasFolder job = IfSome (folder_of job) (λ folder. IsTrue (is_folder folder))

-- the time at which a command reads a live MPD
abbrev pub now_of_job : Job → Option ℤ
now_of_job (job.Hls j) = j.instant
now_of_job (job.Show j) = j.instant
now_of_job (job.Compare j) = j.instant
now_of_job other = None

-- and it is one that can be read and written
abbrev pub HasReadableNow : Job → Type 0
HasReadableNow job = IfSome (now_of_job job) IsReadable
