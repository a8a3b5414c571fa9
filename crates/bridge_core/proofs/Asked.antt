-- What words say of the folder and the digits of a job.
use Rattle.bridge_jobs.specs.declared.jobs.Job.TheVariants as job
use Rattle.bridge_jobs.specs.declared.verb.Verb.TheVariants as verb
use Rattle.std.proofs.Common.{◌≡◌, ℕ, ℤ, ◌-◌, ◌≤◌, ◌&&◌, IsTrue, List, [], ◌∷◌, Option, None, Some, IfSome, option_map}
use Rattle.std.proofs.Common.{refl, arith, inl, inr}
use Rattle.std.proofs.{lemmas.Bool.cases_Bool, lemmas.Bool.Decides.nat_tests}
use Rattle.std.specs.Prelude.{nat_le, codes, unwrap_or}
use Rattle.bridge_jobs.specs.declared.{jobs.Job.Job, jobs.CheckJob.CheckJob, jobs.CompareJob.CompareJob, jobs.MasterJob.MasterJob}
use Rattle.bridge_jobs.specs.declared.verb.Verb.{Verb}
use Rattle.bridge_jobs.specs.Jobs.{addresses_of, compare_of, form_of, most_of, within_of}
use Rattle.bridge_jobs.specs.Jobs.{◌>>=◌, agree_of, base_of, check_of, digits_in, digits_of, digits_or_six, file_of, first_verb, folder_in}
use Rattle.bridge_jobs.specs.Jobs.{follow_of, hls_of, index_of, is_folder, job_by, job_of, make_of, master_of, name_in, now_of, out_of}
use Rattle.bridge_jobs.specs.{Jobs.{reload_of, show_of}, Verbs.values_of}
use Rattle.clap.specs.Words.{Row, first_of}
use Rattle.bridge_io.specs.Names.{is_name}

-- a job's folder leaves room for the names of its files, its digits are few, and a master's file has a name
abbrev pub IsBounded : Job → Type 0
IsBounded (job.Hls j) = IsTrue (is_folder j.out) × (j.digits ≤ 9)
IsBounded (job.Dash j) = IsTrue (is_name j.master)
IsBounded (job.HlsIndex j) = IsTrue (is_folder j.out) × (j.digits ≤ 9)
IsBounded (job.Check j) = IsTrue (is_name j.master)
IsBounded (job.Compare j) = IsTrue (is_name j.check.master)
IsBounded (job.DashTimes j) = IsTrue (is_name j.master)
IsBounded (job.FollowHls j) = IsTrue (is_name j.master)
IsBounded (job.FollowHlsTimes j) = IsTrue (is_name j.master)
IsBounded other = Unit {0}

-- ---- what holds of the end of some steps

behind : {A B : Type 0} (P : B → Type 0) (a : Option A) (next : A → Option B) → ((x : A) → IfSome (next x) P) → IfSome (a >>= next) P
behind P None next each = tt
behind P (Some x) next each = each x

-- of a job by what holds of its values
mapped : {A : Type 0} (P : A → Type 0) (make : A → Job) (a : Option A) → ((x : A) → P x → IsBounded (make x)) → IfSome a P
    → IfSome (option_map make a) IsBounded
mapped P make None each is = tt
mapped P make (Some x) each is = each x is

-- of a job of which nothing is asked
free : {A : Type 0} (make : A → Job) (a : Option A) → ((x : A) → IsBounded (make x)) → IfSome (option_map make a) IsBounded
free make None each = tt
free make (Some x) each = each x

-- ---- folders and digits

folder_is : (text out : List ℕ) → folder_in text ≡ Some out → IsTrue (is_folder out)
folder_is text out is = elim (cases_Bool (is_folder text)) [
  | inl is_so ↦ (let same : text ≡ out = (let e = rw is_so at is in cc) in rw (← same, is_so) refl)
  | inr other ↦ absurd (let e = rw other at is in cc)
]

few_in : (text : List ℕ) (digits : ℕ) → digits_in text ≡ Some digits → digits ≤ 9
few_in [] digits is = absurd (cc)
few_in (c ∷ []) digits is = elim (cases_Bool (nat_le 51 c && nat_le c 57)) [
  | inl is_so ↦ (let same : c - 48 ≡ digits = (let e = rw is_so at is in cc) in grind (arith, nat_tests, is_so, same))
  | inr other ↦ absurd (let e = rw other at is in cc)
]
few_in (c ∷ (d ∷ text)) digits is = absurd (cc)

pub few_or_six : (text : Option (List ℕ)) (digits : ℕ) → digits_or_six text ≡ Some digits → digits ≤ 9
few_or_six None digits is = (let same : 6 ≡ digits = cc in omega (arith, same))
few_or_six (Some text) digits is = few_in text digits is

few_of : (rows : List Row) (digits : ℕ) → digits_of rows ≡ Some digits → digits ≤ 9
unfolding digits_of
few_of rows digits is = few_or_six (first_of (codes "digits") rows) digits is

-- the last four of a job's values
ended_in : {A B C : Type 0} (P : A → Type 0) (out : Option (List ℕ)) (digits : Option ℕ) (more : Option B) (last : Option C)
    (make : List ℕ → ℕ → B → C → A)
    → ((o : List ℕ) (d : ℕ) (m : B) (l : C) → out ≡ Some o → digits ≡ Some d → P (make o d m l))
    → IfSome (out >>= (λ o. digits >>= (λ d. more >>= (λ m. last >>= (λ l. Some (make o d m l)))))) P
ended_in P None digits more last make is = tt
ended_in P (Some o) None more last make is = tt
ended_in P (Some o) (Some d) None last make is = tt
ended_in P (Some o) (Some d) (Some m) None make is = tt
ended_in P (Some o) (Some d) (Some m) (Some l) make is = is o d m l refl refl

out_is : (rows : List Row) (out : List ℕ) → out_of rows ≡ Some out → IsTrue (is_folder out)
unfolding out_of
out_is rows out is = folder_is (unwrap_or (first_of (codes "out") rows) (codes "out")) out is

hls_bounded : (rows : List Row) → IfSome (hls_of rows) (λ j. IsBounded (job.Hls j))
unfolding hls_of
hls_bounded rows =
    behind _ (file_of (codes "mpd") rows) _ (λ mpd. behind _ (base_of rows) _ (λ base. behind _ (now_of rows) _ (λ now.
    ended_in (λ j. IsBounded (job.Hls j)) (out_of rows) (digits_of rows) (addresses_of rows) (form_of rows) _
    (λ out digits addresses form folder few. (out_is rows out folder, few_of rows digits few)))))

index_bounded : (rows : List Row) → IfSome (index_of rows) (λ j. IsBounded (job.HlsIndex j))
unfolding index_of
index_bounded rows =
    behind _ (file_of (codes "mpd") rows) _ (λ mpd. behind _ (base_of rows) _ (λ base.
    ended_in (λ j. IsBounded (job.HlsIndex j)) (out_of rows) (digits_of rows) (addresses_of rows) (form_of rows) _
    (λ out digits addresses form folder few. (out_is rows out folder, few_of rows digits few))))

named : (text name : List ℕ) → name_in text ≡ Some name → IsTrue (is_name name)
named text name is = elim (cases_Bool (is_name text)) [
  | inl is_so ↦ (let same : text ≡ name = (let e = rw is_so at is in cc) in rw (← same, is_so) refl)
  | inr other ↦ absurd (let e = rw other at is in cc)
]

named_in : (text : Option (List ℕ)) (name : List ℕ) → (text >>= name_in) ≡ Some name → IsTrue (is_name name)
named_in None name is = absurd (cc)
named_in (Some text) name is = named text name is

master_in : {A : Type 0} (master base out : Option (List ℕ)) (form : Option A) (make : List ℕ → List ℕ → List ℕ → A → MasterJob)
    → ((m b o : List ℕ) (f : A) → master ≡ Some m → IsTrue (is_name (make m b o f).master))
    → IfSome (master >>= (λ m. base >>= (λ b. out >>= (λ o. form >>= (λ f. Some (make m b o f))))))
    (λ (j : MasterJob). IsTrue (is_name j.master))
master_in None base out form make is = tt
master_in (Some m) None out form make is = tt
master_in (Some m) (Some b) None form make is = tt
master_in (Some m) (Some b) (Some o) None make is = tt
master_in (Some m) (Some b) (Some o) (Some f) make is = is m b o f refl

master_bounded : (rows : List Row) → IfSome (master_of rows) (λ j. IsTrue (is_name j.master))
unfolding master_of file_of
master_bounded rows =
    master_in (file_of (codes "master") rows) (base_of rows) (out_of rows) (form_of rows) _
    (λ m b o f is. named_in (first_of (codes "master") rows) m is)

check_in : (mpd master base : Option (List ℕ)) (digits : Option ℕ) → ((m : List ℕ) → master ≡ Some m → IsTrue (is_name m))
    → IfSome (mpd >>= (λ f. master >>= (λ m.
    base >>= (λ b. digits >>= (λ d. Some (record { mpd = f; master = m; base = b; digits = d }))))))
    (λ (j : CheckJob). IsTrue (is_name j.master))
check_in None master base digits is = tt
check_in (Some f) None base digits is = tt
check_in (Some f) (Some m) None digits is = tt
check_in (Some f) (Some m) (Some b) None is = tt
check_in (Some f) (Some m) (Some b) (Some d) is = is m refl

check_bounded : (rows : List Row) → IfSome (check_of rows) (λ j. IsTrue (is_name j.master))
unfolding check_of file_of
check_bounded rows =
    check_in (file_of (codes "mpd") rows) (file_of (codes "master") rows) (base_of rows) (digits_of rows)
    (named_in (first_of (codes "master") rows))

compare_in : (check : Option CheckJob) (now : Option (Option ℤ)) (within most : Option ℕ)
    → IfSome check (λ (c : CheckJob). IsTrue (is_name c.master))
    → IfSome (check >>= (λ c. now >>= (λ i.
    within >>= (λ w. most >>= (λ m. Some (record { check = c; instant = i; within = w; most = m }))))))
    (λ (j : CompareJob). IsTrue (is_name j.check.master))
compare_in None now within most is = tt
compare_in (Some c) None within most is = tt
compare_in (Some c) (Some i) None most is = tt
compare_in (Some c) (Some i) (Some w) None is = tt
compare_in (Some c) (Some i) (Some w) (Some m) is = is

compare_bounded : (rows : List Row) → IfSome (compare_of rows) (λ j. IsTrue (is_name j.check.master))
unfolding compare_of
compare_bounded rows = compare_in (check_of rows) (now_of rows) (within_of rows) (most_of rows) (check_bounded rows)

bounded_by : (v : Verb) (rows : List Row) → IfSome (job_by v rows) IsBounded
bounded_by verb.Hls rows = mapped _ job.Hls (hls_of rows) (λ j is. is) (hls_bounded rows)
bounded_by verb.Dash rows = mapped _ job.Dash (master_of rows) (λ j is. is) (master_bounded rows)
bounded_by verb.Follow rows = free job.Follow (follow_of rows) (λ _. tt)
bounded_by verb.Show rows = free job.Show (show_of rows) (λ _. tt)
bounded_by verb.Check rows = mapped _ job.Check (check_of rows) (λ j is. is) (check_bounded rows)
bounded_by verb.Reload rows = free job.Reload (reload_of rows) (λ _. tt)
bounded_by verb.Make rows = free job.Make (make_of rows) (λ _. tt)
bounded_by verb.HlsIndex rows = mapped _ job.HlsIndex (index_of rows) (λ j is. is) (index_bounded rows)
bounded_by verb.DashTimes rows = mapped _ job.DashTimes (master_of rows) (λ j is. is) (master_bounded rows)
bounded_by verb.Agree rows = free job.Agree (agree_of rows) (λ _. tt)
bounded_by verb.FollowHls rows = mapped _ job.FollowHls (master_of rows) (λ j is. is) (master_bounded rows)
bounded_by verb.FollowHlsTimes rows = mapped _ job.FollowHlsTimes (master_of rows) (λ j is. is) (master_bounded rows)
bounded_by verb.Compare rows = mapped _ job.Compare (compare_of rows) (λ j is. is) (compare_bounded rows)

pub bounded : (words : List (List ℕ)) → IfSome (job_of words) IsBounded
unfolding job_of
bounded words =
    behind IsBounded (first_verb words) _ (λ command. behind IsBounded (values_of command words) (job_by command) (bounded_by command))
