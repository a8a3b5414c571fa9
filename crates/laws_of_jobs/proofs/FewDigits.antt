-- A job that follows prints few decimals.
use Rattle.bridge_jobs.specs.declared.jobs.Job.TheVariants as job
use Rattle.bridge_jobs.specs.declared.verb.Verb.TheVariants as verb
use Rattle.std.proofs.Common.{◌≡◌, ◌≤◌, ℕ, List, Option, None, Some, IfSome, option_map, refl, subst}
use Rattle.std.specs.Prelude.{codes}
use Rattle.clap.specs.Words.{Row, first_of}
use Rattle.bridge_jobs.specs.declared.{jobs.Job.Job, jobs.FollowJob.FollowJob, verb.Verb.Verb}
use Rattle.bridge_jobs.specs.Jobs.{◌>>=◌, agree_of, base_of, check_of, digits_of, file_of, first_verb, follow_of, hls_of, index_of, job_by}
use Rattle.bridge_jobs.specs.Jobs.{addresses_of, compare_of, form_of, job_of, make_of, master_of, out_of, reload_of, show_of}
use Rattle.bridge_jobs.specs.Verbs.{values_of}
use Rattle.bridge_core.proofs.Asked.{few_or_six}

abbrev HasFew : Job → Type 0
HasFew (job.Follow j) = j.digits ≤ 9
HasFew other = Unit {0}

each : {A B : Type 0} (P : B → Type 0) (a : Option A) (next : A → Option B) → ((x : A) → a ≡ Some x → IfSome (next x) P)
    → IfSome (a >>= next) P
each P None next behind = tt
each P (Some x) next behind = behind x refl

free : {A : Type 0} (make : A → Job) (a : Option A) → ((x : A) → HasFew (make x)) → IfSome (option_map make a) HasFew
free make None each = tt
free make (Some x) each = each x

followed : (a : Option FollowJob) → IfSome a (λ j. j.digits ≤ 9) → IfSome (option_map job.Follow a) HasFew
followed None is = tt
followed (Some j) is = is

follow_few : (rows : List Row) → IfSome (follow_of rows) (λ j. j.digits ≤ 9)
unfolding follow_of digits_of
follow_few rows =
    each _ (file_of (codes "name") rows) _ (λ _ _. each _ (base_of rows) _ (λ _ _. each _ (out_of rows) _
    (λ _ _. each _ (digits_of rows) _ (λ digits few. each _ (addresses_of rows) _ (λ _ _. each _ (form_of rows) _
    (λ _ _. few_or_six (first_of (codes "digits") rows) digits few))))))

few_by : (v : Verb) (rows : List Row) → IfSome (job_by v rows) HasFew
few_by verb.Hls rows = free job.Hls (hls_of rows) (λ _. tt)
few_by verb.Dash rows = free job.Dash (master_of rows) (λ _. tt)
few_by verb.Follow rows = followed (follow_of rows) (follow_few rows)
few_by verb.Show rows = free job.Show (show_of rows) (λ _. tt)
few_by verb.Check rows = free job.Check (check_of rows) (λ _. tt)
few_by verb.Reload rows = free job.Reload (reload_of rows) (λ _. tt)
few_by verb.Make rows = free job.Make (make_of rows) (λ _. tt)
few_by verb.HlsIndex rows = free job.HlsIndex (index_of rows) (λ _. tt)
few_by verb.DashTimes rows = free job.DashTimes (master_of rows) (λ _. tt)
few_by verb.Agree rows = free job.Agree (agree_of rows) (λ _. tt)
few_by verb.FollowHls rows = free job.FollowHls (master_of rows) (λ _. tt)
few_by verb.FollowHlsTimes rows = free job.FollowHlsTimes (master_of rows) (λ _. tt)
few_by verb.Compare rows = free job.Compare (compare_of rows) (λ _. tt)

few_words : (words : List (List ℕ)) → IfSome (job_of words) HasFew
unfolding job_of
few_words words =
    each _ (first_verb words) _ (λ command _. each _ (values_of command words) (job_by command) (λ rows _. few_by command rows))

pub few_digits : (words : List (List ℕ)) (j : FollowJob) → job_of words ≡ Some (job.Follow j) → j.digits ≤ 9
few_digits words j asks = subst (λ asked. IfSome asked HasFew) asks (few_words words)
