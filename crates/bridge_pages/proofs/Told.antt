-- Where the files and the input are told, the course of any words is.
use Rattle.bridge_jobs.specs.declared.jobs.MasterJob.{MasterJob}
use Rattle.bridge_jobs.specs.declared.jobs.Job.TheVariants as job
use Rattle.bridge_reach.specs.TimedRounds as timed
use Rattle.std.proofs.Common.{ℕ, List, Option, Some, None, IsSome, Result, Ok, Err, option_map, refl}
use Rattle.bridge_courses.specs.Courses.{Course}
use Rattle.bridge_io.specs.Outside.{Files}
use Rattle.bridge_jobs.specs.{declared.jobs.Job.Job, Jobs.job_of}
use Rattle.bridge_report.specs.{Outcomes.{Outcome, course_by}, Reading.Named}
use Rattle.hls_master.specs.declared.track.MasterTrack.{MasterTrack}
use Rattle.bridge_steps.specs.{Endings.placed, Follow.course_placed}
use Rattle.bridge_playlists.specs.{Places.store_place_of, Playlists.master_at, declared.place.StorePlace.StorePlace}
use Rattle.bridge_playlists.specs.Reload.{reload_outcome, reload_under, urls_of}
use Rattle.bridge_reach.specs.{Agree.{agree_at, agree_outcome}, DashTimes.{dash_times_at, dash_times_outcome}}
use Rattle.bridge_reach.specs.{Index.{index_at, index_outcome}, Rounds.{rounds_at, rounds_course, rounds_of}}
use Rattle.bridge_core.specs.Courses.{course_of, course_of_job}
use Rattle.bridge_compare.specs.{Check.{check_at, check_outcome, places_of}, Compare.{compare_at, compare_outcome}}
use Rattle.bridge_core.specs.{Dash.{dash_at, dash_outcome}}
use Rattle.bridge_core.specs.{Follow.{follow_at, followed_course}, Hls.{hls_at, hls_outcome}, Make.{make_at, make_outcome, source_place}}
use Rattle.bridge_core.specs.Show.{show_at, show_outcome}

mapped : {X Y : Type 0} (f : X → Y) (x : Option X) → IsSome x → IsSome (option_map f x)
mapped f (Some x) is = refl
mapped f None is = cc

asked : {P : Type 0} (at : P → Option Outcome) (place : Option P) → ((p : P) → IsSome (at p))
    → IsSome (option_map course_by (placed at place))
asked at None each = refl
asked at (Some place) each = mapped course_by (at place) (each place)

course_under : {P : Type 0} (at : P → Option Course) (place : Option P) → ((p : P) → IsSome (at p)) → IsSome (course_placed at place)
course_under at None each = refl
course_under at (Some place) each = each place

any_rounds : (asked : MasterJob) (input : List ℕ) (read : Result (List MasterTrack) Named) → IsSome (rounds_of asked (Some input) read)
any_rounds asked input (Ok tracks) = refl
any_rounds asked input (Err named) = refl

any_timed : (asked : MasterJob) (place : StorePlace) (files : Files) (input : List ℕ) (read : Result (List MasterTrack) Named)
    → IsSome (timed.course_of asked place files (Some input) read)
any_timed asked place files input (Ok tracks) = refl
any_timed asked place files input (Err named) = refl

any_way : {U V : Type 0} (f : Option U → Option V) (u : Option U) → IsSome (f None) → ((x : U) → IsSome (f (Some x))) → IsSome (f u)
any_way f None without with_one = without
any_way f (Some x) without with_one = with_one x

job_is_known : (j : Option Job) (files : Files) (input : List ℕ) → IsSome (course_of_job j (Some files) (Some input))
unfolding hls_outcome dash_outcome show_outcome check_outcome reload_outcome make_outcome
    compare_outcome index_outcome dash_times_outcome agree_outcome followed_course rounds_course timed.timed_course
job_is_known None files input = refl
job_is_known (Some (job.Hls j)) files input = asked (hls_at j (Some files)) (store_place_of j.base j.mpd) (λ p. refl)
job_is_known (Some (job.Dash j)) files input = asked (dash_at j (Some files)) (store_place_of j.base j.master) (λ p. refl)
job_is_known (Some (job.Show j)) files input = asked (show_at j (Some files)) (store_place_of j.base j.file) (λ p. refl)
job_is_known (Some (job.Check j)) files input = asked (check_at j (Some files)) (places_of j) (λ p. refl)
job_is_known (Some (job.Compare j)) files input = asked (compare_at j (Some files)) (places_of j.check) (λ p. refl)
job_is_known (Some (job.Reload j)) files input =
    mapped course_by _ (any_way (λ urls. reload_under j urls (Some files)) (urls_of j) refl (λ urls. refl))
job_is_known (Some (job.Make j)) files input = asked (make_at j) source_place (λ p. refl)
job_is_known (Some (job.HlsIndex j)) files input = asked (index_at j (Some files)) (store_place_of j.base j.mpd) (λ p. refl)
job_is_known (Some (job.DashTimes j)) files input = asked (dash_times_at j (Some files)) (store_place_of j.base j.master) (λ p. refl)
job_is_known (Some (job.Agree j)) files input = asked (agree_at (Some files)) (store_place_of j.base j.mpd) (λ p. refl)
job_is_known (Some (job.Follow j)) files input = course_under (follow_at j (Some input)) (store_place_of j.base j.name) (λ p. refl)
job_is_known (Some (job.FollowHls j)) files input =
    course_under (rounds_at j (Some files) (Some input)) (store_place_of j.base j.master)
    (λ p. any_rounds j input (master_at p files))
job_is_known (Some (job.FollowHlsTimes j)) files input =
    course_under (timed.timed_at j (Some files) (Some input)) (store_place_of j.base j.master)
    (λ p. any_timed j p files input (master_at p files))

pub course_is_known : (words : List (List ℕ)) (files : Files) (input : List ℕ) → IsSome (course_of words (Some files) (Some input))
unfolding course_of
course_is_known words files input = job_is_known (job_of words) files input
