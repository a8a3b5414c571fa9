-- The course of a run that follows an MPD.
use Rattle.std.proofs.{Common.{◌≡◌, ℕ, List, Option, None, Some, option_map, Ok, sym, ap, ◌∙◌, subst}, lemmas.Option.same_Some}
use Rattle.bridge_jobs.specs.declared.jobs.FollowJob.{FollowJob}
use Rattle.bridge_courses.specs.Courses.{Course}
use Rattle.url_parts.specs.Addresses.{absolute}
use Rattle.bridge_playlists.specs.{declared.place.StorePlace.StorePlace, Places.store_place_of}
use Rattle.bridge_jobs.specs.Frames.{frames_of}
use Rattle.bridge_steps.specs.Follow.{course_placed, fault_line, follow_course}
use Rattle.bridge_live.specs.LiveMpds.{frame_stream}
use Rattle.bridge_core.specs.{Courses.{course_of, course_of_job}, Follow.{follow_at, followed_course}}
use Rattle.bridge_core.proofs.Lies.{lies_of}
use Rattle.laws_of_jobs.specs.Histories.{IsFollowing, followed_at}

-- what is told where the stream of an input isn't whole
abbrev pub line_at_end : (input : List ℕ) → Option (List ℕ)
line_at_end input = option_map fault_line (frames_of input).fault

pub record IsCourse (job : FollowJob) (place : StorePlace) (input : List ℕ) (course : Course) : Type 0 where
  pub own : absolute place.url ≡ Ok place.url
  pub is : course ≡ follow_course (followed_at job place) frame_stream None input

pub course_is : (words : List (List ℕ)) (job : FollowJob) (place : StorePlace) (input : List ℕ) (course : Course)
    → IsFollowing words job place input course → IsCourse job place input course
unfolding course_of followed_course
course_is words job place input course is =
    let goes : course_placed (follow_at job (Some input)) (store_place_of job.base job.name) ≡ Some course =
    subst (λ asked. course_of_job asked is.files (Some input) ≡ Some course) is.asks is.goes in
    let there : Some (follow_course (followed_at job place) frame_stream None input) ≡ Some course =
    ap (course_placed (follow_at job (Some input))) (sym is.at) ∙ goes in
    record { own = (lies_of job.base job.name place is.at).own; is = sym (same_Some _ _ there) }
