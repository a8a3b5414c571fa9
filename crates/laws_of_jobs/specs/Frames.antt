-- The update frames of a followed MPD, each after the whole history.
use Rattle.std.specs.Prelude.{◌≡◌, ℕ, List, slice_get, Some}
use Rattle.bridge_jobs.specs.declared.frame.Frame.{Frame}
use Rattle.bridge_jobs.specs.declared.jobs.FollowJob.{FollowJob}
use Rattle.bridge_courses.specs.Courses.{Course}
use Rattle.bridge_report.specs.Following.{step_of}
use Rattle.bridge_playlists.specs.declared.place.StorePlace.{StorePlace}
use Rattle.laws_of_jobs.specs.Histories.{IsFollowing, channel_to, followed_at, frames_in}

-- The step of each frame depends on the state after the whole accepted history before it, and on what the first accepted MPD says
-- for players: by that the frame is rejected, written, reported and counted.
abbrev pub FramesAreOfTheHistory : Type 0
FramesAreOfTheHistory = (words : List (List ℕ)) (job : FollowJob) (place : StorePlace) (input : List ℕ) (course : Course) (n : ℕ)
    (x : Frame)
    → IsFollowing words job place input course → slice_get (frames_in input) n ≡ Some x
    → slice_get course.steps n ≡ Some (step_of (followed_at job place) (channel_to job place n input) n x)
