-- The run of a followed MPD.
use Rattle.std.specs.Prelude.{ℕ, List, Option, None, option_map}
use Rattle.bridge_jobs.specs.declared.jobs.FollowJob.{FollowJob}
use Rattle.bridge_courses.specs.Courses.{Course}
use Rattle.bridge_playlists.specs.{declared.place.StorePlace.StorePlace, Places.store_place_of}
use Rattle.live_meaning.specs.Updates.{Terms}
use Rattle.bridge_steps.specs.{Follow.{course_placed, follow_course}, Playlists.{OutputPlace, output_of}}
use Rattle.bridge_live.specs.LiveMpds.{followed_mpd, frame_stream}

abbrev pub terms_at : FollowJob → StorePlace → Terms
terms_at job place = record { url = place.url; digits = job.digits }

-- where the playlists are written
abbrev pub output_of_job : FollowJob → OutputPlace
output_of_job job = output_of job.addresses job.base job.out

-- the MPD has this location, and its update frames come from the input
abbrev pub follow_at : FollowJob → (input : Option (List ℕ)) → StorePlace → Option Course
follow_at job input place =
    option_map (follow_course (followed_mpd job.form (terms_at job place) (output_of_job job)) frame_stream None) input

unfoldable pub followed_course : FollowJob → (input : Option (List ℕ)) → Option Course
followed_course job input = course_placed (follow_at job input) (store_place_of job.base job.name)
