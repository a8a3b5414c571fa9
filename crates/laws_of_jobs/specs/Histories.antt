-- What a run follows, and the history of what it accepts.
use Rattle.bridge_jobs.specs.declared.jobs.Job.TheVariants as jobs
use Rattle.std.specs.Prelude.{◌≡◌, ℕ, List, [], ◌∷◌, flat_map, take, Option, Some, None, option_map, option_to_list, Result, Ok, Err}
use Rattle.std.specs.Result.{result_ok}
use Rattle.bridge_io.specs.Outside.{Files}
use Rattle.bridge_jobs.specs.{Frames.frames_of, Jobs.job_of, declared.frame.Frame.Frame}
use Rattle.bridge_jobs.specs.declared.jobs.FollowJob.{FollowJob}
use Rattle.bridge_courses.specs.Courses.{Course}
use Rattle.live_meaning.specs.{Updates.{Terms, Update}, States.{State, state_of}, Laws.{NeverDrifts, accepted_of}}
use Rattle.bridge_report.specs.Following.{Followed}
use Rattle.bridge_playlists.specs.{Places.store_place_of, declared.place.StorePlace.StorePlace}
use Rattle.bridge_live.specs.LiveMpds.{channel_with, followed_mpd, frame_players, frame_state, update_of}
use Rattle.bridge_live.specs.declared.channel.Channel.{Channel}
use Rattle.bridge_report.specs.declared.refusal.Refusal.{Refusal}
use Rattle.segment_forms.specs.declared.form.Form.{Form}
use Rattle.track_hints.specs.declared.hints.Hints.{Hints}
use Rattle.bridge_core.specs.{Courses.course_of, Follow.{output_of_job, terms_at}}

-- ---- what is followed

-- This command line asks to follow the MPD at this location, with this course for this input.
pub record IsFollowing (words : List (List ℕ)) (job : FollowJob) (place : StorePlace) (input : List ℕ) (course : Course) : Type 0 where
  pub asks : job_of words ≡ Some (jobs.Follow job)
  pub at : store_place_of job.base job.name ≡ Some place
  pub files : Option Files
  pub goes : course_of words files (Some input) ≡ Some course

abbrev pub followed_at : FollowJob → StorePlace → Followed (Option Channel) Frame
followed_at job place = followed_mpd job.form (terms_at job place) (output_of_job job)

-- ---- what is accepted

-- the frames of an input
abbrev pub frames_in : (input : List ℕ) → List Frame
frames_in input = (frames_of input).frames

-- the updates of frames; a frame whose bytes aren't an MPD is dropped
abbrev pub updates_of : List Frame → List Update
updates_of frames = flat_map (λ x. option_to_list (result_ok (update_of x))) frames

-- those of the first n frames of an input
abbrev pub updates_to : (n : ℕ) (input : List ℕ) → List Update
updates_to n input = updates_of (take n (frames_in input))

-- the accepted ones among them, each accepted after those before it
abbrev pub history_to : Terms → (n : ℕ) (input : List ℕ) → List Update
history_to terms n input = accepted_of terms (updates_to n input)

-- the state after these
abbrev pub state_to : Terms → (n : ℕ) (input : List ℕ) → Option State
state_to terms n input = state_of terms (history_to terms n input)

-- what the first accepted one of some frames says for players; a frame before it leaves no state
abbrev pub said_or : (own : Option Hints) → Result State Refusal → (later : Option Hints) → Option Hints
said_or own (Ok s) later = own
said_or own (Err r) later = later

abbrev pub first_said : Form → Terms → List Frame → Option Hints
first_said form terms [] = None
first_said form terms (x ∷ xs) = said_or (frame_players form x) (frame_state terms None x) (first_said form terms xs)

-- of the first n frames of an input
abbrev pub said_to : FollowJob → StorePlace → (n : ℕ) (input : List ℕ) → Option Hints
said_to job place n input = first_said job.form (terms_at job place) (take n (frames_in input))

-- the state after the accepted ones of these, with what the first one says
abbrev pub channel_to : FollowJob → StorePlace → (n : ℕ) (input : List ℕ) → Option Channel
channel_to job place n input = option_map (channel_with (said_to job place n input)) (state_to (terms_at job place) n input)

-- ---- durations

-- Printed durations never drift, although the first segments of a playlist were removed long ago: up to each segment ever
-- listed of a section they sum to the time from its first segment's start, rounded down.
abbrev pub FollowedNeverDrift : Type 0
FollowedNeverDrift = (terms : Terms) (n : ℕ) (input : List ℕ) → NeverDrifts terms (history_to terms n input)
