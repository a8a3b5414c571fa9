-- `follow-hls`: from snapshots of live playlists to an MPD (RFC 8216, 6.2; ISO/IEC 23009-1, 5.3).
use Rattle.bridge_courses.specs.declared.status.Verdict.TheVariants as verdict
use Rattle.bridge_report.specs.declared.refusal.Refusal.TheVariants as refusal
use Rattle.std.specs.Prelude.{◌≡◌, ℕ, ℤ, ◌+◌, ◌<◌, true, codes, List, [], ◌∷◌, ◌++◌, length, map, Option, Some, None, option_map}
use Rattle.std.specs.{Prelude.{IsSome, Result, Ok, Err}, Option.{option_and_then, option_map_or}}
use Rattle.std.specs.Result.{result_err, result_ok, result_unwrap_or}
use Rattle.bridge_io.specs.{Answer.{and_then, told_as}, Outside.Files}
use Rattle.iso_time.specs.Instant.{IsReadable}
use Rattle.hls_master.specs.declared.track.MasterTrack.{MasterTrack}
use Rattle.hls_media.specs.{Media.media_of, declared.media.Media.Media}
use Rattle.hls_follow.specs.Rounds.{appended_by, next_of}
use Rattle.segment_forms.specs.declared.form.Form.{Form}
use Rattle.dash_writer.specs.Live.{live_text}
use Rattle.bridge_jobs.specs.{Laws.in_folder, Rounds.rounds_from, declared.frame.FramePos.FramePos, declared.round.Round.Round}
use Rattle.bridge_jobs.specs.declared.jobs.MasterJob.{MasterJob}
use Rattle.bridge_courses.specs.Courses.{Course}
use Rattle.bridge_report.specs.{Following.Followed, Outcomes.{Ends, course_by}, Reading.Named, Refusals.{refusal_line, refusal_text}}
use Rattle.bridge_report.specs.declared.refusal.Refusal.{Refusal}
use Rattle.bridge_playlists.specs.{Places.store_place_of, Playlists.master_at, declared.place.StorePlace.StorePlace}
use Rattle.bridge_steps.specs.{Follow.{course_placed, follow_course}, Streams.Stream}
use Rattle.bridge_reach.specs.{declared.rounds.LiveHls.LiveHls, declared.rounds.LiveRounds.LiveRounds}

-- ---- the playlists of a snapshot

abbrev pub media_in : (url body : List ℕ) → Result Media Refusal
media_in url body = told_as refusal.Media (media_of body url)

-- one more playlist, with this URL
unfoldable pub medias_with : List Media → (url body : List ℕ) → Result (List Media) Refusal
medias_with medias url body = and_then (media_in url body) (λ media. Ok (medias ++ media ∷ []))

-- after some playlists those of bodies, each with its URL, or the first fault
abbrev pub medias_behind : List Media → (urls bodies : List (List ℕ)) → Result (List Media) Refusal
medias_behind medias [] bodies = Ok medias
medias_behind medias (url ∷ urls) [] = Ok medias
medias_behind medias (url ∷ urls) (body ∷ bodies) = and_then (medias_with medias url body) (λ more. medias_behind more urls bodies)

abbrev pub medias_of : (urls bodies : List (List ℕ)) → Result (List Media) Refusal
medias_of urls bodies = medias_behind [] urls bodies

-- ---- the state after a snapshot

-- one more snapshot is accepted, or its playlists can't follow those before
unfoldable pub taken : LiveRounds → (now : ℤ) → List Media → Result LiveRounds Refusal
taken s now medias =
    and_then (told_as refusal.Live (next_of s.follow now medias)) (λ follow. Ok (record { follow = follow; accepted = s.accepted + 1 }))

-- each playlist is read, also one of a dropped track, before any is checked
unfoldable pub round_state : LiveHls → LiveRounds → Round → Result LiveRounds Refusal
round_state hls s round = and_then (medias_of hls.urls round.bodies) (taken s round.now)

-- how many segments it appends
unfoldable pub round_appends : LiveHls → LiveRounds → Round → ℕ
round_appends hls s round = option_map_or (appended_by s.follow) (result_ok (medias_of hls.urls round.bodies)) 0

-- the text of the MPD after the accepted snapshots, in a form
abbrev pub mpd_text : Form → LiveRounds → List ℕ
mpd_text form s = option_map_or (λ followed. live_text form followed.mpd) s.follow.followed []

-- ---- what is followed

-- the one file is the MPD
abbrev pub files_of : LiveHls → LiveRounds → List (List ℕ × List ℕ)
files_of hls s = (hls.name, mpd_text hls.form s) ∷ []

-- no segment is made
abbrev pub followed_rounds : LiveHls → Followed LiveRounds Round
followed_rounds hls = record {
  refusal = λ s round. option_map refusal_text (result_err (round_state hls s round));
  after = λ s round. result_unwrap_or (round_state hls s round) s;
  files = files_of hls;
  appended = round_appends hls;
  makes = λ s round. 0;
}

-- the snapshots of a stream of bytes, with a body for each track
abbrev pub round_stream : LiveHls → FramePos → List ℕ → Stream Round
round_stream hls at bytes = rounds_from (length hls.urls) at bytes

-- a snapshot that was read has a body for each track
pub record IsRead (hls : LiveHls) (round : Round) : Type 0 where
  pub now : IsReadable round.now
  pub one_each : length round.bodies ≡ length hls.urls

-- each track has its URL, and where a snapshot was accepted, there is an MPD
pub record IsKept (hls : LiveHls) (s : LiveRounds) : Type 0 where
  pub one_each : length s.follow.tracks ≡ length hls.urls
  pub mpd : 0 < s.accepted → IsSome s.follow.followed

-- ---- the command

abbrev pub urls_of : List MasterTrack → List (List ℕ)
urls_of tracks = map (λ (track : MasterTrack). track.address) tracks

-- the playlists of a master playlist's tracks, with the MPD in the command's folder
abbrev pub hls_of : MasterJob → List MasterTrack → LiveHls
hls_of job tracks = record { urls = urls_of tracks; form = job.form; name = in_folder job.out (codes "live.mpd") }

abbrev pub no_rounds : List MasterTrack → LiveRounds
no_rounds tracks = record { follow = record { tracks = tracks; followed = None }; accepted = 0 }

-- the snapshots of these bytes are followed
abbrev pub course_with : MasterJob → List MasterTrack → (bytes : List ℕ) → Course
course_with job tracks bytes = let hls = hls_of job tracks in
    follow_course (followed_rounds hls) (round_stream hls) (no_rounds tracks) bytes

-- a rejected master playlist is reported whatever the input contains
abbrev pub rounds_of : MasterJob → (input : Option (List ℕ)) → Result (List MasterTrack) Named → Option Course
rounds_of job input (Ok tracks) = option_map (course_with job tracks) input
rounds_of job input (Err named) = Some (course_by (Ends verdict.Refused (refusal_line named.0 named.1) true true))

-- the master playlist is at this location, and its snapshots come from the input
abbrev pub rounds_at : MasterJob → Option Files → (input : Option (List ℕ)) → StorePlace → Option Course
rounds_at job files input place = option_and_then (λ files. rounds_of job input (master_at place files)) files

unfoldable pub rounds_course : MasterJob → Option Files → (input : Option (List ℕ)) → Option Course
rounds_course job files input = course_placed (rounds_at job files input) (store_place_of job.base job.master)
