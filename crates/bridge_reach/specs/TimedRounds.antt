-- `follow-hls-times`: from snapshots of live playlists and the decode times of their media files to an MPD (RFC 8216, 6.2; ISO/IEC
-- 23009-1, 5.3; ISO/IEC 14496-12, 8.4.2 and 8.8.12).
use Rattle.bridge_courses.specs.declared.status.Verdict.TheVariants as verdict
use Rattle.bridge_report.specs.declared.refusal.Refusal.TheVariants as refusal
use Rattle.bridge_report.specs.declared.times_refusal.TimesRefusal.TheVariants as times
use Rattle.fragment_times.specs.declared.fault.TimesFault.TheVariants as fault
use Rattle.hls_follow.specs.declared.timed_fault.TimedFault.TheVariants as timed
use Rattle.std.specs.Prelude.{ℕ, ℤ, ◌+◌, true, List, [], Option, Some, None, option_map, Result, Ok, Err}
use Rattle.std.specs.{Option.{option_and_then, option_map_or}, Result.{result_err, result_unwrap_or}}
use Rattle.bridge_io.specs.{Answer.{and_then, told_as}, Outside.Files}
use Rattle.hls_master.specs.declared.track.MasterTrack.{MasterTrack}
use Rattle.hls_media.specs.declared.media.Media.{Media}
use Rattle.fragment_times.specs.declared.fault.TimesFault.{TimesFault}
use Rattle.layer_faults.specs.declared.times.FileFault.{FileFault}
use Rattle.hls_follow.specs.{declared.timed_fault.TimedFault.TimedFault, TimedRounds.next_timed}
use Rattle.bridge_jobs.specs.{declared.jobs.MasterJob.MasterJob, declared.round.Round.Round}
use Rattle.bridge_courses.specs.Courses.{Course}
use Rattle.bridge_report.specs.{Following.Followed, Outcomes.{Ends, course_by}, Reading.Named}
use Rattle.bridge_report.specs.Refusals.{file_refusal_text, refusal_line, refusal_text}
use Rattle.bridge_report.specs.declared.times_refusal.TimesRefusal.{TimesRefusal}
use Rattle.bridge_playlists.specs.{Places.store_place_of, Playlists.master_at, declared.place.StorePlace.StorePlace}
use Rattle.bridge_steps.specs.Follow.{course_placed, judged_course}
use Rattle.bridge_reach.specs.{declared.rounds.LiveRounds.LiveRounds, declared.timed_rounds.TimedHls.TimedHls}
use Rattle.bridge_reach.specs.Rounds.{files_of, hls_of, medias_of, no_rounds, round_appends, round_stream}

-- ---- why a snapshot is rejected, as in the report

-- a media file names itself
abbrev pub media_text : (file : List ℕ) → FileFault → List ℕ
media_text file fault = file_refusal_text file (refusal.Times (times.File fault))

abbrev pub master_text : TimedHls → TimesRefusal → List ℕ
master_text timed told = file_refusal_text timed.master (refusal.Times told)

-- an I/O error
abbrev pub read_failed : TimesFault
read_failed = fault.Fault

-- the URL of a file that isn't under the base is the master's fault; an I/O error and out of memory have no text
abbrev pub times_text : TimedHls → TimesFault → Option (List ℕ)
times_text timed fault.OutsideBase = Some (master_text timed times.OutsideBase)
times_text timed fault.Range = Some (master_text timed times.Range)
times_text timed (fault.File file told) = Some (media_text file told)
times_text timed (fault.Segment spot told) = Some (media_text timed.master told)
times_text timed fault.Fault = None
times_text timed fault.Memory = None

abbrev pub fault_text : TimedHls → TimedFault → List ℕ
fault_text hls (timed.Live told) = refusal_text (refusal.Live told)
fault_text hls (timed.Times told) = option_map_or (λ text. text) (times_text hls told) []

-- ---- the state after a snapshot

-- one more snapshot is accepted, or its playlists and files can't follow those before
unfoldable pub taken : TimedHls → Files → LiveRounds → (now : ℤ) → List Media → Result LiveRounds (List ℕ)
taken hls files s now medias =
    and_then (told_as (fault_text hls) (next_timed s.follow now medias hls.folder files))
    (λ follow. Ok (record { follow = follow; accepted = s.accepted + 1 }))

-- each playlist is read, also one of a dropped track, before any is checked
unfoldable pub timed_state : TimedHls → Files → LiveRounds → Round → Result LiveRounds (List ℕ)
timed_state hls files s round =
    and_then (told_as refusal_text (medias_of hls.hls.urls round.bodies)) (taken hls files s round.now)

-- ---- what is followed

-- the one file is the MPD, and no segment is made
abbrev pub followed_timed : TimedHls → Files → Followed LiveRounds Round
followed_timed hls files = record {
  refusal = λ s round. result_err (timed_state hls files s round);
  after = λ s round. result_unwrap_or (timed_state hls files s round) s;
  files = files_of hls.hls;
  appended = round_appends hls.hls;
  makes = λ s round. 0;
}

-- ---- the command

abbrev pub timed_hls_of : MasterJob → StorePlace → List MasterTrack → TimedHls
timed_hls_of job place tracks = record { hls = hls_of job tracks; master = place.file; folder = place.folder }

-- The snapshots of these bytes are followed. Each is judged by the files as they are then: those that the run itself wrote before
-- belong to them.
abbrev pub course_with : MasterJob → StorePlace → List MasterTrack → Files → (bytes : List ℕ) → Course
course_with job place tracks files bytes = let hls = timed_hls_of job place tracks in
    judged_course (followed_timed hls) (round_stream hls.hls) (no_rounds tracks) files bytes

-- for a master playlist at a location, where the files and the input are modelled
abbrev pub course_by_files : MasterJob → StorePlace → List MasterTrack → Option Files → (input : Option (List ℕ)) → Option Course
course_by_files job place tracks files input =
    option_and_then (λ files. option_map (course_with job place tracks files) input) files

-- a rejected master playlist is reported whatever the input contains
abbrev pub course_of : MasterJob → StorePlace → Files → (input : Option (List ℕ)) → Result (List MasterTrack) Named → Option Course
course_of job place files input (Ok tracks) = course_by_files job place tracks (Some files) input
course_of job place files input (Err named) = Some (course_by (Ends verdict.Refused (refusal_line named.0 named.1) true true))

abbrev pub timed_at : MasterJob → Option Files → (input : Option (List ℕ)) → StorePlace → Option Course
timed_at job files input place = option_and_then (λ files. course_of job place files input (master_at place files)) files

unfoldable pub timed_course : MasterJob → Option Files → (input : Option (List ℕ)) → Option Course
timed_course job files input = course_placed (timed_at job files input) (store_place_of job.base job.master)
