-- Forms and addresses change the texts of files alone.
use Rattle.std.proofs.Common.{◌≡◌, ℕ, ℤ, ◌+◌, ◌==◌, ◌^◌, Bool, true, false, List, [], ◌∷◌, ◌++◌, map, length, if◌then◌else◌, Option, None}
use Rattle.std.proofs.Common.{Some}
use Rattle.std.proofs.{Common.{option_map, Result, Ok, Err, refl, sym, ap, ap₂, ◌∙◌}, lemmas.List.map-append}
use Rattle.std.specs.{List.range_with_len, Option.option_map_or, Result.{result_ok, result_err}}
use Rattle.bridge_io.specs.{Answer.{and_then, told_as}, Outside.Files}
use Rattle.bridge_jobs.specs.declared.jobs.{Addresses.Addresses, FollowJob.FollowJob, HlsJob.HlsJob, IndexJob.IndexJob}
use Rattle.bridge_jobs.specs.{Frames.start, declared.frame.Frame.Frame}
use Rattle.bridge_courses.specs.{Courses.{Course, Step}, Steps.{taking, with_step}}
use Rattle.live_meaning.specs.{Refusals.{Refusal as LiveRefusal, begun_of}, States.State, Updates.{Terms, Values}}
use Rattle.presentation.specs.{Counting.tracks_of, Presented.Presented}
use Rattle.bridge_report.specs.Following.{Followed, accepted_with, course_from, line_by, next_of, step_of, unless_refused}
use Rattle.bridge_report.specs.{Outcomes.{Outcome, course_by}, Reading.{Named, content_of}}
use Rattle.bridge_report.specs.{Reading.of_file, Refusals.refusal_text, declared.refusal.Refusal.Refusal}
use Rattle.bridge_playlists.specs.{Places.store_place_of, declared.place.StorePlace.StorePlace}
use Rattle.bridge_steps.specs.{Endings.{outcome_written, placed}, Follow.{course_placed, fault_line}, Manifests.{ready_of, values_of}}
use Rattle.bridge_steps.specs.{Players.players_in, Playlists.{OutputPlace, base_if, master_file, playlists, track_file}}
use Rattle.bridge_live.specs.LiveMpds.{channel_files, channel_with, followed_mpd, frame_stream, frame_state, live_files, session_of}
use Rattle.bridge_live.specs.LiveMpds.{told_of}
use Rattle.bridge_live.specs.LiveMpds.{frame_appends, frame_refusal, judged_channel, players_after, track_file as live_track_file}
use Rattle.bridge_live.specs.declared.channel.Channel.{Channel}
use Rattle.bridge_reach.specs.Index.{files_of as indexed_files, line_of as indexed_line, ready_in, told_at, told_in, with_players}
use Rattle.bridge_reach.specs.Index.{index_at, index_outcome}
use Rattle.mpd_hints.specs.declared.starts.Sap.TheVariants.{Segments, Subsegments}
use Rattle.segment_forms.specs.declared.form.Form.{Form}
use Rattle.track_hints.specs.declared.hints.Hints.{Hints}
use Rattle.bridge_core.specs.Alike.{FormsEndAlike, course_told, name_of, step_told}
use Rattle.bridge_core.specs.{Follow.{follow_at, followed_course}, Hls.{Live, Static, Translation, files_of, hls_at, hls_outcome, line_of}}
use Rattle.bridge_core.specs.Hls.{live_translation, static_translation, translation_at, translation_by, translation_of}

-- ---- the names of files

names_alike : (f g : ℕ → List ℕ × List ℕ) → ((t : ℕ) → name_of (f t) ≡ name_of (g t)) → (ts : List ℕ)
    → map name_of (map f ts) ≡ map name_of (map g ts)
names_alike f g same [] = refl
names_alike f g same (t ∷ ts) = ap₂ (λ x xs. x ∷ xs) (same t) (names_alike f g same ts)

module _ (folder : List ℕ) (base other : Option (List ℕ)) (players others : Option Hints) where
  abbrev here : OutputPlace
  here = record { folder = folder; base = base }

  abbrev there : OutputPlace
  there = record { folder = folder; base = other }

  static_names : (digits : ℕ) (p : Presented)
      → map name_of (playlists here players digits p) ≡ map name_of (playlists there others digits p)
  static_names digits p =
      map-append name_of (map (track_file here players digits p) (tracks_of p)) (master_file folder players p ∷ [])
      ∙ ap (λ fs. fs ++ name_of (master_file folder players p) ∷ [])
      (names_alike (track_file here players digits p) (track_file there others digits p) (λ t. refl) (tracks_of p))
      ∙ sym (map-append name_of (map (track_file there others digits p) (tracks_of p)) (master_file folder others p ∷ []))

  live_names : (s : State) → map name_of (live_files here players s) ≡ map name_of (live_files there others s)
  live_names s =
      let ts = range_with_len 0 (length s.tracks) in
      map-append name_of (map (live_track_file here s) ts) _
      ∙ ap₂ (λ fs gs. fs ++ gs) (names_alike (live_track_file here s) (live_track_file there s) (λ t. refl) ts)
      (by_first (s.common.accepted == 1))
      ∙ sym (map-append name_of (map (live_track_file there s) ts) _)
    where
      by_first : (first : Bool) → map name_of (if first then (master_file folder players s.common.opened) ∷ [] else [])
          ≡ map name_of (if first then (master_file folder others s.common.opened) ∷ [] else [])
      by_first true = refl
      by_first false = refl

-- ---- commands that read everything first

-- the names of the files, and the line
abbrev Said : Type 0
Said = List (List ℕ × List ℕ) × List ℕ

abbrev said_of : {Y : Type 0} → (files : Y → List (List ℕ × List ℕ)) (line : Y → List ℕ) → Result Y Named → Result Said Named
said_of files line read = and_then read (λ y. Ok (map name_of (files y), line y))

abbrev course_said : Result Said Named → Course
course_said said = course_by (outcome_written (λ (s : Said). s.0) (λ s. s.1) said)

told_said : {Y : Type 0} (files : Y → List (List ℕ × List ℕ)) (line : Y → List ℕ) (read : Result Y Named)
    → course_told (course_by (outcome_written files line read)) ≡ course_said (said_of files line read)
told_said files line (Ok y) = refl
told_said files line (Err named) = refl

at_place : {P : Type 0} (one other : P → Option Outcome) → ((place : P) → option_map (λ o. course_told (course_by o)) (one place)
    ≡ option_map (λ o. course_told (course_by o)) (other place)) → (place : Option P)
    → option_map course_told (option_map course_by (placed one place)) ≡ option_map course_told (option_map course_by (placed other place))
at_place one other same None = refl
at_place one other same (Some place) = twice (one place) ∙ same place ∙ sym (twice (other place))
  where
    twice : (o : Option Outcome) → option_map course_told (option_map course_by o) ≡ option_map (λ o. course_told (course_by o)) o
    twice None = refl
    twice (Some o) = refl

with_files : {Y : Type 0} (fs gs : Y → List (List ℕ × List ℕ)) (line : Y → List ℕ) (one other : Files → Result Y Named)
    → ((files : Files) → said_of fs line (one files) ≡ said_of gs line (other files)) → (files : Option Files)
    → option_map (λ o. course_told (course_by o)) (option_map (λ files. outcome_written fs line (one files)) files)
    ≡ option_map (λ o. course_told (course_by o)) (option_map (λ files. outcome_written gs line (other files)) files)
with_files fs gs line one other same None = refl
with_files fs gs line one other same (Some files) =
    ap Some (told_said fs line (one files) ∙ ap course_said (same files) ∙ sym (told_said gs line (other files)))

-- ---- `hls`

module _ (j : HlsJob) (form : Form) (addresses : Addresses) where
  abbrev other_hls : HlsJob
  other_hls = record j { form = form; addresses = addresses }

  abbrev hls_here : OutputPlace
  hls_here = record { folder = j.out; base = base_if j.addresses j.base }

  abbrev hls_there : OutputPlace
  hls_there = record { folder = j.out; base = base_if addresses j.base }

  abbrev one_said : Result Translation Named → Result Said Named
  one_said = said_of (files_of hls_here) line_of

  abbrev other_said : Result Translation Named → Result Said Named
  other_said = said_of (files_of hls_there) line_of

  module _ (file url : List ℕ) (players others : Option Hints) where
    static_said : (digits : ℕ) (presented : Result Presented Refusal)
        → one_said (of_file file (and_then presented (λ p. Ok (Static digits players p))))
        ≡ other_said (of_file file (and_then presented (λ p. Ok (Static digits others p))))
    static_said digits (Ok p) = ap (λ names. Ok (names, line_of (Static digits players p)))
        (static_names j.out hls_here.base hls_there.base players others digits p)
    static_said digits (Err refusal) = refl

    live_said : (begun : Result State LiveRefusal)
        → one_said (of_file file (and_then (told_as told_of begun) (λ s. Ok (Live (channel_with players s)))))
        ≡ other_said (of_file file (and_then (told_as told_of begun) (λ s. Ok (Live (channel_with others s)))))
    live_said (Ok s) = ap (λ names. Ok (names, line_of (Live (channel_with players s))))
        (live_names j.out hls_here.base hls_there.base players others s)
    live_said (Err refusal) = refl

    at_instant : (now : Option ℤ) (mpd : Values) → one_said (of_file file (live_translation j url players now mpd))
        ≡ other_said (of_file file (live_translation other_hls url others now mpd))
    unfolding live_translation
    at_instant None mpd = refl
    at_instant (Some now) mpd = live_said (begun_of (record { url = url; digits = j.digits }) mpd now)

    by_kind : (live : Bool) (mpd : Values)
        → one_said (of_file file (if live then live_translation j url players j.instant mpd else static_translation j url players mpd))
        ≡ other_said (of_file file (if live then live_translation other_hls url others j.instant mpd
        else static_translation other_hls url others mpd))
    unfolding static_translation
    by_kind true mpd = at_instant j.instant mpd
    by_kind false mpd = static_said j.digits (ready_of (10 ^ j.digits) url j.instant mpd)

    by_values : (values : Result Values Refusal) → one_said (of_file file (and_then values (translation_by j url players)))
        ≡ other_said (of_file file (and_then values (translation_by other_hls url others)))
    by_values (Ok mpd) = by_kind mpd.facts.live mpd
    by_values (Err refusal) = refl

  by_bytes : (place : StorePlace) (bytes : Result (List ℕ) Named)
      → one_said (and_then bytes (λ bytes. of_file place.file (translation_of j place.url bytes)))
      ≡ other_said (and_then bytes (λ bytes. of_file place.file (translation_of other_hls place.url bytes)))
  unfolding translation_of
  by_bytes place (Ok bytes) =
      by_values place.file place.url (players_in j.form Segments bytes) (players_in form Segments bytes) (values_of bytes)
  by_bytes place (Err named) = refl

  hls_placed : (files : Option Files) (place : StorePlace) → option_map (λ o. course_told (course_by o)) (hls_at j files place)
      ≡ option_map (λ o. course_told (course_by o)) (hls_at other_hls files place)
  unfolding translation_at
  hls_placed files place = with_files (files_of hls_here) (files_of hls_there) line_of (translation_at j place)
      (translation_at other_hls place) (λ files. by_bytes place (content_of place.file files)) files

  hls_alike : (files : Option Files) → option_map course_told (option_map course_by (hls_outcome j files))
      ≡ option_map course_told (option_map course_by (hls_outcome other_hls files))
  unfolding hls_outcome
  hls_alike files = at_place (hls_at j files) (hls_at other_hls files) (hls_placed files) (store_place_of j.base j.mpd)

-- ---- `hls-index`

module _ (j : IndexJob) (form : Form) (addresses : Addresses) where
  abbrev other_index : IndexJob
  other_index = record j { form = form; addresses = addresses }

  abbrev index_here : OutputPlace
  index_here = record { folder = j.out; base = base_if j.addresses j.base }

  abbrev index_there : OutputPlace
  index_there = record { folder = j.out; base = base_if addresses j.base }

  abbrev one_indexed : Result (Presented × Option Hints) Named → Result Said Named
  one_indexed = said_of (indexed_files index_here j.digits) indexed_line

  abbrev other_indexed : Result (Presented × Option Hints) Named → Result Said Named
  other_indexed = said_of (indexed_files index_there j.digits) indexed_line

  by_presented : (players others : Option Hints) (presented : Result Presented Named)
      → one_indexed (and_then presented (with_players players)) ≡ other_indexed (and_then presented (with_players others))
  by_presented players others (Ok p) = ap (λ names. Ok (names, indexed_line (p, players)))
      (static_names j.out index_here.base index_there.base players others j.digits p)
  by_presented players others (Err named) = refl

  index_bytes : (place : StorePlace) (files : Files) (bytes : Result (List ℕ) Named)
      → one_indexed (and_then bytes (told_in j.form (10 ^ j.digits) place files))
      ≡ other_indexed (and_then bytes (told_in form (10 ^ j.digits) place files))
  unfolding told_in
  index_bytes place files (Ok bytes) = by_presented (players_in j.form Subsegments bytes) (players_in form Subsegments bytes)
      (ready_in (10 ^ j.digits) place files bytes)
  index_bytes place files (Err named) = refl

  index_placed : (files : Option Files) (place : StorePlace) → option_map (λ o. course_told (course_by o)) (index_at j files place)
      ≡ option_map (λ o. course_told (course_by o)) (index_at other_index files place)
  unfolding told_at
  index_placed files place = with_files (indexed_files index_here j.digits) (indexed_files index_there j.digits) indexed_line
      (told_at j.form (10 ^ j.digits) place) (told_at form (10 ^ j.digits) place)
      (λ files. index_bytes place files (content_of place.file files)) files

  index_alike : (files : Option Files) → option_map course_told (option_map course_by (index_outcome j files))
      ≡ option_map course_told (option_map course_by (index_outcome other_index files))
  unfolding index_outcome
  index_alike files = at_place (index_at j files) (index_at other_index files) (index_placed files) (store_place_of j.base j.mpd)

-- ---- `follow`

module _ (form form' : Form) (terms : Terms) (folder : List ℕ) (base base' : Option (List ℕ)) where
  abbrev one_followed : Followed (Option Channel) Frame
  one_followed = followed_mpd form terms (record { folder = folder; base = base })

  abbrev other_followed : Followed (Option Channel) Frame
  other_followed = followed_mpd form' terms (record { folder = folder; base = base' })

  judged_names : (players others : Option Hints) (judged : Result State Refusal)
      → map name_of (unless_refused (option_map refusal_text (result_err judged)) (option_map_or
      (channel_files (record { folder = folder; base = base })) (judged_channel players judged) []) [])
      ≡ map name_of (unless_refused (option_map refusal_text (result_err judged)) (option_map_or
      (channel_files (record { folder = folder; base = base' })) (judged_channel others judged) []) [])
  judged_names players others (Ok s) = live_names folder base base' players others s
  judged_names players others (Err refusal) = refl

  -- the session behind a frame
  abbrev left : Option State → Frame → Option State
  left s x = unless_refused (frame_refusal terms s x) (result_ok (frame_state terms s x)) s

  judged_session : (players : Option Hints) (c : Option Channel) (judged : Result State Refusal)
      → session_of (unless_refused (option_map refusal_text (result_err judged)) (judged_channel players judged) c)
      ≡ unless_refused (option_map refusal_text (result_err judged)) (result_ok judged) (session_of c)
  judged_session players c (Ok s) = refl
  judged_session players c (Err refusal) = refl

  -- the step of a frame, by the session before it
  abbrev step_by : (names : List (List ℕ × List ℕ)) → Option State → (i : ℕ) → Frame → Step
  step_by names s i x = record {
    files = names;
    lines = line_by i (frame_appends terms s x) (frame_refusal terms s x);
    least = unless_refused (frame_refusal terms s x) (frame_appends terms s x) 0;
    most = frame_appends terms s x;
    reads = true;
  }

  step_alike : (c d : Option Channel) (i : ℕ) (x : Frame) → session_of c ≡ session_of d
      → step_told (step_of one_followed c i x) ≡ step_told (step_of other_followed d i x)
  step_alike c d i x same =
      ap (λ names. step_by names (session_of c) i x)
      (judged_names (players_after form c x) (players_after form' d x) (frame_state terms (session_of c) x))
      ∙ ap (λ s. step_by (map name_of (unless_refused (frame_refusal terms s x) (option_map_or
      (channel_files (record { folder = folder; base = base' })) (judged_channel (players_after form' d x) (frame_state terms s x)) [])
      [])) s i x) same

  next_alike : (c d : Option Channel) (x : Frame) → session_of c ≡ session_of d
      → session_of (next_of one_followed c x) ≡ session_of (next_of other_followed d x)
  next_alike c d x same =
      judged_session (players_after form c x) c (frame_state terms (session_of c) x)
      ∙ ap (λ s. left s x) same
      ∙ sym (judged_session (players_after form' d x) d (frame_state terms (session_of d) x))

  frames_alike : (xs : List Frame) (c d : Option Channel) (i a : ℕ) (fault : Option (List ℕ)) → session_of c ≡ session_of d
      → course_told (course_from one_followed c i a xs fault) ≡ course_told (course_from other_followed d i a xs fault)
  unfolding course_from
  frames_alike [] c d i a fault same = refl
  frames_alike (x ∷ xs) c d i a fault same =
      let later = frames_alike xs (next_of one_followed c x) (next_of other_followed d x) (i + 1) (accepted_with one_followed c x a) fault
      (next_alike c d x same) in
      let accepted = ap (λ s. unless_refused (frame_refusal terms s x) (a + 1) a) same in
      ap₂ with_step (step_alike c d i x same)
      (later ∙ ap (λ n. course_told (course_from other_followed (next_of other_followed d x) (i + 1) n xs fault)) accepted)

module _ (j : FollowJob) (form : Form) (addresses : Addresses) where
  abbrev other_follow : FollowJob
  other_follow = record j { form = form; addresses = addresses }

  follow_placed : (input : Option (List ℕ)) (place : StorePlace)
      → option_map course_told (follow_at j input place) ≡ option_map course_told (follow_at other_follow input place)
  follow_placed None place = refl
  follow_placed (Some input) place =
      let stream = frame_stream start input in
      ap (λ course. Some (taking stream.2 course)) (frames_alike j.form form (record { url = place.url; digits = j.digits }) j.out
      (base_if j.addresses j.base) (base_if addresses j.base) stream.0 None None 0 0 (option_map fault_line stream.1) refl)

  by_place : (input : Option (List ℕ)) (place : Option StorePlace)
      → option_map course_told (course_placed (follow_at j input) place)
      ≡ option_map course_told (course_placed (follow_at other_follow input) place)
  by_place input None = refl
  by_place input (Some place) = follow_placed input place

  follow_alike : (input : Option (List ℕ)) → option_map course_told (followed_course j input)
      ≡ option_map course_told (followed_course other_follow input)
  unfolding followed_course
  follow_alike input = by_place input (store_place_of j.base j.name)

pub forms_end_alike : FormsEndAlike
forms_end_alike = record {
  hls = λ j form addresses files input. hls_alike j form addresses files;
  index = λ j form addresses files input. index_alike j form addresses files;
  follow = λ j form addresses files input. follow_alike j form addresses input;
}
