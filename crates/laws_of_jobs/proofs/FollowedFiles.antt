-- The files of a followed presentation, frame by frame.
use Rattle.std.proofs.Common.{◌≡◌, ◌<◌, ℕ, zero, suc, ◌+◌, ◌==◌, List, [], ◌∷◌, ◌++◌, length, take, Option, None, Some, option_map, IfSome}
use Rattle.std.proofs.Common.{Result, Ok, Err, inl, inr, refl, sym, ap, ◌∙◌, subst, arith, append_assoc}
use Rattle.std.proofs.{lemmas.Bool.{cases_Bool, eqb-true}, lemmas.List.append-nil, lemmas.List.Sums.fold-append}
use Rattle.std.proofs.lemmas.Option.{slice_get_within}
use Rattle.std.specs.{Prelude.{option_to_list, slice_get}, List.fold, Option.option_map_or, Result.{result_ok, result_err}}
use Rattle.bridge_io.specs.{InOrder.put_all, Outside.Files}
use Rattle.bridge_jobs.specs.{Laws.{in_folder, playlist_of as name_of}, declared.frame.Frame.Frame}
use Rattle.bridge_courses.specs.Courses.{Course, files_to}
use Rattle.bridge_courses.proofs.Stepping.{put_all-both}
use Rattle.hls_writer.specs.Master.{master_text}
use Rattle.live_meaning.specs.{Updates.{Terms, Update}, States.{State, Track}, Playlists.{FollowedPlaylist, live_text, playlist_with}}
use Rattle.live_meaning.specs.Laws.{HistoriesBegin, HistoriesGoOn, HistoriesRefuse}
use Rattle.laws_of_reloads.specs.First.{HoldState}
use Rattle.mpd_presentation.specs.PresentedLaws.{PresentedAreFew}
use Rattle.laws_of_playlists.specs.SameFiles.{master_name}
use Rattle.bridge_report.specs.{Following.{Followed, accepted_with, course_from, next_of, unless_refused}, Refusals.refusal_text}
use Rattle.bridge_report.specs.declared.refusal.Refusal.{Refusal}
use Rattle.bridge_steps.specs.Playlists.{OutputPlace, spelling_in}
use Rattle.bridge_live.specs.LiveMpds.{channel_files, followed_mpd, frame_players, frame_state, judged_channel, live_files}
use Rattle.bridge_live.specs.LiveMpds.{players_after, session_of, track_files, track_text, update_of}
use Rattle.bridge_live.specs.declared.channel.Channel.{Channel}
use Rattle.segment_forms.specs.declared.form.Form.{Form}
use Rattle.track_hints.specs.declared.hints.Hints.{Hints}
use Rattle.bridge_core.proofs.FileNames.{file_apart, file_there, first_written, no_master}
use Rattle.laws_of_jobs.specs.Histories.{updates_of}
use Rattle.laws_of_jobs.proofs.Channels.{channel_by, frame_behind, said_behind, said_next}
use Rattle.laws_of_jobs.proofs.FrameStates.{HasFewTracks, IsLeft, accepting, first_opens, history_with, next_is}
use Rattle.laws_of_jobs.proofs.FrameStates.{state_goes_on}

-- ---- the files of one state

some_track : (tracks : List Track) (t : ℕ) (o : Option Track) (f : Track → FollowedPlaylist) (playlist : FollowedPlaylist)
    → slice_get tracks t ≡ o → option_map f o ≡ Some playlist → t < length tracks
some_track tracks t None f playlist found is = absurd (cc)
some_track tracks t (Some track) f playlist found is = slice_get_within tracks t track found

module _ (output : OutputPlace) (players : Option Hints) where
  abbrev out : List ℕ
  out = output.folder

  abbrev prefix : List ℕ
  prefix = out ++ 47 ∷ []

  module _ (s : State) (few : HasFewTracks s) where
    -- behind a later frame than the first accepted one
    later_held : (files : Files) → files (prefix ++ master_name) ≡ Some (master_text players s.common.opened)
        → HoldState (put_all (track_files output s ++ []) files) prefix (spelling_in output) players s
    later_held files master = rw (append-nil (track_files output s)) (record {
      master =
          ap (put_all (track_files output s) files) (append_assoc out (47 ∷ []) master_name)
          ∙ file_apart out (track_text output s) 0 (length s.tracks) files (in_folder out master_name)
          (λ t within from same. no_master out t (sym same))
          ∙ ap files (sym (append_assoc out (47 ∷ []) master_name)) ∙ master;
      playlists = λ t playlist is.
          ap (put_all (track_files output s) files) (append_assoc out (47 ∷ []) (name_of t))
          ∙ file_there out (track_text output s) 0 (length s.tracks) files t (omega (arith, few)) (omega arith)
          (omega (arith, some_track s.tracks t (slice_get s.tracks t) (playlist_with s.common) playlist refl is))
          ∙ ap (λ o. Some (option_map_or (live_text (spelling_in output t)) o [])) is;
    })

    pub held : (files : Files)
        → ((s.common.accepted ≡ 1 → ⊥) → files (prefix ++ master_name) ≡ Some (master_text players s.common.opened))
        → HoldState (put_all (live_files output players s) files) prefix (spelling_in output) players s
    held files before = elim (cases_Bool (s.common.accepted == 1)) [
      | inl first ↦ first_written output players s files (eqb-true s.common.accepted 1 first) few
      | inr later ↦ rw later (later_held files (before (λ one. (let e = rw one at later in cc))))
    ]

-- ---- frame by frame

abbrev pub HoldsIfAny : OutputPlace → Option Channel → Files → Type 0
HoldsIfAny output None files = Unit {0}
HoldsIfAny output (Some c) files =
    HasFewTracks c.session × HoldState files (output.folder ++ 47 ∷ []) (spelling_in output) c.players c.session

-- what a channel has of the first accepted MPD
abbrev pub Says : Option Channel → (said : Option Hints) → Type 0
Says c said = IfSome c (λ c. c.players ≡ said)

-- behind some frames: what their history left, what its first MPD says for players, and the files
pub record IsBehind (terms : Terms) (output : OutputPlace) (said : Option Hints) (history : List Update) (files : Files) : Type 0 where
  pub channel : Option Channel
  pub left : IsLeft terms history (session_of channel)
  pub says : Says channel said
  pub holds : HoldsIfAny output channel files

module _ (begins : HistoriesBegin) (goes_on : HistoriesGoOn) (refuse : HistoriesRefuse) (few : PresentedAreFew)
    (form : Form) (terms : Terms) (output : OutputPlace) where
  abbrev f : Followed (Option Channel) Frame
  f = followed_mpd form terms output

  abbrev files_by : (players : Option Hints) → Result State Refusal → List (List ℕ × List ℕ)
  files_by players judged = unless_refused (option_map refusal_text (result_err judged))
      (option_map_or (channel_files output) (judged_channel players judged) []) []

  -- the files of a frame hold what it leaves
  frame_held : (c : Option Channel) (x : Frame) (judged : Result State Refusal) (files : Files)
      → frame_state terms (session_of c) x ≡ judged → HoldsIfAny output c files
      → HoldsIfAny output (channel_by (players_after form c x) c judged) (put_all (files_by (players_after form c x) judged) files)
  frame_held c x (Err r) files is holds = holds
  frame_held None x (Ok after) files is holds =
      let opens = first_opens few terms x after is in
      (opens.few, held output (frame_players form x) after opens.few files (λ later. absurd (later opens.one)))
  frame_held (Some c) x (Ok after) files is holds =
      let s = c.session in
      let next = next_is s x after is in
      let on = state_goes_on s next.update after next.next in
      let less : HasFewTracks after = omega (arith, on.tracks, holds.0) in (
        less,
        held output c.players after less files
            (λ later. holds.1.master ∙ ap (λ p. Some (master_text c.players p)) (sym on.opened)),
      )

  none_said : (c : Option Channel) → Says c (said_behind form terms c [])
  none_said None = tt
  none_said (Some c) = refl

  -- behind the first n frames
  pub frames_behind : (xs : List Frame) (n : ℕ) (c : Option Channel) (i a : ℕ) (fault : Option (List ℕ)) (history : List Update)
      (files : Files) → IsLeft terms history (session_of c) → HoldsIfAny output c files
      → IsBehind terms output (said_behind form terms c (take n xs)) (fold (accepting terms) history (updates_of (take n xs)))
      (put_all (files_to n (course_from f c i a xs fault)) files)
  unfolding course_from
  frames_behind xs zero c i a fault history files left holds =
      record { channel = c; left = left; says = none_said c; holds = holds }
  frames_behind [] (suc n) c i a fault history files left holds =
      record { channel = c; left = left; says = none_said c; holds = holds }
  frames_behind (x ∷ xs) (suc n) c i a fault history files left holds =
      let players : Option Hints = players_after form c x in
      let judged : Result State Refusal = frame_state terms (session_of c) x in
      let next : Option Channel = next_of f c x in
      let more : List Update = history_with terms history (update_of x) in
      let rest = frames_behind xs n next (i + 1) (accepted_with f c x a) fault more (put_all (files_by players judged) files)
      (frame_behind begins goes_on refuse form terms output history c x left) (frame_held c x judged files refl holds) in
      let course : Course = course_from f next (i + 1) (accepted_with f c x a) xs fault in
      subst (λ (h : List Update). IsBehind terms output (said_behind form terms c (x ∷ take n xs)) h
      (put_all (files_by players judged ++ files_to n course) files))
      (sym (fold-append (accepting terms) history (option_to_list (result_ok (update_of x))) (updates_of (take n xs))))
      (subst (λ (said : Option Hints). IsBehind terms output said (fold (accepting terms) more (updates_of (take n xs)))
      (put_all (files_by players judged ++ files_to n course) files)) (said_next form terms output c x (take n xs))
      (subst (IsBehind terms output (said_behind form terms next (take n xs)) (fold (accepting terms) more (updates_of (take n xs))))
      (sym (put_all-both (files_by players judged) (files_to n course) files)) rest))
