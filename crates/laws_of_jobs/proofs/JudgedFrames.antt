-- Each frame is judged by the whole history before it.
use Rattle.std.proofs.Common.{◌≡◌, ℕ, zero, suc, ◌+◌, List, [], ◌∷◌, take, Option, None, Some, option_map, refl, sym, ap, ◌∙◌, arith}
use Rattle.std.proofs.{lemmas.List.Sums.fold-append, lemmas.Option.same_Some}
use Rattle.std.specs.{Prelude.{option_to_list, slice_get}, List.fold, Result.result_ok}
use Rattle.bridge_jobs.specs.declared.frame.Frame.{Frame}
use Rattle.bridge_courses.specs.Courses.{Course, Step}
use Rattle.live_meaning.specs.{Updates.{Terms, Update}, States.state_of, Laws.{HistoriesBegin, HistoriesGoOn, HistoriesRefuse}}
use Rattle.bridge_report.specs.Following.{Followed, accepted_with, course_from, next_of, step_of}
use Rattle.bridge_live.specs.LiveMpds.{channel_with, followed_mpd, session_of, update_of}
use Rattle.bridge_live.specs.declared.channel.Channel.{Channel}
use Rattle.segment_forms.specs.declared.form.Form.{Form}
use Rattle.track_hints.specs.declared.hints.Hints.{Hints}
use Rattle.bridge_steps.specs.Playlists.{OutputPlace}
use Rattle.bridge_core.specs.Follow.{output_of_job, terms_at}
use Rattle.laws_of_jobs.specs.{Frames.FramesAreOfTheHistory, Histories.{frames_in, history_to, said_to, updates_of}}
use Rattle.laws_of_jobs.proofs.{Channels.{frame_behind, said_behind, said_next}, Courses.{course_is, line_at_end}}
use Rattle.laws_of_jobs.proofs.FrameStates.{IsLeft, accepting, history_with}

-- what a history leaves
left_is : (form : Form) (terms : Terms) (history : List Update) (c : Option Channel) → IsLeft terms history (session_of c)
    → option_map (channel_with (said_behind form terms c [])) (state_of terms history) ≡ c
unfolding state_of
left_is form terms history None left = ap (λ h. option_map (channel_with None) (state_of terms h)) left
left_is form terms history (Some c) left = ap (option_map (channel_with c.players)) left.leaves

module _ (begins : HistoriesBegin) (goes_on : HistoriesGoOn) (refuse : HistoriesRefuse) where
  module _ (form : Form) (terms : Terms) (output : OutputPlace) where
    abbrev f : Followed (Option Channel) Frame
    f = followed_mpd form terms output

    abbrev told_at : (said : Option Hints) (history : List Update) (i : ℕ) → Frame → Option Step
    told_at said history i x = Some (step_of f (option_map (channel_with said) (state_of terms history)) i x)

    -- behind the first n frames
    step_at : (xs : List Frame) (n : ℕ) (c : Option Channel) (i a : ℕ) (fault : Option (List ℕ)) (history : List Update) (x : Frame)
        → IsLeft terms history (session_of c) → slice_get xs n ≡ Some x
        → slice_get (course_from f c i a xs fault).steps n
        ≡ told_at (said_behind form terms c (take n xs)) (fold (accepting terms) history (updates_of (take n xs))) (i + n) x
    unfolding course_from
    step_at [] n c i a fault history x left is = absurd (cc)
    step_at (y ∷ ys) zero c i a fault history x left is =
        let same : y ≡ x = same_Some _ _ is in
        let at : i ≡ i + 0 = omega arith in
        ap (λ z. Some (step_of f c i z)) same ∙ ap (λ t. Some (step_of f t i x)) (sym (left_is form terms history c left))
        ∙ ap (λ k. told_at (said_behind form terms c []) history k x) at
    step_at (y ∷ ys) (suc n) c i a fault history x left is =
        let more : List Update = history_with terms history (update_of y) in
        let next : Option Channel = next_of f c y in
        let at : i + 1 + n ≡ i + suc n = omega arith in
        step_at ys n next (i + 1) (accepted_with f c y a) fault more x
        (frame_behind begins goes_on refuse form terms output history c y left) is
        ∙ ap (λ k. told_at (said_behind form terms next (take n ys)) (fold (accepting terms) more (updates_of (take n ys))) k x) at
        ∙ ap (λ h. told_at (said_behind form terms next (take n ys)) h (i + suc n) x)
        (sym (fold-append (accepting terms) history (option_to_list (result_ok (update_of y))) (updates_of (take n ys))))
        ∙ ap (λ said. told_at said (fold (accepting terms) history (updates_of (take (suc n) (y ∷ ys)))) (i + suc n) x)
        (said_next form terms output c y (take n ys))

  pub frames_are_of_the_history : FramesAreOfTheHistory
  frames_are_of_the_history words job place input course n x is there =
      let at = course_is words job place input course is in
      let terms : Terms = terms_at job place in
      let here : 0 + n ≡ n = omega arith in
      ap (λ (c : Course). slice_get c.steps n) at.is
      ∙ step_at job.form terms (output_of_job job) (frames_in input) n None 0 0 (line_at_end input) [] x refl there
      ∙ ap (λ k. told_at job.form terms (output_of_job job) (said_to job place n input) (history_to terms n input) k x) here
