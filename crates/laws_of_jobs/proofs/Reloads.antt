-- Files of the history, and their reloads.
use Rattle.std.proofs.Common.{◌≡◌, ◌⊎◌, ℕ, ◌≤◌, zero, suc, true, false, nat_lt, List, [], ◌∷◌, ◌++◌, length, take, Option, None, Some}
use Rattle.std.proofs.Common.{option_map, Result, Ok, Err, inl, inr, refl, sym, ap, ◌∙◌, subst, arith, length-take}
use Rattle.std.proofs.{lemmas.Bool.Decides.nat_tests, lemmas.List.Sums.fold-append}
use Rattle.std.proofs.lemmas.Option.{none-some, same_Some}
use Rattle.std.specs.{Prelude.slice_get, Result.result_err}
use Rattle.bridge_io.specs.{InOrder.put_all, Outside.{Changes, Files}}
use Rattle.bridge_jobs.specs.{declared.frame.Frame.Frame, declared.jobs.{FollowJob.FollowJob, ReloadJob.ReloadJob}}
use Rattle.mpd_presentation.specs.PresentedLaws.{PresentedAreFew}
use Rattle.laws_of_playlists.specs.{Origins.OwnTextsAreAddresses, ReadMedia.Spells}
use Rattle.url_parts.proofs.Spellings.{stands_alone}
use Rattle.live_meaning.specs.{Updates.{Terms, Update}, States.{State, Track, state_of}}
use Rattle.live_meaning.specs.{Laws.media_of, Playlists.{FollowedPlaylist, live_text, playlist_of, playlist_with}}
use Rattle.live_meaning.specs.Laws.{AcceptedAreAccepted, HistoriesBegin, HistoriesGoOn, HistoriesRefuse, accepted_of, with_accepted}
use Rattle.laws_of_reloads.specs.{First.HoldState, Laws.{AreRead, FollowedTextsReload, IsUpdate, IsWithinLimits, TakenTextsReload}}
use Rattle.bridge_report.specs.{Refusals.refusal_text, declared.refusal.Refusal.Refusal}
use Rattle.bridge_courses.specs.{Courses.{Course, files_to}, declared.status.Verdict.TheVariants.Done}
use Rattle.bridge_report.specs.{Outcomes.Ends, Reading.{manifest_limit, media_at}}
use Rattle.bridge_playlists.specs.{Reload.{judged, lawful_line, reload_outcome, urls_of}, declared.place.StorePlace.StorePlace}
use Rattle.hls_media.specs.{Media.media_of as read_media, declared.media.Media.Media}
use Rattle.hls_writer.specs.Attributes.{playlist_name}
use Rattle.reload_law.specs.{Laws.RulesAreSentences, Rules.lawful}
use Rattle.bridge_live.specs.{LiveMpds.{next_state, session_of}, declared.channel.Channel.Channel}
use Rattle.track_hints.specs.declared.hints.Hints.{Hints}
use Rattle.bridge_steps.specs.Playlists.{output_of, spelling_in}
use Rattle.bridge_core.{proofs.FileNames.spells_in, specs.Follow.{output_of_job, terms_at}}
use Rattle.laws_of_jobs.specs.Histories.{IsFollowing, frames_in, history_to, said_to, state_to, updates_to}
use Rattle.laws_of_jobs.specs.Files.{FollowedFilesAreLawful, FollowedFilesAreOfTheHistory, FollowedFilesReload, HoldsHistory, IsAnother}
use Rattle.laws_of_jobs.specs.Files.{IsManifest, IsReadFrom, prefix_of}
use Rattle.laws_of_jobs.proofs.{Courses.{course_is, line_at_end}, FewDigits.few_digits, FewFrames.few_frames}
use Rattle.laws_of_jobs.proofs.FollowedFiles.{HoldsIfAny, IsBehind, Says, frames_behind}
use Rattle.laws_of_jobs.proofs.{FrameStates.{IsLeft, accepting, next_is, state_goes_on}, Readings.{are_read, no_more, one_more}}

-- ---- the files of the history

module _ (job : FollowJob) (place : StorePlace) (files : Files) where
  held_by : (said : Option Hints) (history : List Update) (channel : Option Channel)
      → IsLeft (terms_at job place) history (session_of channel) → Says channel said
      → HoldsIfAny (output_of_job job) channel files
      → (history ≡ []) ⊎ ((s : State) × (state_of (terms_at job place) history ≡ Some s)
      × HoldState files (prefix_of job) (spelling_in (output_of_job job)) said s)
  held_by said history None left says holds = inl left
  held_by said history (Some c) left says holds = inr (
    c.session,
    left.leaves,
    subst (λ players. HoldState files (prefix_of job) (spelling_in (output_of_job job)) players c.session) says holds.1,
  )

  held_at : (n : ℕ) (input : List ℕ) (s : State) → HoldsHistory job place n input files → state_to (terms_at job place) n input ≡ Some s
      → HoldState files (prefix_of job) (spelling_in (output_of_job job)) (said_to job place n input) s
  unfolding state_of
  held_at n input s (inl none) is = absurd (none-some s (ap (state_of (terms_at job place)) (sym none) ∙ is))
  held_at n input s (inr some) is = subst (HoldState files (prefix_of job) (spelling_in (output_of_job job)) (said_to job place n input))
      (same_Some _ _ (sym some.1 ∙ is)) some.2

-- what is written for a URL stands for it where the playlist can be read from
spells_from : (job : FollowJob) (t : ℕ) (url : List ℕ) → IsReadFrom job t url → Spells (spelling_in (output_of_job job) t) url
spells_from job t url (inl plain) =
    subst (λ addresses. Spells (spelling_in (output_of addresses job.base job.out) t) url) (sym plain) (stands_alone url)
spells_from job t url (inr own) =
    subst (Spells (spelling_in (output_of_job job) t)) (sym own) (spells_in job.addresses job.base job.out t)

-- ---- one update more

-- where one of two states with as many tracks has a playlist, the other has too
there_too : (xs ys : List Track) (t : ℕ) (f g : Track → FollowedPlaylist) (old : FollowedPlaylist) → length ys ≡ length xs
    → option_map f (slice_get xs t) ≡ Some old → (new : FollowedPlaylist) × (option_map g (slice_get ys t) ≡ Some new)
there_too [] ys t f g old same is = absurd (cc)
there_too (x ∷ xs) [] t f g old same is = absurd (omega (arith, same))
there_too (x ∷ xs) (y ∷ ys) zero f g old same is = (g y, refl)
there_too (x ∷ xs) (y ∷ ys) (suc t) f g old same is = there_too xs ys t f g old (omega (arith, same)) is

not_refused : (judged : Result State Refusal) → option_map refusal_text (result_err judged) ≡ None → (after : State) × (judged ≡ Ok after)
not_refused (Ok after) none = (after, refl)
not_refused (Err r) none = absurd (cc)

-- The playlist of a track after another accepted update, and the track's file before and after it.
record IsRenewed (job : FollowJob) (place : StorePlace) (n : ℕ) (input : List ℕ) (t : ℕ) (old : FollowedPlaylist) (before after : Files)
    : Type 0 where
  new : FollowedPlaylist
  update : Update
  is : IsUpdate (terms_at job place) (updates_to n input) update t old new
  leaves : state_to (terms_at job place) (suc n) input ≡ Some is.after
  was : before (prefix_of job ++ playlist_name t) ≡ Some (live_text (spelling_in (output_of_job job) t) old)
  there : after (prefix_of job ++ playlist_name t) ≡ Some (live_text (spelling_in (output_of_job job) t) new)

-- ---- the report of a `reload`

taken_at : (file url bytes : List ℕ) (media : Media) (files : Files) → files file ≡ Some bytes → length bytes ≤ manifest_limit
    → read_media bytes url ≡ Ok media → media_at file url files ≡ Ok media
unfolding media_at
taken_at file url bytes media files is short read =
    let few : nat_lt manifest_limit (length bytes) ≡ false = grind (arith, nat_tests) in
    rw (is, few, read) refl

reported : (reload : ReloadJob) (old_url new_url : List ℕ) (before after : Media) (old new : List ℕ) (files : Files)
    → IsManifest reload.base reload.old old_url old files → IsManifest reload.base reload.new new_url new files
    → read_media old old_url ≡ Ok before → read_media new new_url ≡ Ok after → lawful before after ≡ Ok tt
    → reload_outcome reload (Some files) ≡ Some (Ends Done (lawful_line before after) true false)
unfolding reload_outcome urls_of judged
reported reload old_url new_url before after old new files old_is new_is was is lawful_is = rw (
  old_is.located,
  new_is.located,
  taken_at reload.old old_url old before files old_is.there old_is.short was,
  taken_at reload.new new_url new after files new_is.there new_is.short is,
  lawful_is,
) refl

module _ (begins : HistoriesBegin) (goes_on : HistoriesGoOn) (refuse : HistoriesRefuse) (few : PresentedAreFew) where
  pub files_are_of_the_history : FollowedFilesAreOfTheHistory
  files_are_of_the_history words job place input course n first last is changes =
      let terms : Terms = terms_at job place in
      let at = course_is words job place input course is in
      let same : put_all (files_to n course) first ≡ last = sym (same_Some _ _ changes) in
      let said : Option Hints = said_to job place n input in
      let behind : IsBehind terms (output_of_job job) said (history_to terms n input) last =
      subst (IsBehind terms (output_of_job job) said (history_to terms n input))
      (ap (λ c. put_all (files_to n c) first) (sym at.is) ∙ same)
      (frames_behind begins goes_on refuse few job.form terms (output_of_job job) (frames_in input) n None 0 0 (line_at_end input)
      [] first refl tt) in
      held_by job place last said (history_to terms n input) behind.channel behind.left behind.says behind.holds

  -- ---- reloads

  module _ (accepted : AcceptedAreAccepted) (own : OwnTextsAreAddresses) where
    renewed : (words : List (List ℕ)) (job : FollowJob) (place : StorePlace) (input : List ℕ) (course : Course) (n : ℕ)
        (first before after : Files)
        (s : State) (t : ℕ) (old : FollowedPlaylist) → IsFollowing words job place input course → IsAnother job place n input s
        → playlist_of s t ≡ Some old → Changes (put_all (files_to n course)) (Some first) (Some before)
        → Changes (put_all (files_to (suc n) course)) (Some first) (Some after) → IsRenewed job place n input t old before after
    renewed words job place input course n first before after s t old is another there was then =
        let terms : Terms = terms_at job place in
        let updates : List Update = updates_to n input in
        let frames : List Frame = frames_in input in
        let judged = not_refused (next_state s another.frame) another.accepted in
        let next = next_is s another.frame judged.0 judged.1 in
        let more : updates_to (suc n) input ≡ updates ++ next.update ∷ [] =
        one_more frames n another.frame next.update another.next next.is in
        let shows = goes_on terms (accepted_of terms updates) next.update s judged.0
        (record { accepted = accepted terms updates; leaves = another.leaves }) next.next in
        let none = shows.accepted (accepted_of terms updates) next.update [] refl in
        let leaves : state_of terms (accepted_of terms (updates ++ next.update ∷ [])) ≡ Some judged.0 =
        ap (state_of terms) (fold-append (accepting terms) [] updates (next.update ∷ [])
        ∙ ap (with_accepted terms (accepted_of terms updates) next.update) none)
        ∙ shows.leaves in
        let leaves_more : state_to terms (suc n) input ≡ Some judged.0 =
        ap (λ us. state_of terms (accepted_of terms us)) more ∙ leaves in
        let new = there_too s.tracks judged.0.tracks t (playlist_with s.common) (playlist_with judged.0.common) old
        (state_goes_on s next.update judged.0 next.next).tracks there in
        let held = held_at job place before n input s
        (files_are_of_the_history words job place input course n first before is was) another.leaves in
        let held_more = held_at job place after (suc n) input judged.0
        (files_are_of_the_history words job place input course (suc n) first after is then) leaves_more in
        record {
          new = new.0;
          update = next.update;
          is = record {
            followed = record {
              url = own place.url (course_is words job place input course is).own;
              digits = few_digits words job is.asks;
              read = subst AreRead more (are_read (take (suc n) frames));
              few = omega (arith, ap length more, no_more (take (suc n) frames), length-take (suc n) frames, few_frames input);
            };
            accepted = none;
            before = s;
            leaves = another.leaves;
            after = judged.0;
            leaves_more = leaves;
            old_is = there;
            new_is = new.1;
          };
          leaves = leaves_more;
          was = held.playlists t old there;
          there = held_more.playlists t new.0 new.1;
        }

    module _ (texts : FollowedTextsReload) where
      pub files_reload : FollowedFilesReload
      files_reload words job place input course n first before after s t old from is read_from another there was then =
          let r = renewed words job place input course n first before after s t old is another there was then in
          record {
            old = live_text (spelling_in (output_of_job job) t) old;
            new = live_text (spelling_in (output_of_job job) t) r.new;
            was = r.was;
            is = r.there;
            reloads = texts (spelling_in (output_of_job job) t) (terms_at job place) (updates_to n input) r.update t old r.new from
                (spells_from job t from read_from) r.is;
          }

    module _ (taken : TakenTextsReload) (sentences : RulesAreSentences) where
      pub files_are_lawful : FollowedFilesAreLawful
      files_are_lawful words job place input course n first before after s next t playlist again reload old_url new_url old new files is
          old_from new_from another leaves there again_is within new_within was then old_there new_there old_file new_file =
          let r = renewed words job place input course n first before after s t playlist is another there was then in
          let same_state : next ≡ r.is.after = same_Some _ _ (sym leaves ∙ r.leaves) in
          let same : r.new ≡ again = same_Some _ _ (sym r.is.new_is ∙ ap (λ s. playlist_of s t) (sym same_state) ∙ again_is) in
          let spelling = spelling_in (output_of_job job) t in
          let both = taken spelling (terms_at job place) (updates_to n input) r.update t playlist r.new old_url new_url
          (spells_from job t old_url old_from) (spells_from job t new_url new_from) r.is within
          (subst IsWithinLimits (sym same) new_within) in
          let old_is : live_text spelling playlist ≡ old = same_Some _ _ (sym r.was ∙ old_there) in
          let new_is : live_text spelling r.new ≡ new = same_Some _ _ (sym r.there ∙ new_there) in
          subst (λ (p : FollowedPlaylist). reload_outcome reload (Some files)
          ≡ Some (Ends Done (lawful_line (media_of playlist) (media_of p)) true false)) same
          (reported reload old_url new_url (media_of playlist) (media_of r.new) old new files old_file new_file
          (ap (λ text. read_media text old_url) (sym old_is) ∙ both.0) (ap (λ text. read_media text new_url) (sym new_is) ∙ both.1.0)
          ((sentences (media_of playlist) (media_of r.new)).1 both.1.1))
