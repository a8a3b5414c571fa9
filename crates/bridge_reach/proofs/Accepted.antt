-- What rounds leave that are accepted one behind another.
use Rattle.std.proofs.Common.{◌≡◌, ℕ, cond, List, [], ◌∷◌, take, Option, None, Some, option_map, Result, Ok, Err, refl, ap, ◌∙◌}
use Rattle.std.proofs.lemmas.Slice.Eq.{bytes_eq-Decides}
use Rattle.std.specs.{Prelude.{IsSome, codes}, Option.option_map_or, Result.{result_err, result_unwrap_or}}
use Rattle.bridge_io.proofs.AndThen.{steps_of}
use Rattle.hls_follow.specs.declared.state.Followed.{Followed}
use Rattle.dash_writer.specs.Live.{live_text}
use Rattle.bridge_jobs.specs.{Frames.start, Laws.in_folder, declared.round.Round.Round}
use Rattle.bridge_report.specs.{Following.{Followed as Told, unless_refused}, Laws.{FileIsOfAccepted, FilesAreOfAccepted, IsRewritten}}
use Rattle.bridge_report.specs.Laws.{accepted_in}
use Rattle.bridge_report.specs.Laws.{files_along, state_after}
use Rattle.bridge_report.specs.{Refusals.refusal_text, declared.refusal.Refusal.Refusal}
use Rattle.bridge_steps.specs.Follow.{fault_line}
use Rattle.bridge_reach.specs.RoundLaws.{AcceptedLeaveAnMpd, FileIsOfTheHistory, NoneWriteNothing, accepted_among}
use Rattle.bridge_reach.specs.Rounds.{followed_rounds, hls_of, medias_of, mpd_text, no_rounds, round_state, round_stream, taken}
use Rattle.bridge_reach.specs.{declared.rounds.LiveHls.LiveHls, declared.rounds.LiveRounds.LiveRounds}
use Rattle.bridge_reach.proofs.Rounding.{IsOneMore, one_more}

-- ---- what each accepted snapshot leaves, some leave

module _ {S X : Type 0} (f : Told S X) (P : S → Type 0) (one : (s : S) (x : X) → f.refusal s x ≡ None → P (f.after s x)) where
  -- it stays
  stays : (xs : List X) (s : S) → P s → P (state_after f s (accepted_in f s xs))
  stays [] s some = some
  stays (x ∷ xs) s some = go (f.refusal s x) refl (λ t. stays xs t)
    where
      go : (r : Option (List ℕ)) → f.refusal s x ≡ r → ((t : S) → P t → P (state_after f t (accepted_in f t xs)))
          → P (state_after f s (unless_refused r (x ∷ accepted_in f (f.after s x) xs) (accepted_in f s xs)))
      go None e next = next (f.after s x) (one s x e)
      go (Some why) e next = next s some

  -- the first accepted one leaves it
  pub comes : (xs : List X) (s : S) (y : X) (ys : List X) → accepted_in f s xs ≡ y ∷ ys → P (state_after f s (accepted_in f s xs))
  comes [] s y ys is = absurd (cc)
  comes (x ∷ xs) s y ys is = go (f.refusal s x) refl is (comes xs s y ys)
    where
      go : (r : Option (List ℕ)) → f.refusal s x ≡ r
          → unless_refused r (x ∷ accepted_in f (f.after s x) xs) (accepted_in f s xs) ≡ y ∷ ys
          → (accepted_in f s xs ≡ y ∷ ys → P (state_after f s (accepted_in f s xs)))
          → P (state_after f s (unless_refused r (x ∷ accepted_in f (f.after s x) xs) (accepted_in f s xs)))
      go None e some next = stays xs (f.after s x) (one s x e)
      go (Some why) e some next = next some

-- ---- snapshots of playlists

abbrev HasMpd : LiveRounds → Type 0
HasMpd s = IsSome s.follow.followed

module _ (hls : LiveHls) where
  one_of : (s s' : LiveRounds) (x : Round) → round_state hls s x ≡ Ok s' → IsOneMore s s'
  unfolding round_state
  one_of s s' x is = let read = steps_of (medias_of hls.urls x.bodies) (taken s x.now) s' is in one_more s s' x.now read.value read.then

  -- what an accepted round leaves
  pub after_one : (s : LiveRounds) (x : Round) → (followed_rounds hls).refusal s x ≡ None → IsOneMore s ((followed_rounds hls).after s x)
  after_one s x is = go (round_state hls s x) refl is
    where
      go : (r : Result LiveRounds Refusal) → round_state hls s x ≡ r → option_map refusal_text (result_err r) ≡ None
          → IsOneMore s (result_unwrap_or r s)
      go (Ok s') e accepted = one_of s s' x e
      go (Err why) e accepted = absurd (cc)

pub leave_an_mpd : AcceptedLeaveAnMpd
leave_an_mpd job tracks bytes n round more is = let hls = hls_of job tracks in
    comes (followed_rounds hls) HasMpd (λ s x accepted. (after_one hls s x accepted).mpd) (take n (round_stream hls start bytes).0)
    (no_rounds tracks) round more is

-- the one file is written anew
rewritten : (hls : LiveHls) → IsRewritten (followed_rounds hls) hls.name (mpd_text hls.form)
rewritten hls s x files = let text = mpd_text hls.form ((followed_rounds hls).after s x) in
    ap (λ b. cond b (Some text) (files hls.name)) ((bytes_eq-Decides hls.name hls.name).1 refl)

pub file_is : FileIsOfAccepted LiveRounds Round → FileIsOfTheHistory
file_is law job tracks bytes n followed first last left puts = go (accepted_among job tracks bytes n) refl left
  where
    go : (xs : List Round) → accepted_among job tracks bytes n ≡ xs
        → (state_after (followed_rounds (hls_of job tracks)) (no_rounds tracks) xs).follow.followed ≡ Some followed
        → last (in_folder job.out (codes "live.mpd")) ≡ Some (live_text job.form followed.mpd)
    go [] e none = absurd (cc)
    go (x ∷ more) e left = let stream = round_stream (hls_of job tracks) start bytes in
        law (followed_rounds (hls_of job tracks)) (in_folder job.out (codes "live.mpd")) (mpd_text job.form) (rewritten (hls_of job tracks))
        (no_rounds tracks)
        0 0 stream.0 (option_map fault_line stream.1) n x more first last e puts
        ∙ ap (λ (o : Option Followed). Some (option_map_or (λ f. live_text job.form f.mpd) o [])) left

pub none_write : FilesAreOfAccepted LiveRounds Round → NoneWriteNothing
none_write along job tracks bytes n none =
    let f = followed_rounds (hls_of job tracks) in
    let stream = round_stream (hls_of job tracks) start bytes in
    along f (no_rounds tracks) 0 0 stream.0 (option_map fault_line stream.1) n ∙ ap (files_along f (no_rounds tracks)) none
