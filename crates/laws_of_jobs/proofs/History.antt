-- A run over rounds leaves what its whole history of accepted rounds leaves.
use Rattle.bridge_report.specs.declared.refusal.Refusal.TheVariants as refusal
use Rattle.std.proofs.Common.{◌≡◌, ◌+◌, ℕ, ℤ, suc, List, [], ◌∷◌, ◌++◌, length, map, take, drop, Option, Some, None, option_map}
use Rattle.std.proofs.{Common.{option_and_then, Result, Ok, Err, refl, sym, ap, ◌∙◌, subst, arith, length-append}, lemmas.List.length-map}
use Rattle.std.proofs.{lemmas.List.Elements.{All-nil, All-cons, All-drop, All-head, All-push, All-tail, All-take, All-weaker}}
use Rattle.std.proofs.Math.Seq.{take-add}
use Rattle.std.specs.{List.All, Result.{result_err, result_unwrap_or}}
use Rattle.bridge_io.proofs.AndThen.{steps_of}
use Rattle.hls_master.specs.declared.track.MasterTrack.{MasterTrack}
use Rattle.hls_media.specs.{Laws.{IsBounded, ReadIsBounded}, Media.media_of, declared.media.Media.Media}
use Rattle.hls_follow.specs.{Histories.{IsRound, SegmentsStay, accepted_after, if_accepted}, Rounds.{Following, followed_of, next_of}}
use Rattle.hls_follow.specs.declared.state.Followed.{Followed}
use Rattle.bridge_io.specs.Answer.{told_as}
use Rattle.presentation.proofs.Filling.{ok_under}
use Rattle.bridge_jobs.specs.{Frames.start, declared.round.Round.Round}
use Rattle.bridge_report.specs.{Following.{Followed as Told, unless_refused}, Laws.{accepted_in, state_after}, Refusals.refusal_text}
use Rattle.bridge_report.specs.declared.refusal.Refusal.{Refusal}
use Rattle.bridge_jobs.specs.declared.jobs.MasterJob.{MasterJob}
use Rattle.bridge_reach.specs.RoundLaws.{left_by}
use Rattle.bridge_reach.specs.Rounds.{followed_rounds, hls_of, media_in, medias_behind, medias_of, medias_with, no_rounds, round_state}
use Rattle.bridge_reach.specs.{Rounds.{round_stream, taken, urls_of}, declared.rounds.LiveHls.LiveHls}
use Rattle.bridge_reach.specs.declared.rounds.LiveRounds.{LiveRounds}
use Rattle.laws_of_jobs.specs.Rounds.{LeftIsOfTheHistory, ListedSegmentsStay, playlists_at}
use Rattle.laws_of_jobs.proofs.Bodies.{IsWhole, all_have}

-- ---- one round

-- the playlists of an accepted round, and what they leave
pub record OneStep (hls : LiveHls) (s s' : LiveRounds) (x : Round) : Type 0 where
  pub medias : List Media
  pub read : medias_of hls.urls x.bodies ≡ Ok medias
  pub new : Followed
  pub follows : followed_of s.follow.tracks s.follow.followed x.now medias ≡ Ok new
  pub tracks : s'.follow.tracks ≡ s.follow.tracks
  pub followed : s'.follow.followed ≡ Some new

one_step : (hls : LiveHls) (s s' : LiveRounds) (x : Round) → round_state hls s x ≡ Ok s' → OneStep hls s s' x
unfolding round_state taken next_of
one_step hls s s' x is =
    let a = steps_of (medias_of hls.urls x.bodies) (taken s x.now) s' is in
    let next = next_of s.follow x.now a.value in
    let b = steps_of (told_as refusal.Live next) (λ (follow : Following). Ok (let t : LiveRounds = record {
      follow = follow;
      accepted =
          s.accepted + 1;
    } in t))
    s' a.then in
    let c = steps_of (followed_of s.follow.tracks s.follow.followed x.now a.value) (λ (f : Followed). Ok
    (record s.follow { followed = Some f }))
    b.value (ok_under refusal.Live next b.value b.first) in
    let inner : record s.follow { followed = Some c.value } ≡ b.value = (let h = c.then in cc) in
    let outer : (let t : LiveRounds = record { follow = b.value; accepted = s.accepted + 1 } in t) ≡ s' = (let h = b.then in cc) in
    record {
      medias = a.value;
      read = a.first;
      new = c.value;
      follows = c.first;
      tracks = ap (λ (t : LiveRounds). t.follow.tracks) (sym outer) ∙ ap (λ (f : Following). f.tracks) (sym inner);
      followed = ap (λ (t : LiveRounds). t.follow.followed) (sym outer) ∙ ap (λ (f : Following). f.followed) (sym inner);
    }

accepted_step : (hls : LiveHls) (s : LiveRounds) (x : Round) → (followed_rounds hls).refusal s x ≡ None
    → OneStep hls s ((followed_rounds hls).after s x) x
accepted_step hls s x is = go (round_state hls s x) refl is
  where
    go : (r : Result LiveRounds Refusal) → round_state hls s x ≡ r → option_map refusal_text (result_err r) ≡ None
        → OneStep hls s (result_unwrap_or r s) x
    go (Ok s') e accepted = one_step hls s s' x e
    go (Err why) e accepted = absurd (cc)

-- ---- its playlists

module _ (bounded : ReadIsBounded) where
  one_more : (url body : List ℕ) (medias more : List Media) → medias_with medias url body ≡ Ok more → All IsBounded medias
      → All IsBounded more × (length more ≡ length medias + 1)
  unfolding medias_with
  one_more url body medias more is all =
      let a = steps_of (media_in url body) (λ (media : Media). Ok (medias ++ media ∷ [])) more is in
      let same : medias ++ a.value ∷ [] ≡ more = (let h = a.then in cc) in
      let one : IsBounded a.value = bounded body url a.value (ok_under refusal.Media (media_of body url) a.value a.first) in (
        subst (All IsBounded) same (All-push IsBounded medias a.value all one),
        ap length (sym same) ∙ length-append medias (a.value ∷ []),
      )

  pub all_more : (urls bodies : List (List ℕ)) (medias more : List Media) → medias_behind medias urls bodies ≡ Ok more
      → All IsBounded medias
      → length bodies ≡ length urls → All IsBounded more × (length more ≡ length medias + length urls)
  all_more [] bodies medias more is all each = let same : medias ≡ more = cc in
      (subst (All IsBounded) same all, omega (arith, ap length same))
  all_more (url ∷ urls) [] medias more is all each = absurd (omega (arith, each))
  all_more (url ∷ urls) (body ∷ bodies) medias more is all each =
      let a = steps_of (medias_with medias url body) (λ next. medias_behind next urls bodies) more is in
      let one = one_more url body medias a.value a.first all in
      let rest = all_more urls bodies a.value more a.then one.0 (omega (arith, each)) in
      (rest.0, omega (arith, rest.1, one.1))

  -- ---- rounds one behind another

  module _ (job : MasterJob) (tracks : List MasterTrack) where
    -- what accepted rounds leave, and that they are rounds
    pub record Goes (s : LiveRounds) (xs : List Round) : Type 0 where
      pub kept : (state_after (followed_rounds (hls_of job tracks)) s xs).follow.tracks ≡ tracks
      pub left : (state_after (followed_rounds (hls_of job tracks)) s xs).follow.followed
          ≡ accepted_after tracks s.follow.followed (map (playlists_at (hls_of job tracks)) xs)
      pub whole : All (IsRound tracks) (map (playlists_at (hls_of job tracks)) xs)

    goes_on : (s : LiveRounds) (x : Round) (xs : List Round) → s.follow.tracks ≡ tracks → length x.bodies ≡ length tracks
        → (followed_rounds (hls_of job tracks)).refusal s x ≡ None
        → (((followed_rounds (hls_of job tracks)).after s x).follow.tracks ≡ tracks
        → Goes ((followed_rounds (hls_of job tracks)).after s x) xs)
        → Goes s (x ∷ xs)
    goes_on s x xs kept each accepted others =
        let hls = hls_of job tracks in
        let step = accepted_step hls s x accepted in
        let rest = others (step.tracks ∙ kept) in
        let history = map (playlists_at hls) xs in
        let read : result_unwrap_or (medias_of hls.urls x.bodies) [] ≡ step.medias =
        ap (λ (r : Result (List Media) Refusal). result_unwrap_or r []) step.read in
        let follows : followed_of tracks s.follow.followed x.now (result_unwrap_or (medias_of hls.urls x.bodies) []) ≡ Ok step.new =
        ap (followed_of tracks s.follow.followed x.now) read
        ∙ subst (λ (ts : List MasterTrack). followed_of ts s.follow.followed x.now step.medias ≡ Ok step.new) kept step.follows in
        let count : length hls.urls ≡ length tracks = length-map tracks (λ (track : MasterTrack). track.address) in
        let all = all_more hls.urls x.bodies [] step.medias step.read (All-nil IsBounded) (omega (arith, each, count)) in
        let one : IsRound tracks (x.now, step.medias) = record { one_each = omega (arith, all.1, count); bounded = all.0 } in
        record {
          kept = rest.kept;
          left = rest.left ∙ ap (λ (f : Option Followed). accepted_after tracks f history) step.followed
              ∙ sym (ap (λ r. option_and_then (λ (new : Followed). accepted_after tracks (Some new) history) (if_accepted r)) follows);
          whole = All-cons (IsRound tracks) (playlists_at hls x) history
              (subst (λ (medias : List Media). IsRound tracks (x.now, medias)) (sym read) one) rest.whole;
        }

    pub goes : (xs : List Round) (s : LiveRounds) → s.follow.tracks ≡ tracks → All (λ (r : Round). length r.bodies ≡ length tracks) xs
        → Goes s (accepted_in (followed_rounds (hls_of job tracks)) s xs)
    goes [] s kept each = record { kept = kept; left = refl; whole = All-nil (IsRound tracks) }
    goes (x ∷ xs) s kept each =
        go ((followed_rounds (hls_of job tracks)).refusal s x) refl
        (λ t same. goes xs t same (All-tail (λ (r : Round). length r.bodies ≡ length tracks) x xs each))
      where
        go : (r : Option (List ℕ)) → (followed_rounds (hls_of job tracks)).refusal s x ≡ r
            → ((t : LiveRounds) → t.follow.tracks ≡ tracks → Goes t (accepted_in (followed_rounds (hls_of job tracks)) t xs))
            → Goes s (unless_refused r (x ∷ accepted_in (followed_rounds (hls_of job tracks))
            ((followed_rounds (hls_of job tracks)).after s x) xs) (accepted_in (followed_rounds (hls_of job tracks)) s xs))
        go None accepted others = goes_on s x _ kept (All-head (λ (r : Round). length r.bodies ≡ length tracks) x xs each) accepted
            (λ same. others ((followed_rounds (hls_of job tracks)).after s x) same)
        go (Some why) refused others = others s kept

-- what frames leave that are gone over in two parts
pub both : {S X : Type 0} (f : Told S X) (xs ys : List X) (s : S) → let mid = state_after f s (accepted_in f s xs) in
    state_after f s (accepted_in f s (xs ++ ys)) ≡ state_after f mid (accepted_in f mid ys)
both f [] ys s = refl
both f (x ∷ xs) ys s = go (f.refusal s x) (λ t. both f xs ys t)
  where
    go : (r : Option (List ℕ))
        → ((t : _) → let mid = state_after f t (accepted_in f t xs) in
        state_after f t (accepted_in f t (xs ++ ys)) ≡ state_after f mid (accepted_in f mid ys))
        → let mid = state_after f s (unless_refused r (x ∷ accepted_in f (f.after s x) xs) (accepted_in f s xs)) in
        state_after f s (unless_refused r (x ∷ accepted_in f (f.after s x) (xs ++ ys)) (accepted_in f s (xs ++ ys)))
        ≡ state_after f mid (accepted_in f mid ys)
    go None others = others (f.after s x)
    go (Some why) others = others s

-- ---- over streams

abbrev AnyInstant : ℤ → Type 0
AnyInstant now = Unit {0}

pub each_has : (job : MasterJob) (tracks : List MasterTrack) (bytes : List ℕ)
    → All (λ (r : Round). length r.bodies ≡ length tracks) (round_stream (hls_of job tracks) start bytes).0
each_has job tracks bytes =
    let stream = (round_stream (hls_of job tracks) start bytes).0 in
    subst (λ (n : ℕ). All (λ (r : Round). length r.bodies ≡ n) stream)
    (length-map tracks (λ (track : MasterTrack). track.address))
    (All-weaker (IsWhole AnyInstant (λ text now is. tt) (length (urls_of tracks)))
    (λ (r : Round). length r.bodies ≡ length (urls_of tracks)) (λ r whole. whole.bodies) stream
    (all_have AnyInstant (λ text now is. tt) (suc (length bytes)) (length (urls_of tracks)) start bytes))

pub left_is : ReadIsBounded → LeftIsOfTheHistory
left_is bounded job tracks bytes n =
    (goes bounded job tracks (take n (round_stream (hls_of job tracks) start bytes).0) (no_rounds tracks) refl
    (All-take (λ (r : Round). length r.bodies ≡ length tracks) n _ (each_has job tracks bytes))).left

pub segments_stay : ReadIsBounded → SegmentsStay → ListedSegmentsStay
segments_stay bounded stay job tracks bytes m n old new place number placed was is at has =
    let f = followed_rounds (hls_of job tracks) in
    let s = no_rounds tracks in
    let all = (round_stream (hls_of job tracks) start bytes).0 in
    let each = each_has job tracks bytes in
    let first = goes bounded job tracks (take m all) s refl (All-take (λ (r : Round). length r.bodies ≡ length tracks) m all each) in
    let mid = left_by job tracks bytes m in
    let then = goes bounded job tracks (take n (drop m all)) mid first.kept
    (All-take (λ (r : Round). length r.bodies ≡ length tracks) n (drop m all)
    (All-drop (λ (r : Round). length r.bodies ≡ length tracks) m all each)) in
    let parts : left_by job tracks bytes (m + n) ≡ state_after f mid (accepted_in f mid (take n (drop m all))) =
    ap (λ (xs : List Round). state_after f s (accepted_in f s xs)) (take-add m n all)
    ∙ both (followed_rounds (hls_of job tracks)) (take m all) (take n (drop m all)) s in
    stay tracks _ _ old new place number placed
    (record { whole = first.whole; left = sym first.left ∙ was })
    (record {
      whole = then.whole;
      left = ap (λ (o : Option Followed). accepted_after tracks o (map (playlists_at (hls_of job tracks)) (accepted_in f mid (take n
          (drop m all))))) (sym was)
          ∙ sym then.left ∙ ap (λ (t : LiveRounds). t.follow.followed) (sym parts) ∙ is;
    })
    at has
