-- What a round makes of the whole.
use Rattle.std.proofs.{Common.{◌≡◌, ℕ, ℤ, List, Option, Some, None, Result, Ok, Err, IfSome, refl, sym, ◌∙◌, ap}, lemmas.Option.IfSome_then}
use Rattle.bridge_io.specs.{Answer.and_then, Outside.Files}
use Rattle.hls_master.specs.declared.track.MasterTrack.{MasterTrack}
use Rattle.hls_media.specs.declared.media.Media.{Media}
use Rattle.hls_presentation.specs.Tracks.{sources}
use Rattle.hls_follow.specs.declared.state.Followed.{Followed}
use Rattle.hls_follow.specs.{Faults.told, OwnTimes.timed_told, TimedRounds.{next_timed, timed_of}}
use Rattle.hls_follow.specs.declared.timed_fault.TimedFault.{TimedFault}
use Rattle.hls_follow.specs.Kept.{IsSound, formers_of}
use Rattle.layer_faults.specs.declared.live.LiveFault.{LiveFault}
use Rattle.hls_follow.specs.{Rounds.{Following, appended_by, followed_of, kept_in, next_of}, Rules.appended_from}

-- what was left is sound
pub sound_of : (followed : Option Followed) → ((f : Followed) → followed ≡ Some f → IsSound f) → IfSome followed IsSound
sound_of None sound = tt
sound_of (Some f) sound = sound f refl

abbrev pub left : List MasterTrack → Followed → Following
left tracks next = record { tracks = tracks; followed = Some next }

module _ (f : Following) (now : ℤ) (medias listed : List Media) (tracks : List MasterTrack) (former : Option Followed)
    (one : tracks ≡ f.tracks) (two : former ≡ f.followed) (three : listed ≡ medias) where
  same_round : {E : Type 0} (give : List MasterTrack → Option Followed → List Media → Result Followed E)
      → give f.tracks f.followed medias ≡ give tracks former listed
  same_round give =
      ap (λ (ts : List MasterTrack). give ts f.followed medias) (sym one)
      ∙ ap (λ (o : Option Followed). give tracks o medias) (sym two) ∙ ap (λ (ms : List Media). give tracks former ms) (sym three)

  abbrev next_by : {E : Type 0} → (List MasterTrack → Option Followed → List Media → Result Followed E) → Result Following E
  next_by give = and_then (give f.tracks f.followed medias) (λ next. Ok (left f.tracks next))

  left_by : {E : Type 0} (give : List MasterTrack → Option Followed → List Media → Result Followed E) (master : List MasterTrack)
      (next : Followed)
      → master ≡ f.tracks → give tracks former listed ≡ Ok next → next_by give ≡ Ok (left master next)
  left_by give master next same is =
      (let h : next_by give ≡ Ok (left f.tracks next) = rw (same_round give ∙ is) refl in h)
      ∙ ap (λ (ts : List MasterTrack). Ok (left ts next)) (sym same)

  refused_by : {E : Type 0} (give : List MasterTrack → Option Followed → List Media → Result Followed E) (r : Option E)
      → IfSome r (λ e. give tracks former listed ≡ Err e) → IfSome r (λ e. next_by give ≡ Err e)
  refused_by give r refused = IfSome_then r refused (λ e is. (let h : next_by give ≡ Err e = rw (same_round give ∙ is) refl in h))

  pub next_is : (master : List MasterTrack) (next : Followed) → master ≡ f.tracks → followed_of tracks former now listed ≡ Ok next
      → next_of f now medias ≡ Ok (left master next)
  unfolding next_of
  next_is = left_by (λ ts o ms. followed_of ts o now ms)

  pub next_refused : (fault : LiveFault) → IfSome (told fault) (λ r. followed_of tracks former now listed ≡ Err r)
      → IfSome (told fault) (λ r. next_of f now medias ≡ Err r)
  unfolding next_of
  next_refused fault = refused_by (λ ts o ms. followed_of ts o now ms) (told fault)

  module _ (folder : List ℕ) (files : Files) where
    pub timed_is : (master : List MasterTrack) (next : Followed) → master ≡ f.tracks
        → timed_of tracks former now listed folder files ≡ Ok next → next_timed f now medias folder files ≡ Ok (left master next)
    unfolding next_timed
    timed_is = left_by (λ ts o ms. timed_of ts o now ms folder files)

    pub timed_refused : (fault : TimedFault) → IfSome (timed_told fault) (λ r. timed_of tracks former now listed folder files ≡ Err r)
        → IfSome (timed_told fault) (λ r. next_timed f now medias folder files ≡ Err r)
    unfolding next_timed
    timed_refused fault = refused_by (λ ts o ms. timed_of ts o now ms folder files) (timed_told fault)

  pub appended_is : appended_from (formers_of former) 0 (kept_in former (sources tracks listed)) ≡ appended_by f medias
  unfolding appended_by
  appended_is =
      ap (λ (ts : List MasterTrack). appended_from (formers_of former) 0 (kept_in former (sources ts listed))) one
      ∙ ap (λ (o : Option Followed). appended_from (formers_of o) 0 (kept_in o (sources f.tracks listed))) two
      ∙ ap (λ (ms : List Media). appended_from (formers_of f.followed) 0 (kept_in f.followed (sources f.tracks ms))) three
