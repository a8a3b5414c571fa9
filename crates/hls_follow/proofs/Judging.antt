-- What is refused of a track, rule by rule.
use Rattle.std.proofs.Common.{◌≡◌, ◌<◌, ◌+◌, ℕ, List, [], ◌∷◌, map, length, drop, get_or, slice_get, Option, Result, Ok, Err, refl, sym}
use Rattle.std.proofs.Common.{◌∙◌, ap}
use Rattle.bridge_io.specs.{Answer.and_then, Firsts.first_fault}
use Rattle.hls_media.specs.declared.media.Media.{Media}
use Rattle.hls_presentation.specs.Views.{source_of}
use Rattle.hls_presentation.specs.declared.kept.Source.{Source as Held}
use Rattle.layer_faults.specs.declared.hls.HlsFault.{HlsFault}
use Rattle.hls_follow.specs.declared.state.FollowedTrack.{FollowedTrack}
use Rattle.hls_follow.specs.Rules.{fault_of_track}
use Rattle.layer_faults.specs.declared.live.LiveFault.{LiveFault}
use Rattle.hls_follow.specs.Rules.{judged_all}
use Rattle.hls_follow.proofs.Keeping.{left_at}

pub none_refused : (faults : List HlsFault) → Ok tt ≡ first_fault faults → Ok tt ≡ first_fault (map fault_of_track faults)
none_refused [] is = refl
none_refused (fault ∷ faults) is = absurd (cc)

pub one_refused : (faults : List HlsFault) (fault : HlsFault) → Err fault ≡ first_fault faults
    → Err (fault_of_track fault) ≡ first_fault (map fault_of_track faults)
one_refused [] fault is = absurd (cc)
one_refused (f ∷ faults) fault is = (let same : fault ≡ f = cc in rw same refl)

-- ---- one track after another

module _ (judge : ℕ → Option FollowedTrack → Media → Result (Unit {0}) LiveFault) (formers : List FollowedTrack) (place : ℕ)
    (kept : List Held) (i : ℕ) (d : Held) (within : i < length kept) (at : d ≡ get_or kept i d) where
  next_judged : judged_all judge formers place (map source_of (drop i kept))
      ≡ and_then (judge place (slice_get formers place) (source_of d).media)
      (λ _. judged_all judge formers (place + 1) (map source_of (drop (i + 1) kept)))
  next_judged = ap (λ (kept : List Held). judged_all judge formers place (map source_of kept)) (left_at kept i d within at)

  -- a track that is not refused
  pub judged_turn : (former : Option FollowedTrack) (all : Result (Unit {0}) LiveFault) → former ≡ slice_get formers place
      → Ok tt ≡ judge place former (source_of d).media → judged_all judge formers place (map source_of (drop i kept)) ≡ all
      → judged_all judge formers (place + 1) (map source_of (drop (i + 1) kept)) ≡ all
  judged_turn former all is given so_far =
      ap (λ (r : Result (Unit {0}) LiveFault). and_then r (λ _. judged_all judge formers (place + 1) (map source_of (drop (i + 1) kept))))
      (given ∙ ap (λ (f : Option FollowedTrack). judge place f (source_of d).media) is) ∙ sym next_judged ∙ so_far

  -- and one that is
  pub judged_stop : (former : Option FollowedTrack) (fault : LiveFault) (all : Result (Unit {0}) LiveFault)
      → former ≡ slice_get formers place
      → Err fault ≡ judge place former (source_of d).media → judged_all judge formers place (map source_of (drop i kept)) ≡ all
      → Err fault ≡ all
  judged_stop former fault all is given so_far =
      ap (λ (r : Result (Unit {0}) LiveFault). and_then r (λ _. judged_all judge formers (place + 1) (map source_of (drop (i + 1) kept))))
      (given ∙ ap (λ (f : Option FollowedTrack). judge place f (source_of d).media) is) ∙ sym next_judged ∙ so_far
