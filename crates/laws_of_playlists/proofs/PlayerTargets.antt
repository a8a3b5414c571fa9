-- The target durations that video and audio share.
use Rattle.std.proofs.Common.{◌≡◌, ℕ, zero, suc, ◌+◌, ◌<◌, ◌≤◌, false, max, List, [], ◌∷◌, Some, refl, ◌∙◌, ap, arith, inl, inr, ◌⊎◌}
use Rattle.std.proofs.{lemmas.Bool.{cases_Bool, cases_lt}, lemmas.Option.same_Some}
use Rattle.std.specs.List.{slice_get}
use Rattle.bridge_io.specs.declared.media.Kind.{Kind, TheVariants.{Video, Audio, Text}}
use Rattle.presentation.specs.{declared.track.Track.Track, Order.is_of}
use Rattle.hls_writer.specs.{Finished.{greatest_from, own_target, shared_target}}
use Rattle.laws_of_playlists.specs.Players.{IsSeenOrHeard, TargetsAreShared}
use Rattle.audio_groups.proofs.Places.{Follow, follow}

no_text : (tracks : List Track) (place : ℕ) (track : Track) → slice_get tracks place ≡ Some track → is_of Text track.kind ≡ false
    → IsSeenOrHeard tracks place
no_text tracks place track at other = of_kind track.kind refl other
  where
    of_kind : (kind : Kind) → track.kind ≡ kind → is_of Text kind ≡ false → IsSeenOrHeard tracks place
    of_kind Video is other = inl (record { track = track; at = at; of = is })
    of_kind Audio is other = inr (record { track = track; at = at; of = is })
    of_kind Text is other = absurd (cc)

module _ (tracks : List Track) (own : ℕ → ℕ) where
  above : (most place : ℕ) (later : List Track) → most ≤ greatest_from own most place later
  above most place [] = omega arith
  above most place (track ∷ later) = elim (cases_Bool (is_of Text track.kind)) [
    | inl is ↦ rw is (above most (place + 1) later)
    | inr isnt ↦ rw isnt (omega (arith, above (max most (own place)) (place + 1) later))
  ]

  -- each of those from a place on
  above_own : (most place : ℕ) (later : List Track) → (k : ℕ) (track : Track) → slice_get later k ≡ Some track
      → is_of Text track.kind ≡ false → own (place + k) ≤ greatest_from own most place later
  above_own most place [] k track at isnt = absurd (cc)
  above_own most place (x ∷ later) zero track at isnt =
      let other : is_of Text x.kind ≡ false = ap (λ (t : Track). is_of Text t.kind) (same_Some x track at) ∙ isnt in
      let here : own (place + 0) ≡ own place = ap own (omega arith) in
      rw other (omega (arith, here, above (max most (own place)) (place + 1) later))
  above_own most place (x ∷ later) (suc k) track at isnt =
      let same : own (place + suc k) ≡ own (place + 1 + k) = ap own (omega arith) in
      elim (cases_Bool (is_of Text x.kind)) [
        | inl is ↦ rw (is, same) (above_own most (place + 1) later k track at isnt)
        | inr other ↦ rw (other, same) (above_own (max most (own place)) (place + 1) later k track at isnt)
      ]

  abbrev IsReached : ℕ → Type 0
  IsReached n = (s : ℕ) × (IsSeenOrHeard tracks s × (own s ≡ n))

  reached : (most place : ℕ) (later : List Track) → Follow tracks place later
      → (greatest_from own most place later ≡ most) ⊎ IsReached (greatest_from own most place later)
  reached most place [] at = inl refl
  reached most place (track ∷ later) at = elim (cases_Bool (is_of Text track.kind)) [
    | inl is ↦ rw is (reached most (place + 1) later at.1)
    | inr isnt ↦ rw isnt (elim (reached (max most (own place)) (place + 1) later at.1) [
      | inl kept ↦ elim (cases_lt most (own place)) [
        | inl less ↦ inr (place, (no_text tracks place track at.0 isnt, omega (arith, kept, less)))
        | inr upto ↦ inl (omega (arith, kept, upto))
      ]
      | inr found ↦ inr found
    ])
  ]

seen_kind : (tracks : List Track) (t : ℕ) → IsSeenOrHeard tracks t
    → (track : Track) × ((slice_get tracks t ≡ Some track) × (is_of Text track.kind ≡ false))
seen_kind tracks t (inl video) = (video.track, (video.at, ap (is_of Text) video.of))
seen_kind tracks t (inr audio) = (audio.track, (audio.at, ap (is_of Text) audio.of))

pub targets_are_shared : TargetsAreShared
targets_are_shared p unit = record {
  target = shared_target p unit;
  shared = λ t is. let it = seen_kind p.tracks t is in rw (it.1.0, it.1.1) refl;
  most = λ t is. most_own t is;
  own = λ t is. elim (reached p.tracks (own_target p unit) 0 0 p.tracks (follow p.tracks [] p.tracks refl)) [
    | inl none ↦ absurd (omega (arith, none, most_own t is, some t))
    | inr found ↦ found
  ];
  texts = λ t is. rw (is.at, ap (is_of Text) is.of) refl;
}
  where
    some : (t : ℕ) → 0 < own_target p unit t
    some t = omega arith

    most_own : (t : ℕ) → IsSeenOrHeard p.tracks t → own_target p unit t ≤ shared_target p unit
    most_own t is = let it = seen_kind p.tracks t is in
        let here : own_target p unit (0 + t) ≡ own_target p unit t = ap (own_target p unit) (omega arith) in
        omega (arith, here, above_own p.tracks (own_target p unit) 0 0 p.tracks t it.0 it.1.0 it.1.1)
