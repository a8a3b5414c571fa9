-- The renditions that audio groups are made of.
use Rattle.std.proofs.Common.{◌≡◌, ℕ, zero, suc, ◌+◌, ◌<◌, ◌≤◌, Bool, true, ◌&&◌, ◌||◌, cond, eqb, List, [], ◌∷◌, ◌++◌, length, map, take}
use Rattle.std.proofs.Common.{get_or, position, count_by, Option, Some, None, unwrap_or, refl, sym, ◌∙◌, ap, subst, arith, inl, inr, append_assoc}
use Rattle.std.proofs.{Common.le_of_lt, lemmas.Bool.{and_from, and_parts, cases_Bool, cases_order, eq-eqb, or_cases}}
use Rattle.std.proofs.{lemmas.List.{length_push, take-take}, lemmas.List.Folds.list_any_at, lemmas.List.Sums.count_by_more_yes}
use Rattle.std.proofs.{lemmas.List.Sums.sum_by-take-le, lemmas.Option.{get_or_from_slice_get, same_Some, slice_get_within}}
use Rattle.std.proofs.lemmas.Slice.Eq.{bytes_eq-Decides}
use Rattle.std.specs.{Bool.⊤, List.{AllByRecursion, list_any, slice_get}, Option.option_eq}
use Rattle.presentation.specs.declared.track.Track.{Track}
use Rattle.audio_groups.specs.declared.{groups.Rendition.Rendition, groups.Sameness.Sameness}
use Rattle.audio_groups.specs.Groups.{firsts, has_codes_of, is_audio, is_same, rendition_at, renditions_from, same_text}
use Rattle.audio_groups.proofs.Lists.{all_append, any_kept, any_pushed, options_decide, placed}

-- ---- the first of their set or key

module _ (s : Sameness) where
  pub all_firsts : (P : Rendition → Type 0) (found ones : List Rendition) → AllByRecursion P found → AllByRecursion P ones
      → AllByRecursion P (firsts s found ones)
  all_firsts P found [] all more = all
  all_firsts P found (one ∷ ones) all more = elim (cases_Bool (list_any (is_same s one) found)) [
    | inl is ↦ rw is (all_firsts P found ones all more.1)
    | inr isnt ↦ rw isnt (all_firsts P (found ++ one ∷ []) ones (all_append P found (one ∷ []) all (more.0, tt)) more.1)
  ]

module _ (tracks : List Track) where
  -- ---- each audio track has its rendition

  -- tracks stand one after another from a place on
  abbrev pub Follow : ℕ → List Track → Type 0
  Follow place [] = ⊤
  Follow place (track ∷ later) = (slice_get tracks place ≡ Some track) × Follow (place + 1) later

  pub follow : (front later : List Track) → tracks ≡ front ++ later → Follow (length front) later
  follow front [] e = tt
  follow front (track ∷ later) e = (
    ap (λ ts. slice_get ts (length front)) e ∙ get_at front,
    subst (λ n. Follow n later) (length_push front track)
        (follow (front ++ track ∷ []) later (e ∙ sym (append_assoc front (track ∷ []) later))),
  )
    where
      get_at : (front : List Track) → slice_get (front ++ track ∷ later) (length front) ≡ Some track
      get_at [] = refl
      get_at (x ∷ xs) = get_at xs

  pub record IsAt (one : Rendition) : Type 0 where
    pub track : Track
    pub at : slice_get tracks one.place ≡ Some track
    pub audio : is_audio track.kind ≡ true
    pub is : one ≡ rendition_at tracks one.place track

  pub all_at : (found : List Rendition) (place : ℕ) (later : List Track) → Follow place later → AllByRecursion IsAt found
      → AllByRecursion IsAt (renditions_from tracks found place later)
  all_at found place [] at all = all
  all_at found place (track ∷ later) at all = elim (cases_Bool (is_audio track.kind)) [
    | inl is ↦ rw is (all_at (found ++ rendition_at tracks place track ∷ []) (place + 1) later at.1
        (all_append IsAt found (rendition_at tracks place track ∷ []) all (record { track = track; at = at.0; audio = is; is = refl }, tt)))
    | inr isnt ↦ rw isnt (all_at found (place + 1) later at.1 all)
  ]

  module _ (q : Rendition → Bool) where
    keeps : (found : List Rendition) (place : ℕ) (later : List Track) → list_any q found ≡ true
        → list_any q (renditions_from tracks found place later) ≡ true
    keeps found place [] e = e
    keeps found place (track ∷ later) e = elim (cases_Bool (is_audio track.kind)) [
      | inl is ↦ rw is (keeps (found ++ rendition_at tracks place track ∷ []) (place + 1) later
          (any_kept q found (rendition_at tracks place track) e))
      | inr isnt ↦ rw isnt (keeps found (place + 1) later e)
    ]

    pub finds : (found : List Rendition) (place : ℕ) (later : List Track) (k n : ℕ) (track : Track) → n ≡ place + k
        → slice_get later k ≡ Some track → is_audio track.kind ≡ true → q (rendition_at tracks n track) ≡ true
        → list_any q (renditions_from tracks found place later) ≡ true
    finds found place [] k n track sum at audio passes = absurd (cc)
    finds found place (x ∷ later) zero n track sum at audio passes =
        let is : x ≡ track = same_Some x track at in
        let here : n ≡ place = omega arith in
        rw (ap (λ (t : Track). is_audio t.kind) is, audio) (keeps (found ++ rendition_at tracks place x ∷ []) (place + 1) later
        (any_pushed q found (rendition_at tracks place x) (rw (is, ← here) passes)))
    finds found place (x ∷ later) (suc k) n track sum at audio passes = elim (cases_Bool (is_audio x.kind)) [
      | inl is ↦ rw is (finds (found ++ rendition_at tracks place x ∷ []) (place + 1) later k n track (omega arith) at audio passes)
      | inr isnt ↦ rw isnt (finds found (place + 1) later k n track (omega arith) at audio passes)
    ]

  -- ---- the number of a track's codes stands for its codecs

  codes_decide : (x y : Option (List ℕ)) → option_eq same_text x y ≡ true → x ≡ y
  codes_decide x y = (options_decide same_text bytes_eq-Decides x y).0

  abbrev codes_at : ℕ → Track → ℕ
  codes_at place track = unwrap_or (position (has_codes_of track) tracks) place

  has_its_codes : (place : ℕ) (track : Track) → slice_get tracks place ≡ Some track → is_audio track.kind ≡ true
      → list_any (has_codes_of track) tracks ≡ true
  has_its_codes place track at audio =
      let itself : has_codes_of track track ≡ true = and_from (is_audio track.kind) _ audio
      ((options_decide same_text bytes_eq-Decides track.codecs track.codecs).1 refl) in
      let here : has_codes_of track (get_or tracks place track) ≡ true = rw (get_or_from_slice_get tracks place track track at) itself in
      list_any_at (has_codes_of track) tracks place track (slice_get_within tracks place track at) here

  -- the first track with a track's codes has them
  own_codes : (place : ℕ) (track : Track) → slice_get tracks place ≡ Some track → is_audio track.kind ≡ true → (d : Track)
      → track.codecs ≡ (get_or tracks (codes_at place track) d).codecs
  own_codes place track at audio d =
      let first = placed (has_codes_of track) tracks (has_its_codes place track at audio) in
      codes_decide track.codecs (get_or tracks (codes_at place track) d).codecs
      (rw first.is (and_parts (is_audio (get_or tracks first.place d).kind) _ (first.passes d)).1)

  pub same_codecs : (p q : ℕ) (t u : Track) → slice_get tracks p ≡ Some t → slice_get tracks q ≡ Some u → is_audio t.kind ≡ true
      → is_audio u.kind ≡ true → codes_at p t ≡ codes_at q u → t.codecs ≡ u.codecs
  same_codecs p q t u at_p at_q audio_t audio_u codes = own_codes p t at_p audio_t t ∙ ap (λ n. (get_or tracks n t).codecs) codes
      ∙ sym (own_codes q u at_q audio_u t)

  pub same_codes : (p q : ℕ) (t u : Track) → slice_get tracks p ≡ Some t → is_audio t.kind ≡ true → t.codecs ≡ u.codecs
      → codes_at p t ≡ codes_at q u
  same_codes p q t u at_p audio_t codecs =
      let first = placed (has_codes_of t) tracks (has_its_codes p t at_p audio_t) in
      let other : position (has_codes_of u) tracks ≡ Some first.place =
      ap (λ (c : Option (List ℕ)). position (λ (track : Track). is_audio track.kind && option_eq same_text c track.codecs) tracks) (sym codecs)
      ∙ first.is in
      rw (first.is, other) refl
