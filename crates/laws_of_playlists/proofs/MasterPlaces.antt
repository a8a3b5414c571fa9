-- The renditions that audio groups are made of.
use Rattle.std.proofs.Common.{◌≡◌, ℕ, zero, suc, ◌+◌, ◌<◌, ◌≤◌, Bool, true, ◌&&◌, ◌||◌, cond, eqb, List, [], ◌∷◌, ◌++◌, length, map, take}
use Rattle.std.proofs.Common.{get_or, position, count_by, Option, Some, unwrap_or, refl, sym, ◌∙◌, ap, subst, arith, inl, inr, append_assoc}
use Rattle.std.proofs.{Common.le_of_lt, lemmas.Bool.{and_from, and_parts, cases_Bool, cases_order, eq-eqb, or_cases}}
use Rattle.std.proofs.{lemmas.List.{length_push, take-take}, lemmas.List.Folds.list_any_at, lemmas.List.Sums.count_by_more_yes}
use Rattle.std.proofs.{lemmas.List.Sums.sum_by-take-le, lemmas.Option.{get_or_from_slice_get, same_Some, slice_get_within}}
use Rattle.std.proofs.lemmas.Slice.Eq.{bytes_eq-Decides}
use Rattle.std.specs.{Bool.⊤, List.{AllByRecursion, list_any, slice_get}, Option.option_eq}
use Rattle.presentation.specs.declared.track.Track.{Track}
use Rattle.audio_groups.specs.Groups.{has_codes_of, is_audio, rendition_at, renditions_from, same_text}
use Rattle.audio_groups.specs.Keys.{is_same_key, keys_from, with_key}
use Rattle.audio_groups.proofs.{Lists.{all_append, any_kept, any_pushed, any_wider, options_decide}, Places.same_codecs}
use Rattle.laws_of_playlists.proofs.MasterTypes.{AudioTrack, Key, firsts, same_key}

-- ---- the first of their set or key

module _ (s : AudioTrack → AudioTrack → Bool) where
  pub all_firsts : (P : AudioTrack → Type 0) (found ones : List AudioTrack) → AllByRecursion P found → AllByRecursion P ones
      → AllByRecursion P (firsts s found ones)
  all_firsts P found [] all more = all
  all_firsts P found (one ∷ ones) all more = elim (cases_Bool (list_any (s one) found)) [
    | inl is ↦ rw is (all_firsts P found ones all more.1)
    | inr isnt ↦ rw isnt (all_firsts P (found ++ one ∷ []) ones (all_append P found (one ∷ []) all (more.0, tt)) more.1)
  ]

  pub firsts_append : (found xs ys : List AudioTrack) → firsts s found (xs ++ ys) ≡ firsts s (firsts s found xs) ys
  firsts_append found [] ys = refl
  firsts_append found (x ∷ xs) ys = elim (cases_Bool (list_any (s x) found)) [
    | inl is ↦ rw is (firsts_append found xs ys)
    | inr isnt ↦ rw isnt (firsts_append (found ++ x ∷ []) xs ys)
  ]

  pub firsts_few : (found ones : List AudioTrack) → length (firsts s found ones) ≤ length found + length ones
  firsts_few found [] = omega arith
  firsts_few found (one ∷ ones) = elim (cases_Bool (list_any (s one) found)) [
    | inl is ↦ rw is (omega (arith, firsts_few found ones))
    | inr isnt ↦ rw isnt (omega (arith, firsts_few (found ++ one ∷ []) ones, length_push found one))
  ]

  module _ (q : AudioTrack → Bool) where
    firsts_keep : (found ones : List AudioTrack) → list_any q found ≡ true → list_any q (firsts s found ones) ≡ true
    firsts_keep found [] e = e
    firsts_keep found (one ∷ ones) e = elim (cases_Bool (list_any (s one) found)) [
      | inl is ↦ rw is (firsts_keep found ones e)
      | inr isnt ↦ rw isnt (firsts_keep (found ++ one ∷ []) ones (any_kept q found one e))
    ]

    pub firsts_have : ((x y : AudioTrack) → s x y ≡ true → q x ≡ true → q y ≡ true) → (found ones : List AudioTrack)
        → list_any q ones ≡ true → list_any q (firsts s found ones) ≡ true
    firsts_have alike found [] e = absurd (cc)
    firsts_have alike found (one ∷ ones) e = elim (or_cases (q one) (list_any q ones) e) [
      | inl here ↦ elim (cases_Bool (list_any (s one) found)) [
        | inl is ↦ rw is (firsts_keep found ones (any_wider (s one) q (λ y same. alike one y same here) found is))
        | inr isnt ↦ rw isnt (firsts_keep (found ++ one ∷ []) ones (any_pushed q found one here))
      ]
      | inr later ↦ elim (cases_Bool (list_any (s one) found)) [
        | inl is ↦ rw is (firsts_have alike found ones later)
        | inr isnt ↦ rw isnt (firsts_have alike (found ++ one ∷ []) ones later)
      ]
    ]

-- ---- the keys of the groups

abbrev pub key_of : AudioTrack → Key
key_of one = record { codes = one.codes; rank = one.rank }

any_key : (one : AudioTrack) (found : List AudioTrack) → list_any (is_same_key (key_of one)) (map key_of found)
    ≡ list_any (same_key one) found
any_key one [] = refl
any_key one (other ∷ found) = ap (λ b. same_key one other || b) (any_key one found)

map_pushed : (found : List AudioTrack) (one : AudioTrack) → map key_of found ++ key_of one ∷ [] ≡ map key_of (found ++ one ∷ [])
map_pushed [] one = refl
map_pushed (x ∷ found) one = ap (λ t. key_of x ∷ t) (map_pushed found one)

key_found : (one : AudioTrack) (found : List AudioTrack) → with_key (map key_of found) (key_of one)
    ≡ map key_of (firsts same_key found (one ∷ []))
key_found one found = elim (cases_Bool (list_any (same_key one) found)) [
  | inl is ↦ rw (any_key one found, is) refl
  | inr isnt ↦ rw (any_key one found, isnt) (map_pushed found one)
]

module _ (tracks : List Track) where
  pub keys_are : (found : List AudioTrack) (place : ℕ) (later : List Track)
      → keys_from tracks (map key_of (firsts same_key [] found)) place later
      ≡ map key_of (firsts same_key [] (renditions_from tracks found place later))
  keys_are found place [] = refl
  keys_are found place (track ∷ later) = elim (cases_Bool (is_audio track.kind)) [
    | inl is ↦ rw (
      is,
      key_found (rendition_at tracks place track) (firsts same_key [] found),
      ← firsts_append same_key [] found (rendition_at tracks place track ∷ []),
    )
        (keys_are (found ++ rendition_at tracks place track ∷ []) (place + 1) later)
    | inr isnt ↦ rw isnt (keys_are found (place + 1) later)
  ]

  pub renditions_few : (found : List AudioTrack) (place : ℕ) (later : List Track)
      → length (renditions_from tracks found place later) ≤ length found + length later
  renditions_few found place [] = omega arith
  renditions_few found place (track ∷ later) = elim (cases_Bool (is_audio track.kind)) [
    | inl is ↦ rw is (omega (
      arith,
      renditions_few (found ++ rendition_at tracks place track ∷ []) (place + 1) later,
      length_push found (rendition_at tracks place track),
    ))
    | inr isnt ↦ rw isnt (omega (arith, renditions_few found (place + 1) later))
  ]

  -- ---- set, codes and rank tell a track

  abbrev alike : (set : ℕ) (codecs : Option (List ℕ)) → Track → Bool
  alike set codecs other = eqb set other.set && (is_audio other.kind && option_eq same_text codecs other.codecs)

  rank_below : (p q : ℕ) (track : Track) → slice_get tracks p ≡ Some track → is_audio track.kind ≡ true → p < q → q ≤ length tracks
      → count_by (alike track.set track.codecs) (take p tracks) < count_by (alike track.set track.codecs) (take q tracks)
  rank_below p q track at audio less most =
      let test = alike track.set track.codecs in
      let itself : test (get_or tracks p track) ≡ true = rw (
        get_or_from_slice_get tracks p track track at,
        eq-eqb track.set track.set refl,
        audio,
      ) ((options_decide same_text bytes_eq-Decides track.codecs track.codecs).1 refl) in
      let more = count_by_more_yes test tracks p track (slice_get_within tracks p track at) itself in
      let front : take (p + 1) (take q tracks) ≡ take (p + 1) tracks = take-take (p + 1) q tracks (omega arith) in
      let within : count_by test (take (p + 1) tracks) ≤ count_by test (take q tracks) =
      subst (λ (t : List Track). count_by test t ≤ count_by test (take q tracks)) front
      (sum_by-take-le (λ x. cond (test x) 1 0) (take q tracks) (p + 1)) in
      omega (arith, more, within)

  not_before : (p q : ℕ) (t u : Track) → slice_get tracks p ≡ Some t → slice_get tracks q ≡ Some u → is_audio t.kind ≡ true
      → is_audio u.kind ≡ true → t.set ≡ u.set
      → (rendition_at tracks p t).codes ≡ (rendition_at tracks q u).codes → (rendition_at tracks p t).rank ≡ (rendition_at tracks q u).rank
      → p < q → ⊥
  not_before p q t u at_p at_q audio_t audio_u set codes rank less =
      let codecs : t.codecs ≡ u.codecs = same_codecs tracks p q t u at_p at_q audio_t audio_u codes in
      let same : count_by (alike t.set t.codecs) (take q tracks) ≡ count_by (alike u.set u.codecs) (take q tracks) =
      rw (set, codecs) refl in
      omega (arith, rank_below p q t at_p audio_t less (le_of_lt (slice_get_within tracks q u at_q)), rank, same)

  pub same_place : (p q : ℕ) (t u : Track) → slice_get tracks p ≡ Some t → slice_get tracks q ≡ Some u → is_audio t.kind ≡ true
      → is_audio u.kind ≡ true → t.set ≡ u.set
      → (rendition_at tracks p t).codes ≡ (rendition_at tracks q u).codes → (rendition_at tracks p t).rank ≡ (rendition_at tracks q u).rank
      → p ≡ q
  same_place p q t u at_p at_q audio_t audio_u set codes rank = elim (cases_order p q) [
    | inl is ↦ is
    | inr (inl less) ↦ absurd (not_before p q t u at_p at_q audio_t audio_u set codes rank less)
    | inr (inr more) ↦ absurd (not_before q p u t at_q at_p audio_u audio_t (sym set) (sym codes) (sym rank) more)
  ]
