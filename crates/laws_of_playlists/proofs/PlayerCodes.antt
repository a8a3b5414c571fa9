-- The codes of a variant are those of its tracks.
use Rattle.std.proofs.Common.{◌≡◌, ℕ, true, List, [], ◌∷◌, ◌++◌, ◌⊎◌, Option, Some, None, option_and_then, refl, sym, subst}
use Rattle.std.proofs.{Common.{inl, inr}, lemmas.Bool.{cases_Bool, or_cases}, lemmas.List.Elements.All-from_recursion}
use Rattle.std.proofs.lemmas.Slice.Eq.{bytes_eq-Decides}
use Rattle.std.specs.List.{list_any}
use Rattle.presentation.specs.declared.track.Track.{Track}
use Rattle.audio_groups.specs.Groups.{same_text}
use Rattle.hls_writer.specs.Variants.{cast_of, codecs_at, codes_from, codes_in, codes_of, variants_of, with_code, with_codes}
use Rattle.laws_of_playlists.specs.Players.{HaveCode, IsAmong, LackCodecs, TellsCodesOf, VariantsTellTheirCodes}
use Rattle.laws_of_playlists.proofs.{MasterLaid.laid, PlayerLists.{among_back, among_front}}
use Rattle.audio_groups.proofs.Lists.{all_of}

among_either : {X : Type 0} (x : X) (xs ys : List X) → IsAmong x (xs ++ ys) → IsAmong x xs ⊎ IsAmong x ys
among_either x [] ys is = inr is
among_either x (y ∷ xs) ys (inl is) = inl (inl is)
among_either x (y ∷ xs) ys (inr later) = elim (among_either x xs ys later) [
  | inl front ↦ inl (inr front)
  | inr back ↦ inr back
]

same_among : (code : List ℕ) (found : List (List ℕ)) → list_any (same_text code) found ≡ true → IsAmong code found
same_among code [] e = absurd (cc)
same_among code (other ∷ found) e = elim (or_cases (same_text code other) (list_any (same_text code) found) e) [
  | inl is ↦ inl (sym ((bytes_eq-Decides code other).0 is))
  | inr later ↦ inr (same_among code found later)
]

-- ---- one more code, and more of them

one_kept : (x code : List ℕ) (found : List (List ℕ)) → IsAmong x found → IsAmong x (with_code found code)
one_kept x code found is = elim (cases_Bool (list_any (same_text code) found)) [
  | inl there ↦ rw there is
  | inr new ↦ rw new (among_front x found (code ∷ []) is)
]

one_there : (code : List ℕ) (found : List (List ℕ)) → IsAmong code (with_code found code)
one_there code found = elim (cases_Bool (list_any (same_text code) found)) [
  | inl there ↦ rw there (same_among code found there)
  | inr new ↦ rw new (among_back code found (code ∷ []) (inl refl))
]

one_from : (x code : List ℕ) (found : List (List ℕ)) → IsAmong x (with_code found code) → IsAmong x found ⊎ IsAmong x (code ∷ [])
one_from x code found = elim (cases_Bool (list_any (same_text code) found)) [
  | inl there ↦ rw there (λ is. inl is)
  | inr new ↦ rw new (among_either x found (code ∷ []))
]

more_kept : (x : List ℕ) (found codes : List (List ℕ)) → IsAmong x found → IsAmong x (with_codes found codes)
more_kept x found [] is = is
more_kept x found (code ∷ codes) is = more_kept x (with_code found code) codes (one_kept x code found is)

more_there : (x : List ℕ) (found codes : List (List ℕ)) → IsAmong x codes → IsAmong x (with_codes found codes)
more_there x found [] is = absurd is
more_there x found (code ∷ codes) (inl is) = more_kept x (with_code found code) codes
    (subst (λ c. IsAmong c (with_code found code)) is (one_there code found))
more_there x found (code ∷ codes) (inr later) = more_there x (with_code found code) codes later

more_from : (x : List ℕ) (found codes : List (List ℕ)) → IsAmong x (with_codes found codes) → IsAmong x found ⊎ IsAmong x codes
more_from x found [] is = inl is
more_from x found (code ∷ codes) is = elim (more_from x (with_code found code) codes is) [
  | inl one ↦ elim (one_from x code found one) [
    | inl was ↦ inl was
    | inr its ↦ inr (among_front x (code ∷ []) codes its)
  ]
  | inr later ↦ inr (inr later)
]

-- ---- those of tracks

module _ (tracks : List Track) where
  behind : (place : ℕ) (places : List ℕ) (code : List ℕ) → HaveCode tracks places code → HaveCode tracks (place ∷ places) code
  behind place places code has = record { place = has.place; among = inr has.among; text = has.text; at = has.at; has = has.has }

  abbrev Has : (found : List (List ℕ)) → (places : List ℕ) → List ℕ → Type 0
  Has found places code = IsAmong code found ⊎ HaveCode tracks places code

  from : (found : List (List ℕ)) (places : List ℕ) (codes : List (List ℕ)) → codes_from tracks found places ≡ Some codes
      → (code : List ℕ) → IsAmong code codes → Has found places code
  from found [] codes is code there = let same : found ≡ codes = cc in inl (rw same there)
  from found (place ∷ places) codes is code there = of_text (λ (f : List (List ℕ)) e. from f places codes e code there)
      (codecs_at tracks place) refl is
    where
      of_text : ((f : List (List ℕ)) → codes_from tracks f places ≡ Some codes → Has f places code) → (o : Option (List ℕ))
          → codecs_at tracks place ≡ o
          → option_and_then (λ text. codes_from tracks (with_codes found (codes_in text)) places) o ≡ Some codes
          → Has found (place ∷ places) code
      of_text further None at is = absurd (cc)
      of_text further (Some text) at is = elim (further (with_codes found (codes_in text)) is) [
        | inl was ↦ elim (more_from code found (codes_in text) was) [
          | inl before ↦ inl before
          | inr its ↦ inr (record { place = place; among = inl refl; text = text; at = at; has = its })
        ]
        | inr later ↦ inr (behind place places code later)
      ]

  kept : (found : List (List ℕ)) (places : List ℕ) (codes : List (List ℕ)) → codes_from tracks found places ≡ Some codes
      → (code : List ℕ) → IsAmong code found → IsAmong code codes
  kept found [] codes is code there = let same : found ≡ codes = cc in rw (← same) there
  kept found (place ∷ places) codes is code there = of_text (λ (f : List (List ℕ)) e more. kept f places codes e code more)
      (codecs_at tracks place) is
    where
      of_text : ((f : List (List ℕ)) → codes_from tracks f places ≡ Some codes → IsAmong code f → IsAmong code codes)
          → (o : Option (List ℕ))
          → option_and_then (λ text. codes_from tracks (with_codes found (codes_in text)) places) o ≡ Some codes → IsAmong code codes
      of_text further None is = absurd (cc)
      of_text further (Some text) is = further (with_codes found (codes_in text)) is (more_kept code found (codes_in text) there)

  there : (found : List (List ℕ)) (places : List ℕ) (codes : List (List ℕ)) → codes_from tracks found places ≡ Some codes
      → (code : List ℕ) (p : ℕ) (text : List ℕ) → IsAmong p places → codecs_at tracks p ≡ Some text → IsAmong code (codes_in text)
      → IsAmong code codes
  there found [] codes is code p text among at has = absurd among
  there found (place ∷ places) codes is code p text (inl here) at has =
      let its : codecs_at tracks place ≡ Some text = rw here at in
      kept (with_codes found (codes_in text)) places codes (rw its at is) code (more_there code found (codes_in text) has)
  there found (place ∷ places) codes is code p text (inr later) at has =
      of_text (λ (f : List (List ℕ)) e. there f places codes e code p text later at has) (codecs_at tracks place) is
    where
      of_text : ((f : List (List ℕ)) → codes_from tracks f places ≡ Some codes → IsAmong code codes) → (o : Option (List ℕ))
          → option_and_then (λ text. codes_from tracks (with_codes found (codes_in text)) places) o ≡ Some codes → IsAmong code codes
      of_text further None is = absurd (cc)
      of_text further (Some other) is = further (with_codes found (codes_in other)) is

  missing : (found : List (List ℕ)) (places : List ℕ) → codes_from tracks found places ≡ None → LackCodecs tracks places
  missing found [] is = absurd (cc)
  missing found (place ∷ places) is = of_text (λ (f : List (List ℕ)) e. missing f places e) (codecs_at tracks place) refl is
    where
      of_text : ((f : List (List ℕ)) → codes_from tracks f places ≡ None → LackCodecs tracks places) → (o : Option (List ℕ))
          → codecs_at tracks place ≡ o → option_and_then (λ text. codes_from tracks (with_codes found (codes_in text)) places) o ≡ None
          → LackCodecs tracks (place ∷ places)
      of_text further None at is = (place, (inl refl, at))
      of_text further (Some text) at is = let rest = further (with_codes found (codes_in text)) is in
          (rest.0, (inr rest.1.0, rest.1.1))

  tells : (places : List ℕ) → TellsCodesOf tracks places
  unfolding codes_of
  tells places = record {
    no_other = λ codes is code among. elim (from [] places codes is code among) [
      | inl never ↦ absurd never
      | inr has ↦ has
    ];
    each = λ codes is code has. there [] places codes is code has.place has.text has.among has.at has.has;
    missing = λ is. missing [] places is;
  }

pub variants_tell_their_codes : VariantsTellTheirCodes
variants_tell_their_codes players tracks = let l = laid players tracks in
    All-from_recursion _ (variants_of players tracks l.members)
    (all_of _ (λ v. tells tracks (cast_of l.members l.texts v)) (variants_of players tracks l.members))
