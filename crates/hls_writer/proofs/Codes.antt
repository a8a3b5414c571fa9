-- The codes of some tracks, each once.
use Rattle.std.proofs.Common.{◌≡◌, ℕ, ◌&&◌, if◌then◌else◌, true, false, List, [], ◌∷◌, slice_get, Option, Some, None, is_some, option_map}
use Rattle.std.proofs.{Common.{option_and_then, unwrap_or, refl, sym, ◌∙◌, ap}, lemmas.Bool.{cond-true, cond-false}}
use Rattle.std.proofs.lemmas.Option.{slice_get-map}
use Rattle.std.specs.List.{list_all}
use Rattle.presentation.specs.declared.track.Track.{Track}
use Rattle.text_lists.specs.Lists.{parts_in, list_at, with_text, with_texts, merged, merged_from}
use Rattle.hls_writer.specs.Variants.{codecs_at, code_lists, codes_from, codes_of, codes_in, has_codes, with_codes}

same_codes : (found codes : List (List ℕ)) → with_codes found codes ≡ with_texts found codes
same_codes found [] = refl
same_codes found (code ∷ codes) = same_codes (with_text found code) codes

chosen : (o : Option Track) → unwrap_or (option_map (λ track. parts_in track.codecs) o) []
    ≡ parts_in (option_and_then (λ track. track.codecs) o)
chosen None = refl
chosen (Some track) = refl

list_of : (tracks : List Track) (place : ℕ) → list_at (code_lists tracks) place ≡ parts_in (codecs_at tracks place)
list_of tracks place = ap (λ o. unwrap_or o []) (slice_get-map (λ track. parts_in track.codecs) tracks place)
    ∙ chosen (slice_get tracks place)

-- what is found where each of the tracks has codes
abbrev merged_where : List Track → List (List ℕ) → List ℕ → Option (List (List ℕ))
merged_where tracks found places = if list_all (has_codes tracks) places then Some (merged_from (code_lists tracks) found places) else None

one_more : (tracks : List Track) (found : List (List ℕ)) (later : List ℕ) (o : Option (List ℕ))
    → ((behind : List (List ℕ)) → codes_from tracks behind later ≡ merged_where tracks behind later)
    → option_and_then (λ text. codes_from tracks (with_codes found (codes_in text)) later) o
    ≡ (if is_some o && list_all (has_codes tracks) later then Some (merged_from (code_lists tracks) (with_texts found (parts_in o)) later)
    else None)
one_more tracks found later None is = refl
one_more tracks found later (Some text) is = rw (same_codes found (codes_in text)) (is (with_texts found (codes_in text)))

pub codes_are_merged : (tracks : List Track) (found : List (List ℕ)) (places : List ℕ)
    → codes_from tracks found places ≡ merged_where tracks found places
codes_are_merged tracks found [] = refl
codes_are_merged tracks found (place ∷ later) = rw (list_of tracks place)
    (one_more tracks found later (codecs_at tracks place) (λ behind. codes_are_merged tracks behind later))

pub codes_missing : (tracks : List Track) (places : List ℕ) → list_all (has_codes tracks) places ≡ false → None ≡ codes_of tracks places
unfolding codes_of
codes_missing tracks places missing = sym (codes_are_merged tracks [] places ∙ cond-false _ _ _ missing)

pub codes_found : (tracks : List Track) (places : List ℕ) → list_all (has_codes tracks) places ≡ true
    → Some (merged (code_lists tracks) places) ≡ codes_of tracks places
unfolding codes_of
codes_found tracks places there = sym (codes_are_merged tracks [] places ∙ cond-true _ _ _ there)
