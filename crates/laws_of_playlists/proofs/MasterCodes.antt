-- A variant of a video track is told as video.
use Rattle.url_parts.specs.declared.code.CodeClass.TheVariants as class
use Rattle.std.proofs.Common.{◌≡◌, ℕ, Bool, true, false, not, ◌&&◌, cond, eqb, List, [], ◌∷◌, ◌++◌, map, flat_map, Option, Some, None}
use Rattle.std.proofs.Common.{option_map, option_and_then, IfSome, refl, sym, ◌∙◌, ap, subst, inl, inr, append-nil}
use Rattle.std.proofs.{lemmas.Bool.{cases_Bool, or_left, or_parts}, lemmas.List.Elements.All-from_recursion}
use Rattle.std.proofs.lemmas.List.Splits.{slice_split_at, slice_split_none}
use Rattle.std.specs.List.{AllByRecursion, list_any, slice_split, onto_first, slice_get}
use Rattle.bridge_io.specs.declared.media.Kind.TheVariants.{Video, Audio}
use Rattle.url_parts.specs.{declared.code.CodeClass.CodeClass, Codes.class_of}
use Rattle.mpd_values.specs.{declared.blank.Blank.TheVariants.Space, Blanks.trimmed, Codecs.{agrees, codes_of, is_foreign}}
use Rattle.hls_master.specs.{Codes.{belongs, has_code, is_of}, Tracks.variant_kind, Variants.VariantValue}
use Rattle.hls_writer.specs.{Attributes.codes_bytes, Variants.{codecs_at, codes_from, codes_in, with_codes, codes_of as codes_written}}
use Rattle.presentation.specs.declared.track.Track.{Track}
use Rattle.audio_groups.specs.Groups.{same_text}
use Rattle.laws_of_playlists.specs.Tracks.{AreOwnCodes}

abbrev is_comma : ℕ → Bool
is_comma b = eqb b 44

-- ---- the first code of a list

record Begins (codes : List (List ℕ)) (code : List ℕ) : Type 0 where
  more : List (List ℕ)
  is : codes ≡ code ∷ more

split_begins : (text : List ℕ) → (code : List ℕ) × (Begins (slice_split is_comma text) code × (list_any is_comma code ≡ false))
split_begins [] = ([], (record { more = []; is = refl }, refl))
split_begins (b ∷ bs) = elim (cases_Bool (is_comma b)) [
  | inl is ↦ ([], (record { more = slice_split is_comma bs; is = rw is refl }, refl))
  | inr isnt ↦ let rest = split_begins bs in
      (b ∷ rest.0, (record { more = rest.1.0.more; is = rw isnt (ap (onto_first b) rest.1.0.is) }, rw isnt rest.1.1))
]

none_of : (code : List ℕ) → list_any is_comma code ≡ false → AllByRecursion (λ b. is_comma b ≡ false) code
none_of [] e = tt
none_of (b ∷ bs) e = let parts = or_parts (is_comma b) (list_any is_comma bs) e in (parts.0, none_of bs parts.1)

joined_begins : (code : List ℕ) (others : List (List ℕ)) → list_any is_comma code ≡ false
    → Begins (slice_split is_comma (codes_bytes (code ∷ others))) code
joined_begins code [] free = record {
  more = [];
  is = rw (append-nil code) (slice_split_none is_comma code (All-from_recursion _ code (none_of code free)));
}
joined_begins code (other ∷ others) free = record {
  more = slice_split is_comma (other ++ flat_map (λ o. 44 ∷ o) others);
  is = slice_split_at is_comma code 44 (other ++ flat_map (λ o. 44 ∷ o) others) (All-from_recursion _ code (none_of code free)) refl;
}

-- ---- it stays the first one

codes_begin : (code : List ℕ) (found codes : List (List ℕ)) → Begins (with_codes (code ∷ found) codes) code
codes_begin code found [] = record { more = found; is = refl }
codes_begin code found (other ∷ codes) = elim (cases_Bool (list_any (same_text other) (code ∷ found))) [
  | inl is ↦ let rest = codes_begin code found codes in record { more = rest.more; is = rw is rest.is }
  | inr isnt ↦ let rest = codes_begin code (found ++ other ∷ []) codes in record { more = rest.more; is = rw isnt rest.is }
]

module _ (tracks : List Track) where
  all_begin : (code : List ℕ) (found : List (List ℕ)) (places : List ℕ)
      → IfSome (codes_from tracks (code ∷ found) places) (λ codes. Begins codes code)
  all_begin code found [] = record { more = found; is = refl }
  all_begin code found (place ∷ places) = of_codecs (λ (f : List (List ℕ)). all_begin code f places) (codecs_at tracks place)
    where
      of_codecs : ((f : List (List ℕ)) → IfSome (codes_from tracks (code ∷ f) places) (λ codes. Begins codes code)) → (o : Option (List ℕ))
          → IfSome (option_and_then (λ text. codes_from tracks (with_codes (code ∷ found) (codes_in text)) places) o)
          (λ codes. Begins codes code)
      of_codecs later None = tt
      of_codecs later (Some text) = let first = codes_begin code found (codes_in text) in
          subst (λ (f : List (List ℕ)). IfSome (codes_from tracks f places) (λ codes. Begins codes code)) (sym first.is) (later first.more)

  of_text : (text : List ℕ) (places : List ℕ) → IfSome (codes_from tracks (with_codes [] (codes_in text)) places)
      (λ codes. Begins codes (split_begins text).0)
  of_text text places = let first = split_begins text in let rest = codes_begin first.0 [] first.1.0.more in
      subst (λ (f : List (List ℕ)). IfSome (codes_from tracks f places) (λ codes. Begins codes first.0))
      (sym (ap (with_codes []) first.1.0.is ∙ rest.is)) (all_begin first.0 rest.more places)

-- ---- its class

of_video : (c : CodeClass) → not (agrees Video c) ≡ false → belongs Video c ≡ true
of_video class.Video e = refl
of_video class.Unknown e = refl
of_video class.Audio e = absurd (cc)
of_video class.Text e = absurd (cc)

first_is_own : (text : List ℕ) → AreOwnCodes Video text → is_of Video (trimmed Space (split_begins text).0) ≡ true
unfolding codes_of
first_is_own text own = let first = split_begins text in
    let none : list_any (is_foreign Video) (map (trimmed Space) (first.0 ∷ first.1.0.more)) ≡ false = rw first.1.0.is at own.own in
    of_video (class_of (trimmed Space first.0)) (or_parts (is_foreign Video (trimmed Space first.0)) _ none).0

has_video : (codes : List (List ℕ)) (code : List ℕ) → Begins codes code → list_any is_comma code ≡ false
    → is_of Video (trimmed Space code) ≡ true → has_code Video (codes_bytes codes) ≡ true
unfolding has_code codes_of
has_video codes code begins free own = let joined = joined_begins code begins.more free in
    rw (begins.is, joined.is) (or_left (is_of Video (trimmed Space code)) _ own)

-- a variant whose codes are those of tracks, of which the first one is video
pub video_is_told : (tracks : List Track) (place : ℕ) (places : List ℕ) (track : Track) (variant : VariantValue)
    → slice_get tracks place ≡ Some track → IfSome track.codecs (AreOwnCodes Video)
    → variant.shown.codecs ≡ option_map codes_bytes (codes_written tracks (place ∷ places)) → variant_kind variant ≡ Video
unfolding codes_written
video_is_told tracks place places track variant at own is = of_codecs track.codecs own (is ∙ ap (option_map codes_bytes) (rw at refl))
  where
    neither : (b : Bool) → cond (b && not true) Audio Video ≡ Video
    neither true = refl
    neither false = refl

    of_codes : (text : List ℕ) → AreOwnCodes Video text → (o : Option (List (List ℕ)))
        → IfSome o (λ codes. Begins codes (split_begins text).0) → variant.shown.codecs ≡ option_map codes_bytes o
        → variant_kind variant ≡ Video
    of_codes text own None begin e = rw e refl
    of_codes text own (Some codes) begin e =
        let has = has_video codes (split_begins text).0 begin (split_begins text).1.1 (first_is_own text own) in
        rw (e, has) (neither (has_code Audio (codes_bytes codes)))

    of_codecs : (o : Option (List ℕ)) → IfSome o (AreOwnCodes Video)
        → variant.shown.codecs ≡ option_map codes_bytes
        (option_and_then (λ text. codes_from tracks (with_codes [] (codes_in text)) places) o) → variant_kind variant ≡ Video
    of_codecs None own e = rw e refl
    of_codecs (Some text) own e = of_codes text own (codes_from tracks (with_codes [] (codes_in text)) places)
        (of_text tracks text places) e
