-- The variants of a presentation mention its video tracks in their order.
use Rattle.std.proofs.Common.{◌≡◌, ℕ, ◌+◌, ◌^◌, ◌<◌, ◌≤◌, true, List, [], ◌∷◌, ◌++◌, length, map, flat_map, Option, Some, None}
use Rattle.std.proofs.Common.{option_map, IfSome, refl, sym, ◌∙◌, ap, subst, arith}
use Rattle.std.proofs.lemmas.Option.{get_or_from_slice_get, slice_get_within}
use Rattle.std.specs.List.{AllByRecursion, AllZip, range_with_len, slice_get}
use Rattle.bridge_io.specs.{Texts.is_among, declared.media.Kind.Kind, declared.media.Kind.TheVariants.{Video, Text}}
use Rattle.hls_master.specs.{Tracks.{Mentioned, by_variant, firsts_behind}, Variants.VariantValue}
use Rattle.hls_writer.specs.{Attributes.codes_bytes, Renditions.places_of}
use Rattle.hls_writer.specs.Variants.{cast_of, choices, codes_of, members_of, numbers_from, sound_variants, variants_of, variants_with}
use Rattle.hls_writer.specs.Variants.{video_variant}
use Rattle.track_hints.specs.declared.hints.Hints.{Hints}
use Rattle.std.proofs.lemmas.List.{map-append}
use Rattle.presentation.specs.declared.track.Track.{Track}
use Rattle.laws_of_playlists.specs.Tracks.{AreOwnCodes, AreWritable, IsTold}
use Rattle.laws_of_playlists.proofs.{MasterTypes.Variant, MasterCodes.video_is_told, MasterNumbers.IsAudio}
use Rattle.audio_groups.proofs.Places.{Follow}
use Rattle.laws_of_playlists.proofs.MasterFirsts.{AreFree, IsVideoAt, IsWithin, first_block, first_videos, nothing_new}
use Rattle.audio_groups.proofs.Lists.{all_append, all_map, all_of, all_weaker, zip_parts}
use Rattle.laws_of_playlists.proofs.MasterOrder.{AreOf, address_at}
use Rattle.laws_of_playlists.proofs.MasterTold.{AreAddressesApart, MentionVideos, a, each_of, few, follow_videos, v, videos, videos_at}
use Rattle.laws_of_playlists.proofs.MasterTold.{within_audios}

-- ---- the choices of a variant

pub record IsChoice (found : List (Option ℕ)) : Type 0 where
  pub first : Option ℕ
  pub more : List (Option ℕ)
  pub is : found ≡ first ∷ more

numbers_begin : (one : Option ℕ) (found : List (Option ℕ)) (number : ℕ) (groups : List (List ℕ))
    → IsChoice (numbers_from (one ∷ found) number groups)
numbers_begin one found number [] = record { first = one; more = found; is = refl }
numbers_begin one found number (members ∷ groups) = numbers_begin one (found ++ Some number ∷ []) (number + 1) groups

pub some_choice : (groups : List (List ℕ)) → IsChoice (choices groups)
some_choice [] = record { first = None; more = []; is = refl }
some_choice (members ∷ groups) = numbers_begin (Some 0) [] 1 groups

-- ---- what a reader sees of a variant

-- its codecs are those of its tracks, given the tracks of the audio groups
pub record IsSeen (url : List ℕ) (tracks : List Track) (casts : List (List ℕ)) (variant : Variant) (value : VariantValue) : Type 0 where
  pub at : value.address ≡ address_at url variant.track
  pub codecs : value.shown.codecs ≡ option_map codes_bytes (codes_of tracks (cast_of casts (places_of Text tracks) variant))

zip_with : {A B C : Type 0} (R : A → B → Type 0) (P : A → Type 0) (S : A → C → Type 0) (f : B → C)
    → ((a : A) (b : B) → P a → R a b → S a (f b)) → (xs : List A) (ys : List B) → AllByRecursion P xs → AllZip R xs ys
    → AllZip S xs (map f ys)
zip_with R P S f both [] [] all zip = tt
zip_with R P S f both [] (y ∷ ys) all zip = zip
zip_with R P S f both (x ∷ xs) [] all zip = zip
zip_with R P S f both (x ∷ xs) (y ∷ ys) all zip = (both x y all.0 zip.0, zip_with R P S f both xs ys all.1 zip.1)

zip_all : {A B : Type 0} (R : A → B → Type 0) (P : A → Type 0) (Q : B → Type 0) → ((a : A) (b : B) → P a → R a b → Q b)
    → (xs : List A) (ys : List B) → AllByRecursion P xs → AllZip R xs ys → AllByRecursion Q ys
zip_all R P Q each [] [] all zip = tt
zip_all R P Q each [] (y ∷ ys) all zip = absurd zip
zip_all R P Q each (x ∷ xs) [] all zip = tt
zip_all R P Q each (x ∷ xs) (y ∷ ys) all zip = (each x y all.0 zip.0, zip_all R P Q each xs ys all.1 zip.1)

module _ (url : List ℕ) (tracks : List Track) (writable : AreWritable tracks) (apart : AreAddressesApart url) (casts : List (List ℕ)) where
  abbrev address : ℕ → List ℕ
  address = address_at url

  record IsOfVideo (variant : Variant) : Type 0 where
    track : Track
    at : slice_get tracks variant.track ≡ Some track
    video : track.kind ≡ Video
    is : variant.video ≡ Some variant.track

  tells : (variant : Variant) (value : VariantValue) → IsOfVideo variant → IsSeen url tracks casts variant value
      → IsVideoAt address variant.track (by_variant value)
  tells variant value of is =
      let told : IsTold of.track = subst IsTold (get_or_from_slice_get tracks variant.track of.track of.track of.at)
      (writable.told variant.track of.track (slice_get_within tracks variant.track of.track of.at)) in
      let own : IfSome of.track.codecs (AreOwnCodes Video) =
      subst (λ (kind : Kind). IfSome of.track.codecs (AreOwnCodes kind)) of.video told.codecs in
      let cast : cast_of casts (places_of Text tracks) variant ≡ variant.track
      ∷ (members_of casts variant.group ++ places_of Text tracks) = rw of.is refl in (
        video_is_told tracks variant.track _ of.track value of.at own (is.codecs
            ∙ ap (λ places. option_map codes_bytes (codes_of tracks places)) cast),
        is.at,
      )

  -- ---- without video

  no_videos : (sounds : List Variant) (values : List VariantValue)
      → AllByRecursion (λ (variant : Variant). IsAudio tracks variant.track) sounds
      → AllZip (IsSeen url tracks casts) sounds values → (seen : List (List ℕ))
      → ((q : ℕ) → v url tracks writable apart ≤ q → q < v url tracks writable apart + a url tracks writable apart
      → is_among (address q) seen ≡ true)
      → firsts_behind seen (map by_variant values) ≡ []
  no_videos sounds values audio all seen known_audio =
      nothing_new address (2 ^ 64) apart (v url tracks writable apart) (v url tracks writable apart + a url tracks writable apart) seen
      known_audio (map by_variant values) (all_map _ by_variant values
      (zip_all (IsSeen url tracks casts) (λ (variant : Variant). IsAudio tracks variant.track)
      (λ (value : VariantValue). IsWithin address (2 ^ 64) apart (v url tracks writable apart)
      (v url tracks writable apart + a url tracks writable apart) (by_variant value))
      (λ variant value audio is_seen. within_audios url tracks writable apart value.address (variant.track, (audio, is_seen.at)))
      sounds values audio all))

  -- ---- by video

  of_videos : (place : ℕ) (xs : List Track) (options : List (Option ℕ)) → Follow tracks place xs → AreOf Video xs
      → AllByRecursion IsOfVideo (flat_map (λ p. map (video_variant p) options) (range_with_len place (length xs)))
  of_videos place [] options at of = tt
  of_videos place (x ∷ xs) options at of = all_append IsOfVideo (map (video_variant place) options)
      (flat_map (λ p. map (video_variant p) options) (range_with_len (place + 1) (length xs)))
      (all_map IsOfVideo (video_variant place) options
      (all_of _ (λ option. record { track = x; at = at.0; video = of.0; is = refl }) options))
      (of_videos (place + 1) xs options at.1 of.1)

  -- ---- by group

  of_range : (bound place : ℕ) (group : Option ℕ) (xs : List Track) → Follow tracks place xs → AreOf Video xs → place + length xs ≤ bound
      → AllByRecursion (λ p. IsOfVideo (video_variant p group) × (p < bound)) (range_with_len place (length xs))
  of_range bound place group [] at of most = tt
  of_range bound place group (x ∷ xs) at of most = (
    (record { track = x; at = at.0; video = of.0; is = refl }, omega arith),
    of_range bound (place + 1) group xs at.1 of.1 (omega arith),
  )

  of_groups : (xs : List Track) (groups : List (Option ℕ)) → Follow tracks 0 xs → AreOf Video xs
      → AllByRecursion (λ (variant : Variant). IsOfVideo variant × (variant.track < length xs))
      (flat_map (λ group. map (λ p. video_variant p group) (range_with_len 0 (length xs))) groups)
  of_groups xs [] at of = tt
  of_groups xs (group ∷ groups) at of = all_append _ (map (λ p. video_variant p group) (range_with_len 0 (length xs))) _
      (all_map _ (λ p. video_variant p group) (range_with_len 0 (length xs)) (of_range (length xs) 0 group xs at of (omega arith)))
      (of_groups xs groups at of)

  blocks : (xs : List Track) (first : Option ℕ) (more : List (Option ℕ)) (values : List VariantValue) → Follow tracks 0 xs → AreOf Video xs
      → length xs ≤ 2 ^ 64
      → AllZip (IsSeen url tracks casts)
      (flat_map (λ group. map (λ p. video_variant p group) (range_with_len 0 (length xs))) (first ∷ more)) values
      → (seen : List (List ℕ)) → AreFree address (2 ^ 64) apart 0 (0 + length xs) seen
      → AllZip (IsVideoAt address) (range_with_len 0 (length xs)) (firsts_behind seen (map by_variant values))
  blocks xs first more values at of most all seen free =
      let one = map (λ p. video_variant p first) (range_with_len 0 (length xs)) in
      let others = flat_map (λ group. map (λ p. video_variant p group) (range_with_len 0 (length xs))) more in
      let parts = zip_parts (IsSeen url tracks casts) one others values all in
      let told = zip_with (IsSeen url tracks casts) IsOfVideo (λ variant m. IsVideoAt address variant.track m) by_variant tells one parts.0
      (all_map IsOfVideo (λ p. video_variant p first) (range_with_len 0 (length xs))
      (all_weaker (λ p. IsOfVideo (video_variant p first) × (p < length xs)) _ (λ p both. both.0) (range_with_len 0 (length xs))
      (of_range (length xs) 0 first xs at of (omega arith)))) parts.1.1.1.0 in
      let within = zip_all (IsSeen url tracks casts) (λ (variant : Variant). IsOfVideo variant × (variant.track < length xs))
      (λ (value : VariantValue). IsWithin address (2 ^ 64) apart 0 (0 + length xs) (by_variant value))
      (λ variant value both is_seen. (variant.track, (omega arith, (omega (arith, both.1), is_seen.at)))) others parts.1.0
      (of_groups xs more at of) parts.1.1.1.1 in
      subst (λ (ms : List Mentioned). AllZip (IsVideoAt address) (range_with_len 0 (length xs)) (firsts_behind seen ms))
      (sym (ap (map by_variant) parts.1.1.0 ∙ map-append by_variant parts.0 parts.1.0))
      (first_block address (2 ^ 64) apart first (length xs) 0 seen (map by_variant parts.0) (map by_variant parts.1.0) told
      (omega arith) free (λ later known_ones kept_ones. nothing_new address (2 ^ 64) apart 0 (0 + length xs) later known_ones
      (map by_variant parts.1.0) (all_map _ by_variant parts.1.0 within)))

  -- ---- both orders, given what is heard without video

  module _ (audio : AllByRecursion (λ (variant : Variant). IsAudio tracks variant.track) (sound_variants [] 0 casts)) where
    in_turn : (players : Option Hints) (xs : List Track) (values : List VariantValue) → xs ≡ videos url tracks writable apart
        → AllZip (IsSeen url tracks casts) (variants_with players (range_with_len 0 (length xs)) casts) values
        → (seen : List (List ℕ)) → AreFree address (2 ^ 64) apart 0 (0 + length xs) seen
        → ((q : ℕ) → v url tracks writable apart ≤ q → q < v url tracks writable apart + a url tracks writable apart
        → is_among (address q) seen ≡ true)
        → AllZip (IsVideoAt address) (range_with_len 0 (length xs)) (firsts_behind seen (map by_variant values))
    in_turn players [] values is all seen free known_audio =
        rw (no_videos (sound_variants [] 0 casts) values audio all seen known_audio) tt
    in_turn None (x ∷ xs) values is all seen free known_audio =
        let choice = some_choice casts in
        let zipped = zip_with (IsSeen url tracks casts) IsOfVideo (λ variant m. IsVideoAt address variant.track m) by_variant tells
        (flat_map (λ p. map (video_variant p) (choices casts)) (range_with_len 0 (length (x ∷ xs)))) values
        (of_videos 0 (x ∷ xs) (choices casts) (subst (Follow tracks 0) (sym is) (follow_videos url tracks writable apart))
        (subst (AreOf Video) (sym is) (each_of url tracks writable apart Video))) all in
        first_videos address (2 ^ 64) apart (length (x ∷ xs)) 0 choice.first choice.more seen (map by_variant values)
        (subst (λ (options : List (Option ℕ)). AllZip (λ (variant : Variant) m. IsVideoAt address variant.track m)
        (flat_map (λ p. map (video_variant p) options) (range_with_len 0 (length (x ∷ xs)))) (map by_variant values)) choice.is zipped)
        (omega (arith, ap length is, few url tracks writable apart)) free
    in_turn (Some hints) (x ∷ xs) values is all seen free known_audio =
        let choice = some_choice casts in
        blocks (x ∷ xs) choice.first choice.more values (subst (Follow tracks 0) (sym is) (follow_videos url tracks writable apart))
        (subst (AreOf Video) (sym is) (each_of url tracks writable apart Video))
        (omega (arith, ap length is, few url tracks writable apart))
        (subst (λ (options : List (Option ℕ)). AllZip (IsSeen url tracks casts)
        (flat_map (λ group. map (λ p. video_variant p group) (range_with_len 0 (length (x ∷ xs)))) options) values) choice.is all) seen free

    pub mention_videos : (players : Option Hints) (values : List VariantValue)
        → AllZip (IsSeen url tracks casts) (variants_of players tracks casts) values → MentionVideos url tracks writable apart values
    mention_videos players values all = in_turn players (videos url tracks writable apart) values refl
        (subst (λ (places : List ℕ). AllZip (IsSeen url tracks casts) (variants_with players places casts) values)
        (videos_at url tracks writable apart) all)
