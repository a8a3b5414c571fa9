-- Which mentions of a master are the first of their addresses.
use Rattle.std.proofs.Common.{◌≡◌, ℕ, zero, suc, ◌+◌, ◌<◌, ◌≤◌, true, false, List, [], ◌∷◌, ◌++◌, length, map, flat_map, Option, bytes_eq}
use Rattle.std.proofs.{Common.{refl, sym, ◌∙◌, ap, arith, inl, inr, append_assoc, append-nil}, lemmas.Bool.{cases_lt, false_from_ne_true}}
use Rattle.std.proofs.{lemmas.Bool.{or_from, or_left, or_right}, lemmas.Slice.Eq.bytes_eq-Decides}
use Rattle.std.specs.{Bool.⊤, List.{AllByRecursion, AllZip, range_with_len}}
use Rattle.bridge_io.proofs.Texts.{equals_itself}
use Rattle.bridge_io.specs.{Texts.is_among, declared.media.Kind.TheVariants.Video}
use Rattle.hls_master.specs.Tracks.{Mentioned, by_rendition, by_variant, address_of, firsts_behind, variant_kind}
use Rattle.hls_writer.specs.Variants.{video_variant}
use Rattle.laws_of_playlists.proofs.{MasterTypes.Variant}
use Rattle.audio_groups.proofs.Lists.{all_weaker, zip_parts}

-- what is among addresses stays out of the first mentions
pub known : (ms rest : List Mentioned) (seen : List (List ℕ)) → AllByRecursion (λ m. is_among (address_of m) seen ≡ true) ms
    → firsts_behind seen (ms ++ rest) ≡ firsts_behind seen rest
known [] rest seen all = refl
known (m ∷ ms) rest seen all = rw all.0 (known ms rest seen all.1)

-- addresses behind those of mentions
abbrev pub behind : List (List ℕ) → List Mentioned → List (List ℕ)
behind seen [] = seen
behind seen (m ∷ ms) = behind (address_of m ∷ seen) ms

pub kept : (text : List ℕ) (seen : List (List ℕ)) (ms : List Mentioned) → is_among text seen ≡ true → is_among text (behind seen ms) ≡ true
kept text seen [] e = e
kept text seen (m ∷ ms) e = kept text (address_of m ∷ seen) ms (or_right (bytes_eq text (address_of m)) (is_among text seen) e)

-- a mention of a video track
abbrev pub IsVideo : Mentioned → Type 0
IsVideo (by_rendition rendition) = ⊥
IsVideo (by_variant variant) = variant_kind variant ≡ Video

module _ (address : ℕ → List ℕ) where
  -- mentions of places from one on
  abbrev pub Stand : ℕ → List Mentioned → Type 0
  Stand place [] = ⊤
  Stand place (m ∷ ms) = (address_of m ≡ address place) × Stand (place + 1) ms

  abbrev pub IsVideoAt : ℕ → Mentioned → Type 0
  IsVideoAt place m = IsVideo m × (address_of m ≡ address place)

module _ (address : ℕ → List ℕ) (bound : ℕ) (apart : (p q : ℕ) → p < bound → q < bound → address p ≡ address q → p ≡ q) where
  abbrev pub AreFree : (from to : ℕ) → List (List ℕ) → Type 0
  AreFree from to seen = (q : ℕ) → from ≤ q → q < to → is_among (address q) seen ≡ false

  different : (p q : ℕ) → p < bound → q < bound → (p ≡ q → ⊥) → bytes_eq (address p) (address q) ≡ false
  different p q small least other = false_from_ne_true _
      (λ e. other (apart p q small least ((bytes_eq-Decides (address p) (address q)).0 e)))

  free_more : (from to place : ℕ) (text : List ℕ) (seen : List (List ℕ)) → to ≤ bound → place < bound → text ≡ address place
      → ((q : ℕ) → from ≤ q → q < to → q ≡ place → ⊥) → AreFree from to seen → AreFree from to (text ∷ seen)
  free_more from to place text seen few less is other free q least most =
      or_from _ _ (ap (bytes_eq (address q)) is ∙ different q place (omega arith) less (other q least most)) (free q least most)

  pub fresh : (place : ℕ) (seen : List (List ℕ)) (ms rest : List Mentioned) → Stand address place ms → place + length ms ≤ bound
      → AreFree place (place + length ms) seen
      → firsts_behind seen (ms ++ rest) ≡ ms ++ firsts_behind (behind seen ms) rest
  fresh place seen [] rest stand few free = refl
  fresh place seen (m ∷ ms) rest stand few free =
      let new : is_among (address_of m) seen ≡ false = ap (λ text. is_among text seen) stand.0 ∙ free place (omega arith) (omega arith) in
      let later : AreFree (place + 1) (place + 1 + length ms) seen = λ q least most. free q (omega arith) (omega arith) in
      rw new (ap (λ t. m ∷ t) (fresh (place + 1) (address_of m ∷ seen) ms rest stand.1 (omega arith)
      (free_more (place + 1) (place + 1 + length ms) place (address_of m) seen (omega arith) (omega arith) stand.0
      (λ q least most e. omega arith) later)))

  pub free_behind : (from to place : ℕ) (seen : List (List ℕ)) (ms : List Mentioned) → Stand address place ms → to ≤ bound
      → place + length ms ≤ bound → ((q : ℕ) → from ≤ q → q < to → place ≤ q → q < place + length ms → ⊥)
      → AreFree from to seen → AreFree from to (behind seen ms)
  free_behind from to place seen [] stand few most other free = free
  free_behind from to place seen (m ∷ ms) stand few most other free =
      free_behind from to (place + 1) (address_of m ∷ seen) ms stand.1 few (omega arith)
      (λ q least less at end. other q least less (omega arith) (omega arith))
      (free_more from to place (address_of m) seen few (omega arith) stand.0
      (λ q least less e. other q least less (omega arith) (omega arith)) free)

  pub seen_behind : (place : ℕ) (seen : List (List ℕ)) (ms : List Mentioned) → Stand address place ms → (q : ℕ) → place ≤ q
      → q < place + length ms → is_among (address q) (behind seen ms) ≡ true
  seen_behind place seen [] stand q least most = absurd (omega arith)
  seen_behind place seen (m ∷ ms) stand q least most = elim (cases_lt place q) [
    | inl less ↦ seen_behind (place + 1) (address_of m ∷ seen) ms stand.1 q (omega arith) (omega arith)
    | inr isnt ↦ let is : q ≡ place = omega arith in
        kept (address q) (address_of m ∷ seen) ms (or_left _ _ (ap (bytes_eq (address q)) (stand.0 ∙ sym (ap address is))
        ∙ equals_itself (address q)))
  ]

  -- ---- variants

  abbrev pub TellsVideo : Variant → Mentioned → Type 0
  TellsVideo variant m = IsVideoAt address variant.track m

  all_known : (place : ℕ) (seen : List (List ℕ)) (choices : List (Option ℕ)) (ms : List Mentioned)
      → AllZip TellsVideo (map (video_variant place) choices) ms → is_among (address place) seen ≡ true
      → AllByRecursion (λ m. is_among (address_of m) seen ≡ true) ms
  all_known place seen [] [] all e = tt
  all_known place seen [] (m ∷ ms) all e = absurd all
  all_known place seen (choice ∷ choices) [] all e = absurd all
  all_known place seen (choice ∷ choices) (m ∷ ms) all e = (
    ap (λ text. is_among text seen) all.0.1
        ∙ e,
    all_known place seen choices ms all.1 e,
  )

  -- of each video track the first one
  pub first_videos : (count place : ℕ) (choice : Option ℕ) (choices : List (Option ℕ)) (seen : List (List ℕ)) (ms : List Mentioned)
      → AllZip TellsVideo (flat_map (λ p. map (video_variant p) (choice ∷ choices)) (range_with_len place count)) ms
      → place + count ≤ bound → AreFree place (place + count) seen
      → AllZip (IsVideoAt address) (range_with_len place count) (firsts_behind seen ms)
  first_videos zero place choice choices seen [] all few free = tt
  first_videos zero place choice choices seen (m ∷ ms) all few free = absurd all
  first_videos (suc count) place choice choices seen [] all few free = absurd all
  first_videos (suc count) place choice choices seen (m ∷ ms) all few free =
      let parts = zip_parts TellsVideo (map (video_variant place) choices)
      (flat_map (λ p. map (video_variant p) (choice ∷ choices)) (range_with_len (place + 1) count)) ms all.1 in
      let new : is_among (address_of m) seen ≡ false = ap (λ text. is_among text seen) all.0.1 ∙ free place (omega arith) (omega arith) in
      let now : is_among (address place) (address_of m ∷ seen) ≡ true = or_left _ _ (ap (bytes_eq (address place)) all.0.1
      ∙ equals_itself (address place)) in
      let left : firsts_behind (address_of m ∷ seen) ms ≡ firsts_behind (address_of m ∷ seen) parts.1.0 =
      ap (firsts_behind (address_of m ∷ seen)) parts.1.1.0
      ∙ known parts.0 parts.1.0 (address_of m ∷ seen) (all_known place (address_of m ∷ seen) choices parts.0 parts.1.1.1.0 now) in
      let later : AreFree (place + 1) (place + 1 + count) seen = λ q least most. free q (omega arith) (omega arith) in
      rw (new, left) (
        all.0,
        first_videos count (place + 1) choice choices (address_of m ∷ seen) parts.1.0 parts.1.1.1.1 (omega arith)
            (free_more (place + 1) (place + 1 + count) place (address_of m) seen (omega arith) (omega arith) all.0.1
            (λ q least most e. omega arith) later),
      )

  -- where there are all of them in each choice, the first choice has them all
  pub first_block : (choice : Option ℕ) (count place : ℕ) (seen : List (List ℕ)) (ms rest : List Mentioned)
      → AllZip TellsVideo (map (λ p. video_variant p choice) (range_with_len place count)) ms → place + count ≤ bound
      → AreFree place (place + count) seen
      → ((later : List (List ℕ)) → ((q : ℕ) → place ≤ q → q < place + count → is_among (address q) later ≡ true)
      → ((text : List ℕ) → is_among text seen ≡ true → is_among text later ≡ true) → firsts_behind later rest ≡ [])
      → AllZip (IsVideoAt address) (range_with_len place count) (firsts_behind seen (ms ++ rest))
  first_block choice zero place seen [] rest all few free none =
      rw (none seen (λ q least most. absurd (omega arith)) (λ text e. e)) tt
  first_block choice zero place seen (m ∷ ms) rest all few free none = absurd all
  first_block choice (suc count) place seen [] rest all few free none = absurd all
  first_block choice (suc count) place seen (m ∷ ms) rest all few free none =
      let new : is_among (address_of m) seen ≡ false = ap (λ text. is_among text seen) all.0.1 ∙ free place (omega arith) (omega arith) in
      let later : AreFree (place + 1) (place + 1 + count) seen = λ q least most. free q (omega arith) (omega arith) in
      rw new (
        all.0,
        first_block choice count (place + 1) (address_of m ∷ seen) ms rest all.1 (omega arith)
            (free_more (place + 1) (place + 1 + count) place (address_of m) seen (omega arith) (omega arith) all.0.1
            (λ q least most e. omega arith) later)
            (λ more known_more kept_more. none more (λ q least most. elim (cases_lt place q) [
              | inl less ↦ known_more q (omega arith) (omega arith)
              | inr isnt ↦ let is : q ≡ place = omega arith in
                  kept_more (address q) (or_left _ _ (ap (bytes_eq (address q)) (all.0.1 ∙ sym (ap address is))
                  ∙ equals_itself (address q)))
            ]) (λ text e. kept_more text (or_right (bytes_eq text (address_of m)) (is_among text seen) e))),
      )

  -- ---- the whole

  abbrev pub IsWithin : (from to : ℕ) → Mentioned → Type 0
  IsWithin from to m = (place : ℕ) × ((from ≤ place) × ((place < to) × (address_of m ≡ address place)))

  all_within : (from to : ℕ) (seen : List (List ℕ)) → ((q : ℕ) → from ≤ q → q < to → is_among (address q) seen ≡ true)
      → (ms : List Mentioned) → AllByRecursion (IsWithin from to) ms → AllByRecursion (λ m. is_among (address_of m) seen ≡ true) ms
  all_within from to seen is = all_weaker (IsWithin from to) _ (λ m within. ap (λ text. is_among text seen) within.1.1.1
      ∙ is within.0 within.1.0 within.1.1.0)

  pub nothing_new : (from to : ℕ) (seen : List (List ℕ)) → ((q : ℕ) → from ≤ q → q < to → is_among (address q) seen ≡ true)
      → (ms : List Mentioned) → AllByRecursion (IsWithin from to) ms → firsts_behind seen ms ≡ []
  nothing_new from to seen is ms within = ap (firsts_behind seen) (sym (append-nil ms))
      ∙ known ms [] seen (all_within from to seen is ms within)

  module _ (first : ℕ) (audios texts : List Mentioned) (audios_stand : Stand address first audios)
      (texts_stand : Stand address (first + length audios) texts) (few : first + length audios + length texts ≤ bound) where
    abbrev pub seen_then : List (List ℕ)
    seen_then = behind (behind [] audios) texts

    -- audio, text, and then what is new of the variants
    pub all_firsts : (fillers variants : List Mentioned) → AllByRecursion (IsWithin first (first + length audios)) fillers
        → firsts_behind [] ((audios ++ fillers ++ texts) ++ variants) ≡ audios ++ (texts ++ firsts_behind seen_then variants)
    all_firsts fillers variants known_ones =
        ap (firsts_behind []) (append_assoc (audios ++ fillers) texts variants ∙ append_assoc audios fillers (texts ++ variants))
        ∙ fresh first [] audios (fillers ++ (texts ++ variants)) audios_stand (omega arith) (λ q least most. refl)
        ∙ ap (λ t. audios ++ t) (
        known fillers (texts ++ variants) (behind [] audios) (all_within first (first + length audios) (behind [] audios)
        (seen_behind first [] audios audios_stand) fillers known_ones)
        ∙ fresh (first + length audios) (behind [] audios) texts variants texts_stand few
        (free_behind (first + length audios) (first + length audios + length texts) first [] audios audios_stand few (omega arith)
        (λ q least most at end. omega arith) (λ q least most. refl)))

    pub free_before : AreFree 0 (0 + first) seen_then
    free_before = free_behind 0 (0 + first) (first + length audios) (behind [] audios) texts texts_stand (omega arith) few
        (λ q least most at end. omega arith)
        (free_behind 0 (0 + first) first [] audios audios_stand (omega arith) (omega arith) (λ q least most at end. omega arith)
        (λ q least most. refl))

    pub seen_audio : (q : ℕ) → first ≤ q → q < first + length audios → is_among (address q) seen_then ≡ true
    seen_audio q least most = kept (address q) (behind [] audios) texts (seen_behind first [] audios audios_stand q least most)
