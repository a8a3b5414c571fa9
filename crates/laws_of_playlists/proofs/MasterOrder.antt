-- The mentions of the tracks of a presentation, in their order.
use Rattle.std.proofs.Common.{◌≡◌, ℕ, suc, ◌+◌, ◌<◌, ◌≤◌, Bool, true, false, eqb, List, [], ◌∷◌, ◌++◌, ◌⊎◌, length, map}
use Rattle.std.proofs.Common.{get_or, sum_by, Option, Some, refl, sym, ◌∙◌, ap, ap₂, subst, arith, inl, inr, append_assoc}
use Rattle.std.proofs.{Common.append-nil, lemmas.Bool.ne_eqb, lemmas.List.Sums.get_or-le-sum_by}
use Rattle.std.proofs.lemmas.Option.{get_or_from_slice_get, slice_get_within}
use Rattle.std.specs.{Bool.⊤, List.{AllByRecursion, AllZip, range_with_len, slice_get}, List.Sorted.IsNonDecreasingBy}
use Rattle.bridge_io.specs.{declared.media.Kind.Kind, declared.media.Kind.TheVariants.{Video, Audio, Text}}
use Rattle.hls_master.specs.{Addresses.address_value, Renditions.{RenditionValue, same_rendition_set}}
use Rattle.hls_master.specs.Tracks.{Mentioned, by_rendition, by_variant, address_of, kind_of, same_set, variant_kind}
use Rattle.hls_writer.specs.{Attributes.playlist_name, Renditions.{places_from, places_of}}
use Rattle.presentation.specs.{declared.track.Track.Track, Order.is_of}
use Rattle.laws_of_playlists.specs.Master.{heads_from, told_language}
use Rattle.laws_of_playlists.proofs.{MasterFirsts.{IsVideo, IsVideoAt, Stand}}
use Rattle.audio_groups.proofs.Lists.{all_weaker}
use Rattle.audio_groups.proofs.Places.{Follow}
use Rattle.laws_of_playlists.proofs.MasterNames.{same_test}
use Rattle.laws_of_playlists.proofs.MasterSets.{AreGood, kinds_are_same, language_of, mention_head}

-- ---- the places of the tracks of a kind

places_append : (kind : Kind) (found : List ℕ) (place : ℕ) (xs ys : List Track)
    → places_from kind found place (xs ++ ys) ≡ places_from kind (places_from kind found place xs) (place + length xs) ys
places_append kind found place [] ys = ap (λ n. places_from kind found n ys) (omega arith)
places_append kind found place (x ∷ xs) ys = of_case (λ (f : List ℕ). places_append kind f (place + 1) xs ys) (is_of kind x.kind) refl
  where
    of_case : ((f : List ℕ) → places_from kind f (place + 1) (xs ++ ys) ≡ places_from kind (places_from kind f (place + 1) xs)
        (place + 1 + length xs) ys)
        → (b : Bool) → is_of kind x.kind ≡ b → places_from kind found place ((x ∷ xs) ++ ys)
        ≡ places_from kind (places_from kind found place (x ∷ xs)) (place + length (x ∷ xs)) ys
    of_case later true is = rw is (later (found ++ place ∷ [])
        ∙ ap (λ n. places_from kind (places_from kind (found ++ place ∷ []) (place + 1) xs) n ys) (omega arith))
    of_case later false other = rw other (later found
        ∙ ap (λ n. places_from kind (places_from kind found (place + 1) xs) n ys) (omega arith))

places_none : (kind : Kind) (found : List ℕ) (place : ℕ) (xs : List Track) → AllByRecursion (λ (x : Track). is_of kind x.kind ≡ false) xs
    → places_from kind found place xs ≡ found
places_none kind found place [] all = refl
places_none kind found place (x ∷ xs) all = rw all.0 (places_none kind found (place + 1) xs all.1)

places_all : (kind : Kind) (found : List ℕ) (place : ℕ) (xs : List Track) → AllByRecursion (λ (x : Track). is_of kind x.kind ≡ true) xs
    → places_from kind found place xs ≡ found ++ range_with_len place (length xs)
places_all kind found place [] all = sym (append-nil found)
places_all kind found place (x ∷ xs) all = rw all.0 (places_all kind (found ++ place ∷ []) (place + 1) xs all.1
    ∙ append_assoc found (place ∷ []) (range_with_len (place + 1) (length xs)))

pub of_kind : (kind other : Kind) → is_of kind other ≡ true → other ≡ kind
of_kind kind other e = sym (kinds_are_same kind other e)

abbrev pub AreOf : Kind → List Track → Type 0
AreOf kind tracks = AllByRecursion (λ (track : Track). track.kind ≡ kind) tracks

tested : (kind other : Kind) (b : Bool) → is_of other kind ≡ b → (tracks : List Track) → AreOf kind tracks
    → AllByRecursion (λ (x : Track). is_of other x.kind ≡ b) tracks
tested kind other b e = all_weaker (λ (track : Track). track.kind ≡ kind) _ (λ track is. ap (is_of other) is ∙ e)

module _ (xs ys zs : List Track) (videos : AreOf Video xs) (audios : AreOf Audio ys) (texts : AreOf Text zs) where
  pub video_places : places_of Video (xs ++ (ys ++ zs)) ≡ range_with_len 0 (length xs)
  video_places = rw (
    places_append Video [] 0 xs (ys ++ zs),
    places_append Video (places_from Video [] 0 xs) (0 + length xs) ys zs,
    places_all Video [] 0 xs (tested Video Video true refl xs videos),
    places_none Video (range_with_len 0 (length xs)) (0 + length xs) ys (tested Audio Video false refl ys audios),
  )
      (places_none Video (range_with_len 0 (length xs)) (0 + length xs + length ys) zs (tested Text Video false refl zs texts))

  pub audio_places : places_of Audio (xs ++ (ys ++ zs)) ≡ range_with_len (length xs) (length ys)
  audio_places = rw (
    places_append Audio [] 0 xs (ys ++ zs),
    places_append Audio (places_from Audio [] 0 xs) (0 + length xs) ys zs,
    places_none Audio [] 0 xs (tested Video Audio false refl xs videos),
    places_all Audio [] (0 + length xs) ys (tested Audio Audio true refl ys audios),
  )
      (places_none Audio (range_with_len (0 + length xs) (length ys)) (0 + length xs + length ys) zs
      (tested Text Audio false refl zs texts) ∙ ap (λ n. range_with_len n (length ys)) (omega arith))

  pub text_places : places_of Text (xs ++ (ys ++ zs)) ≡ range_with_len (length xs + length ys) (length zs)
  text_places = rw (
    places_append Text [] 0 xs (ys ++ zs),
    places_append Text (places_from Text [] 0 xs) (0 + length xs) ys zs,
    places_none Text [] 0 xs (tested Video Text false refl xs videos),
    places_none Text [] (0 + length xs) ys (tested Audio Text false refl ys audios),
  )
      (places_all Text [] (0 + length xs + length ys) zs (tested Text Text true refl zs texts)
      ∙ ap (λ n. range_with_len n (length zs)) (omega arith))

-- ---- mentions that show tracks

module _ (address : ℕ → List ℕ) where
  pub record IsShown (place : ℕ) (track : Track) (m : Mentioned) : Type 0 where
    pub kind : kind_of m ≡ track.kind
    pub language : language_of m ≡ told_language track.kind track.language
    pub at : address_of m ≡ address place

  abbrev pub AreShown : ℕ → List Track → List Mentioned → Type 0
  AreShown place [] [] = ⊤
  AreShown place [] (m ∷ ms) = ⊥
  AreShown place (track ∷ tracks) [] = ⊥
  AreShown place (track ∷ tracks) (m ∷ ms) = IsShown place track m × AreShown (place + 1) tracks ms

  pub shown_append : (place : ℕ) (xs ys : List Track) (ms ns : List Mentioned) → AreShown place xs ms → AreShown (place + length xs) ys ns
      → AreShown place (xs ++ ys) (ms ++ ns)
  shown_append place [] ys [] ns front rest = subst (λ n. AreShown n ys ns) (omega arith) rest
  shown_append place [] ys (m ∷ ms) ns front rest = absurd front
  shown_append place (x ∷ xs) ys [] ns front rest = absurd front
  shown_append place (x ∷ xs) ys (m ∷ ms) ns front rest =
      (front.0, shown_append (place + 1) xs ys ms ns front.1 (subst (λ n. AreShown n ys ns) (omega arith) rest))

  pub shown_kinds : (kind : Kind) (place : ℕ) (xs : List Track) (ms : List Mentioned) → AreOf kind xs → AreShown place xs ms
      → AllByRecursion (λ m. kind_of m ≡ kind) ms
  shown_kinds kind place [] [] of shown = tt
  shown_kinds kind place [] (m ∷ ms) of shown = absurd shown
  shown_kinds kind place (x ∷ xs) [] of shown = absurd shown
  shown_kinds kind place (x ∷ xs) (m ∷ ms) of shown = (shown.0.kind ∙ of.0, shown_kinds kind (place + 1) xs ms of.1 shown.1)

  pub shown_length : (place : ℕ) (xs : List Track) (ms : List Mentioned) → AreShown place xs ms → length ms ≡ length xs
  shown_length place [] [] shown = refl
  shown_length place [] (m ∷ ms) shown = absurd shown
  shown_length place (x ∷ xs) [] shown = absurd shown
  shown_length place (x ∷ xs) (m ∷ ms) shown = ap suc (shown_length (place + 1) xs ms shown.1)

  pub shown_stand : (place : ℕ) (xs : List Track) (ms : List Mentioned) → AreShown place xs ms → Stand address place ms
  shown_stand place xs [] shown = tt
  shown_stand place [] (m ∷ ms) shown = absurd shown
  shown_stand place (x ∷ xs) (m ∷ ms) shown = (shown.0.at, shown_stand (place + 1) xs ms shown.1)

  pub shown_heads : (folder : List ℕ) (few : ℕ) → ((p : ℕ) → p < few → address p ≡ folder ++ playlist_name p)
      → (place : ℕ) (xs : List Track) (ms : List Mentioned) → place + length xs ≤ few → AreShown place xs ms
      → map mention_head ms ≡ heads_from folder place xs
  shown_heads folder few is place [] [] most shown = refl
  shown_heads folder few is place [] (m ∷ ms) most shown = absurd shown
  shown_heads folder few is place (x ∷ xs) [] most shown = absurd shown
  shown_heads folder few is place (x ∷ xs) (m ∷ ms) most shown =
      let later = shown_heads folder few is (place + 1) xs ms (omega arith) shown.1 in
      rw (shown.0.kind, shown.0.language, shown.0.at, is place (omega arith), later) refl

  pub videos_shown : (place : ℕ) (xs : List Track) (ms : List Mentioned) → AreOf Video xs
      → AllZip (IsVideoAt address) (range_with_len place (length xs)) ms → AreShown place xs ms
  videos_shown place [] [] of all = tt
  videos_shown place [] (m ∷ ms) of all = all
  videos_shown place (x ∷ xs) [] of all = all
  videos_shown place (x ∷ xs) (m ∷ ms) of all = (shown m all.0, videos_shown (place + 1) xs ms of.1 all.1)
    where
      shown : (m : Mentioned) → IsVideoAt address place m → IsShown place x m
      shown (by_rendition r) is = absurd is.0
      shown (by_variant v) is = record {
        kind = is.0 ∙ sym of.0;
        language = sym (ap (λ kind. told_language kind x.language) of.0);
        at = is.1;
      }

-- ---- the renditions of audio and text tracks

abbrev pub address_at : (url : List ℕ) → ℕ → List ℕ
address_at url place = address_value url (playlist_name place)

-- what a reader sees of a track's own rendition
pub record IsOwn (url : List ℕ) (place : ℕ) (track : Track) (r : RenditionValue) : Type 0 where
  pub kind : r.kind ≡ track.kind
  pub language : r.language ≡ track.language
  pub address : r.address ≡ address_at url place

-- those of the tracks of a kind, by their places
abbrev pub AreOwn : (url : List ℕ) → List Track → Kind → (ℕ → RenditionValue) → Type 0
AreOwn url tracks kind own = (place : ℕ) (track : Track) → slice_get tracks place ≡ Some track → track.kind ≡ kind
    → IsOwn url place track (own place)

-- of two tracks of a kind a reader takes the renditions to be of one set exactly where the tracks have one number
abbrev pub AreApart : List Track → Kind → (ℕ → RenditionValue) → (ℕ → Track → ℕ) → Type 0
AreApart tracks kind own number = (p q : ℕ) (t u : Track) → slice_get tracks p ≡ Some t → slice_get tracks q ≡ Some u → t.kind ≡ kind
    → u.kind ≡ kind → same_rendition_set (own p) (own q) ≡ eqb (number p t) (number q u)

pub record AreTold (url : List ℕ) (tracks : List Track) (audio text : ℕ → RenditionValue) : Type 0 where
  pub audios : AreOwn url tracks Audio audio
  pub texts : AreOwn url tracks Text text
  pub sets : AreApart tracks Audio audio (λ place track. track.set)
  pub places : AreApart tracks Text text (λ place track. place)

abbrev pub own_mention : (ℕ → RenditionValue) → ℕ → Mentioned
own_mention own place = by_rendition (own place)

module _ (url : List ℕ) (tracks : List Track) where
  pub owns_shown : (kind : Kind) (own : ℕ → RenditionValue) → ((language : Option (List ℕ)) → told_language kind language ≡ language)
      → AreOwn url tracks kind own → (place : ℕ) (xs : List Track) → Follow tracks place xs → AreOf kind xs
      → AreShown (address_at url) place xs (map (own_mention own) (range_with_len place (length xs)))
  owns_shown kind own told are place [] at of = tt
  owns_shown kind own told are place (x ∷ xs) at of = let is = are place x at.0 of.0 in (
    record {
      kind = is.kind;
      language = is.language ∙ sym (told x.language) ∙ sym (ap (λ kind. told_language kind x.language) of.0);
      at = is.address;
    },
    owns_shown kind own told are (place + 1) xs at.1 of.1,
  )

  -- ---- numbers of sets: one for all video, those of the audio sets, and one for each text track

  abbrev pub most : ℕ
  most = sum_by (λ (track : Track). track.set) tracks

  set_below : (place : ℕ) (track : Track) → slice_get tracks place ≡ Some track → track.set ≤ most
  set_below place track at = subst (λ (t : Track). t.set ≤ most) (get_or_from_slice_get tracks place track track at)
      (get_or-le-sum_by (λ (t : Track). t.set) tracks place track (slice_get_within tracks place track at))

  module _ (audio text : ℕ → RenditionValue) (told : AreTold url tracks audio text) where
    pub record IsAudioOf (r : RenditionValue) (k : ℕ) : Type 0 where
      pub place : ℕ
      pub track : Track
      pub at : slice_get tracks place ≡ Some track
      pub of : track.kind ≡ Audio
      pub is : r ≡ audio place
      pub key : k ≡ suc track.set

    pub record IsTextOf (r : RenditionValue) (k : ℕ) : Type 0 where
      pub place : ℕ
      pub track : Track
      pub at : slice_get tracks place ≡ Some track
      pub of : track.kind ≡ Text
      pub is : r ≡ text place
      pub key : k ≡ suc (suc (most + place))

    abbrev pub Good : Mentioned → ℕ → Type 0
    Good (by_variant v) k = (variant_kind v ≡ Video) × (k ≡ 0)
    Good (by_rendition r) k = IsAudioOf r k ⊎ IsTextOf r k

    audio_kind : (r : RenditionValue) (k : ℕ) → IsAudioOf r k → r.kind ≡ Audio
    audio_kind r k x = ap (λ (r : RenditionValue). r.kind) x.is ∙ (told.audios x.place x.track x.at x.of).kind ∙ x.of

    text_kind : (r : RenditionValue) (k : ℕ) → IsTextOf r k → r.kind ≡ Text
    text_kind r k x = ap (λ (r : RenditionValue). r.kind) x.is ∙ (told.texts x.place x.track x.at x.of).kind ∙ x.of

    audio_sets : (r s : RenditionValue) (k n : ℕ) → IsAudioOf r k → IsAudioOf s n → same_rendition_set r s ≡ eqb k n
    audio_sets r s k n x y = ap₂ same_rendition_set x.is y.is
        ∙ told.sets x.place y.place x.track y.track x.at y.at x.of y.of
        ∙ same_test x.track.set y.track.set k n (λ e. x.key ∙ ap suc e ∙ sym y.key) (λ e. omega (arith, x.key, y.key, e))

    text_sets : (r s : RenditionValue) (k n : ℕ) → IsTextOf r k → IsTextOf s n → same_rendition_set r s ≡ eqb k n
    text_sets r s k n x y = ap₂ same_rendition_set x.is y.is
        ∙ told.places x.place y.place x.track y.track x.at y.at x.of y.of
        ∙ same_test x.place y.place k n (λ e. x.key ∙ ap (λ j. suc (suc (most + j))) e ∙ sym y.key)
        (λ e. omega (arith, x.key, y.key, e))

    pub same_sets : (a b : Mentioned) (k n : ℕ) → Good a k → Good b n → same_set a b ≡ eqb k n
    same_sets (by_variant v) (by_variant w) k n x y = rw (x.0, y.0, x.1, y.1) refl
    same_sets (by_variant v) (by_rendition s) k n x (inl y) = sym (ne_eqb k n (λ e. omega (arith, x.1, y.key, e)))
    same_sets (by_variant v) (by_rendition s) k n x (inr y) = sym (ne_eqb k n (λ e. omega (arith, x.1, y.key, e)))
    same_sets (by_rendition r) (by_variant w) k n (inl x) y = sym (ne_eqb k n (λ e. omega (arith, x.key, y.1, e)))
    same_sets (by_rendition r) (by_variant w) k n (inr x) y = sym (ne_eqb k n (λ e. omega (arith, x.key, y.1, e)))
    same_sets (by_rendition r) (by_rendition s) k n (inl x) (inl y) = audio_sets r s k n x y
    same_sets (by_rendition r) (by_rendition s) k n (inr x) (inr y) = text_sets r s k n x y
    same_sets (by_rendition r) (by_rendition s) k n (inl x) (inr y) =
        rw (audio_kind r k x, text_kind s n y) (sym (ne_eqb k n (λ e. omega (arith, x.key, y.key, set_below x.place x.track x.at, e))))
    same_sets (by_rendition r) (by_rendition s) k n (inr x) (inl y) =
        rw (text_kind r k x, audio_kind s n y) (sym (ne_eqb k n (λ e. omega (arith, x.key, y.key, set_below y.place y.track y.at, e))))

    -- ---- they don't fall

    abbrev pub AreInOrder : ℕ → List Mentioned → Type 0
    AreInOrder = AreGood Good same_sets

    pub order_weaker : (low n : ℕ) (ms : List Mentioned) → low ≤ n → AreInOrder n ms → AreInOrder low ms
    order_weaker low n [] less good = tt
    order_weaker low n (m ∷ ms) less (k, (least, rest)) = (k, (omega arith, rest))

    pub videos_in_order : (place : ℕ) (xs : List Track) (ms rest : List Mentioned)
        → AllZip (IsVideoAt (address_at url)) (range_with_len place (length xs)) ms → AreInOrder 0 rest → AreInOrder 0 (ms ++ rest)
    videos_in_order place [] [] rest all good = good
    videos_in_order place [] (m ∷ ms) rest all good = absurd all
    videos_in_order place (x ∷ xs) [] rest all good = absurd all
    videos_in_order place (x ∷ xs) (m ∷ ms) rest all good =
        (0, (omega arith, (video m all.0.0, videos_in_order (place + 1) xs ms rest all.1 good)))
      where
        video : (m : Mentioned) → IsVideo m → Good m 0
        video (by_rendition r) is = absurd is
        video (by_variant v) is = (is, refl)

    -- sets that don't fall
    abbrev pub Rising : ℕ → List Track → Type 0
    Rising low [] = ⊤
    Rising low (x ∷ xs) = (low ≤ x.set) × Rising x.set xs

    pub rising : (low : ℕ) (xs : List Track) → ((i : ℕ) (d : Track) → i < length xs → low ≤ (get_or xs i d).set)
        → IsNonDecreasingBy (λ (x : Track). x.set) xs → Rising low xs
    rising low [] least order = tt
    rising low (x ∷ xs) least order = (
      least 0 x (omega arith),
      rising x.set xs (λ i d within. order 0 (suc i) d (omega arith) (omega arith))
          (λ i j d less within. order (suc i) (suc j) d (omega arith) (omega arith)),
    )

    pub audios_in_order : (low place : ℕ) (xs : List Track) (rest : List Mentioned) → Follow tracks place xs → AreOf Audio xs
        → Rising low xs → low ≤ most → AreInOrder (suc (suc most)) rest
        → AreInOrder (suc low) (map (own_mention audio) (range_with_len place (length xs)) ++ rest)
    audios_in_order low place [] rest at of up less good = order_weaker (suc low) (suc (suc most)) rest (omega arith) good
    audios_in_order low place (x ∷ xs) rest at of up less good = (
      suc x.set,
      (
        omega (arith, up.0),
        (
          inl (record { place = place; track = x; at = at.0; of = of.0; is = refl; key = refl }),
          audios_in_order x.set (place + 1) xs rest at.1 of.1 up.1 (set_below place x at.0) good,
        ),
      ),
    )

    pub texts_in_order : (low place : ℕ) (xs : List Track) → Follow tracks place xs → AreOf Text xs → low ≤ suc (suc (most + place))
        → AreInOrder low (map (own_mention text) (range_with_len place (length xs)))
    texts_in_order low place [] at of least = tt
    texts_in_order low place (x ∷ xs) at of least = (
      suc (suc (most + place)),
      (
        least,
        (
          inr (record { place = place; track = x; at = at.0; of = of.0; is = refl; key = refl }),
          texts_in_order (suc (suc (most + place))) (place + 1) xs at.1 of.1 (omega arith),
        ),
      ),
    )
