-- The tracks that the mentions of a presentation tell.
use Rattle.std.proofs.Common.{◌≡◌, ℕ, zero, suc, ◌+◌, ◌^◌, ◌<◌, ◌≤◌, Bool, true, false, cond, List, [], ◌∷◌, ◌++◌, length, map}
use Rattle.std.proofs.Common.{filter, Some, refl, sym, ◌∙◌, ap, subst, arith, append_assoc}
use Rattle.std.proofs.{Common.{append-nil, length-append}, lemmas.Bool.true≢false, lemmas.List.map-append}
use Rattle.std.proofs.lemmas.List.Elements.{filter-append, filter_passes, recursion_from_All}
use Rattle.std.proofs.lemmas.Option.{same_Some}
use Rattle.std.specs.List.{AllByRecursion, AllZip, range_with_len, slice_get}
use Rattle.bridge_io.specs.{Texts.is_among, declared.media.Kind.Kind, declared.media.Kind.TheVariants.{Video, Audio, Text}}
use Rattle.url_parts.specs.Addresses.{folder_of}
use Rattle.hls_master.specs.Renditions.{RenditionValue, same_kind}
use Rattle.hls_master.specs.Tracks.{Mentioned, by_rendition, by_variant, by_kind, firsts_behind, firsts_of, has_kind, kind_of}
use Rattle.hls_master.specs.{Tracks.{tracks_among, tracks_of}, Variants.VariantValue}
use Rattle.hls_writer.specs.{Attributes.playlist_name, Renditions.places_of}
use Rattle.laws_of_playlists.proofs.MasterFirsts.{AreFree, IsVideoAt, IsWithin, Stand, all_firsts, free_before, seen_audio, seen_then}
use Rattle.laws_of_playlists.proofs.{MasterNumbers.IsAudio}
use Rattle.audio_groups.proofs.Lists.{all_map, all_weaker}
use Rattle.laws_of_playlists.proofs.MasterOrder.{AreInOrder, AreOf, AreShown, AreTold, Good, address_at, audio_places, audios_in_order}
use Rattle.laws_of_playlists.proofs.MasterOrder.{most, of_kind, order_weaker, own_mention, owns_shown, rising, same_sets, shown_append}
use Rattle.laws_of_playlists.proofs.MasterOrder.{shown_heads, shown_kinds, shown_length, shown_stand, text_places, texts_in_order}
use Rattle.laws_of_playlists.proofs.MasterOrder.{video_places, videos_in_order, videos_shown}
use Rattle.audio_groups.proofs.Places.{Follow, follow}
use Rattle.laws_of_playlists.proofs.MasterSets.{mention_head, told_in_order}
use Rattle.presentation.specs.{declared.track.Track.Track, Order.is_of}
use Rattle.audio_groups.specs.Groups.{is_audio}
use Rattle.laws_of_playlists.specs.Master.{head_of, heads_from}
use Rattle.laws_of_playlists.specs.Tracks.{AreWritable, tracks_of_kind}

pub map_twice : {X Y Z : Type 0} (f : Y → Z) (g : X → Y) (xs : List X) → map f (map g xs) ≡ map (λ x. f (g x)) xs
map_twice f g [] = refl
map_twice f g (x ∷ xs) = ap (λ t. f (g x) ∷ t) (map_twice f g xs)

-- ---- mentions by their kinds

kept_kind : (kind other : Kind) (ms : List Mentioned) → AllByRecursion (λ m. kind_of m ≡ other) ms
    → filter (has_kind kind) ms ≡ cond (same_kind kind other) ms []
kept_kind kind other [] all = of_case (same_kind kind other)
  where
    of_case : (b : Bool) → ◌≡◌ {A = List Mentioned} [] (cond b [] [])
    of_case true = refl
    of_case false = refl
kept_kind kind other (m ∷ ms) all = of_case (kept_kind kind other ms all.1) (same_kind kind other) refl
  where
    of_case : filter (has_kind kind) ms ≡ cond (same_kind kind other) ms [] → (b : Bool) → same_kind kind other ≡ b
        → filter (has_kind kind) (m ∷ ms) ≡ cond (same_kind kind other) (m ∷ ms) []
    of_case later true is = rw (all.0, is) (ap (λ t. m ∷ t) (later ∙ rw is refl))
    of_case later false isnt = rw (all.0, isnt) (later ∙ rw isnt refl)

kinds_in_order : (audios texts videos : List Mentioned) → AllByRecursion (λ m. kind_of m ≡ Audio) audios
    → AllByRecursion (λ m. kind_of m ≡ Text) texts → AllByRecursion (λ m. kind_of m ≡ Video) videos
    → by_kind (audios ++ (texts ++ videos)) ≡ videos ++ audios ++ texts
kinds_in_order audios texts videos a t v = rw (
  three Video,
  three Audio,
  three Text,
  kept_kind Video Audio audios a,
  kept_kind Video Text texts t,
  kept_kind Video Video videos v,
  kept_kind Audio Audio audios a,
  kept_kind Audio Text texts t,
  kept_kind Audio Video videos v,
  kept_kind Text Audio audios a,
  kept_kind Text Text texts t,
  kept_kind Text Video videos v,
  append-nil audios,
  append-nil texts,
) refl
  where
    three : (kind : Kind) → filter (has_kind kind) (audios ++ (texts ++ videos)) ≡ filter (has_kind kind) audios
        ++ (filter (has_kind kind) texts ++ filter (has_kind kind) videos)
    three kind = filter-append (has_kind kind) audios (texts ++ videos)
        ∙ ap (λ r. filter (has_kind kind) audios ++ r) (filter-append (has_kind kind) texts videos)

-- ---- where the audio tracks stand

all_get : (P : Track → Type 0) (xs : List Track) (place : ℕ) (track : Track) → AllByRecursion P xs → slice_get xs place ≡ Some track
    → P track
all_get P [] place track all at = absurd (cc)
all_get P (x ∷ xs) zero track all at = subst P (same_Some x track at) all.0
all_get P (x ∷ xs) (suc place) track all at = all_get P xs place track all.1 at

no_audio : (kind : Kind) (track : Track) → is_audio kind ≡ false → track.kind ≡ kind → is_audio track.kind ≡ true → ⊥
no_audio kind track isnt is e = true≢false (sym e ∙ ap is_audio is ∙ isnt)

audio_before : (ys zs : List Track) → AreOf Text zs → (place : ℕ) (track : Track) → slice_get (ys ++ zs) place ≡ Some track
    → is_audio track.kind ≡ true → place < length ys
audio_before [] zs texts place track at audio =
    absurd (no_audio Text track refl (all_get (λ (t : Track). t.kind ≡ Text) zs place track texts at) audio)
audio_before (y ∷ ys) zs texts zero track at audio = omega arith
audio_before (y ∷ ys) zs texts (suc place) track at audio = omega (arith, audio_before ys zs texts place track at audio)

audio_within : (xs ys zs : List Track) → AreOf Video xs → AreOf Text zs → (place : ℕ) (track : Track)
    → slice_get (xs ++ (ys ++ zs)) place ≡ Some track → is_audio track.kind ≡ true → (length xs ≤ place) × (place < length xs + length ys)
audio_within [] ys zs videos texts place track at audio = (omega arith, omega (arith, audio_before ys zs texts place track at audio))
audio_within (x ∷ xs) ys zs videos texts zero track at audio =
    absurd (no_audio Video track refl (subst (λ (t : Track). t.kind ≡ Video) (same_Some x track at) videos.0) audio)
audio_within (x ∷ xs) ys zs videos texts (suc place) track at audio = let rest =
    audio_within xs ys zs videos.1 texts place track at audio in (omega (arith, rest.0), omega (arith, rest.1))

text_at_end : (xs ys zs : List Track) → AreOf Video xs → AreOf Audio ys → (place : ℕ) (track : Track)
    → slice_get (xs ++ (ys ++ zs)) place ≡ Some track → track.kind ≡ Text → length xs + length ys ≤ place
text_at_end [] [] zs videos audios place track at text = omega arith
text_at_end [] (y ∷ ys) zs videos audios zero track at text =
    let never : Audio ≡ Text = sym audios.0 ∙ ap (λ (t : Track). t.kind) (same_Some y track at) ∙ text in absurd (cc)
text_at_end [] (y ∷ ys) zs videos audios (suc place) track at text =
    omega (arith, text_at_end [] ys zs videos audios.1 place track at text)
text_at_end (x ∷ xs) ys zs videos audios zero track at text =
    let never : Video ≡ Text = sym videos.0 ∙ ap (λ (t : Track). t.kind) (same_Some x track at) ∙ text in absurd (cc)
text_at_end (x ∷ xs) ys zs videos audios (suc place) track at text =
    omega (arith, text_at_end xs ys zs videos.1 audios place track at text)

pub follow_front : (tracks : List Track) (place : ℕ) (xs ys : List Track) → Follow tracks place (xs ++ ys) → Follow tracks place xs
follow_front tracks place [] ys at = tt
follow_front tracks place (x ∷ xs) ys at = (at.0, follow_front tracks (place + 1) xs ys at.1)

-- ---- the whole

-- an address is that of an audio track's playlist
abbrev pub IsAudioAt : (url : List ℕ) → List Track → List ℕ → Type 0
IsAudioAt url tracks address = (place : ℕ) × (IsAudio tracks place × (address ≡ address_at url place))

abbrev pub AreAddressesApart : (url : List ℕ) → Type 0
AreAddressesApart url = (p q : ℕ) → p < 2 ^ 64 → q < 2 ^ 64 → address_at url p ≡ address_at url q → p ≡ q

module _ (url : List ℕ) (tracks : List Track) (writable : AreWritable tracks) (apart : AreAddressesApart url) where
  abbrev address : ℕ → List ℕ
  address = address_at url

  abbrev pub videos : List Track
  videos = tracks_of_kind Video tracks

  abbrev audios : List Track
  audios = tracks_of_kind Audio tracks

  abbrev texts : List Track
  texts = tracks_of_kind Text tracks

  pub each_of : (kind : Kind) → AreOf kind (tracks_of_kind kind tracks)
  each_of kind = all_weaker (λ (track : Track). is_of kind track.kind ≡ true) (λ (track : Track). track.kind ≡ kind)
      (λ track e. of_kind kind track.kind e) (tracks_of_kind kind tracks)
      (recursion_from_All _ (tracks_of_kind kind tracks) (filter_passes (λ (track : Track). is_of kind track.kind) tracks))

  parts : tracks ≡ videos ++ (audios ++ texts)
  parts = writable.ordered.kinds

  abbrev pub v : ℕ
  v = length videos

  abbrev pub a : ℕ
  a = length audios

  abbrev pub t : ℕ
  t = length texts

  count : v + a + t ≡ length tracks
  count = omega (arith, ap length parts, length-append videos (audios ++ texts), length-append audios texts)

  pub few : v + a + t ≤ 2 ^ 64
  few = omega (arith, count, writable.few)

  pub audios_at : places_of Audio tracks ≡ range_with_len v a
  audios_at = ap (places_of Audio) parts ∙ audio_places videos audios texts (each_of Video) (each_of Audio) (each_of Text)

  pub texts_at : places_of Text tracks ≡ range_with_len (v + a) t
  texts_at = ap (places_of Text) parts ∙ text_places videos audios texts (each_of Video) (each_of Audio) (each_of Text)

  pub videos_at : places_of Video tracks ≡ range_with_len 0 v
  videos_at = ap (places_of Video) parts ∙ video_places videos audios texts (each_of Video) (each_of Audio) (each_of Text)

  follow_audios : Follow tracks v audios
  follow_audios = follow_front tracks v audios texts (follow tracks videos (audios ++ texts) parts)

  follow_texts : Follow tracks (v + a) texts
  follow_texts = subst (λ n. Follow tracks n texts) (length-append videos audios)
      (follow tracks (videos ++ audios) texts (parts ∙ sym (append_assoc videos audios texts)))

  pub follow_videos : Follow tracks 0 videos
  follow_videos = follow_front tracks 0 videos (audios ++ texts) (follow tracks [] (videos ++ (audios ++ texts)) parts)

  -- where text and audio stand
  pub text_behind : (place : ℕ) (track : Track) → slice_get tracks place ≡ Some track → track.kind ≡ Text → v + a ≤ place
  text_behind place track at text = text_at_end videos audios texts (each_of Video) (each_of Audio) place track
      (sym (ap (λ ts. slice_get ts place) parts) ∙ at) text

  pub within_audios : (m : List ℕ) → IsAudioAt url tracks m
      → (place : ℕ) × ((v ≤ place) × ((place < v + a) × (m ≡ address place)))
  within_audios m (place, ((track, (at, audio)), is)) =
      let there = audio_within videos audios texts (each_of Video) (each_of Text) place track (sym (ap (λ ts. slice_get ts place) parts)
      ∙ at) audio in
      (place, (there.0, (there.1, is)))

  -- variants whose first mentions, behind what is known of audio, are those of all video tracks in order
  abbrev pub MentionVideos : List VariantValue → Type 0
  MentionVideos values = (seen : List (List ℕ)) → AreFree address (2 ^ 64) apart 0 (0 + v) seen
      → ((q : ℕ) → v ≤ q → q < v + a → is_among (address q) seen ≡ true)
      → AllZip (IsVideoAt address) (range_with_len 0 v) (firsts_behind seen (map by_variant values))

  module _ (audio text : ℕ → RenditionValue) (are : AreTold url tracks audio text) (filled : List RenditionValue)
      (filled_are : AllByRecursion (λ (r : RenditionValue). IsAudioAt url tracks r.address) filled)
      (values : List VariantValue) (mention : MentionVideos values)
      (addresses : (p : ℕ) → p < length tracks → address p ≡ folder_of url ++ playlist_name p) where
    abbrev audio_mentions : List Mentioned
    audio_mentions = map (own_mention audio) (range_with_len v a)

    abbrev text_mentions : List Mentioned
    text_mentions = map (own_mention text) (range_with_len (v + a) t)

    abbrev fillers : List Mentioned
    fillers = map by_rendition filled

    abbrev pub renditions : List RenditionValue
    renditions = map audio (range_with_len v a) ++ filled ++ map text (range_with_len (v + a) t)

    renditions_are : map by_rendition renditions ≡ audio_mentions ++ fillers ++ text_mentions
    renditions_are =
        map-append by_rendition (map audio (range_with_len v a) ++ filled) (map text (range_with_len (v + a) t))
        ∙ rw (
          map-append by_rendition (map audio (range_with_len v a)) filled,
          map_twice by_rendition audio (range_with_len v a),
          map_twice by_rendition text (range_with_len (v + a) t),
        ) refl

    audios_are : AreShown address v audios audio_mentions
    audios_are = owns_shown url tracks Audio audio (λ language. refl) are.audios v audios follow_audios (each_of Audio)

    texts_are : AreShown address (v + a) texts text_mentions
    texts_are = owns_shown url tracks Text text (λ language. refl) are.texts (v + a) texts follow_texts (each_of Text)

    audio_length : length audio_mentions ≡ a
    audio_length = shown_length address v audios audio_mentions audios_are

    text_length : length text_mentions ≡ t
    text_length = shown_length address (v + a) texts text_mentions texts_are

    texts_stand : Stand address (v + length audio_mentions) text_mentions
    texts_stand = subst (λ n. Stand address (v + n) text_mentions) (sym audio_length)
        (shown_stand address (v + a) texts text_mentions texts_are)

    audios_stand : Stand address v audio_mentions
    audios_stand = shown_stand address v audios audio_mentions audios_are

    mentions_few : v + length audio_mentions + length text_mentions ≤ 2 ^ 64
    mentions_few = omega (arith, few, audio_length, text_length)

    fillers_within : AllByRecursion (IsWithin address (2 ^ 64) apart v (v + length audio_mentions)) fillers
    fillers_within = all_map _ by_rendition filled
        (all_weaker (λ (r : RenditionValue). IsAudioAt url tracks r.address) _ (λ r is. let there = within_audios r.address is in
        (there.0, (there.1.0, (omega (arith, there.1.1.0, audio_length), there.1.1.1)))) filled filled_are)

    abbrev known_first : List (List ℕ)
    known_first = seen_then address (2 ^ 64) apart v audio_mentions text_mentions audios_stand texts_stand mentions_few

    abbrev video_mentions : List Mentioned
    video_mentions = firsts_behind known_first (map by_variant values)

    videos_are : AllZip (IsVideoAt address) (range_with_len 0 v) video_mentions
    videos_are = mention known_first
        (free_before address (2 ^ 64) apart v audio_mentions text_mentions audios_stand texts_stand mentions_few)
        (λ q least most. seen_audio address (2 ^ 64) apart v audio_mentions text_mentions audios_stand texts_stand mentions_few q least
        (omega (arith, most, audio_length)))

    videos_shown_are : AreShown address 0 videos video_mentions
    videos_shown_are = videos_shown address 0 videos video_mentions (each_of Video) videos_are

    in_order : by_kind (audio_mentions ++ (text_mentions ++ video_mentions)) ≡ video_mentions ++ audio_mentions ++ text_mentions
    in_order = kinds_in_order audio_mentions text_mentions video_mentions
        (shown_kinds address Audio v audios audio_mentions (each_of Audio) audios_are)
        (shown_kinds address Text (v + a) texts text_mentions (each_of Text) texts_are)
        (shown_kinds address Video 0 videos video_mentions (each_of Video) videos_shown_are)

    texts_good : AreInOrder url tracks audio text are (suc (suc (most url tracks))) text_mentions
    texts_good = texts_in_order url tracks audio text are (suc (suc (most url tracks))) (v + a) texts follow_texts (each_of Text)
        (omega arith)

    good : AreInOrder url tracks audio text are 0 (video_mentions ++ audio_mentions ++ text_mentions)
    good = subst (AreInOrder url tracks audio text are 0) (sym (append_assoc video_mentions audio_mentions text_mentions))
        (videos_in_order url tracks audio text are 0 videos video_mentions (audio_mentions ++ text_mentions) videos_are
        (order_weaker url tracks audio text are 0 (suc 0) (audio_mentions ++ text_mentions) (omega arith)
        (audios_in_order url tracks audio text are 0 v audios text_mentions follow_audios (each_of Audio)
        (rising url tracks audio text are 0 audios (λ i d less. omega arith) (writable.ordered.sets Audio))
        (omega arith) texts_good)))

    all_shown : AreShown address 0 tracks (video_mentions ++ audio_mentions ++ text_mentions)
    all_shown = subst (λ (ms : List Mentioned). AreShown address 0 tracks ms)
        (sym (append_assoc video_mentions audio_mentions text_mentions))
        (subst (λ (ts : List Track). AreShown address 0 ts (video_mentions ++ (audio_mentions ++ text_mentions))) (sym parts)
        (shown_append address 0 videos (audios ++ texts) video_mentions (audio_mentions ++ text_mentions) videos_shown_are
        (subst (λ (n : ℕ). AreShown address n (audios ++ texts) (audio_mentions ++ text_mentions)) (omega arith)
        (shown_append address v audios texts audio_mentions text_mentions audios_are texts_are))))

    pub told : map head_of (tracks_of (record { renditions = renditions; variants = values })) ≡ heads_from (folder_of url) 0 tracks
    unfolding tracks_of firsts_of
    told =
        let firsts : firsts_behind [] (map by_rendition renditions ++ map by_variant values)
        ≡ audio_mentions ++ (text_mentions ++ video_mentions) =
        rw renditions_are (all_firsts address (2 ^ 64) apart v audio_mentions text_mentions audios_stand texts_stand mentions_few fillers
        (map by_variant values) fillers_within) in
        ap (λ ms. map head_of (tracks_among values ms)) firsts
        ∙ told_in_order (Good url tracks audio text are) (same_sets url tracks audio text are) 0 values
        (audio_mentions ++ (text_mentions ++ video_mentions)) (subst (AreInOrder url tracks audio text are 0) (sym in_order) good)
        ∙ ap (map mention_head) in_order
        ∙ shown_heads address (folder_of url) (length tracks) addresses 0 tracks (video_mentions ++ audio_mentions ++ text_mentions)
        (omega arith) all_shown
