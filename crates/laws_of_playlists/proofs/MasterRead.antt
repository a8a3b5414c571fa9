-- A master is read as it was written.
use Rattle.std.proofs.Common.{◌≡◌, ℕ, ◌+◌, ◌-◌, ◌^◌, ◌<◌, ◌≤◌, Bool, true, false, not, eqb, leb, List, [], ◌∷◌, ◌++◌, length, map, get_or}
use Rattle.std.proofs.Common.{codes}
use Rattle.std.proofs.Common.{decimal, Option, Some, refl, sym, ◌∙◌, ap, ap₂, subst, arith, append_assoc, append-nil, length-append}
use Rattle.std.proofs.{lemmas.Bool.{and_from, and_parts, le-leb, lt-leb, not-true}, lemmas.Bool.Decides.nat_tests}
use Rattle.std.proofs.{lemmas.Fmt.{decimal_injective, length-decimal-le}, lemmas.List.{append_cancel_left, append_cancel_right, map-append}}
use Rattle.std.proofs.{lemmas.List.Folds.list_all-append, lemmas.Option.{get_or_from_slice_get, slice_get_within}}
use Rattle.std.specs.List.{AllByRecursion, list_all, range_with_len, slice_get}
use Rattle.bridge_io.specs.{Names.{is_name, is_name_byte, is_proper_part, parts_after}, declared.media.Kind.TheVariants.{Audio, Text}}
use Rattle.track_hints.specs.declared.hints.{Hints.Hints, TrackHints.TrackHints}
use Rattle.url_parts.specs.Addresses.{folder_of}
use Rattle.hls_master.specs.{Addresses.address_value, Masters.master_values, Renditions.RenditionValue, Tracks.tracks_of}
use Rattle.hls_writer.specs.{Attributes.playlist_name, Menus.{hints_in, language_at}}
use Rattle.hls_writer.specs.Renditions.{filled_renditions, own_rendition, own_renditions, places_of, renditions_of, text_from}
use Rattle.presentation.specs.declared.track.Track.{Track}
use Rattle.audio_groups.specs.Groups.{is_audio}
use Rattle.laws_of_playlists.specs.{Master.{IsFitFor, MasterIsRead, head_of}, ReadLines.WrittenLinesAreRead}
use Rattle.laws_of_playlists.specs.Tracks.{AreWritable, HaveOneLanguage}
use Rattle.laws_of_playlists.proofs.{WrittenLines.weaker, MasterLabels.{AreFitLabels, fit_labels, name_text, names_apart}}
use Rattle.laws_of_playlists.proofs.MasterLaid.{IsFiller, fillers_are, grouped_as, laid, own_number, own_number_is, sounds_audio, text_at}
use Rattle.laws_of_playlists.proofs.{MasterLaid.texts_are, MasterLines.{all_readable, lines_behind, mentioned}}
use Rattle.laws_of_playlists.proofs.{MasterNames.{by_name, decimal_digits, is_digit}}
use Rattle.audio_groups.proofs.Lists.{all_map, all_weaker}
use Rattle.laws_of_playlists.proofs.{MasterNumbers.{number_apart, number_few, number_of}, MasterOrder.{AreApart, AreTold, address_at}}
use Rattle.laws_of_playlists.proofs.MasterTold.{AreAddressesApart, IsAudioAt, a, audios_at, map_twice, t, text_behind, texts_at}
use Rattle.laws_of_playlists.proofs.{MasterTold.{told, v}, MasterTags.seen, MasterVariants.mention_videos}

-- ---- a track's playlist has a name

digit_named : (b : ℕ) → is_digit b ≡ true → is_name_byte b ≡ true
digit_named b e = grind (arith, nat_tests)

digit_apart : (b : ℕ) → is_digit b ≡ true → not (eqb b 47) ≡ true
digit_apart b e = grind (arith, nat_tests)

one_part : (front text : List ℕ) → list_all (λ b. not (eqb b 47)) text ≡ true → parts_after front text ≡ (front ++ text) ∷ []
one_part front [] all = ap (λ t. t ∷ []) (sym (append-nil front))
one_part front (b ∷ bs) all = let parts = and_parts (not (eqb b 47)) (list_all (λ c. not (eqb c 47)) bs) all in
    rw (not-true (eqb b 47) parts.0) (one_part (front ++ b ∷ []) bs parts.1 ∙ ap (λ t. t ∷ []) (append_assoc front (b ∷ []) bs))

playlist_all : (test : ℕ → Bool) → ((b : ℕ) → is_digit b ≡ true → test b ≡ true) → list_all test (codes "t") ≡ true
    → list_all test (codes ".m3u8") ≡ true → (track : ℕ) → list_all test (playlist_name track) ≡ true
playlist_all test each front back track = rw (
  list_all-append test (codes "t" ++ decimal track) (codes ".m3u8"),
  list_all-append test (codes "t") (decimal track),
  front,
  weaker is_digit test each (decimal track) (decimal_digits track),
) back

playlist_is_name : (track : ℕ) → track < 2 ^ 64 → is_name (playlist_name track) ≡ true
playlist_is_name track few =
    let size : length (playlist_name track) ≡ length (decimal track) + 6 = omega (arith, length-append (decimal track) (codes ".m3u8")) in
    let short = length-decimal-le 20 track (omega arith) (omega arith) few in
    let least : leb 1 (length (playlist_name track)) ≡ true = le-leb _ _ (omega arith) in
    let most : leb (length (playlist_name track)) 255 ≡ true = le-leb _ _ (omega arith) in
    let long : leb (length (playlist_name track)) 2 ≡ false = lt-leb _ _ (omega arith) in
    let proper : list_all is_proper_part (parts_after [] (playlist_name track)) ≡ true =
    rw (one_part [] (playlist_name track) (playlist_all (λ b. not (eqb b 47)) digit_apart refl refl track), long) refl in
    and_from _ _ (and_from _ _ (and_from _ _ least most) (playlist_all is_name_byte digit_named refl refl track)) proper

beside_master : (url : List ℕ) (place : ℕ) → place < 2 ^ 64 → address_at url place ≡ folder_of url ++ playlist_name place
unfolding address_value
beside_master url place few = rw (playlist_is_name place few) refl

apart : (url : List ℕ) → AreAddressesApart url
apart url p q few less e =
    let names : playlist_name p ≡ playlist_name q = append_cancel_left (folder_of url) (playlist_name p) (playlist_name q)
    (sym (beside_master url p few) ∙ e ∙ beside_master url q less) in
    let numbers : decimal p ++ codes ".m3u8" ≡ decimal q ++ codes ".m3u8" = cc in
    decimal_injective p q few less (append_cancel_right (decimal p) (decimal q) (codes ".m3u8") numbers)

-- ---- what is read of the renditions of audio and text

module _ (url : List ℕ) (players : Option Hints) (fit : IsFitFor players) (tracks : List Track) (writable : AreWritable tracks) where
  abbrev hints : List TrackHints
  hints = hints_in players

  abbrev labels : AreFitLabels hints
  labels = fit_labels players fit

  -- the first text track's place
  abbrev first_text : ℕ
  first_text = v url tracks writable (apart url) + a url tracks writable (apart url)

  abbrev audio : ℕ → RenditionValue
  audio place = seen url tracks hints (own_rendition (laid players tracks) place)

  abbrev text : ℕ → RenditionValue
  text place = seen url tracks hints (text_at (laid players tracks) first_text place)

  language_is : (place : ℕ) (track : Track) → slice_get tracks place ≡ Some track → language_at tracks place ≡ track.language
  language_is place track at = rw at refl

  languages_are : (p q : ℕ) (x y : Track) → slice_get tracks p ≡ Some x → slice_get tracks q ≡ Some y → x.kind ≡ y.kind → x.set ≡ y.set
      → language_at tracks p ≡ language_at tracks q
  languages_are p q x y at_p at_q kinds sets =
      let all = writable.ordered.languages p x (slice_get_within tracks p x at_p) q y (slice_get_within tracks q y at_q) in
      let told : HaveOneLanguage x y = subst (λ (t : Track). HaveOneLanguage t y) (get_or_from_slice_get tracks p x x at_p)
      (subst (λ (u : Track). HaveOneLanguage (get_or tracks p x) u) (get_or_from_slice_get tracks q y y at_q) all) in
      language_is p x at_p ∙ told kinds sets ∙ sym (language_is q y at_q)

  few_numbers : (place : ℕ) (track : Track) → slice_get tracks place ≡ Some track → is_audio track.kind ≡ true
      → own_number players tracks place < 2 ^ 64
  few_numbers place track at of =
      let is = grouped_as players tracks in
      let there = is.there place track at in
      let few = number_few (laid players tracks).grouped place there.0 there.1.0 (ap is_audio there.1.1.0 ∙ of)
      (subst (λ n. n < 2 ^ 64) (sym is.few) writable.few) in
      subst (λ n. n < 2 ^ 64) (sym (own_number_is players tracks place track at of ∙ ap (number_of (laid players tracks).grouped)
      (sym there.1.1.1))) few

  sets_apart : AreApart tracks Audio audio (λ place track. track.set)
  sets_apart p q x y at_p at_q of_x of_y =
      let l = laid players tracks in
      let audio_x : is_audio x.kind ≡ true = ap is_audio of_x in
      let audio_y : is_audio y.kind ≡ true = ap is_audio of_y in
      let in_x = (grouped_as players tracks).there p x at_p in
      let in_y = (grouped_as players tracks).there q y at_q in
      by_name (audio p) (audio q) x.set y.set refl
      (λ e.
      let numbers = names_apart hints labels l.heads (language_at tracks p) (language_at tracks q) (own_number players tracks p)
      (own_number players tracks q) (few_numbers p x at_p audio_x) (few_numbers q y at_q audio_y) e in
      sym in_x.1.1.1 ∙ number_apart l.grouped p q in_x.0 in_y.0 in_x.1.0 in_y.1.0 (ap is_audio in_x.1.1.0 ∙ audio_x)
      (ap is_audio in_y.1.1.0 ∙ audio_y) (ap (number_of l.grouped) in_x.1.1.1 ∙ sym (own_number_is players tracks p x at_p audio_x)
      ∙ numbers ∙ own_number_is players tracks q y at_q audio_y ∙ sym (ap (number_of l.grouped) in_y.1.1.1)) ∙ in_y.1.1.1)
      (λ sets.
      let languages = languages_are p q x y at_p at_q (of_x ∙ sym of_y) sets in
      let numbers : own_number players tracks p ≡ own_number players tracks q = own_number_is players tracks p x at_p audio_x
      ∙ ap (number_of l.grouped) sets ∙ sym (own_number_is players tracks q y at_q audio_y) in
      (ap₂ (name_text hints labels l.heads) languages numbers, languages))

  text_within : (place : ℕ) (track : Track) → slice_get tracks place ≡ Some track → track.kind ≡ Text
      → (first_text ≤ place) × (place < 2 ^ 64)
  text_within place track at of = (
    text_behind url tracks writable (apart url) place track at of,
    omega (arith, slice_get_within tracks place track at, writable.few),
  )

  texts_apart : AreApart tracks Text text (λ place track. place)
  texts_apart p q x y at_p at_q of_x of_y =
      let l = laid players tracks in
      let at_x = text_within p x at_p of_x in
      let at_y = text_within q y at_q of_y in
      by_name (text p) (text q) p q refl
      (λ e.
      let numbers : p - first_text ≡ q - first_text = names_apart hints labels l.texts (language_at tracks p) (language_at tracks q)
      (p - first_text) (q - first_text) (omega (arith, at_x.1)) (omega (arith, at_y.1)) e in
      omega (arith, at_x.0, at_y.0, numbers))
      (λ is. (ap (λ n. name_text hints labels l.texts (language_at tracks n) (n - first_text)) is, ap (language_at tracks) is))

  are_told : AreTold url tracks audio text
  are_told = record {
    audios = λ place track at of. record { kind = sym of; language = language_is place track at; address = refl };
    texts = λ place track at of. record { kind = sym of; language = language_is place track at; address = refl };
    sets = sets_apart;
    places = texts_apart;
  }

  -- ---- the whole

  abbrev filled : List RenditionValue
  filled = map (seen url tracks hints) (filled_renditions (laid players tracks) [] 0 (laid players tracks).groups)

  filled_are : AllByRecursion (λ (r : RenditionValue). IsAudioAt url tracks r.address) filled
  filled_are = all_map _ (seen url tracks hints) (filled_renditions (laid players tracks) [] 0 (laid players tracks).groups)
      (all_weaker (IsFiller (laid players tracks)) _ (λ r both. (r.track, (both.0, refl)))
      (filled_renditions (laid players tracks) [] 0 (laid players tracks).groups) (fillers_are players tracks))

  renditions_are : map (seen url tracks hints) (renditions_of (laid players tracks))
      ≡ map audio (range_with_len (v url tracks writable (apart url)) (a url tracks writable (apart url))) ++ filled
      ++ map text (range_with_len first_text (t url tracks writable (apart url)))
  renditions_are =
      let l = laid players tracks in
      let see = seen url tracks hints in
      let fillers = filled_renditions l [] 0 l.groups in
      let own : map see (own_renditions l)
      ≡ map audio (range_with_len (v url tracks writable (apart url)) (a url tracks writable (apart url))) =
      map_twice see (own_rendition l) (places_of Audio tracks) ∙ ap (map audio) (audios_at url tracks writable (apart url)) in
      let said : map see (text_from l [] 0 l.texts) ≡ map text (range_with_len first_text (t url tracks writable (apart url))) =
      ap (map see) (ap (text_from l [] 0) (texts_at url tracks writable (apart url))
      ∙ texts_are l first_text [] 0 first_text (t url tracks writable (apart url)) (omega arith))
      ∙ map_twice see (text_at l first_text) (range_with_len first_text (t url tracks writable (apart url))) in
      map-append see (own_renditions l ++ fillers) (text_from l [] 0 l.texts)
      ∙ rw (map-append see (own_renditions l) fillers, own, said) refl

pub master_is_read : WrittenLinesAreRead → MasterIsRead
unfolding master_values
master_is_read lines_are_read players tracks url fit writable =
    let mentions = mentioned url players fit tracks writable.told in
    let values = mentions.0 in
    let whole = told url tracks writable (apart url) (audio url players fit tracks writable) (text url players fit tracks writable)
    (are_told url players fit tracks writable) (filled url players fit tracks writable) (filled_are url players fit tracks writable) values
    (mention_videos url tracks writable (apart url) (laid players tracks).members (sounds_audio players tracks) players values mentions.1.0)
    (λ place less. beside_master url place (omega (arith, less, writable.few))) in
    rw (
      lines_are_read (lines_behind url players fit tracks writable.told) (all_readable url players fit tracks writable.told),
      mentions.1.1,
    )
    (ap Some (ap (λ (rs : List RenditionValue). map head_of (tracks_of (record { renditions = rs; variants = values })))
    (renditions_are url players fit tracks writable) ∙ whole))
