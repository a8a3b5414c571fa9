-- A master's lines are readable, and what they mention.
use Rattle.std.proofs.Common.{◌≡◌, ℕ, Bool, true, false, List, [], ◌∷◌, ◌++◌, map, flat_map, codes, decimal, cond, All, Option, Some, None}
use Rattle.std.proofs.Common.{option_and_then, IfSome, refl, ◌∙◌, ap, arith, append-nil, append_assoc}
use Rattle.std.proofs.{lemmas.List.Elements.All-from_recursion}
use Rattle.std.specs.{Fmt.digits, List.{AllByRecursion, AllZip}}
use Rattle.bridge_io.specs.declared.place.Place.{Place}
use Rattle.track_hints.specs.declared.hints.Hints.{Hints}
use Rattle.hls_lines.specs.{Attributes.attributes_of, Lines.{behind, start}}
use Rattle.hls_master.specs.{Entries.{MasterEntry, entries_of, known_line, known_lines}, Masters.mentions_in}
use Rattle.hls_master.specs.{Mentions.{entry_rendition, entry_variant}, Variants.{VariantValue, attributes_or_none, variant_with}}
use Rattle.hls_writer.specs.Attributes.{media_type, bandwidth, attributes_bytes, playlist_name}
use Rattle.hls_writer.specs.{Lines.{WrittenLine, header, version, independent_segments, uri, variant, line_bytes}, Master.independent_line}
use Rattle.hls_writer.specs.{Menus.hints_in, Playlists.present, Renditions.{rendition_attributes, rendition_line, renditions_of}}
use Rattle.hls_writer.specs.Variants.{bandwidth_of, cast_of, codes_of, frame_rate_at, size_at, variant_attributes, variant_lines}
use Rattle.hls_writer.specs.Variants.{variants_of}
use Rattle.presentation.specs.declared.track.Track.{Track}
use Rattle.laws_of_playlists.specs.{Master.IsFitFor, ReadLines.{IsReadable, said_from_place}, Tracks.IsTold}
use Rattle.laws_of_playlists.proofs.{LineTexts.{plain_ascii, plain_behind}, MasterLabels.fit_labels, MasterLaid.{IsNamed, are_named, laid}}
use Rattle.laws_of_playlists.proofs.MasterAttributes.{IsFine, attributes_are, carried_text, ends_append, playlist_carried}
use Rattle.laws_of_playlists.proofs.{MasterAttributes.readable_attributes}
use Rattle.audio_groups.proofs.Lists.{all_append, all_map, all_weaker}
use Rattle.laws_of_playlists.proofs.MasterTags.{AreCarried, HasName, codecs_with, codes_carried, once_with, rendition_fine, rendition_read}
use Rattle.laws_of_playlists.proofs.{MasterTags.{seen, with_fine}, MasterTypes.{Rendition, Variant}, MasterVariants.IsSeen}

abbrev entries : Place → List WrittenLine → List MasterEntry
entries place lines = entries_of (known_lines (said_from_place place lines))

module _ (url : List ℕ) (players : Option Hints) (fit : IsFitFor players) (tracks : List Track) (told : All IsTold tracks) where
  -- the lines of variants
  abbrev lines_of : List Variant → List WrittenLine
  lines_of vs = flat_map (variant_lines players tracks (laid players tracks).members (laid players tracks).texts) vs

  abbrev codes_in : Variant → Option (List (List ℕ))
  codes_in v = codes_of tracks (cast_of (laid players tracks).members (laid players tracks).texts v)

  abbrev bits : Variant → ℕ
  bits v = bandwidth_of tracks (laid players tracks).members (laid players tracks).texts v

  abbrev first_variant : Variant → WrittenLine
  first_variant v = variant (bandwidth (bits v)) (variant_attributes players tracks (laid players tracks).texts (codes_in v) v)

  its_codes_carried : (v : Variant) → IfSome (codes_in v) AreCarried
  unfolding codes_of
  its_codes_carried v = codes_carried tracks told [] (cast_of (laid players tracks).members (laid players tracks).texts v) tt

  variant_fine : (v : Variant) → AllByRecursion IsFine (bandwidth (bits v)
      ∷ variant_attributes players tracks (laid players tracks).texts (codes_in v) v)
  variant_fine v = (
    tt,
    with_fine players (codes_in v) (option_and_then (size_at tracks) v.video) (option_and_then (frame_rate_at tracks) v.video) v.group
        (laid players tracks).texts (its_codes_carried v),
  )

  variant_read : (place : Place) (v : Variant)
      → IsSeen url tracks (laid players tracks).members v (variant_with url place (playlist_name v.track) (attributes_or_none (attributes_of
      (attributes_bytes (bandwidth (bits v)) (variant_attributes players tracks (laid players tracks).texts (codes_in v) v)) place)))
  variant_read place v =
      let size = option_and_then (size_at tracks) v.video in
      let rate = option_and_then (frame_rate_at tracks) v.video in
      let texts = (laid players tracks).texts in
      record {
        at = refl;
        codecs = rw (attributes_are (bandwidth (bits v)) (variant_attributes players tracks texts (codes_in v) v) place (variant_fine v)
            (once_with players (codes_in v) size rate v.group (bits v) texts))
            (codecs_with players (codes_in v) size rate v.group (bits v) texts);
      }

  -- ---- entries

  abbrev line_of : Rendition → WrittenLine
  line_of r = rendition_line tracks (hints_in players) r

  abbrev IsIt : Rendition → Type 0
  IsIt r = IsNamed (laid players tracks) r

  its_name : (r : Rendition) → IsIt r → HasName tracks (hints_in players) told (fit_labels players fit) r
  its_name r is = (is.heads, (is.number, is.name))

  record AreRead (rs : List Rendition) (place : Place) (more : List WrittenLine) : Type 0 where
    behind_them : Place
    renditions_read : flat_map (entry_rendition url) (entries place (map line_of rs ++ more))
        ≡ map (seen url tracks (hints_in players)) rs ++ flat_map (entry_rendition url) (entries behind_them more)
    variants_left : flat_map (entry_variant url) (entries place (map line_of rs ++ more))
        ≡ flat_map (entry_variant url) (entries behind_them more)

  read_renditions : (rs : List Rendition) → AllByRecursion IsIt rs → (place : Place) (more : List WrittenLine) → AreRead rs place more
  unfolding known_line
  read_renditions [] are place more = record { behind_them = place; renditions_read = refl; variants_left = refl }
  read_renditions (r ∷ rs) are place more = let later = read_renditions rs are.1 (behind (line_bytes (line_of r)) place) more in record {
    behind_them = later.behind_them;
    renditions_read = rw (rendition_read tracks (hints_in players) told (fit_labels players fit) url place r are.0.known (its_name r are.0))
        (ap (λ t. seen url tracks (hints_in players) r ∷ t) later.renditions_read);
    variants_left = later.variants_left;
  }

  read_variants : (vs : List Variant) (place : Place)
      → (flat_map (entry_rendition url) (entries place (lines_of vs)) ≡ [])
      × AllZip (IsSeen url tracks (laid players tracks).members) vs (flat_map (entry_variant url) (entries place (lines_of vs)))
  unfolding known_line line_bytes
  read_variants [] place = (refl, tt)
  read_variants (v ∷ vs) place = let later =
      read_variants vs (behind (playlist_name v.track) (behind (line_bytes (first_variant v)) place)) in
      (later.0, (variant_read place v, later.1))

  -- what the reader passes
  abbrev head_line : List WrittenLine
  head_line = present (independent_line players ∷ [])

  passed : (place : Place) (more : List WrittenLine) → (after : Place) × (entries place (head_line ++ more) ≡ entries after more)
  unfolding known_line
  passed place more = of_line (independent_line players) (only players)
    where
      IsOnly : Option WrittenLine → Type 0
      IsOnly o = IfSome o (λ line. line ≡ independent_segments)

      only : (players : Option Hints) → IsOnly (independent_line players)
      only None = tt
      only (Some hints) = of_told hints.independent
        where
          of_told : (b : Bool) → IsOnly (cond b (Some independent_segments) None)
          of_told true = refl
          of_told false = tt

      of_line : (o : Option WrittenLine) → IsOnly o
          → (after : Place) × (entries place (present (o ∷ []) ++ more) ≡ entries after more)
      of_line None is = (place, refl)
      of_line (Some line) is = (behind (line_bytes line) place, rw is refl)

  -- ---- readable lines

  rendition_readable : (r : Rendition) → IsIt r → IsReadable (line_of r)
  unfolding line_bytes
  rendition_readable r is = let text = readable_attributes (media_type r.group) (rendition_attributes tracks (hints_in players) r)
      (rendition_fine tracks (hints_in players) told (fit_labels players fit) r is.known (its_name r is)) in record {
        plain = plain_behind (codes "#EXT-X-MEDIA:") _ refl text.plain;
        ends = ends_append (codes "#EXT-X-MEDIA:") (attributes_bytes (media_type r.group)
            (rendition_attributes tracks (hints_in players) r)) text.some text.ends;
        whole = tt;
      }

  variant_readable : (v : Variant) → IsReadable (first_variant v)
  unfolding line_bytes
  variant_readable v = let text = readable_attributes _ _ (variant_fine v) in record {
    plain = plain_behind (codes "#EXT-X-STREAM-INF:") _ refl text.plain;
    ends = ends_append (codes "#EXT-X-STREAM-INF:") _ text.some text.ends;
    whole = tt;
  }

  uri_readable : (place : ℕ) → IsReadable (uri (playlist_name place))
  unfolding line_bytes
  uri_readable place = record {
    plain = plain_ascii (playlist_name place) (carried_text (playlist_name place) (playlist_carried place));
    ends = ends_append (codes "t" ++ decimal place) (codes ".m3u8") (omega arith) refl;
    whole = refl;
  }

  version_readable : IsReadable (version 6)
  unfolding line_bytes digits
  version_readable = record { plain = plain_ascii (codes "#EXT-X-VERSION:6") refl; ends = refl; whole = tt }

  head_readable : AllByRecursion IsReadable head_line
  unfolding line_bytes
  head_readable = of_players players
    where
      of_told : (b : Bool) → AllByRecursion IsReadable (present (cond b (Some independent_segments) None ∷ []))
      of_told true = (record { plain = plain_ascii (codes "#EXT-X-INDEPENDENT-SEGMENTS") refl; ends = refl; whole = tt }, tt)
      of_told false = tt

      of_players : (players : Option Hints) → AllByRecursion IsReadable (present (independent_line players ∷ []))
      of_players None = tt
      of_players (Some hints) = of_told hints.independent

  variants_readable : (vs : List Variant) → AllByRecursion IsReadable (lines_of vs)
  variants_readable [] = tt
  variants_readable (v ∷ vs) = (variant_readable v, (uri_readable v.track, variants_readable vs))

  -- ---- the whole

  abbrev rs : List Rendition
  rs = renditions_of (laid players tracks)

  abbrev vs : List Variant
  vs = variants_of players tracks (laid players tracks).members

  abbrev pub lines_behind : List WrittenLine
  lines_behind = version 6 ∷ (head_line ++ map line_of rs ++ lines_of vs)

  pub all_readable : All IsReadable lines_behind
  all_readable = All-from_recursion IsReadable lines_behind (
    version_readable,
    all_append IsReadable (head_line ++ map line_of rs) (lines_of vs)
        (all_append IsReadable head_line (map line_of rs) head_readable
        (all_map IsReadable line_of rs (all_weaker IsIt _ rendition_readable rs (are_named players tracks))))
        (variants_readable vs),
  )

  -- what the lines mention
  pub mentioned : (values : List VariantValue) × (AllZip (IsSeen url tracks (laid players tracks).members) vs values
      × (mentions_in url (said_from_place start (header ∷ lines_behind))
      ≡ record { renditions = map (seen url tracks (hints_in players)) rs; variants = values }))
  unfolding known_line
  mentioned =
      let place = behind (line_bytes (version 6)) (behind (line_bytes header) start) in
      let head = passed place (map line_of rs ++ lines_of vs) in
      let first = read_renditions rs (are_named players tracks) head.0 (lines_of vs) in
      let left = read_variants vs first.behind_them in
      let together : entries place (head_line ++ map line_of rs ++ lines_of vs) ≡ entries head.0 (map line_of rs ++ lines_of vs) =
      ap (entries place) (append_assoc head_line (map line_of rs) (lines_of vs)) ∙ head.1 in
      let all : flat_map (entry_rendition url) (entries place (head_line ++ map line_of rs ++ lines_of vs))
      ≡ map (seen url tracks (hints_in players)) rs =
      ap (flat_map (entry_rendition url)) together ∙ first.renditions_read
      ∙ rw left.0 (append-nil (map (seen url tracks (hints_in players)) rs)) in
      let others : flat_map (entry_variant url) (entries place (head_line ++ map line_of rs ++ lines_of vs))
      ≡ flat_map (entry_variant url) (entries first.behind_them (lines_of vs)) =
      ap (flat_map (entry_variant url)) together ∙ first.variants_left in (
        flat_map (entry_variant url) (entries first.behind_them (lines_of vs)),
        (left.1, λ i. record { renditions = all i; variants = others i }),
      )
