-- The addresses of the tracks of a master that is read are of bytes.
use Rattle.std.proofs.Common.{◌≡◌, ℕ, ◌+◌, ◌<◌, Bool, true, false, List, [], ◌∷◌, ◌++◌, map, filter, flat_map, All, Option, Some, None}
use Rattle.std.proofs.Common.{option_map, unwrap_or, IfSome, Result, Ok, Err, if◌then◌else◌, refl, sym, subst}
use Rattle.std.proofs.lemmas.List.Elements.{All-nil, All-cons, All-head, All-tail, All-append, All-map, All-filter, All-take}
use Rattle.std.specs.{Prelude.{codes, bytes_eq, is_some}, Option.option_to_list}
use Rattle.bridge_io.specs.{Firsts.first_some, Names.is_name, declared.media.Kind.Kind, declared.place.Place.Place}
use Rattle.url_parts.specs.Addresses.{IsAddress, beside, folder_of, resolve, unchanged, unless_long}
use Rattle.url_parts.specs.{Addresses.without_tail, declared.fault.UrlFault.UrlFault}
use Rattle.url_parts.proofs.Parsed.{resolved_is_address}
use Rattle.hls_lines.specs.{Attributes.{NameValue, attributes_of, value_of}, Lines.{PlaylistLine, tag, uri, lines_of}}
use Rattle.hls_lines.specs.declared.fault.LineFault.{LineFault}
use Rattle.hls_master.specs.{declared.fault.MasterFault.MasterFault, Addresses.{address_fault, address_of, address_value, fault_if_refused}}
use Rattle.hls_master.specs.Entries.{KnownLine, MasterEntry, media, stream, address, refused, rendition, variant, stray, known_line}
use Rattle.hls_master.specs.{Entries.{known_lines, entries_of, refused_tag, with_known}, Faults.answer, Masters.{end_faults, faults_of}}
use Rattle.hls_master.specs.{Masters.{master_by, master_in, master_of, mentions_in}, Mentions.{MentionsValue, entry_fault, entry_faults}}
use Rattle.hls_master.specs.{Mentions.{entry_rendition, entry_variant}, Renditions.{RenditionValue, faults_by, kind_in, malformed, missing}}
use Rattle.hls_master.specs.Renditions.{same_name, text_at, type_fault, uri_fault, rendition_fault, rendition_faults, rendition_value}
use Rattle.hls_master.specs.{Renditions.rendition_with, Tracks.{Mentioned, TrackValue, by_rendition, by_variant, firsts_of, mentioned}}
use Rattle.hls_master.specs.{Tracks.{same_set, track_of, tracks_among, tracks_of, tracks_of_sets}, Values.{is_bandwidth, rate_within}}
use Rattle.hls_master.specs.{Values.size_within, Variants.{unsupported, VariantValue, attributes_or_none, variant_fault, variant_with}}
use Rattle.hls_master.proofs.Addresses.{given_is_value}
use Rattle.mpd_values.specs.{Codecs.are_read_codes, Languages.is_language}
use Rattle.laws_of_mpds.specs.Written.{TracksAreOfBytes}
use Rattle.laws_of_mpds.proofs.{Plain.address_plain, Bytes.{AreBytes, IsOfBytes, all_bytes, is_byte, lines_are_bytes, plain_bytes}}
use Rattle.laws_of_mpds.proofs.{Parts.value_in, ReadTold.{firsts_all, free, free_front}}

-- ---- an address

given : (place : Place) (r : Result (List ℕ) UrlFault) → fault_if_refused place r ≡ None → (a : List ℕ) × (r ≡ Ok a)
given place (Ok a) is = (a, refl)
given place (Err f) is = absurd (cc)

-- bytes, one behind another
abbrev IsBytes : List ℕ → Type 0
IsBytes text = All (λ b. b < 256) text

not_long : (long : Bool) (text a : List ℕ) (fault : UrlFault) → (if long then Err fault else Ok text) ≡ Ok a → text ≡ a
not_long true text a fault is = absurd (cc)
not_long false text a fault is = cc

not_changed : (other : Bool) (text a : List ℕ) (fault : UrlFault) → (if other then Err fault else unless_long text) ≡ Ok a → text ≡ a
not_changed true text a fault is = absurd (cc)
not_changed false text a fault is = not_long _ text a _ is

beside_is : (master text a : List ℕ) → beside master text ≡ Ok a → folder_of master ++ text ≡ a
unfolding unchanged
beside_is master text a is = not_changed _ (folder_of master ++ text) a _ is

folder_bytes : (master : List ℕ) → IsBytes master → IsBytes (folder_of master)
unfolding folder_of
folder_bytes master bytes = All-take (λ b. b < 256) _ (without_tail master) (All-take (λ b. b < 256) _ master bytes)

module _ (master : List ℕ) (is_own : IsAddress master) where
  of_bytes : IsBytes master
  of_bytes = all_bytes master (plain_bytes master (address_plain master is_own))

  by_name : (named : Bool) (text a : List ℕ) → is_name text ≡ named → AreBytes text
      → (if named then beside master text else resolve master text) ≡ Ok a
      → IsBytes a
  by_name true text a named bytes is =
      subst IsBytes (beside_is master text a is) (All-append (λ b. b < 256) (folder_of master) text (folder_bytes master of_bytes)
      (all_bytes text bytes))
  by_name false text a named bytes is =
      let own = resolved_is_address master text a of_bytes (all_bytes text bytes) is in
      all_bytes a (plain_bytes a (address_plain a own))

  is_address : (place : Place) (text : List ℕ) → AreBytes text → address_fault master place text ≡ None
      → IsBytes (address_value master text)
  unfolding address_of
  is_address place text bytes is =
      let one = given place (address_of master text) is in
      subst IsBytes (sym (given_is_value master text one.0 one.1)) (by_name (is_name text) text one.0 refl bytes one.1)

  or_none : (value : Option (List ℕ)) → IfSome value AreBytes → AreBytes (unwrap_or value [])
  or_none None bytes = refl
  or_none (Some text) bytes = bytes

  -- ---- mentions

  abbrev IsLocatedRendition : RenditionValue → Type 0
  IsLocatedRendition one = IsBytes one.address

  abbrev IsLocatedVariant : VariantValue → Type 0
  IsLocatedVariant one = IsBytes one.address

  last : {F : Type 0} (a b c d e : Option F) → first_some (a ∷ b ∷ c ∷ d ∷ e ∷ []) ≡ None → e ≡ None
  last a b c d e is = (free e [] (free d (e ∷ [])
      (free c (d ∷ e ∷ []) (free b (c ∷ d ∷ e ∷ []) (free a (b ∷ c ∷ d ∷ e ∷ []) is).1).1).1).1).0

  of_kind : (place : Place) (attributes : List NameValue) (kind : Option Kind) → IfSome (value_of (codes "URI") attributes) AreBytes
      → first_some (faults_by (rendition_faults master place attributes) kind) ≡ None
      → All IsLocatedRendition (option_to_list (option_map (rendition_with master attributes) kind))
  of_kind place attributes None bytes is = All-nil IsLocatedRendition
  of_kind place attributes (Some kind) bytes is =
      let fits = last (missing place (value_of (codes "GROUP-ID") attributes)) (missing place (value_of (codes "NAME") attributes))
      (malformed is_language place (value_of (codes "LANGUAGE") attributes))
      (uri_fault kind place (value_of (codes "URI") attributes)) (address_fault master place (text_at (codes "URI") attributes)) is in
      All-cons IsLocatedRendition (rendition_with master attributes kind) []
      (is_address place (text_at (codes "URI") attributes) (or_none (value_of (codes "URI") attributes) bytes) fits)
      (All-nil IsLocatedRendition)

  of_rendition : (rest : List ℕ) (place : Place) (attributes : Result (List NameValue) LineFault) → AreBytes rest
      → attributes_of rest place ≡ attributes
      → rendition_fault master place attributes ≡ None
      → All IsLocatedRendition (option_to_list (rendition_value master attributes))
  of_rendition rest place (Ok attributes) bytes listed is =
      of_kind place attributes (kind_in attributes) (value_in is_byte (codes "URI") rest place attributes bytes listed)
      (free (type_fault place (value_of (codes "TYPE") attributes))
      (faults_by (rendition_faults master place attributes) (kind_in attributes)) is).1
  of_rendition rest place (Err fault) bytes listed is = absurd (cc)

  behind_all : {F : Type 0} (faults : List (Option F)) (one : Option F) → first_some (faults ++ one ∷ []) ≡ None → one ≡ None
  behind_all [] one is = (free one [] is).0
  behind_all (None ∷ faults) one is = behind_all faults one is
  behind_all (Some fault ∷ faults) one is = absurd (cc)

  of_variant : (place : Place) (text : List ℕ) (uri_place : Place) (attributes : Result (List NameValue) LineFault) → AreBytes text
      → variant_fault master place text uri_place attributes ≡ None
      → IsLocatedVariant (variant_with master place text (attributes_or_none attributes))
  of_variant place text uri_place (Ok attributes) bytes is =
      let bandwidth = value_of (codes "BANDWIDTH") attributes in
      is_address uri_place text bytes
      (behind_all (missing place bandwidth ∷ malformed is_bandwidth place bandwidth ∷ malformed are_read_codes place
      (value_of (codes "CODECS") attributes)
      ∷ malformed (λ t. is_some (size_within t)) place (value_of (codes "RESOLUTION") attributes)
      ∷ malformed (λ t. is_some (rate_within t)) place
      (value_of (codes "FRAME-RATE") attributes)
      ∷ unsupported place (value_of (codes "VIDEO") attributes) ∷ []) (address_fault master uri_place text) is)
  of_variant place text uri_place (Err fault) bytes is = absurd (cc)

  -- ---- entries

  IsEntryOfBytes : MasterEntry → Type 0
  IsEntryOfBytes (rendition rest place) = AreBytes rest
  IsEntryOfBytes (variant rest place text uri_place) = AreBytes text
  IsEntryOfBytes (stray fault) = Unit {0}

  record AreLocated (renditions : List RenditionValue) (variants : List VariantValue) : Type 0 where
    renditions_are : All IsLocatedRendition renditions
    variants_are : All IsLocatedVariant variants

  one_entry : (before : List RenditionValue) (entry : MasterEntry) → IsEntryOfBytes entry → entry_fault master before entry ≡ None
      → AreLocated (entry_rendition master entry) (entry_variant master entry)
  unfolding IsEntryOfBytes
  one_entry before (rendition rest place) bytes is = record {
    renditions_are = of_rendition rest place (attributes_of rest place) bytes refl
        (free (rendition_fault master place (attributes_of rest place))
        (same_name before place (rendition_value master (attributes_of rest place)) ∷ []) is).0;
    variants_are = All-nil IsLocatedVariant;
  }
  one_entry before (variant rest place text uri_place) bytes is = record {
    renditions_are = All-nil IsLocatedRendition;
    variants_are = All-cons IsLocatedVariant (variant_with master place text (attributes_or_none (attributes_of rest place))) []
        (of_variant place text uri_place (attributes_of rest place) bytes is) (All-nil IsLocatedVariant);
  }
  one_entry before (stray fault) bytes is = absurd (cc)

  all_entries : (before : List RenditionValue) (entries : List MasterEntry) → All IsEntryOfBytes entries
      → first_some (entry_faults master before entries) ≡ None
      → AreLocated (flat_map (entry_rendition master) entries) (flat_map (entry_variant master) entries)
  all_entries before [] bytes is = record { renditions_are = All-nil IsLocatedRendition; variants_are = All-nil IsLocatedVariant }
  all_entries before (entry ∷ entries) bytes is =
      let parts = free (entry_fault master before entry) (entry_faults master (before ++ entry_rendition master entry) entries) is in
      let one = one_entry before entry (All-head IsEntryOfBytes entry entries bytes) parts.0 in
      let more = all_entries (before ++ entry_rendition master entry) entries (All-tail IsEntryOfBytes entry entries bytes) parts.1 in
      record {
        renditions_are = All-append IsLocatedRendition (entry_rendition master entry)
            (flat_map (entry_rendition master) entries) one.renditions_are more.renditions_are;
        variants_are = All-append IsLocatedVariant (entry_variant master entry)
            (flat_map (entry_variant master) entries) one.variants_are more.variants_are;
      }

  -- ---- lines

  IsKnownOfBytes : KnownLine → Type 0
  IsKnownOfBytes (media rest place) = AreBytes rest
  IsKnownOfBytes (stream rest place) = AreBytes rest
  IsKnownOfBytes (address text place) = AreBytes text
  IsKnownOfBytes (refused fault) = Unit {0}

  refused_known : (found : Option MasterFault) → IfSome (option_map (λ fault. refused fault) found) IsKnownOfBytes
  unfolding IsKnownOfBytes
  refused_known None = tt
  refused_known (Some fault) = tt

  tag_by : (is_media is_stream : Bool) (rest : List ℕ) (place : Place) (other : Option MasterFault) → AreBytes rest
      → IfSome (if is_media then Some (media rest place)
      else (if is_stream then Some (stream rest place) else option_map (λ fault. refused fault) other)) IsKnownOfBytes
  unfolding IsKnownOfBytes
  tag_by true is_stream rest place other bytes = bytes
  tag_by false true rest place other bytes = bytes
  tag_by false false rest place other bytes = refused_known other

  one_line : (line : PlaylistLine) → IsOfBytes line → IfSome (known_line line) IsKnownOfBytes
  unfolding known_line IsKnownOfBytes
  one_line (tag name rest place) bytes =
      tag_by (bytes_eq name (codes "EXT-X-MEDIA")) (bytes_eq name (codes "EXT-X-STREAM-INF")) rest place (refused_tag name place) bytes
  one_line (uri text place) bytes = bytes

  with_one : (line : Option KnownLine) (lines : List KnownLine) → IfSome line IsKnownOfBytes → All IsKnownOfBytes lines
      → All IsKnownOfBytes (with_known line lines)
  with_one None lines one all = all
  with_one (Some line) lines one all = All-cons IsKnownOfBytes line lines one all

  all_known : (lines : List PlaylistLine) → All IsOfBytes lines → All IsKnownOfBytes (known_lines lines)
  all_known [] all = All-nil IsKnownOfBytes
  all_known (line ∷ lines) all = with_one (known_line line) (known_lines lines) (one_line line (All-head IsOfBytes line lines all))
      (all_known lines (All-tail IsOfBytes line lines all))

  entries_bytes : (lines : List KnownLine) → All IsKnownOfBytes lines → All IsEntryOfBytes (entries_of lines)
  unfolding IsKnownOfBytes IsEntryOfBytes
  entries_bytes [] all = All-nil IsEntryOfBytes
  entries_bytes (media rest place ∷ lines) all =
      All-cons IsEntryOfBytes (rendition rest place) (entries_of lines) (All-head IsKnownOfBytes (media rest place) lines all)
      (entries_bytes lines (All-tail IsKnownOfBytes (media rest place) lines all))
  entries_bytes (stream rest place ∷ []) all = All-cons IsEntryOfBytes (stray _) [] tt (All-nil IsEntryOfBytes)
  entries_bytes (stream rest place ∷ (address text uri_place ∷ lines)) all =
      let more = All-tail IsKnownOfBytes (stream rest place) (address text uri_place ∷ lines) all in
      All-cons IsEntryOfBytes (variant rest place text uri_place) (entries_of lines)
      (All-head IsKnownOfBytes (address text uri_place) lines more)
      (entries_bytes lines (All-tail IsKnownOfBytes (address text uri_place) lines more))
  entries_bytes (stream rest place ∷ (media other here ∷ lines)) all =
      All-cons IsEntryOfBytes (stray _) (entries_of (media other here ∷ lines)) tt
      (entries_bytes (media other here ∷ lines) (All-tail IsKnownOfBytes (stream rest place) (media other here ∷ lines) all))
  entries_bytes (stream rest place ∷ (stream other here ∷ lines)) all =
      All-cons IsEntryOfBytes (stray _) (entries_of (stream other here ∷ lines)) tt
      (entries_bytes (stream other here ∷ lines) (All-tail IsKnownOfBytes (stream rest place) (stream other here ∷ lines) all))
  entries_bytes (stream rest place ∷ (refused fault ∷ lines)) all =
      All-cons IsEntryOfBytes (stray _) (entries_of (refused fault ∷ lines)) tt
      (entries_bytes (refused fault ∷ lines) (All-tail IsKnownOfBytes (stream rest place) (refused fault ∷ lines) all))
  entries_bytes (address text place ∷ lines) all =
      All-cons IsEntryOfBytes (stray _) (entries_of lines) tt (entries_bytes lines (All-tail IsKnownOfBytes (address text place) lines all))
  entries_bytes (refused fault ∷ lines) all =
      All-cons IsEntryOfBytes (stray fault) (entries_of lines) tt (entries_bytes lines (All-tail IsKnownOfBytes (refused fault) lines all))

  -- ---- tracks

  IsLocatedMention : Mentioned → Type 0
  IsLocatedMention (by_rendition one) = IsLocatedRendition one
  IsLocatedMention (by_variant one) = IsLocatedVariant one

  mentions_located : (mentions : MentionsValue) → AreLocated mentions.renditions mentions.variants
      → All IsLocatedMention (mentioned mentions)
  unfolding IsLocatedMention
  mentions_located mentions located = All-append IsLocatedMention (map by_rendition mentions.renditions) (map by_variant mentions.variants)
      (All-map IsLocatedMention by_rendition mentions.renditions located.renditions_are)
      (All-map IsLocatedMention by_variant mentions.variants located.variants_are)

  abbrev IsLocatedTrack : TrackValue → Type 0
  IsLocatedTrack track = IsBytes track.address

  track_located : (variants : List VariantValue) (number : ℕ) (mention : Mentioned) → IsLocatedMention mention
      → IsLocatedTrack (track_of variants number mention)
  unfolding IsLocatedMention
  track_located variants number (by_rendition one) located = located
  track_located variants number (by_variant one) located = located

  sets_located : (variants : List VariantValue) (firsts : List Mentioned) → All IsLocatedMention firsts
      → (number : ℕ) (sets : List Mentioned)
      → All IsLocatedTrack (tracks_of_sets variants firsts number sets)
  sets_located variants firsts located number [] = All-nil IsLocatedTrack
  sets_located variants firsts located number (set ∷ sets) =
      let ours = filter (same_set set) firsts in
      let kept = All-filter (same_set set) IsLocatedMention firsts located in
      All-append IsLocatedTrack (map (track_of variants number) ours) (tracks_of_sets variants firsts (number + 1) sets)
      (All-map IsLocatedTrack (track_of variants number) ours (λ k d here. track_located variants number _ (kept k d here)))
      (sets_located variants firsts located (number + 1) sets)

  tracks_located : (mentions : MentionsValue) → AreLocated mentions.renditions mentions.variants → All IsLocatedTrack (tracks_of mentions)
  unfolding tracks_of tracks_among firsts_of
  tracks_located mentions located =
      sets_located mentions.variants _ (firsts_all IsLocatedMention [] (mentioned mentions) (mentions_located mentions located)) 0 _

  answer_located : (fault : Option MasterFault) (values tracks : List TrackValue) → (fault ≡ None → All IsLocatedTrack values)
      → answer fault values ≡ Ok tracks → All IsLocatedTrack tracks
  answer_located None values tracks all is = (let alike : values ≡ tracks = cc in subst (All IsLocatedTrack) alike (all refl))
  answer_located (Some fault) values tracks all is = absurd (cc)

  lines_located : (bytes : List ℕ) (end : Place) (lines : Result (List PlaylistLine) LineFault) (tracks : List TrackValue)
      → lines_of bytes ≡ lines
      → master_by master end lines ≡ Ok tracks → All IsLocatedTrack tracks
  unfolding master_in
  lines_located bytes end (Ok lines) tracks read is =
      let entries = entries_of (known_lines lines) in
      answer_located (first_some (faults_of master end lines)) (tracks_of (mentions_in master lines)) tracks
      (λ none. tracks_located (mentions_in master lines)
      (all_entries [] entries (entries_bytes (known_lines lines) (all_known lines (lines_are_bytes bytes lines read)))
      (free_front (entry_faults master [] entries) (end_faults end (mentions_in master lines)) none))) is
  lines_located bytes end (Err fault) tracks read is = absurd (cc)

pub tracks_are_of_bytes : TracksAreOfBytes
unfolding master_of
tracks_are_of_bytes bytes url seen own is = lines_located url own bytes _ (lines_of bytes) seen refl is
