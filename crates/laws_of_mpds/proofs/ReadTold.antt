-- The languages and codes of a master that is read can be told in an MPD.
use Rattle.std.proofs.Common.{◌≡◌, ℕ, zero, suc, ◌+◌, ◌-◌, ◌==◌, ◌&&◌, nat_le, Bool, true, false, cond, List, [], ◌∷◌, ◌++◌, map, filter}
use Rattle.std.proofs.Common.{flat_map, take, drop, length, All, Option, Some, None, option_map, option_and_then, IfSome, Result, Ok, Err}
use Rattle.std.proofs.{Common.{if◌then◌else◌, refl, ◌∙◌, subst, arith}, lemmas.Bool.and_parts, lemmas.List.Folds.list_all-append}
use Rattle.std.proofs.lemmas.List.Elements.{All-nil, All-cons, All-head, All-tail, All-append, All-map, All-filter}
use Rattle.std.specs.{Prelude.{codes, is_some, bytes_eq}, Option.{option_to_list, option_eq}, List.{AllByRecursion, list_all, slice_split}}
use Rattle.std.specs.List.{onto_first, join_with_byte, prefix_len, suffix_len}
use Rattle.bridge_io.specs.{Firsts.first_some, Texts.is_among, declared.media.Kind.Kind, declared.place.Place.Place}
use Rattle.mpd_values.specs.{declared.blank.Blank.TheVariants.Space, Blanks.{is_blank, trimmed, without_end}, Codecs.are_read_codes}
use Rattle.mpd_values.specs.{Codecs.{codes_of, is_code_char}, Languages.{is_language, is_language_char}}
use Rattle.hls_lines.specs.{Attributes.{NameValue, attributes_of, value_of}, Lines.{PlaylistLine, lines_of}}
use Rattle.hls_lines.specs.declared.fault.LineFault.{LineFault}
use Rattle.hls_master.specs.{declared.fault.MasterFault.MasterFault, declared.track.MasterTrack.MasterTrack, Entries.MasterEntry}
use Rattle.hls_master.specs.{Entries.{rendition, variant, stray, known_lines, entries_of}, Faults.answer, Masters.{end_faults, faults_of}}
use Rattle.hls_master.specs.{Masters.{master_by, master_in, master_of, mentions_in}, Mentions.{MentionsValue, entry_fault, entry_faults}}
use Rattle.hls_master.specs.{Mentions.{entry_rendition, entry_variant}, Renditions.{RenditionValue, faults_by, kind_in, malformed, missing}}
use Rattle.hls_master.specs.Renditions.{same_name, text_at, type_fault, uri_fault, rendition_fault, rendition_faults, rendition_value}
use Rattle.hls_master.specs.{Renditions.rendition_with, SeenTracks.track_seen, Tracks.{Mentioned, TrackValue, address_of, by_rendition}}
use Rattle.hls_master.specs.Tracks.{by_variant, firsts_behind, firsts_of, group_codecs, group_of, mentioned, same_set, track_of}
use Rattle.hls_master.specs.{Tracks.{tracks_among, tracks_of, tracks_of_sets, variant_kind}, Variants.{unsupported, VariantValue}}
use Rattle.hls_master.specs.{Variants.{attributes_or_none, variant_fault, variant_with}, Addresses.address_fault, Values.is_bandwidth}
use Rattle.hls_master.specs.{Values.{rate_within, size_within}, Codes.{is_of, joined, selected}}
use Rattle.laws_of_mpds.specs.{Written.{CanBeTold, ReadCanBeTold}, Texts.IsCarried}
use Rattle.laws_of_mpds.proofs.Plain.{ArePlain, carried, is_plain}

-- ---- texts

each_plain : (p : ℕ → Bool) → ((b : ℕ) → p b ≡ true → is_plain b ≡ true) → (text : List ℕ) → list_all p text ≡ true → ArePlain text
each_plain p plain [] all = refl
each_plain p plain (b ∷ bs) all = let parts = and_parts (p b) (list_all p bs) all in rw (plain b parts.0) (each_plain p plain bs parts.1)

language_char : (b : ℕ) → is_language_char b ≡ true → is_plain b ≡ true
language_char b is = grind arith

code_char : (b : ℕ) → is_code_char b ≡ true → is_plain b ≡ true
code_char b is = grind arith

pub language_plain : (text : List ℕ) → is_language text ≡ true → ArePlain text
language_plain text is = each_plain is_language_char language_char text (and_parts (list_all is_language_char text) _ is).0

pub codes_plain : (text : List ℕ) → are_read_codes text ≡ true → ArePlain text
codes_plain text is = each_plain is_code_char code_char text (and_parts (list_all is_code_char text) _
    (and_parts (nat_le (length text) 255) _ is).1).0

front_plain : (n : ℕ) (text : List ℕ) → ArePlain text → ArePlain (take n text)
front_plain zero text plain = refl
front_plain (suc n) [] plain = refl
front_plain (suc n) (b ∷ bs) plain = let parts = and_parts (is_plain b) (list_all is_plain bs) plain in
    rw parts.0 (front_plain n bs parts.1)

back_plain : (n : ℕ) (text : List ℕ) → ArePlain text → ArePlain (drop n text)
back_plain zero text plain = plain
back_plain (suc n) [] plain = refl
back_plain (suc n) (b ∷ bs) plain = back_plain n bs (and_parts (is_plain b) (list_all is_plain bs) plain).1

trimmed_plain : (text : List ℕ) → ArePlain text → ArePlain (trimmed Space text)
unfolding trimmed
trimmed_plain text plain =
    let blank = is_blank Space in
    back_plain (prefix_len blank (without_end blank text)) (without_end blank text)
    (front_plain (length text - suffix_len blank text) text plain)

onto_plain : (b : ℕ) (parts : List (List ℕ)) → is_plain b ≡ true → AllByRecursion ArePlain parts
    → AllByRecursion ArePlain (onto_first b parts)
onto_plain b [] plain all = (rw plain refl, tt)
onto_plain b (part ∷ parts) plain all = (rw plain all.0, all.1)

split_by : (b : ℕ) (parts : List (List ℕ)) (cut : Bool) → is_plain b ≡ true → AllByRecursion ArePlain parts
    → AllByRecursion ArePlain (cond cut ([] ∷ parts) (onto_first b parts))
split_by b parts true plain all = (refl, all)
split_by b parts false plain all = onto_plain b parts plain all

split_plain : (text : List ℕ) → ArePlain text → AllByRecursion ArePlain (slice_split (λ b. b == 44) text)
split_plain [] plain = (refl, tt)
split_plain (b ∷ bs) plain = let parts = and_parts (is_plain b) (list_all is_plain bs) plain in
    split_by b (slice_split (λ c. c == 44) bs) (b == 44) parts.0 (split_plain bs parts.1)

map_plain : (parts : List (List ℕ)) → AllByRecursion ArePlain parts → AllByRecursion ArePlain (map (trimmed Space) parts)
map_plain [] all = tt
map_plain (part ∷ parts) all = (trimmed_plain part all.0, map_plain parts all.1)

kept_by : (part : List ℕ) (parts : List (List ℕ)) (keep : Bool) → ArePlain part → AllByRecursion ArePlain parts
    → AllByRecursion ArePlain (if keep then part ∷ parts else parts)
kept_by part parts true plain all = (plain, all)
kept_by part parts false plain all = all

kept_plain : (test : List ℕ → Bool) (parts : List (List ℕ)) → AllByRecursion ArePlain parts → AllByRecursion ArePlain (filter test parts)
kept_plain test [] all = tt
kept_plain test (part ∷ parts) all = kept_by part (filter test parts) (test part) all.0 (kept_plain test parts all.1)

join_plain : (parts : List (List ℕ)) → AllByRecursion ArePlain parts → ArePlain (join_with_byte 44 parts)
join_plain [] all = refl
join_plain (part ∷ []) all = all.0
join_plain (part ∷ (next ∷ parts)) all = list_all-append is_plain part (44 ∷ join_with_byte 44 (next ∷ parts))
    ∙ rw (all.0, join_plain (next ∷ parts) all.1) refl

joined_plain : (parts : List (List ℕ)) → AllByRecursion ArePlain parts → IfSome (joined parts) ArePlain
joined_plain [] all = tt
joined_plain (part ∷ parts) all = join_plain (part ∷ parts) all

pub selected_plain : (kind : Kind) (text : Option (List ℕ)) → IfSome text ArePlain → IfSome (option_and_then (selected kind) text) ArePlain
unfolding selected codes_of
selected_plain kind None plain = tt
selected_plain kind (Some text) plain = joined_plain _ (kept_plain (is_of kind) _ (map_plain _ (split_plain text plain)))

-- ---- lines without a fault

pub free : {F : Type 0} (first : Option F) (others : List (Option F)) → first_some (first ∷ others) ≡ None
    → (first ≡ None) × (first_some others ≡ None)
free None others is = (refl, is)
free (Some fault) others is = absurd (cc)

third : {F : Type 0} (a b c : Option F) (more : List (Option F)) → first_some (a ∷ b ∷ c ∷ more) ≡ None → c ≡ None
third a b c more is = (free c more (free b (c ∷ more) (free a (b ∷ c ∷ more) is).1).1).0

pub free_front : {F : Type 0} (faults more : List (Option F)) → first_some (faults ++ more) ≡ None → first_some faults ≡ None
free_front [] more is = refl
free_front (None ∷ faults) more is = free_front faults more is
free_front (Some fault ∷ faults) more is = absurd (cc)

passes : (test : List ℕ → Bool) (place : Place) (value : Option (List ℕ)) → malformed test place value ≡ None
    → IfSome value (λ text. test text ≡ true)
passes test place None is = tt
passes test place (Some text) is = go (test text) refl is where
  go : (b : Bool) → test text ≡ b → malformed test place (Some text) ≡ None → test text ≡ true
  go true e none = e
  go false e none = absurd (let bad = rw e at none in cc)

weaker : (P Q : List ℕ → Type 0) → ((text : List ℕ) → P text → Q text) → (value : Option (List ℕ)) → IfSome value P → IfSome value Q
weaker P Q more None is = tt
weaker P Q more (Some text) is = more text is

-- ---- mentions

abbrev IsPlainRendition : RenditionValue → Type 0
IsPlainRendition one = IfSome one.language ArePlain

abbrev IsPlainVariant : VariantValue → Type 0
IsPlainVariant one = IfSome one.shown.codecs ArePlain

of_kind : (master : List ℕ) (place : Place) (attributes : List NameValue) (kind : Option Kind)
    → first_some (faults_by (rendition_faults master place attributes) kind) ≡ None
    → All IsPlainRendition (option_to_list (option_map (rendition_with master attributes) kind))
of_kind master place attributes None is = All-nil IsPlainRendition
of_kind master place attributes (Some kind) is =
    let language = value_of (codes "LANGUAGE") attributes in
    let fits = third (missing place (value_of (codes "GROUP-ID") attributes)) (missing place (value_of (codes "NAME") attributes))
    (malformed is_language place language)
    (uri_fault kind place (value_of (codes "URI") attributes) ∷ address_fault master place (text_at (codes "URI") attributes) ∷ []) is in
    All-cons IsPlainRendition (rendition_with master attributes kind) []
    (weaker (λ text. is_language text ≡ true) ArePlain language_plain language (passes is_language place language fits))
    (All-nil IsPlainRendition)

of_rendition : (master : List ℕ) (place : Place) (attributes : Result (List NameValue) LineFault)
    → rendition_fault master place attributes ≡ None
    → All IsPlainRendition (option_to_list (rendition_value master attributes))
of_rendition master place (Ok attributes) is = of_kind master place attributes (kind_in attributes)
    (free (type_fault place (value_of (codes "TYPE") attributes))
    (faults_by (rendition_faults master place attributes) (kind_in attributes)) is).1
of_rendition master place (Err fault) is = absurd (cc)

of_variant : (master : List ℕ) (place : Place) (uri : List ℕ) (uri_place : Place) (attributes : Result (List NameValue) LineFault)
    → variant_fault master place uri uri_place attributes ≡ None
    → IsPlainVariant (variant_with master place uri (attributes_or_none attributes))
of_variant master place uri uri_place (Ok attributes) is =
    let text = value_of (codes "CODECS") attributes in
    let bandwidth = value_of (codes "BANDWIDTH") attributes in
    let fits = third (missing place bandwidth) (malformed is_bandwidth place bandwidth) (malformed are_read_codes place text)
    (malformed (λ t. is_some (size_within t)) place (value_of (codes "RESOLUTION") attributes)
    ∷ malformed (λ t. is_some (rate_within t)) place
    (value_of (codes "FRAME-RATE") attributes)
    ∷ unsupported place (value_of (codes "VIDEO") attributes) ∷ address_fault master uri_place uri ∷ []) is in
    weaker (λ t. are_read_codes t ≡ true) ArePlain codes_plain text (passes are_read_codes place text fits)
of_variant master place uri uri_place (Err fault) is = absurd (cc)

record ArePlainMentions (renditions : List RenditionValue) (variants : List VariantValue) : Type 0 where
  renditions_are : All IsPlainRendition renditions
  variants_are : All IsPlainVariant variants

one_entry : (master : List ℕ) (before : List RenditionValue) (entry : MasterEntry) → entry_fault master before entry ≡ None
    → ArePlainMentions (entry_rendition master entry) (entry_variant master entry)
one_entry master before (rendition rest place) is = record {
  renditions_are = of_rendition master place (attributes_of rest place)
      (free (rendition_fault master place (attributes_of rest place))
      (same_name before place (rendition_value master (attributes_of rest place)) ∷ []) is).0;
  variants_are = All-nil IsPlainVariant;
}
one_entry master before (variant rest place uri uri_place) is = record {
  renditions_are = All-nil IsPlainRendition;
  variants_are = All-cons IsPlainVariant (variant_with master place uri (attributes_or_none (attributes_of rest place))) []
      (of_variant master place uri uri_place (attributes_of rest place) is) (All-nil IsPlainVariant);
}
one_entry master before (stray fault) is = absurd (cc)

all_entries : (master : List ℕ) (before : List RenditionValue) (entries : List MasterEntry)
    → first_some (entry_faults master before entries) ≡ None
    → ArePlainMentions (flat_map (entry_rendition master) entries) (flat_map (entry_variant master) entries)
all_entries master before [] is = record { renditions_are = All-nil IsPlainRendition; variants_are = All-nil IsPlainVariant }
all_entries master before (entry ∷ entries) is =
    let parts = free (entry_fault master before entry) (entry_faults master (before ++ entry_rendition master entry) entries) is in
    let one = one_entry master before entry parts.0 in
    let more = all_entries master (before ++ entry_rendition master entry) entries parts.1 in
    record {
      renditions_are = All-append IsPlainRendition (entry_rendition master entry)
          (flat_map (entry_rendition master) entries) one.renditions_are more.renditions_are;
      variants_are = All-append IsPlainVariant (entry_variant master entry)
          (flat_map (entry_variant master) entries) one.variants_are more.variants_are;
    }

-- ---- tracks

IsPlainMention : Mentioned → Type 0
IsPlainMention (by_rendition one) = IsPlainRendition one
IsPlainMention (by_variant one) = IsPlainVariant one

mentions_plain : (mentions : MentionsValue) → ArePlainMentions mentions.renditions mentions.variants
    → All IsPlainMention (mentioned mentions)
unfolding IsPlainMention
mentions_plain mentions plain = All-append IsPlainMention (map by_rendition mentions.renditions) (map by_variant mentions.variants)
    (All-map IsPlainMention by_rendition mentions.renditions plain.renditions_are)
    (All-map IsPlainMention by_variant mentions.variants plain.variants_are)

module _ (P : Mentioned → Type 0) where
  first_by : (mention : Mentioned) (b : Bool) (others later : List Mentioned) → P mention → All P others → All P later
      → All P (cond b others (mention ∷ later))
  first_by mention true others later one all more = all
  first_by mention false others later one all more = All-cons P mention later one more

  pub firsts_all : (before : List (List ℕ)) (mentions : List Mentioned) → All P mentions → All P (firsts_behind before mentions)
  firsts_all before [] all = All-nil P
  firsts_all before (mention ∷ mentions) all =
      let rest = All-tail P mention mentions all in
      first_by mention (is_among (address_of mention) before) (firsts_behind before mentions)
      (firsts_behind (address_of mention ∷ before) mentions)
      (All-head P mention mentions all) (firsts_all before mentions rest) (firsts_all (address_of mention ∷ before) mentions rest)

group_plain : (kind : Kind) (group : List ℕ) (variants : List VariantValue) → All IsPlainVariant variants
    → IfSome (group_codecs kind group variants) ArePlain
group_plain kind group [] all = tt
group_plain kind group (one ∷ variants) all =
    go (option_eq bytes_eq (group_of kind one) (Some group) && is_some one.shown.codecs)
    (group_plain kind group variants (All-tail IsPlainVariant one variants all)) where
      go : (b : Bool) → IfSome (group_codecs kind group variants) ArePlain
          → IfSome (if b then one.shown.codecs else group_codecs kind group variants) ArePlain
      go true later = All-head IsPlainVariant one variants all
      go false later = later

record IsPlainTrack (track : TrackValue) : Type 0 where
  language : IfSome track.language ArePlain
  codecs : IfSome track.codecs ArePlain

track_plain : (variants : List VariantValue) → All IsPlainVariant variants → (number : ℕ) (mention : Mentioned) → IsPlainMention mention
    → IsPlainTrack (track_of variants number mention)
unfolding IsPlainMention
track_plain variants all number (by_rendition one) plain =
    record {
      language = plain;
      codecs = selected_plain one.kind (group_codecs one.kind one.group variants)
          (group_plain one.kind one.group variants all);
    }
track_plain variants all number (by_variant one) plain = record {
  language = tt;
  codecs = selected_plain (variant_kind one) one.shown.codecs plain;
}

sets_plain : (variants : List VariantValue) → All IsPlainVariant variants → (firsts : List Mentioned) → All IsPlainMention firsts
    → (number : ℕ) (sets : List Mentioned)
    → All IsPlainTrack (tracks_of_sets variants firsts number sets)
sets_plain variants all firsts plain number [] = All-nil IsPlainTrack
sets_plain variants all firsts plain number (set ∷ sets) =
    let ours = filter (same_set set) firsts in
    let kept = All-filter (same_set set) IsPlainMention firsts plain in
    All-append IsPlainTrack (map (track_of variants number) ours) (tracks_of_sets variants firsts (number + 1) sets)
    (All-map IsPlainTrack (track_of variants number) ours (λ k d here. track_plain variants all number _ (kept k d here)))
    (sets_plain variants all firsts plain (number + 1) sets)

tracks_plain : (mentions : MentionsValue) → ArePlainMentions mentions.renditions mentions.variants → All IsPlainTrack (tracks_of mentions)
unfolding tracks_of tracks_among firsts_of
tracks_plain mentions plain =
    sets_plain mentions.variants plain.variants_are _ (firsts_all IsPlainMention [] (mentioned mentions)
    (mentions_plain mentions plain)) 0 _

-- ---- the whole

answer_plain : (fault : Option MasterFault) (values tracks : List TrackValue) → (fault ≡ None → All IsPlainTrack values)
    → answer fault values ≡ Ok tracks
    → All IsPlainTrack tracks
answer_plain None values tracks all is = (let alike : values ≡ tracks = cc in subst (All IsPlainTrack) alike (all refl))
answer_plain (Some fault) values tracks all is = absurd (cc)

lines_plain : (master : List ℕ) (end : Place) (lines : Result (List PlaylistLine) LineFault) (tracks : List TrackValue)
    → master_by master end lines ≡ Ok tracks → All IsPlainTrack tracks
unfolding master_in
lines_plain master end (Ok lines) tracks is =
    let entries = entries_of (known_lines lines) in
    answer_plain (first_some (faults_of master end lines)) (tracks_of (mentions_in master lines)) tracks
    (λ none. tracks_plain (mentions_in master lines)
    (all_entries master [] entries (free_front (entry_faults master [] entries) (end_faults end (mentions_in master lines)) none))) is
lines_plain master end (Err fault) tracks is = absurd (cc)

told : (text : Option (List ℕ)) → IfSome text ArePlain → IfSome text IsCarried
told text plain = weaker ArePlain IsCarried carried text plain

pub read_can_be_told : ReadCanBeTold
unfolding master_of
read_can_be_told bytes url tracks is =
    let plain = lines_plain url _ (lines_of bytes) (map track_seen tracks) is in
    each tracks plain where
      each : (tracks : List MasterTrack) → All IsPlainTrack (map track_seen tracks) → All CanBeTold tracks
      each [] all = All-nil CanBeTold
      each (track ∷ tracks) all =
          let one = All-head IsPlainTrack (track_seen track) (map track_seen tracks) all in
          All-cons CanBeTold track tracks (record { language = told track.language one.language; codecs = told track.codecs one.codecs })
          (each tracks (All-tail IsPlainTrack (track_seen track) (map track_seen tracks) all))
