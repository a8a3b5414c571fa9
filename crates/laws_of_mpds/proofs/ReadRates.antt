-- Frame rates of a master that is read are fractions of thousandths.
use Rattle.std.proofs.Common.{◌≡◌, ℕ, ◌+◌, ◌*◌, ◌<◌, Bool, true, false, List, [], ◌∷◌, map, filter, flat_map, All, Option, Some, None}
use Rattle.std.proofs.{Common.{option_and_then, IfSome, Result, Ok, Err, if◌then◌else◌, subst, arith}, lemmas.List.Elements.All-nil}
use Rattle.std.proofs.lemmas.List.Elements.{All-cons, All-append, All-map, All-filter}
use Rattle.std.specs.{Prelude.codes, List.{list_all, before_first, after_first}, Char.is_ascii_digit}
use Rattle.bridge_io.specs.{Firsts.first_some, declared.place.Place.Place}
use Rattle.mpd_values.specs.Numbers.{numeral_of}
use Rattle.hls_lines.specs.{Attributes.{attributes_of, value_of}, Lines.{PlaylistLine, lines_of}, declared.fault.LineFault.LineFault}
use Rattle.hls_master.specs.{declared.fault.MasterFault.MasterFault, Entries.{MasterEntry, rendition, variant, stray, known_lines}}
use Rattle.hls_master.specs.{Entries.entries_of, Faults.answer, Masters.{faults_of, master_by, master_in, master_of, mentions_in}}
use Rattle.hls_master.specs.{Mentions.{MentionsValue, entry_variant}, Tracks.{Mentioned, TrackValue, by_rendition, by_variant, firsts_of}}
use Rattle.hls_master.specs.{Tracks.{mentioned, same_set, track_of, tracks_among, tracks_of, tracks_of_sets}, Values.{is_point, rate_by}}
use Rattle.hls_master.specs.{Values.{rate_of, thousandths}, Variants.{VariantValue, attributes_or_none, variant_with}}
use Rattle.laws_of_mpds.specs.Written.{ReadHaveRates}
use Rattle.laws_of_mpds.proofs.ReadTold.{firsts_all}

abbrev IsRate : ℕ × ℕ → Type 0
IsRate rate = 0 < rate.1

digits_by : (b : Bool) (n : ℕ) → IfSome {T = ℕ × ℕ} (if b then Some (n, 1000) else None) IsRate
digits_by true n = omega arith
digits_by false n = tt

whole_by : (digits : List ℕ) (whole : Option ℕ) → IfSome (rate_by digits whole) IsRate
whole_by digits None = tt
whole_by digits (Some whole) = digits_by (list_all is_ascii_digit digits) (1000 * whole + thousandths digits)

rate : (text : Option (List ℕ)) → IfSome (option_and_then rate_of text) IsRate
rate None = tt
rate (Some text) = whole_by (after_first is_point text) (numeral_of (before_first is_point text))

abbrev HasRate : VariantValue → Type 0
HasRate one = IfSome one.shown.frame_rate IsRate

one_entry : (master : List ℕ) (entry : MasterEntry) → All HasRate (entry_variant master entry)
one_entry master (rendition rest place) = All-nil HasRate
one_entry master (variant rest place uri uri_place) =
    let attributes = attributes_or_none (attributes_of rest place) in
    All-cons HasRate (variant_with master place uri attributes) [] (rate (value_of (codes "FRAME-RATE") attributes)) (All-nil HasRate)
one_entry master (stray fault) = All-nil HasRate

all_entries : (master : List ℕ) (entries : List MasterEntry) → All HasRate (flat_map (entry_variant master) entries)
all_entries master [] = All-nil HasRate
all_entries master (entry ∷ entries) =
    All-append HasRate (entry_variant master entry) (flat_map (entry_variant master) entries) (one_entry master entry)
    (all_entries master entries)

IsRatedMention : Mentioned → Type 0
IsRatedMention (by_rendition one) = Unit {0}
IsRatedMention (by_variant one) = HasRate one

mentions_rated : (mentions : MentionsValue) → All HasRate mentions.variants → All IsRatedMention (mentioned mentions)
unfolding IsRatedMention
mentions_rated mentions rated = All-append IsRatedMention (map by_rendition mentions.renditions) (map by_variant mentions.variants)
    (All-map IsRatedMention by_rendition mentions.renditions (λ k d here. tt)) (All-map IsRatedMention by_variant mentions.variants rated)

abbrev IsRatedTrack : TrackValue → Type 0
IsRatedTrack track = IfSome track.frame_rate IsRate

track_rated : (variants : List VariantValue) (number : ℕ) (mention : Mentioned) → IsRatedMention mention
    → IsRatedTrack (track_of variants number mention)
unfolding IsRatedMention
track_rated variants number (by_rendition one) rated = tt
track_rated variants number (by_variant one) rated = rated

sets_rated : (variants : List VariantValue) (firsts : List Mentioned) → All IsRatedMention firsts → (number : ℕ) (sets : List Mentioned)
    → All IsRatedTrack (tracks_of_sets variants firsts number sets)
sets_rated variants firsts rated number [] = All-nil IsRatedTrack
sets_rated variants firsts rated number (set ∷ sets) =
    let ours = filter (same_set set) firsts in
    let kept = All-filter (same_set set) IsRatedMention firsts rated in
    All-append IsRatedTrack (map (track_of variants number) ours) (tracks_of_sets variants firsts (number + 1) sets)
    (All-map IsRatedTrack (track_of variants number) ours (λ k d here. track_rated variants number _ (kept k d here)))
    (sets_rated variants firsts rated (number + 1) sets)

tracks_rated : (mentions : MentionsValue) → All HasRate mentions.variants → All IsRatedTrack (tracks_of mentions)
unfolding tracks_of tracks_among firsts_of
tracks_rated mentions rated = sets_rated mentions.variants _ (firsts_all IsRatedMention [] (mentioned mentions)
    (mentions_rated mentions rated)) 0 _

answer_rated : (fault : Option MasterFault) (values tracks : List TrackValue) → All IsRatedTrack values → answer fault values ≡ Ok tracks
    → All IsRatedTrack tracks
answer_rated None values tracks all is = (let alike : values ≡ tracks = cc in subst (All IsRatedTrack) alike all)
answer_rated (Some fault) values tracks all is = absurd (cc)

lines_rated : (master : List ℕ) (end : Place) (lines : Result (List PlaylistLine) LineFault) (tracks : List TrackValue)
    → master_by master end lines ≡ Ok tracks → All IsRatedTrack tracks
unfolding master_in
lines_rated master end (Ok lines) tracks is =
    answer_rated (first_some (faults_of master end lines)) (tracks_of (mentions_in master lines)) tracks
    (tracks_rated (mentions_in master lines) (all_entries master (entries_of (known_lines lines)))) is
lines_rated master end (Err fault) tracks is = absurd (cc)

pub read_have_rates : ReadHaveRates
unfolding master_of
read_have_rates bytes url seen is = lines_rated url _ (lines_of bytes) seen is
