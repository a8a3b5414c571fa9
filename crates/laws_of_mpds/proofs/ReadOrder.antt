-- The tracks of a master that is read stand in order.
use Rattle.std.proofs.Common.{◌≡◌, ℕ, ◌+◌, Bool, true, false, List, [], ◌∷◌, ◌++◌, map, filter, Option, Some, None, Result, Ok, Err}
use Rattle.std.proofs.{Common.{if◌then◌else◌, refl, sym, ◌∙◌, ap, subst, append_assoc}, lemmas.Bool.and_parts, lemmas.List.append-nil}
use Rattle.std.proofs.lemmas.List.{map-append}
use Rattle.std.specs.List.{list_any}
use Rattle.bridge_io.specs.{Firsts.first_some, declared.media.Kind.Kind, declared.media.Kind.TheVariants.{Video, Audio, Text}}
use Rattle.bridge_io.specs.declared.place.Place.{Place}
use Rattle.hls_lines.specs.{Lines.{PlaylistLine, lines_of}, declared.fault.LineFault.LineFault}
use Rattle.hls_master.specs.{declared.fault.MasterFault.MasterFault, Faults.answer, Masters.{faults_of, master_by, master_in, master_of}}
use Rattle.hls_master.specs.{Masters.mentions_in, Mentions.MentionsValue, Renditions.same_kind, SeenTracks.track_seen, Tracks.Mentioned}
use Rattle.hls_master.specs.Tracks.{TrackValue, by_kind, by_rendition, by_variant, firsts_of, has_kind, kind_of, same_set, sets_behind}
use Rattle.hls_master.specs.{Tracks.{track_of, tracks_among, tracks_of, tracks_of_sets, variant_kind}, Variants.VariantValue}
use Rattle.laws_of_mpds.specs.{Meant.{are_audio_then_text, are_in_order, are_text}, Written.ReadAreInOrder}
use Rattle.laws_of_mpds.proofs.Ordered.{audio_is_behind_video, text_is_behind_audio}

-- ---- one is left out

drop_text : (before : List Kind) (k : Kind) (ks : List Kind) → are_text (before ++ k ∷ ks) ≡ true → are_text (before ++ ks) ≡ true
drop_text [] Text ks all = all
drop_text [] Audio ks all = absurd (cc)
drop_text [] Video ks all = absurd (cc)
drop_text (Text ∷ before) k ks all = drop_text before k ks all
drop_text (Audio ∷ before) k ks all = absurd (cc)
drop_text (Video ∷ before) k ks all = absurd (cc)

drop_audio : (before : List Kind) (k : Kind) (ks : List Kind) → are_audio_then_text (before ++ k ∷ ks) ≡ true
    → are_audio_then_text (before ++ ks) ≡ true
drop_audio [] Audio ks all = all
drop_audio [] Text ks all = text_is_behind_audio ks all
drop_audio [] Video ks all = absurd (cc)
drop_audio (Audio ∷ before) k ks all = drop_audio before k ks all
drop_audio (Text ∷ before) k ks all = drop_text before k ks all
drop_audio (Video ∷ before) k ks all = absurd (cc)

drop_any : (before : List Kind) (k : Kind) (ks : List Kind) → are_in_order (before ++ k ∷ ks) ≡ true → are_in_order (before ++ ks) ≡ true
drop_any [] Video ks all = all
drop_any [] Audio ks all = audio_is_behind_video ks all
drop_any [] Text ks all = audio_is_behind_video ks (text_is_behind_audio ks all)
drop_any (Video ∷ before) k ks all = drop_any before k ks all
drop_any (Audio ∷ before) k ks all = drop_audio before k ks all
drop_any (Text ∷ before) k ks all = drop_text before k ks all

-- ---- sets

abbrev AreInOrder : List Mentioned → Type 0
AreInOrder mentions = are_in_order (map kind_of mentions) ≡ true

sets_by : (b : Bool) (before : List Mentioned) (mention : Mentioned) (mentions : List Mentioned)
    → ((former : List Mentioned) → AreInOrder (former ++ mentions) → AreInOrder (sets_behind former mentions))
    → AreInOrder (before ++ mention ∷ mentions) → AreInOrder (sets_behind (if b then before else before ++ mention ∷ []) mentions)
sets_by true before mention mentions later all =
    later before (ap are_in_order (map-append kind_of before mentions)
    ∙ drop_any (map kind_of before) (kind_of mention) (map kind_of mentions)
    (sym (ap are_in_order (map-append kind_of before (mention ∷ mentions))) ∙ all))
sets_by false before mention mentions later all =
    later (before ++ mention ∷ []) (ap (λ xs. are_in_order (map kind_of xs)) (append_assoc before (mention ∷ []) mentions) ∙ all)

sets_in_order : (mentions before : List Mentioned) → AreInOrder (before ++ mentions) → AreInOrder (sets_behind before mentions)
sets_in_order [] before all = ap (λ xs. are_in_order (map kind_of xs)) (sym (append-nil before)) ∙ all
sets_in_order (mention ∷ mentions) before all =
    sets_by (list_any (same_set mention) before) before mention mentions (λ former. sets_in_order mentions former) all

-- ---- mentions by kind

same : (a b : Kind) → same_kind a b ≡ true → a ≡ b
same Video Video is = refl
same Audio Audio is = refl
same Text Text is = refl
same Video Audio is = absurd (cc)
same Video Text is = absurd (cc)
same Audio Video is = absurd (cc)
same Audio Text is = absurd (cc)
same Text Video is = absurd (cc)
same Text Audio is = absurd (cc)

-- what goes on when one of a kind stands before it does so when those of a list do
those_before : {X : Type 0} (kind : X → Kind) (test : X → Bool) (P : List Kind → Type 0) (k : Kind) → ((ks : List Kind) → P ks → P (k ∷ ks))
    → ((x : X) → test x ≡ true → kind x ≡ k)
    → (xs : List X) (ks : List Kind) → P ks → P (map kind (filter test xs) ++ ks)
those_before kind test P k before is [] ks all = all
those_before kind test P k before is (x ∷ xs) ks all = go (test x) refl (those_before kind test P k before is xs ks all) where
  go : (b : Bool) → test x ≡ b → P (map kind (filter test xs) ++ ks) → P (map kind (if b then x ∷ filter test xs else filter test xs) ++ ks)
  go true passes later = subst (λ j. P (j ∷ (map kind (filter test xs) ++ ks))) (sym (is x passes)) (before _ later)
  go false fails later = later

kinds_in_order : (mentions : List Mentioned) → AreInOrder (by_kind mentions)
kinds_in_order mentions =
    let video = filter (has_kind Video) mentions in
    let audio = filter (has_kind Audio) mentions in
    let text = filter (has_kind Text) mentions in
    let is : (k : Kind) (x : Mentioned) → has_kind k x ≡ true → kind_of x ≡ k = λ k x passes. sym (same k (kind_of x) passes) in
    let texts : are_text (map kind_of text ++ []) ≡ true =
    those_before kind_of (has_kind Text) (λ ks. are_text ks ≡ true) Text (λ ks h. h) (is Text) mentions [] refl in
    let only_text : are_text (map kind_of text) ≡ true = ap are_text (sym (append-nil (map kind_of text))) ∙ texts in
    let audios : are_audio_then_text (map kind_of audio ++ map kind_of text) ≡ true =
    those_before kind_of (has_kind Audio) (λ ks. are_audio_then_text ks ≡ true) Audio (λ ks h. h) (is Audio) mentions (map kind_of text)
    (text_is_behind_audio (map kind_of text) only_text) in
    let whole : are_in_order (map kind_of video ++ (map kind_of audio ++ map kind_of text)) ≡ true =
    those_before kind_of (has_kind Video) (λ ks. are_in_order ks ≡ true) Video (λ ks h. h) (is Video) mentions
    (map kind_of audio ++ map kind_of text)
    (audio_is_behind_video (map kind_of audio ++ map kind_of text) audios) in
    ap are_in_order (map-append kind_of (video ++ audio) text ∙ ap (λ ks. ks ++ map kind_of text) (map-append kind_of video audio)
    ∙ append_assoc (map kind_of video) (map kind_of audio) (map kind_of text)) ∙ whole

-- ---- tracks

track_kind : (variants : List VariantValue) (number : ℕ) (mention : Mentioned) → (track_of variants number mention).kind ≡ kind_of mention
track_kind variants number (by_rendition one) = refl
track_kind variants number (by_variant one) = refl

set_kind : (set mention : Mentioned) → same_set set mention ≡ true → kind_of mention ≡ kind_of set
set_kind (by_rendition one) (by_rendition other) is = sym (same one.kind other.kind (and_parts (same_kind one.kind other.kind) _ is).0)
set_kind (by_variant one) (by_variant other) is = sym (same (variant_kind one) (variant_kind other) is)
set_kind (by_rendition one) (by_variant other) is = absurd (cc)
set_kind (by_variant one) (by_rendition other) is = absurd (cc)

abbrev kinds_of : List TrackValue → List Kind
kinds_of tracks = map (λ (t : TrackValue). t.kind) tracks

map_map : {X Y Z : Type 0} (f : Y → Z) (g : X → Y) (xs : List X) → map f (map g xs) ≡ map (λ x. f (g x)) xs
map_map f g [] = refl
map_map f g (x ∷ xs) = ap (λ ys. f (g x) ∷ ys) (map_map f g xs)

module _ (variants : List VariantValue) (firsts : List Mentioned) where
  -- the tracks of a set before others
  one_set : (P : List Kind → Type 0) (k : Kind) → ((ks : List Kind) → P ks → P (k ∷ ks))
      → (number : ℕ) (set : Mentioned) (rest : List TrackValue)
      → kind_of set ≡ k → P (kinds_of rest)
      → P (kinds_of (map (track_of variants number) (filter (same_set set) firsts) ++ rest))
  one_set P k before number set rest is all =
      let ours = filter (same_set set) firsts in
      subst P (sym (map-append (λ (t : TrackValue). t.kind) (map (track_of variants number) ours) rest
      ∙ ap (λ ks. ks ++ kinds_of rest) (map_map (λ (t : TrackValue). t.kind) (track_of variants number) ours)))
      (those_before (λ m. (track_of variants number m).kind) (same_set set) P k before
      (λ m passes. track_kind variants number m ∙ set_kind set m passes ∙ is) firsts (kinds_of rest) all)

  text_set : (k : Kind) (number : ℕ) (set : Mentioned) (sets : List Mentioned) → kind_of set ≡ k → are_text (k ∷ map kind_of sets) ≡ true
      → (are_text (map kind_of sets) ≡ true → are_text (kinds_of (tracks_of_sets variants firsts (number + 1) sets)) ≡ true)
      → are_text (kinds_of (tracks_of_sets variants firsts number (set ∷ sets))) ≡ true
  text_set Text number set sets is all later =
      one_set (λ ks. are_text ks ≡ true) Text (λ ks h. h) number set (tracks_of_sets variants firsts (number + 1) sets) is (later all)
  text_set Audio number set sets is all later = absurd (cc)
  text_set Video number set sets is all later = absurd (cc)

  texts_of : (number : ℕ) (sets : List Mentioned) → are_text (map kind_of sets) ≡ true
      → are_text (kinds_of (tracks_of_sets variants firsts number sets)) ≡ true
  texts_of number [] all = refl
  texts_of number (set ∷ sets) all = text_set (kind_of set) number set sets refl all (texts_of (number + 1) sets)

  audio_set : (k : Kind) (number : ℕ) (set : Mentioned) (sets : List Mentioned) → kind_of set ≡ k
      → are_audio_then_text (k ∷ map kind_of sets) ≡ true
      → (are_audio_then_text (map kind_of sets) ≡ true → are_audio_then_text (kinds_of (tracks_of_sets variants firsts (number + 1) sets))
      ≡ true)
      → are_audio_then_text (kinds_of (tracks_of_sets variants firsts number (set ∷ sets))) ≡ true
  audio_set Audio number set sets is all later =
      one_set (λ ks. are_audio_then_text ks ≡ true) Audio (λ ks h. h) number set (tracks_of_sets variants firsts (number + 1) sets) is
      (later all)
  audio_set Text number set sets is all later =
      let rest = tracks_of_sets variants firsts (number + 1) sets in
      text_is_behind_audio (kinds_of (tracks_of_sets variants firsts number (set ∷ sets)))
      (one_set (λ ks. are_text ks ≡ true) Text (λ ks h. h) number set rest is (texts_of (number + 1) sets all))
  audio_set Video number set sets is all later = absurd (cc)

  audios_of : (number : ℕ) (sets : List Mentioned) → are_audio_then_text (map kind_of sets) ≡ true
      → are_audio_then_text (kinds_of (tracks_of_sets variants firsts number sets)) ≡ true
  audios_of number [] all = refl
  audios_of number (set ∷ sets) all = audio_set (kind_of set) number set sets refl all (audios_of (number + 1) sets)

  any_set : (k : Kind) (number : ℕ) (set : Mentioned) (sets : List Mentioned) → kind_of set ≡ k → are_in_order (k ∷ map kind_of sets) ≡ true
      → (are_in_order (map kind_of sets) ≡ true → are_in_order (kinds_of (tracks_of_sets variants firsts (number + 1) sets)) ≡ true)
      → are_in_order (kinds_of (tracks_of_sets variants firsts number (set ∷ sets))) ≡ true
  any_set Video number set sets is all later =
      one_set (λ ks. are_in_order ks ≡ true) Video (λ ks h. h) number set (tracks_of_sets variants firsts (number + 1) sets) is (later all)
  any_set Audio number set sets is all later =
      audio_is_behind_video (kinds_of (tracks_of_sets variants firsts number (set ∷ sets)))
      (one_set (λ ks. are_audio_then_text ks ≡ true) Audio (λ ks h. h) number set (tracks_of_sets variants firsts (number + 1) sets) is
      (audios_of (number + 1) sets all))
  any_set Text number set sets is all later =
      audio_is_behind_video (kinds_of (tracks_of_sets variants firsts number (set ∷ sets)))
      (text_is_behind_audio (kinds_of (tracks_of_sets variants firsts number (set ∷ sets)))
      (one_set (λ ks. are_text ks ≡ true) Text (λ ks h. h) number set (tracks_of_sets variants firsts (number + 1) sets) is
      (texts_of (number + 1) sets all)))

  all_of : (number : ℕ) (sets : List Mentioned) → are_in_order (map kind_of sets) ≡ true
      → are_in_order (kinds_of (tracks_of_sets variants firsts number sets)) ≡ true
  all_of number [] all = refl
  all_of number (set ∷ sets) all = any_set (kind_of set) number set sets refl all (all_of (number + 1) sets)

-- ---- the whole

tracks_in_order : (mentions : MentionsValue) → are_in_order (kinds_of (tracks_of mentions)) ≡ true
unfolding tracks_of tracks_among
tracks_in_order mentions =
    let firsts = firsts_of mentions in
    all_of mentions.variants firsts 0 (sets_behind [] (by_kind firsts)) (sets_in_order (by_kind firsts) [] (kinds_in_order firsts))

answer_in_order : (fault : Option MasterFault) (values tracks : List TrackValue) → are_in_order (kinds_of values) ≡ true
    → answer fault values ≡ Ok tracks
    → are_in_order (kinds_of tracks) ≡ true
answer_in_order None values tracks all is = (let alike : values ≡ tracks = cc in subst (λ ts. are_in_order (kinds_of ts) ≡ true) alike all)
answer_in_order (Some fault) values tracks all is = absurd (cc)

lines_in_order : (master : List ℕ) (end : Place) (lines : Result (List PlaylistLine) LineFault) (tracks : List TrackValue)
    → master_by master end lines ≡ Ok tracks → are_in_order (kinds_of tracks) ≡ true
unfolding master_in
lines_in_order master end (Ok lines) tracks is =
    answer_in_order (first_some (faults_of master end lines)) _ tracks (tracks_in_order (mentions_in master lines)) is
lines_in_order master end (Err fault) tracks is = absurd (cc)

pub read_are_in_order : ReadAreInOrder
unfolding master_of
read_are_in_order bytes url tracks is =
    ap are_in_order (sym (map_map (λ (t : TrackValue). t.kind) track_seen tracks))
    ∙ lines_in_order url _ (lines_of bytes) (map track_seen tracks) is
