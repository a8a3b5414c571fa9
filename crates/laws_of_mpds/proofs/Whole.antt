-- What is presented of playlists is written as an MPD that means the same.
use Rattle.std.proofs.Common.{◌≡◌, ℕ, take, ◌==◌, ◌<◌, not, Bool, true, false, List, [], ◌∷◌, ◌++◌, map, length, All, Ok, refl, sym, ◌∙◌}
use Rattle.std.proofs.{Common.{ap, subst, arith}, lemmas.List.Elements.{All-head, All-tail, All-nil, All-cons, All-map, All-filter}}
use Rattle.bridge_io.proofs.AndThen.{steps_of}
use Rattle.hls_master.specs.declared.track.MasterTrack.{MasterTrack}
use Rattle.hls_media.specs.{Laws.IsBounded, declared.media.Media.Media}
use Rattle.presentation.specs.{declared.track.Track.Track, Presented.{Presented, of_parts}}
use Rattle.hls_presentation.specs.Presenting.{contents_of}
use Rattle.layer_faults.specs.declared.hls.HlsFault.TheVariants.{Limit, NoTracks, SectionsDiffer}
use Rattle.hls_presentation.specs.Presenting.{flattened, hls_presented_of, nanos_by_tick, parts_with, presented_from, presented_of_kept}
use Rattle.hls_presentation.specs.{Presenting.track_of, Sections.{all_alike, groups_in, is_over_limit, rows_of, section_count}}
use Rattle.hls_presentation.specs.{Sections.whole_faults, Tracks.{Source, fault_if, is_kept, kept, left_out, sources, track_faults}}
use Rattle.hls_presentation.proofs.{Came.{all_filled, length_sections}, Faults.{given, none_given}, Grouping.{IsGroup, all_groups}}
use Rattle.hls_presentation.proofs.{Grouping.all_rowed, Rows.{count_rows, within_limit}}
use Rattle.laws_of_mpds.specs.{Meant.{IsWritable, are_in_order}, Texts.{IsTellable, TextsMean}, Written.{CanBeTold, HaveAddresses}}
use Rattle.laws_of_mpds.specs.Written.{PlaylistsMeanTheSame}
use Rattle.laws_of_mpds.proofs.{Ordered.{front_in_order, kept_in_order}, ReadPlain.{IsPlainSegment, all_plain, ticks_by}}

-- ---- what is so of tracks and playlists is so of both together

pub sources_all : (P : MasterTrack → Type 0) (Q : Media → Type 0) (tracks : List MasterTrack) (medias : List Media) → All P tracks
    → All Q medias
    → All (λ (s : Source). P s.track × Q s.media) (sources tracks medias)
sources_all P Q [] medias tell have = All-nil _
sources_all P Q (track ∷ tracks) [] tell have = All-nil _
sources_all P Q (track ∷ tracks) (media ∷ medias) tell have =
    All-cons (λ (s : Source). P s.track × Q s.media) (record { track = track; media = media }) (sources tracks medias)
    (All-head P track tracks tell, All-head Q media medias have)
    (sources_all P Q tracks medias (All-tail P track tracks tell) (All-tail Q media medias have))

-- there is a playlist for each of the first tracks
first_kinds : (tracks : List MasterTrack) (medias : List Media)
    → map (λ (s : Source). s.track.kind) (sources tracks medias) ≡ take (length medias) (map (λ (t : MasterTrack). t.kind) tracks)
first_kinds [] [] = refl
first_kinds [] (media ∷ medias) = refl
first_kinds (track ∷ tracks) [] = refl
first_kinds (track ∷ tracks) (media ∷ medias) = ap (λ kinds. track.kind ∷ kinds) (first_kinds tracks medias)

map_map : {X Y Z : Type 0} (f : Y → Z) (g : X → Y) (xs : List X) → map f (map g xs) ≡ map (λ x. f (g x)) xs
map_map f g [] = refl
map_map f g (x ∷ xs) = ap (λ ys. f (g x) ∷ ys) (map_map f g xs)

-- ---- no fault of the whole

none_of : (a b c : Bool) → fault_if a SectionsDiffer ++ (fault_if b Limit ++ fault_if c NoTracks) ≡ []
    → (a ≡ false) × (b ≡ false) × (c ≡ false)
none_of true b c is = absurd (cc)
none_of false true c is = absurd (cc)
none_of false false true is = absurd (cc)
none_of false false false is = (refl, refl, refl)

not_false : (b : Bool) → not b ≡ false → b ≡ true
not_false true is = refl
not_false false is = absurd (cc)

-- ---- the whole

-- what is asked of a track with its playlist
abbrev pub IsFit : Source → Type 0
IsFit s = CanBeTold s.track × (IsBounded s.media × HaveAddresses s.media)

pub plain_segments : (media : Media) → IsBounded media × HaveAddresses media → All IsPlainSegment media.segments
plain_segments media is = λ k d here. record { bounded = is.0.segments k d here; addresses = is.1 k d here }

pub both : {X : Type 0} (P Q : X → Type 0) (xs : List X) → All P xs → All Q xs → All (λ x. P x × Q x) xs
both P Q xs all also = λ k d here. (all k d here, also k d here)

some_sections : (n : ℕ) → (n == 0) ≡ false → 0 < n
some_sections n is = grind arith

-- the presentation can be written, and its tracks told
pub record CanBeWritten (p : Presented) : Type 0 where
  pub written : IsWritable p
  pub told : All IsTellable p.tracks

pub can_be_written : (tracks : List MasterTrack) (medias : List Media) (p : Presented) → All IsBounded medias → All HaveAddresses medias
    → are_in_order (map (λ (track : MasterTrack). track.kind) tracks) ≡ true → All CanBeTold tracks → hls_presented_of tracks medias ≡ Ok p
    → CanBeWritten p
unfolding hls_presented_of presented_of_kept presented_from
can_be_written tracks medias p bounded have ordered tell is =
    let all = sources tracks medias in
    let ours = kept all in
    let groups = map groups_in ours in
    let rows = rows_of groups in
    let next = given (track_faults all) _ p is in
    let whole = none_given (whole_faults groups) _ p next in
    let s = steps_of (contents_of (nanos_by_tick ours) rows) _ p (given (whole_faults groups) _ p next) in
    let same : of_parts (parts_with ours (left_out all) rows s.value) ≡ p = (let h = s.then in cc) in
    let faults = none_of (not (all_alike groups)) (is_over_limit rows) (section_count groups == 0) whole in
    let fit : All IsFit ours = All-filter is_kept IsFit all
    (sources_all CanBeTold (λ media. IsBounded media × HaveAddresses media) tracks medias tell
    (both IsBounded HaveAddresses medias bounded have)) in
    let plain : All (All (IsGroup IsPlainSegment)) groups =
    All-map (All (IsGroup IsPlainSegment)) groups_in ours (λ k d here. all_groups IsPlainSegment _ (plain_segments _ (fit k d here).1)) in
    let rowed = all_rowed IsPlainSegment groups (not_false (all_alike groups) faults.0) plain (within_limit rows faults.1).short in
    let kinds : are_in_order (map (λ (s : Source). s.track.kind) all) ≡ true =
    ap are_in_order (first_kinds tracks medias) ∙ front_in_order (length medias) (map (λ (t : MasterTrack). t.kind) tracks) ordered in
    subst CanBeWritten same (record {
      written = record {
        finished = refl;
        some = subst (λ n. 0 < n) (sym (length_sections 0 0 rows ∙ count_rows groups)) (some_sections (section_count groups) faults.2);
        filled = all_filled (nanos_by_tick ours) ours s.value s.first;
        plain = all_plain (nanos_by_tick ours) (ticks_by _) (flattened rows) s.value rowed s.first;
        ordered = ap are_in_order (map_map (λ (t : Track). t.kind) track_of ours)
            ∙ kept_in_order (λ (s : Source). s.track.kind) is_kept all kinds;
      };
      told = All-map IsTellable track_of ours (λ k d here. let one = (fit k d here).0 in
          record { language = one.language; codecs = one.codecs });
    })

pub playlists_mean_the_same : TextsMean → PlaylistsMeanTheSame
playlists_mean_the_same texts form tracks medias p url now bounded have ordered tell is =
    let can = can_be_written tracks medias p bounded have ordered tell is in
    texts form p url now can.written can.told
