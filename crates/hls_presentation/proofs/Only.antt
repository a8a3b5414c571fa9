-- That nothing else is refused than tracks and the whole for their faults.
use Rattle.std.proofs.Common.{◌≡◌, ℕ, Bool, true, false, cond, not, List, [], ◌∷◌, ◌++◌, map, flat_map, get_or, All, inl, inr, Result, Ok}
use Rattle.std.proofs.{Common.{Err, refl, sym, ◌∙◌, ap, arith}, lemmas.Bool.or_parts, lemmas.List.append-nil, lemmas.List.Elements.All-nil}
use Rattle.std.proofs.lemmas.List.Elements.{All-cons, All-head, All-tail, All-map, All-filter, filter_passes}
use Rattle.std.specs.List.{list_all}
use Rattle.bridge_io.specs.Firsts.{first_fault}
use Rattle.hls_media.specs.{Laws.IsBounded, declared.media.Media.Media}
use Rattle.hls_master.specs.declared.track.MasterTrack.{MasterTrack}
use Rattle.presentation.specs.declared.parts.Content.{Content}
use Rattle.layer_faults.specs.declared.hls.HlsFault.{HlsFault}
use Rattle.layer_faults.specs.declared.hls.HlsFault.TheVariants.{Limit, MapChanged, NoMap}
use Rattle.hls_presentation.specs.Laws.{OnlyFaultsAreRefused}
use Rattle.layer_faults.specs.declared.hls.HlsFault.TheVariants.{NotEnded, SectionsDiffer, ZeroDuration}
use Rattle.hls_presentation.specs.Presenting.{are_micros, content_of, contents_of, flattened, gathered, hls_presented_of, is_micros}
use Rattle.hls_presentation.specs.{Presenting.{nanos_by_tick, presented_from, presented_of_kept, unless_any}, Sections.all_alike}
use Rattle.hls_presentation.specs.{Sections.{groups_in, is_over_limit, rows_of, whole_faults}, Tracks.{Source, fault_if, faults_of}}
use Rattle.hls_presentation.specs.Tracks.{has_empty, is_kept, is_left_out, kept, lacks_map, lacks_maps, lasts_no_time, left_out}
use Rattle.hls_presentation.specs.Tracks.{map_changes, segment_faults, sources, track_faults}
use Rattle.hls_presentation.proofs.{Grouping.{IsGroup, all_groups, all_rowed, none_pass}, Spanned.{IsTimed, IsUnit, content_ok}}

-- ---- lists of faults

pub no_front : (one more : List HlsFault) → one ++ more ≡ [] → one ≡ []
no_front [] more is = refl
no_front (fault ∷ one) more is = absurd (cc)

no_rest : (one more : List HlsFault) → one ++ more ≡ [] → more ≡ []
no_rest [] more is = is
no_rest (fault ∷ one) more is = absurd (cc)

pub none_if : (test : Bool) (fault : HlsFault) → fault_if test fault ≡ [] → test ≡ false
none_if true fault is = absurd (cc)
none_if false fault is = refl

no_faults : {X : Type 0} (faults : X → List HlsFault) (xs : List X) → flat_map faults xs ≡ [] → All (λ x. faults x ≡ []) xs
no_faults faults [] is = All-nil _
no_faults faults (x ∷ xs) is = All-cons (λ x. faults x ≡ []) x xs (no_front (faults x) _ is) (no_faults faults xs (no_rest (faults x) _ is))

-- what is refused though nothing has a fault
refused_by : {X : Type 0} (faults more : List HlsFault) (next : Result X HlsFault) (fault : HlsFault)
    → (faults ≡ [] → next ≡ Err fault → first_fault more ≡ Err fault)
    → unless_any faults next ≡ Err fault → first_fault (faults ++ more) ≡ Err fault
refused_by [] more next fault later is = later refl is
refused_by (first ∷ faults) more next fault later is = (let same : first ≡ fault = cc in ap Err same)

-- ---- the segments of a track that is kept

all_by : {X : Type 0} (test : X → Bool) (x : X) (xs : List X) (b : Bool) → test x ≡ b
    → (list_all test xs ≡ true → All (λ x. test x ≡ true) xs)
    → list_all test (x ∷ xs) ≡ true → All (λ x. test x ≡ true) (x ∷ xs)
all_by test x xs true is more all = All-cons (λ x. test x ≡ true) x xs is
    (more (let here : list_all test (x ∷ xs) ≡ list_all test xs = rw is refl in sym here ∙ all))
all_by test x xs false is more all = absurd (let here : list_all test (x ∷ xs) ≡ false = rw is refl in cc)

all_pass : {X : Type 0} (test : X → Bool) (xs : List X) → list_all test xs ≡ true → All (λ x. test x ≡ true) xs
all_pass test [] is = All-nil _
all_pass test (x ∷ xs) is = all_by test x xs (test x) refl (all_pass test xs) is

clean : (nanos : ℕ) (s : Source) → faults_of s ≡ [] → is_left_out s ≡ false → IsBounded s.media → (nanos ≡ 1000 → are_micros s ≡ true)
    → All (IsTimed nanos) s.media.segments
clean nanos s none left bounded micros =
    let faults : segment_faults s.media ≡ [] = sym (ap (λ b. cond b [] (segment_faults s.media)) left)
    ∙ no_rest (fault_if (not s.media.ended) NotEnded) _ none in
    let rest = no_rest (fault_if (lacks_maps s.media) NoMap) _ faults in
    let maps = none_pass lacks_map s.media.segments (none_if (lacks_maps s.media) NoMap (no_front _ _ faults)) in
    let times = none_pass lasts_no_time s.media.segments (none_if (has_empty s.media.segments) ZeroDuration
    (no_rest (fault_if (map_changes s.media.segments) MapChanged) _ rest)) in
    λ k d here. record {
      map = maps k d here;
      lasting = times k d here;
      short = (bounded.segments k d here).duration;
      whole = λ is. all_pass is_micros s.media.segments (micros is) k d here;
    }

pub media_bounded : (tracks : List MasterTrack) (medias : List Media) → All IsBounded medias
    → All (λ (s : Source). IsBounded s.media) (sources tracks medias)
media_bounded [] medias all = All-nil _
media_bounded (track ∷ tracks) [] all = All-nil _
media_bounded (track ∷ tracks) (media ∷ medias) all = All-cons (λ (s : Source). IsBounded s.media)
    (record { track = track; media = media }) (sources tracks medias) (All-head IsBounded media medias all)
    (media_bounded tracks medias (All-tail IsBounded media medias all))

pub not_passes : (b : Bool) → not b ≡ false → b ≡ true
not_passes true is = refl
not_passes false is = absurd (cc)

kept_passes : (b : Bool) → not b ≡ true → b ≡ false
kept_passes true is = absurd (cc)
kept_passes false is = refl

-- ---- how times are counted

abbrev unit_of : Bool → ℕ
unit_of b = cond b 1000 1

micros_by : (b : Bool) → unit_of b ≡ 1000 → b ≡ true
micros_by true is = refl
micros_by false is = absurd (omega (arith, is))

unit_by : (b : Bool) → IsUnit (unit_of b)
unit_by true = inr refl
unit_by false = inl refl

-- ---- the whole

gather_ok : {X Y : Type 0} (give : X → Result Y HlsFault) (xs : List X) → All (λ x. (y : Y) × (give x ≡ Ok y)) xs
    → (ys : List Y) × (gathered give xs ≡ Ok ys)
gather_ok give [] all = ([], refl)
gather_ok give (x ∷ xs) all =
    let one = All-head (λ x. (y : _) × (give x ≡ Ok y)) x xs all in
    let more = gather_ok give xs (All-tail (λ x. (y : _) × (give x ≡ Ok y)) x xs all) in
    (one.0 ∷ more.0, rw (one.1, more.1) refl)

whole_ok : (ours : List Source) → All (λ s. faults_of s ≡ []) ours → All (λ s. is_left_out s ≡ false) ours
    → All (λ (s : Source). IsBounded s.media) ours → whole_faults (map groups_in ours) ≡ []
    → (contents : List Content) × (contents_of (nanos_by_tick ours) (rows_of (map groups_in ours)) ≡ Ok contents)
whole_ok ours none left bounded whole =
    let nanos = nanos_by_tick ours in
    let groups = map groups_in ours in
    let alike : all_alike groups ≡ true = not_passes _ (none_if (not (all_alike groups)) SectionsDiffer (no_front _ _ whole)) in
    let limit : is_over_limit (rows_of groups) ≡ false = none_if (is_over_limit (rows_of groups)) Limit
    (no_front _ _ (no_rest (fault_if (not (all_alike groups)) SectionsDiffer) _ whole)) in
    let all = All-map (All (IsGroup (IsTimed nanos))) groups_in ours
    (λ k d here. all_groups (IsTimed nanos) (get_or ours k d).media.segments
    (clean nanos (get_or ours k d) (none k d here) (left k d here) (bounded k d here)
    (λ is. all_pass are_micros ours (micros_by (list_all are_micros ours) is) k d here))) in
    let rowed = all_rowed (IsTimed nanos) groups alike all (or_parts _ _ limit).0 in
    gather_ok (content_of nanos) (flattened (rows_of groups)) (λ k d here. content_ok nanos (unit_by (list_all are_micros ours))
    (get_or (flattened (rows_of groups)) k d) (rowed k d here))

refused_whole : (tracks : List MasterTrack) (medias : List Media) (fault : HlsFault) → All IsBounded medias
    → track_faults (sources tracks medias) ≡ []
    → presented_of_kept (kept (sources tracks medias)) (left_out (sources tracks medias)) ≡ Err fault
    → first_fault (whole_faults (map groups_in (kept (sources tracks medias)))) ≡ Err fault
unfolding presented_of_kept presented_from
refused_whole tracks medias fault bounded none is =
    let all = sources tracks medias in
    let ours = kept all in
    let faults = whole_faults (map groups_in ours) in
    ap first_fault (sym (append-nil faults)) ∙ refused_by faults [] _ fault
    (λ whole refused.
    let ok = whole_ok ours (All-filter is_kept (λ s. faults_of s ≡ []) all (no_faults faults_of all none))
    (λ k d here. kept_passes (is_left_out (get_or (kept all) k d)) (filter_passes is_kept all k d here))
    (All-filter is_kept (λ (s : Source). IsBounded s.media) all (media_bounded tracks medias bounded)) whole in
    absurd (let bad = rw ok.1 at refused in cc)) is

pub only_faults_are_refused : OnlyFaultsAreRefused
unfolding hls_presented_of
only_faults_are_refused tracks medias fault bounded is =
    refused_by (track_faults (sources tracks medias)) _ _ fault (refused_whole tracks medias fault bounded) is
