-- The tracks of an MPD.
use Rattle.mpd_rules.specs.Typed as typed
use Rattle.std.proofs.Common.{◌≡◌, ℕ, ◌+◌, ◌<◌, ◌≤◌, ◌^◌, ◌||◌, not, Bool, true, false, List, [], ◌∷◌, ◌++◌, All, get_or, length, map}
use Rattle.std.proofs.Common.{flat_map, slice_get, Option, Some, None, Ok, IfSome, nat_lt, refl, sym, ◌∙◌, ap, subst, inl, inr, arith}
use Rattle.std.proofs.{lemmas.Bool.{and_parts, cases_Bool}, lemmas.Bool.Decides.nat_tests, lemmas.List.length-map}
use Rattle.std.proofs.lemmas.List.Elements.{All-cons, All-head, All-map, All-nil, All-tail, All-weaker}
use Rattle.std.proofs.{lemmas.List.Kept.IsNonDecreasingBy-filter, lemmas.Option.same_Some}
use Rattle.std.specs.{Prelude.{codes, is_none, is_some, option_map, unwrap_or, if◌then◌else◌}, List.list_any}
use Rattle.bridge_io.proofs.AndThen.{steps_of}
use Rattle.bridge_io.specs.{declared.media.Kind.Kind, declared.media.Kind.TheVariants.Video, declared.place.Place.Place}
use Rattle.mpd_values.specs.{Codecs.{are_codes, are_read_codes, has_foreign_code}, Languages.is_language, MediaTypes.kind_of}
use Rattle.mpd_tree.specs.Trees.{Element, Head}
use Rattle.mpd_profile.specs.{declared.fault.RuleFault.RuleFault, declared.fault.RuleFault.TheVariants.NoTracks}
use Rattle.mpd_profile.specs.{declared.listed.Addressing.Addressing, declared.listed.Addressing.TheVariants.{Index, Segments as OneByOne}}
use Rattle.mpd_profile.specs.declared.listed.Listed.TheVariants.{AdaptationSet, Representation}
use Rattle.mpd_profile.specs.declared.value.Value.TheVariants.{Codes, Language}
use Rattle.mpd_profile.specs.Features.{attributes_told, codes_feature, has_foreign, kind_named, parent_feature, told_at}
use Rattle.mpd_profile.specs.Heads.{has_child, is_dynamic, or_else, value_named, value_over}
use Rattle.mpd_profile.specs.{LeftOut.{is_other_type, is_representation_left_out, type_of}, Sound.parent_of, Visits.Parent, Values.is_value}
use Rattle.mpd_profile.proofs.Sound.{neither}
use Rattle.mpd_levels.specs.{Indexed.index_of, Segments.segments_of}
use Rattle.mpd_rules.specs.{declared.rows.Description.Description, declared.rows.PeriodRow.PeriodRow, declared.rows.TrackRow.TrackRow}
use Rattle.mpd_rules.specs.Kept.{Path, path_in, paths_in, paths_of, periods_of, representations_of, sets_of}
use Rattle.mpd_rules.specs.Periods.{bounds_from, end_said, first_start, start_of, timed_of, total_of}
use Rattle.mpd_rules.specs.Rules.{is_played, is_silent, silence_in, silence_told}
use Rattle.mpd_rules.specs.Typed.{TypedMpd, common_at, description_in, kind_by, period_of}
use Rattle.presentation.specs.{Counting.unless_any, declared.fault.PresentationFault.TheVariants.Limit, declared.track.Track.Track}
use Rattle.presentation.specs.{Presented.Presented, Order.{by_kind, is_of}}
use Rattle.mpd_presentation.specs.Rows.{Period, Row, first_rows, in_order, joined_codes, section_of, track_of}
use Rattle.mpd_presentation.specs.Told.{differ_told, needs_now, over_told, all_told, presented_if_told, presented_of, presented_with}
use Rattle.mpd_presentation.specs.Told.{told_before, told_in_order}
use Rattle.presentation.proofs.{Firsts.none_before, Reached.{none_first, none_later}, Filling.{all_in_order, length_in_order}}
use Rattle.laws_of_playlists.specs.Origins.{CameFromMpd, HaveFewTracks, HaveSections, HaveTracks, IndexedTracksAreWritable}
use Rattle.laws_of_playlists.specs.Origins.{TracksAreWritable}
use Rattle.laws_of_playlists.specs.Tracks.{AreOrdered, AreOwnCodes, AreWritable, AreWritableIfFew, HaveOneLanguage, IsTold}
use Rattle.laws_of_playlists.proofs.{OriginCodes.joined_own, OriginKept.{IsClean, IsFinePath, IsPlaced, clean, clean_index, paths_placed}}
use Rattle.laws_of_playlists.proofs.OriginOrder.{Rises, Rises-before, Rises-map, in_order_twice, kept_in_order, map_in_order}
use Rattle.laws_of_playlists.proofs.OriginOrder.{non_decreasing}

-- ---- what a Representation says

pub record IsDescribed (d : Description) : Type 0 where
  pub language : IfSome d.language (λ tag. is_language tag ≡ true)
  pub codecs : IfSome d.codecs (AreOwnCodes d.kind)

if_there : {X : Type 0} (o : Option X) (P : X → Type 0) → ((x : X) → o ≡ Some x → P x) → IfSome o P
if_there None P each = tt
if_there (Some x) P each = each x refl

pub or_there : {X : Type 0} (own other : Option X) (P : X → Type 0) → IfSome own P → IfSome other P → IfSome (or_else own other) P
or_there None other P one two = two
or_there (Some x) other P one two = one

by_kind_of : (kind : Option Kind) (codecs : Option (List ℕ)) → is_none kind ≡ false → IfSome codecs (λ text. are_read_codes text ≡ true)
    → has_foreign kind codecs ≡ false
    → IfSome codecs (AreOwnCodes (unwrap_or kind Video))
unfolding has_foreign_code
by_kind_of None codecs some read own = absurd (cc)
by_kind_of (Some kind) None some read own = tt
by_kind_of (Some kind) (Some text) some read own = record { are = (and_parts _ (are_codes text) read).1; own = rw read at own }

-- the media type that holds is the Representation's own, otherwise its set's
by_types : (own set codecs : Option (List ℕ)) → is_none (or_else own set) ≡ false → is_other_type (or_else own set) ≡ false
    → IfSome codecs (λ text. are_read_codes text ≡ true)
    → has_foreign (kind_named (or_else own set)) codecs ≡ false
    → IfSome codecs (AreOwnCodes (unwrap_or (kind_by (kind_by None set) own) Video))
by_types (Some type) set codecs some played read foreign = by_kind_of (kind_of type) codecs played read foreign
by_types None (Some type) codecs some played read foreign = by_kind_of (kind_of type) codecs played read foreign
by_types None None codecs some played read foreign = absurd (cc)

untold : (place : Place) (set : Parent) (head : Head) → told_at place (codes_feature (Some Representation) (Some set) head) ≡ []
    → has_foreign (kind_named (value_over (codes "mimeType") set.head head)) (value_over (codes "codecs") set.head head) ≡ false
untold place set head none = elim (cases_Bool (has_foreign (kind_named (value_over (codes "mimeType") set.head head))
    (value_over (codes "codecs") set.head head))) [
      | inl foreign ↦ absurd (cc (rw foreign at none))
      | inr own ↦ own
    ]

is_played_type : (type : Option (List ℕ)) (e : Element) → is_representation_left_out type e ≡ false
    → is_other_type (or_else (type_of e.head) type) ≡ false
unfolding is_representation_left_out
is_played_type type e kept = (neither (has_child (codes "EssentialProperty") e.children) _ kept).1

module _ (addressing : Addressing) (dynamic : Bool) (path : Path) (fine : IsFinePath addressing dynamic path) where
  none_foreign : has_foreign (kind_named (value_over (codes "mimeType") path.set.head path.representation.head))
      (value_over (codes "codecs") path.set.head path.representation.head) ≡ false
  none_foreign =
      let plain = fine.representation.plain in
      let head = path.representation.head in
      let set = parent_of AdaptationSet dynamic path.set in
      let own = told_at head.place (parent_feature (Some set) plain.before head.name) in
      let by_codes = told_at head.place (codes_feature (Some Representation) (Some set) head) in
      let rest = attributes_told (Some Representation) dynamic head.attributes in
      untold head.place set head (none_later own by_codes (none_first (own ++ by_codes) rest plain.here))

  read_in : (e : Element) → ((text : List ℕ) → value_named (codes "codecs") e.head ≡ Some text → is_value Codes text ≡ true)
      → IfSome (value_named (codes "codecs") e.head) (λ text. are_read_codes text ≡ true)
  unfolding is_value
  read_in e valued = if_there (value_named (codes "codecs") e.head) (λ text. are_read_codes text ≡ true) valued

  spoken : IfSome (value_named (codes "lang") path.set.head) (λ tag. is_language tag ≡ true)
  unfolding is_value
  spoken = if_there (value_named (codes "lang") path.set.head) (λ tag. is_language tag ≡ true)
      (λ text is. fine.set.sound.sound.values (codes "lang") text Language refl is)

  pub described : IsDescribed (description_in (common_at path) path.representation)
  described = record {
    language = spoken;
    codecs = by_types (value_named (codes "mimeType") path.representation.head) (value_named (codes "mimeType") path.set.head)
        (value_over (codes "codecs") path.set.head path.representation.head)
        fine.representation.sound.typed
        (is_played_type (type_of path.set.head) path.representation fine.representation.kept)
        (
        or_there (value_named (codes "codecs") path.representation.head) (value_named (codes "codecs") path.set.head)
        (λ text. are_read_codes text ≡ true)
        (read_in path.representation (λ text is. fine.representation.sound.sound.values (codes "codecs") text Codes refl is))
        (read_in path.set (λ text is. fine.set.sound.sound.values (codes "codecs") text Codes refl is))
        )
        none_foreign;
  }

told_track : {X : Type 0} (row : TrackRow X) → IsDescribed row.description → IsTold (track_of row)
told_track row is = record { language = is.language; codecs = codes_told row.description.codecs is.codecs }
  where
    codes_told : (o : Option (List ℕ)) → IfSome o (AreOwnCodes row.description.kind)
        → IfSome (option_map joined_codes o) (AreOwnCodes row.description.kind)
    codes_told None own = tt
    codes_told (Some text) own = joined_own row.description.kind text own

-- ---- Periods

module _ {X : Type 0} (told : List Element → X) where
  abbrev row_of : Path → TrackRow X
  row_of path = typed.track_of told path

  -- what holds of the rows of a Period's Representations that are kept
  pub periods_hold : (Q : List (TrackRow X) → Type 0) (tree : Element) (total default : Option ℕ) (periods : List Element)
      → All (λ e. Q (map row_of (paths_of tree e))) periods
      → All (λ (p : PeriodRow X). Q p.tracks) (map (period_of told tree) (map timed_of (bounds_from total default periods)))
  periods_hold Q tree total default [] all = All-nil (λ (p : PeriodRow X). Q p.tracks)
  periods_hold Q tree total default (e ∷ periods) all =
      let Here = λ (e : Element). Q (map row_of (paths_of tree e)) in
      All-cons (λ (p : PeriodRow X). Q p.tracks) _ _ (All-head Here e periods all)
      (periods_hold Q tree total (end_said (start_of default e) e) periods (All-tail Here e periods all))

  module _ (addressing : Addressing) (tree : Element) (mpd : TypedMpd X) (is : IsClean addressing told tree mpd) where
    each_period : (Q : List (TrackRow X) → Type 0) → All (λ e. Q (map row_of (paths_of tree e))) (periods_of tree)
        → All (λ (p : PeriodRow X). Q p.tracks) mpd.periods
    each_period Q all =
        subst (λ (m : TypedMpd X). All (λ (p : PeriodRow X). Q p.tracks) m.periods) (sym is.values)
        (periods_hold Q tree (total_of tree.head) (first_start tree.head) (periods_of tree) all)

    -- what holds at each Representation that is kept holds of each row
    pub each_row : (Q : TrackRow X → Type 0) → All (λ e. All (λ path. Q (row_of path)) (paths_of tree e)) (periods_of tree)
        → All (λ (p : PeriodRow X). All Q p.tracks) mpd.periods
    each_row Q all =
        let Here = λ (e : Element). All (λ path. Q (row_of path)) (paths_of tree e) in
        each_period (All Q) (All-weaker Here (λ e. All Q (map row_of (paths_of tree e))) (λ e here. All-map Q row_of (paths_of tree e) here)
        (periods_of tree) all)

-- ---- places

-- a row says the language of the set at its place
abbrev Speaks : List Element → ℕ → Option (List ℕ) → Type 0
Speaks sets place language = option_map (λ (set : Element). value_named (codes "lang") set.head) (slice_get sets place) ≡ Some language

speaks : (sets : List Element) (path : Path) → IsPlaced sets 0 path → Speaks sets path.place (value_named (codes "lang") path.set.head)
speaks sets path is =
    let same : path.place ≡ is.behind = omega (arith, is.place_is) in
    ap (λ k. option_map (λ (set : Element). value_named (codes "lang") set.head) (slice_get sets k)) same
    ∙ ap (option_map (λ (set : Element). value_named (codes "lang") set.head)) is.set_is

one_language : (sets : List Element) (one other : Track) → Speaks sets one.set one.language → Speaks sets other.set other.language
    → HaveOneLanguage one other
one_language sets one other first later kinds same =
    same_Some one.language other.language (sym first
    ∙ ap (λ k. option_map (λ (set : Element). value_named (codes "lang") set.head) (slice_get sets k)) same ∙ later)

paths_rise : (mpd e : Element) (place : ℕ) (sets : List Element) → Rises (λ (path : Path). path.place) (paths_in mpd e place sets)
paths_rise mpd e place [] = tt
paths_rise mpd e place (set ∷ sets) =
    let n = λ (path : Path). path.place in
    Rises-before n place (map (path_in mpd e set place) (representations_of set)) (paths_in mpd e (place + 1) sets)
    (All-map (λ path. n path ≡ place) (path_in mpd e set place) (representations_of set) (λ k d within. refl))
    (λ k d within. let here = (paths_placed mpd e (place + 1) sets k d within).place_is in omega (arith, here))
    (paths_rise mpd e (place + 1) sets)

-- ---- the tracks of Representations in document order

abbrev row_kind : {X : Type 0} → TrackRow X → Kind
row_kind row = row.description.kind

long : {X : Type 0} (rows : List (TrackRow X)) → length (map track_of (in_order rows)) ≡ length rows
long rows = omega (arith, length-map (by_kind row_kind rows) track_of, length_in_order row_kind rows)

abbrev SpeaksOfSet : {X : Type 0} → List Element → TrackRow X → Type 0
SpeaksOfSet sets row = Speaks sets row.description.set row.description.language

module _ {X : Type 0} (sets : List Element) (rows : List (TrackRow X)) where
  abbrev tracks : List Track
  tracks = map track_of rows

  abbrev SaysOfSet : Track → Type 0
  SaysOfSet track = Speaks sets track.set track.language

  ordered : Rises (λ (row : TrackRow X). row.description.set) rows → All (SpeaksOfSet sets) rows
      → AreOrdered (by_kind (λ (track : Track). track.kind) tracks)
  ordered rise speak =
      let kind = λ (track : Track). track.kind in
      let all = all_in_order kind SaysOfSet tracks (All-map SaysOfSet track_of rows speak) in
      record {
        kinds = in_order_twice kind tracks;
        sets = λ k. rw (kept_in_order kind k tracks) (IsNonDecreasingBy-filter (λ (track : Track). track.set)
            (λ track. is_of k track.kind) tracks (non_decreasing (λ (track : Track). track.set) tracks
            (Rises-map (λ (track : Track). track.set) track_of rows rise)));
        languages = λ i one in_one. λ j other in_other. one_language sets (get_or (by_kind kind tracks) i one)
            (get_or (by_kind kind tracks) j other) (all i one in_one) (all j other in_other);
      }

  told_all : All (λ (row : TrackRow X). IsDescribed row.description) rows → All IsTold (by_kind (λ (track : Track). track.kind) tracks)
  told_all all = all_in_order (λ (track : Track). track.kind) IsTold tracks
      (All-map IsTold track_of rows (All-weaker (λ (row : TrackRow X). IsDescribed row.description)
      (λ row. IsTold (track_of row)) told_track rows all))

  writable : Rises (λ (row : TrackRow X). row.description.set) rows → All (SpeaksOfSet sets) rows
      → All (λ (row : TrackRow X). IsDescribed row.description) rows → length rows < 2 ^ 64 → AreWritable (map track_of (in_order rows))
  writable rise speak all few =
      let same = map_in_order (λ (track : Track). track.kind) track_of rows in
      record { ordered = rw same (ordered rise speak); told = rw same (told_all all); few = omega (arith, long rows) }

module _ {X : Type 0} (addressing : Addressing) (told : List Element → X) (tree : Element) where
  period_writable : (e : Element) → All (IsFinePath addressing (is_dynamic tree.head)) (paths_of tree e)
      → AreWritableIfFew (map (typed.track_of told) (paths_of tree e))
  period_writable e fine few =
      let row_of = typed.track_of told in
      let paths = paths_of tree e in
      let Described = λ (row : TrackRow X). IsDescribed row.description in
      writable (sets_of e) (map row_of paths) (Rises-map (λ (row : TrackRow X). row.description.set) row_of paths
      (paths_rise tree e 0 (sets_of e)))
      (All-map (SpeaksOfSet (sets_of e)) row_of paths (All-weaker (IsPlaced (sets_of e) 0)
      (λ path. Speaks (sets_of e) path.place (value_named (codes "lang") path.set.head)) (speaks (sets_of e)) paths
      (paths_placed tree e 0 (sets_of e))))
      (All-map Described row_of paths (All-weaker (IsFinePath addressing (is_dynamic tree.head)) (λ path. Described (row_of path))
      (described addressing (is_dynamic tree.head)) paths fine))
      few

  pub periods_writable : (mpd : TypedMpd X) → IsClean addressing told tree mpd
      → All (λ (p : PeriodRow X). AreWritableIfFew p.tracks) mpd.periods
  periods_writable mpd is =
      let Fine = λ (e : Element). All (IsFinePath addressing (is_dynamic tree.head)) (paths_of tree e) in
      let Writable = λ (e : Element). AreWritableIfFew (map (typed.track_of told) (paths_of tree e)) in
      each_period told addressing tree mpd is AreWritableIfFew (All-weaker Fine Writable period_writable (periods_of tree) is.paths)

pub indexed_tracks_are_writable : IndexedTracksAreWritable
indexed_tracks_are_writable tree mpd is = periods_writable Index index_of tree mpd (clean_index tree mpd is)

-- ---- a presentation

abbrev MemberOf : {X : Type 0} → (List X → List X) → Type 0
MemberOf {X} f = X

-- what a Representation is told as
abbrev pub Told : Type 0
Told = MemberOf told_in_order

pub record IsOfMpd (p : Presented) (from : CameFromMpd p) : Type 0 where
  pub tolds : List Told
  pub checked : told_before from.mpd.facts.live (is_some from.now) from.mpd.periods ≡ []
  pub all : all_told from.url from.mpd.facts.live from.mpd.periods ≡ Ok tolds
  pub is : presented_with from.mpd from.now tolds ≡ p

pub of_mpd : (p : Presented) (from : CameFromMpd p) → IsOfMpd p from
unfolding presented_of
of_mpd p from =
    let before = steps_of (unless_any {X = Unit {0}} (told_before from.mpd.facts.live (is_some from.now) from.mpd.periods) tt)
    (λ _. presented_if_told from.mpd from.url from.now) p from.presented in
    let tolds = steps_of (all_told from.url from.mpd.facts.live from.mpd.periods)
    (λ tolds. Ok (presented_with from.mpd from.now tolds)) p before.then in
    record {
      tolds = tolds.value;
      checked = none_before
          (told_before from.mpd.facts.live (is_some from.now) from.mpd.periods) tt before.value before.first;
      all = tolds.first;
      is = (let h = tolds.then in cc);
    }

not_over : (over : Bool) (n : ℕ) → (if over || nat_lt 200 n then Limit ∷ [] else []) ≡ [] → n ≤ 200
not_over true n none = absurd (cc)
not_over false n none = elim (cases_Bool (nat_lt 200 n)) [ inl many ↦ absurd (cc (rw many at none)) | inr few ↦ grind (arith, nat_tests) ]

few_rows : (live has_now : Bool) (periods : List Period) → told_before live has_now periods ≡ [] → length (first_rows periods) ≤ 200
few_rows live has_now periods none =
    not_over (nat_lt 1000 (length periods)) (length (first_rows periods))
    (none_first (over_told periods) (differ_told periods) (none_later (needs_now live has_now)
    (over_told periods ++ differ_told periods) none))

-- ---- something is played

some_played : (rows : List Row) → not (list_any (λ (row : Row). is_played row.description.kind) rows) ≡ false → 0 < length rows
some_played [] silent = absurd (cc)
some_played (row ∷ rows) silent = omega arith

heard : (silent : Bool) (fault : RuleFault) (later : List RuleFault) → (if silent then fault ∷ [] else []) ++ later ≡ [] → silent ≡ false
heard true fault later none = absurd (cc)
heard false fault later none = refl

some_track : (place : Place) (periods : List Period) → silence_in place periods ≡ [] → (0 < length periods)
    × (0 < length (first_rows periods))
some_track place [] none = absurd (cc)
some_track place (p ∷ periods) none = (
  omega arith,
  some_played p.tracks (heard (is_silent p) (NoTracks p.place) (flat_map silence_told periods) none),
)

first_holds : (Q : List Row → Type 0) (periods : List Period) → 0 < length periods → All (λ (p : Period). Q p.tracks) periods
    → Q (first_rows periods)
first_holds Q [] some all = absurd (omega (arith, some))
first_holds Q (p ∷ periods) some all = All-head (λ (p : Period). Q p.tracks) p periods all

module _ (p : Presented) (from : CameFromMpd p) where
  abbrev is_clean : IsClean OneByOne segments_of from.tree from.mpd
  is_clean = clean from.tree from.mpd from.typed

  some : (0 < length from.mpd.periods) × (0 < length (first_rows from.mpd.periods))
  some = some_track from.tree.head.place from.mpd.periods is_clean.playing

  few : length (first_rows from.mpd.periods) ≤ 200
  few = few_rows from.mpd.facts.live (is_some from.now) from.mpd.periods (of_mpd p from).checked

  -- its tracks are those of the first Period
  of_first : (Q : List Track → Type 0) → Q (map track_of (in_order (first_rows from.mpd.periods))) → Q p.tracks
  of_first Q is = subst (λ (q : Presented). Q q.tracks) (of_mpd p from).is is

  writable_there : AreWritable p.tracks
  writable_there = of_first AreWritable (first_holds AreWritableIfFew from.mpd.periods some.0
      (periods_writable OneByOne segments_of from.tree from.mpd is_clean) (omega (arith, few)))

  track_there : 0 < length p.tracks
  track_there = of_first (λ tracks. 0 < length tracks) (omega (arith, long (first_rows from.mpd.periods), some.1))

  few_there : length p.tracks ≤ 200
  few_there = of_first (λ tracks. length tracks ≤ 200) (omega (arith, long (first_rows from.mpd.periods), few))

  section_there : 0 < length p.sections
  section_there = subst (λ (q : Presented). 0 < length q.sections) (of_mpd p from).is
      (omega (arith, length-map from.mpd.periods section_of, some.0))

pub tracks_are_writable : TracksAreWritable
tracks_are_writable p from = writable_there p from

pub have_tracks : HaveTracks
have_tracks p from = track_there p from

pub have_few_tracks : HaveFewTracks
have_few_tracks p from = few_there p from

pub have_sections : HaveSections
have_sections p from = section_there p from
