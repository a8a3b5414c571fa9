-- The presentation of an MPD and its media files can be written and read again.
use Rattle.mpd_levels.specs.declared.level.Means.TheVariants as means
use Rattle.mpd_presentation.proofs.Pace.{IsSound as AreSound}
use Rattle.mpd_profile.specs.declared.listed.Addressing.TheVariants.{Index as Indexed}
use Rattle.std.proofs.Common.{◌≡◌, ℕ, zero, suc, ◌+◌, ◌*◌, ◌<◌, ◌≤◌, ◌^◌, ◌==◌, nat_lt, Bool, true, false, List, [], ◌∷◌, ◌++◌, flat_map}
use Rattle.std.proofs.{Common.{length, map, All, Option, Some, None, IfSome, Ok, refl, sym, ap, subst, arith}, lemmas.Bool.or_parts}
use Rattle.std.proofs.{lemmas.Bool.Decides.nat_tests, lemmas.List.length-map, lemmas.List.Elements.{All-cons, All-nil}}
use Rattle.std.proofs.lemmas.Option.{IfSome_then}
use Rattle.std.specs.{Prelude.{◌-◌, if◌then◌else◌, option_map, slice_get}, List.list_any}
use Rattle.bridge_io.proofs.AndThen.{steps_of}
use Rattle.exact_time.proofs.TimeOrder.{at_most-false}
use Rattle.bridge_io.specs.Outside.{Files}
use Rattle.mpd_tree.specs.Trees.{Element}
use Rattle.mpd_levels.specs.{declared.indexed.IndexRow.IndexRow, declared.initialization.Initialization.Initialization}
use Rattle.mpd_levels.specs.{declared.level.Means.Means, Indexed.{index_by, index_in, index_of}, Levels.{base_name, used}}
use Rattle.mpd_levels.specs.Readings.{child_named}
use Rattle.mpd_rules.specs.{Indexes.index_told, Kept.{Path, levels_of}, Typed.track_of as row_at}
use Rattle.url_parts.specs.{Addresses.IsAddress, declared.address.Part.Part, declared.range.Range.Range}
use Rattle.timeline.specs.{declared.fault.TimeFault.TheVariants.ZeroDuration, Expansions.{Closed, Extent, is_open}}
use Rattle.timeline.specs.{Faults.{fault_if, lasts_no_time, segment_fault}, Limits.{span_breaks_limits, too_long}}
use Rattle.timeline.specs.{Names.{own_part, referred}, Steady.AreLasting}
use Rattle.timeline.proofs.{Judged.not_long, OpenEnds.no_faults, Rises.steady_from}
use Rattle.presentation.specs.{declared.parts.Content.Content, Presented.{Presented, content_at, is_finished, window_of}}
use Rattle.presentation.specs.Meanings.{part_with}
use Rattle.mpd_presentation.specs.Rows.{in_order, track_of}
use Rattle.presentation.proofs.{Filling.{all_in_order, length_in_order}, OwnListed.reached, Reached.{none_first, none_later}}
use Rattle.segment_index.specs.{declared.reference.Reference.Reference, Index.Index, Laws.end_from}
use Rattle.laws_of_playlists.specs.Origins.{AreLocated, HasIndex, IndexesAreTold, IndexedTracksAreWritable, IsElementOfBytes, IsFound}
use Rattle.laws_of_playlists.specs.{Origins.{IsLocated, IsOfBytes, IsSomeBytes}, Tracks.{AreWritable, AreWritableIfFew}}
use Rattle.laws_of_playlists.specs.IndexOrigins.{CameFromIndexes, IndexedAreFew, IndexedAreFinished, IndexedAreInPace, IndexedAreWritable}
use Rattle.laws_of_playlists.specs.IndexOrigins.{IndexedInitializationsAreLocated, IndexedPartsAreLocated}
use Rattle.laws_of_playlists.proofs.{OriginKept.clean_index, OriginListed.by_content, OriginOrder.non_decreasing}
use Rattle.laws_of_playlists.proofs.OriginParts.{IsContentWell, IsInitializationOfBytes, IsPathOfBytes, at_place, bases_bytes}
use Rattle.laws_of_playlists.proofs.OriginParts.{chain_is_address, child_is, first_found, initialization_is, levels_bytes, mapped}
use Rattle.laws_of_playlists.proofs.{OriginParts.{paths_bytes, referred_is_address}, OriginTracks.each_row, IndexEntries.{Listed, all_last}}
use Rattle.laws_of_playlists.proofs.IndexPresented.{IsPresented, all_have, of_first}
use Rattle.layer_faults.specs.declared.index.FileFault.TheVariants.{Nested, Range as TooFar, ZeroSize}
use Rattle.index_parts.specs.Found.{empty_faults, index_faults, range_faults, reference_faults, scale_faults}
use Rattle.index_parts.specs.{Located.{initialization_by, part_before, track_parts}, Presented.{indexed_of, nothing}}
use Rattle.index_parts.specs.Rows.{Period, Row, told_in}
use Rattle.index_parts.specs.Segments.{extent_of, extents_from, extents_in, part_of, parts_from, parts_in, ticks_of}
use Rattle.index_parts.proofs.{Ends.ends_behind, Tiles.{IsTold, fault_in, is_told}}

-- ---- what an MPD of bytes says of indexes

abbrev IsIndexOfBytes : IndexRow → Type 0
IsIndexOfBytes index = IfSome index.initialization IsInitializationOfBytes

by_bytes : (o : Option Means) (levels : List Element) → All IsElementOfBytes levels → IfSome (index_by o levels) IsIndexOfBytes
by_bytes (Some means.Base) levels all =
    first_found IsIndexOfBytes (λ level. option_map index_in (child_named base_name level))
    (λ e is. mapped index_in IsElementOfBytes IsIndexOfBytes initialization_is (child_named base_name e) (child_is base_name e is))
    levels all
by_bytes (Some means.Template) levels all = tt
by_bytes (Some means.List) levels all = tt
by_bytes None levels all = tt

index_bytes : (levels : List Element) → All IsElementOfBytes levels → IfSome (index_of levels) IsIndexOfBytes
unfolding index_of
index_bytes levels all = by_bytes (used levels) levels all

told_bytes : (o : Option IndexRow) → IfSome o IsIndexOfBytes → IfSome (index_told o).initialization IsInitializationOfBytes
told_bytes None is = tt
told_bytes (Some index) is = is

record IsRowOfBytes (row : Row) : Type 0 where
  bases : All IsOfBytes row.description.bases
  initialization : IfSome (told_in row).initialization IsInitializationOfBytes

row_bytes : (path : Path) → IsPathOfBytes path → IsRowOfBytes (row_at index_of path)
row_bytes path is = record {
  bases = bases_bytes path is;
  initialization = told_bytes (index_of (levels_of path)) (index_bytes (levels_of path) (levels_bytes path is));
}

-- ---- an index of which nothing is refused

has_size : (nested : Bool) (size at : ℕ) → (if nested then Nested at ∷ [] else (if size == 0 then ZeroSize at ∷ [] else [])) ≡ []
    → 0 < size
has_size true size at none = absurd (cc)
has_size false zero at none = absurd (cc)
has_size false (suc size) at none = omega arith

within_bound : (end bound : ℕ) → nat_lt bound end ≡ false → end ≤ bound
within_bound end bound is = grind (arith, nat_tests)

ends_near : (many : Bool) (end at : ℕ) → nat_lt (2 ^ 63) end ≡ many → (if many then TooFar at ∷ [] else []) ≡ [] → end ≤ 2 ^ 63
ends_near true end at is none = absurd (cc)
ends_near false end at is none = within_bound end (2 ^ 63) is

record IsWhole (index : Index) : Type 0 where
  each : flat_map reference_faults index.references ≡ []
  end : end_from index.first index.references ≤ 2 ^ 63

is_whole : (index : Index) → index_faults index ≡ [] → IsWhole index
is_whole index none =
    let each = flat_map reference_faults index.references in
    let behind = none_later (empty_faults index) (each ++ range_faults index)
    (none_later (scale_faults index) (empty_faults index ++ (each ++ range_faults index)) none) in
    record {
      each = none_first each (range_faults index) behind;
      end = ends_near _ (end_from index.first index.references) index.at refl (none_later each (range_faults index) behind);
    }

-- ---- parts

parts_located : (address : List ℕ) (first : ℕ) (rs : List Reference) → IsAddress address → flat_map reference_faults rs ≡ []
    → end_from first rs ≤ 2 ^ 63 → All IsLocated (parts_from address first rs)
parts_located address first [] is none near = All-nil IsLocated
parts_located address first (r ∷ rs) is none near =
    let some = has_size r.is_index r.size r.at (none_first (reference_faults r) (flat_map reference_faults rs) none) in
    let behind = ends_behind (first + r.size) rs in
    All-cons IsLocated (part_of address first r) (parts_from address (first + r.size) rs)
    (record { address = is; range = record { some = some; bounded = omega (arith, near, behind) } })
    (parts_located address (first + r.size) rs is (none_later (reference_faults r) (flat_map reference_faults rs) none) near)

own_located : (o : Option Part) (part : Part) → IfSome o IsLocated → own_part o ≡ Ok part → IsLocated part
own_located None part is made = absurd (cc)
own_located (Some one) part is made = (let same : one ≡ part = cc in subst IsLocated same is)

before_located : (address : List ℕ) (index : Range) → IsAddress address → IsSomeBytes index → 0 < index.first
    → IsLocated (part_before address index)
before_located address index is bytes some = record { address = is; range = record { some = some; bounded = omega (arith, bytes.bounded) } }

initialization_located : (address : List ℕ) (index : Range) (o : Option Initialization) (part : Part) → IsAddress address
    → IsSomeBytes index → IfSome o IsInitializationOfBytes → (o ≡ None → 0 < index.first)
    → initialization_by address index o ≡ Ok part → IsLocated part
initialization_located address index None part is bytes own before made =
    let same : part_before address index ≡ part = cc in
    subst IsLocated same (before_located address index is bytes (before refl))
initialization_located address index (Some initialization) part is bytes own before made =
    let at = steps_of (referred address initialization.reference) _ part made in
    let same : part_with initialization.range at.value ≡ part = (let h = at.then in cc) in
    subst IsLocated same (record {
      address = referred_is_address address initialization.reference at.value is own.reference at.first;
      range = own.range;
    })

-- ---- what a Representation has

record IsContentLocated (content : Content) : Type 0 where
  initialization : IsLocated content.initialization
  parts : AreLocated content.runs

-- what an MPD of bytes says of it
record IsSound (row : Row) : Type 0 where
  bytes : IsRowOfBytes row
  index : HasIndex row

module _ (url folder : List ℕ) (files : Files) (row : Row) (listed : Listed) (told : IsTold url folder files row listed) where
  content_located : IsAddress url → IsSound row → IsContentLocated listed.content
  content_located is sound =
      let address = told.place.address in
      let base = chain_is_address row.description.bases url address is sound.bytes.bases told.located.addressed in
      let whole = is_whole told.index told.found.faults in
      let parts = parts_located address told.index.first told.index.references base whole.each whole.end in
      subst (λ (listed : Listed). IsContentLocated listed.content) told.same (record {
        initialization = initialization_located address (told_in row).range (told_in row).initialization told.place.initialization base
            sound.index.bytes sound.bytes.initialization sound.index.before told.located.initialized;
        parts = λ x part made.
            own_located (slice_get (parts_in address told.index) (x.number - 1)) part
            (at_place IsLocated (parts_in address told.index) (x.number - 1) parts) made;
      })

-- ---- times

lasting : (t start : ℕ) (rs : List Reference) → 0 < t → list_any lasts_no_time (extents_from t start rs) ≡ false
    → AreLasting (map Closed (extents_from t start rs))
lasting t start [] some is = tt
lasting t start (r ∷ rs) some is =
    let parts = or_parts _ _ is in
    let x = extent_of t start r in (
      record { start_is = some; end_is = some; ends = at_most-false x.end x.start parts.0 },
      lasting t (start + r.duration) rs some parts.1,
    )

none_open : (xs : List Extent) → is_open (map Closed xs) ≡ false
none_open [] = refl
none_open (x ∷ xs) = none_open xs

record IsTimed (content : Content) : Type 0 where
  well : IsContentWell content
  ended : is_open content.runs.members ≡ false

timed : (address : List ℕ) (index : Index) → 0 < index.timescale → fault_in address index ≡ None
    → AreSound (map Closed (extents_in index))
timed address index scaled none =
    let xs = extents_in index in
    let members = map Closed xs in
    let later = (no_faults (fault_if (list_any lasts_no_time xs) ZeroDuration) _ none).1 in
    let steps = (no_faults (segment_fault span_breaks_limits None members) _ later).0 in
    record {
      lasting = lasting (ticks_of index) 0 index.references (omega (arith, scaled)) (all_last address index none);
      steady = steady_from span_breaks_limits too_long (λ x kept. not_long x.end.scale 0 x kept) None members steps;
    }

module _ (url folder : List ℕ) (files : Files) where
  content_timed : (row : Row) (listed : Listed) → track_parts url folder files row ≡ Ok listed → IsTimed listed.content
  content_timed row listed is =
      let told = is_told url folder files row listed is in
      subst (λ (listed : Listed). IsTimed listed.content) told.same (record {
        well = timed told.place.address told.index told.found.scaled told.none;
        ended = none_open (extents_in told.index);
      })

-- ---- a presentation

long : (rows : List Row) → length (map track_of (in_order rows)) ≡ length rows
long rows = omega (arith, length-map (in_order rows) track_of, length_in_order (λ (row : Row). row.description.kind) rows)

no_tracks : AreWritable []
no_tracks = record {
  ordered = record { kinds = refl; sets = λ kind. non_decreasing _ [] tt; languages = All-nil _ };
  told = All-nil _;
  few = omega arith;
}

module _ (p : Presented) (from : CameFromIndexes p) where
  -- what holds of an empty presentation, and of that of each Period
  of_periods : (R : Period → Type 0) (P : Presented → Type 0) → P (nothing from.mpd.left_out)
      → ((period : Period) (p : Presented) → R period → IsPresented from.url from.folder from.files from.mpd.left_out period p → P p)
      → All R from.mpd.periods → P p
  unfolding indexed_of
  of_periods R P none each all =
      of_first from.url from.folder from.files R P from.mpd.left_out none each from.mpd.periods p all from.presented

  -- what holds of what each Representation has
  contents_have : (Q : Row → Type 0) (P : Content → Type 0)
      → ((row : Row) (listed : Listed) → Q row → track_parts from.url from.folder from.files row ≡ Ok listed → P listed.content)
      → All (λ (period : Period). All Q period.tracks) from.mpd.periods → All P p.contents
  contents_have Q P each all =
      of_periods (λ period. All Q period.tracks) (λ (p : Presented). All P p.contents) (All-nil P)
      (λ period p rows of. subst (λ (p : Presented). All P p.contents) of.is
      (all_have from.url from.folder from.files Q P each (in_order period.tracks) of.tracks
      (all_in_order (λ (row : Row). row.description.kind) Q period.tracks rows) of.told)) all

  any : (Q : Period → Type 0) → ((period : Period) → Q period) → All Q from.mpd.periods
  any Q each = λ k d within. each _

  finished : is_finished p ≡ true
  finished = of_periods (λ period. Unit {0}) (λ p. is_finished p ≡ true) refl
      (λ period p all of. ap is_finished (sym of.is)) (any (λ period. Unit {0}) (λ period. tt))

  writable : IndexedTracksAreWritable → AreWritable p.tracks
  writable are = of_periods (λ (period : Period). AreWritableIfFew period.tracks) (λ (p : Presented). AreWritable p.tracks) no_tracks
      (λ period p writable of. subst (λ (p : Presented). AreWritable p.tracks) of.is
      (writable (omega (arith, of.few, long period.tracks))))
      (are from.tree from.mpd from.typed)

  few : length p.tracks ≤ 200
  few = of_periods (λ period. Unit {0}) (λ (p : Presented). length p.tracks ≤ 200) (omega arith)
      (λ period p all of. subst (λ (p : Presented). length p.tracks ≤ 200) of.is of.few) (any (λ period. Unit {0}) (λ period. tt))

  located : IndexesAreTold → IsFound from.tree from.url → All IsContentLocated p.contents
  located are found =
      let rows = each_row index_of Indexed from.tree from.mpd (clean_index from.tree from.mpd from.typed) IsRowOfBytes
      (paths_bytes from.tree found.tree (λ path. IsRowOfBytes (row_at index_of path)) row_bytes) in
      let told = are from.tree from.mpd from.typed in
      contents_have IsSound IsContentLocated
      (λ row listed sound is. content_located from.url from.folder from.files row listed
      (is_told from.url from.folder from.files row listed is) found.url sound)
      (λ k d within j e inside. record { bytes = rows k d within j e inside; index = told k d within j e inside })

  well : All IsTimed p.contents
  well = contents_have (λ row. Unit {0}) IsTimed (λ row listed any is. content_timed from.url from.folder from.files row listed is)
      (λ k d within j e inside. tt)

pub indexed_are_finished : IndexedAreFinished
indexed_are_finished p from = finished p from

pub indexed_are_writable : IndexedTracksAreWritable → IndexedAreWritable
indexed_are_writable are p from = writable p from are

pub indexed_are_few : IndexedAreFew
indexed_are_few p from = few p from

pub initializations_are_located : IndexesAreTold → IndexedInitializationsAreLocated
initializations_are_located are p from found = λ k d within. (located p from are found k d within).initialization

pub parts_are_located : IndexesAreTold → IndexedPartsAreLocated
parts_are_located are p from found = λ k d within. (located p from are found k d within).parts

pub indexed_are_in_pace : IndexedAreInPace
indexed_are_in_pace p s t from =
    let all = well p from in
    let window = window_of p s in
    let content = at_place IsTimed p.contents (s * length p.tracks + t) all in
    by_content window (content_at p s t) (IfSome_then (content_at p s t) content (λ content is. is.well))
    (IfSome_then (content_at p s t) content (λ content is. reached content.runs window is.ended))
